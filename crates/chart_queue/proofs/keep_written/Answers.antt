-- Four entries; of a journal of no numbers none.
use mathlib.Core.Path.{◌≡◌, refl, sym, ◌∙◌}
use mathlib.Core.List.{List, [], ◌∷◌}
use Prim.Native.Nat.{ℕ}
use native.Mathlib.Omega.{arith}
use lib.ListN.{length}
use Rattle.std.proofs.Common.{eqb-true}
use Rattle.chart_table.specs.declared.Layout.{Layout}
use Rattle.chart_journal.specs.Journal.{keep_entry, keep_four}
use Rattle.chart_queue.specs.Queue.{keep_written}
use Rattle.chart_queue.proofs.keep_written.Goals as goal

-- of no numbers nothing is kept
nothing_kept : (t k : List ℕ) (d : Layout) (c rank m y : ℕ) → length k ≡ 0 → k ≡ keep_written t k d c rank m y
unfolding keep_written keep_four keep_entry
nothing_kept t [] d c rank m y e = refl
nothing_kept t (x ∷ k) d c rank m y e = absurd (omega arith)

pub returns-then-is_empty : goal.returns-then-is_empty
returns-then-is_empty c =
    let a = c.args in
    nothing_kept a.t.now a.kept.now a.d a.number a.rank a.m a.y (eqb-true _ _ (sym c.is_empty.ensures ∙ c.if-is_empty.true))

pub returns : goal.returns
unfolding keep_written
returns c =
    rw (
      c.keep_four.ensures,
      c.entry_of.ensures.0,
      c.entry_of-2.ensures.0,
      c.entry_of-3.ensures.0,
      c.entry_of-4.ensures.0,
    )
