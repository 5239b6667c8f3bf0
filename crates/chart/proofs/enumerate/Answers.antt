-- Each call has the meaning of its part of the promise, from an index and a table of zeros.
use mathlib.Core.Path.{◌∙◌, ap}
use Prim.Native.Nat.{ℕ}
use lib.ListN.{length, replicate}
use Rattle.chart.specs.Chart.{enumerate, roots_found}
use Rattle.chart_index.proofs.Zeros.{zeros_at}
use borrow.Author.Rules.{rules}
use Rattle.chart.proofs.enumerate.Goals as goal

pub search-requires : goal.search-requires
search-requires c =
    (let zeros = c.zero_front.ensures (rw c.zero_behind.auto.t c.zero_behind.ensures)
    ∙ ap (λ (n : ℕ). replicate n 0) c.zero_behind.auto.t in
    (c.requires.0, search rules, λ x. rw zeros (zeros_at (length c.args.t.now) x)))

pub cell_number-requires : goal.cell_number-requires
cell_number-requires c = rw c.root.ensures (search rules)

pub returns : goal.returns
unfolding enumerate roots_found
returns c =
    let zeros = c.zero_front.ensures (rw c.zero_behind.auto.t c.zero_behind.ensures)
    ∙ ap (λ (n : ℕ). replicate n 0) c.zero_behind.auto.t in record {
      t_after = rw (← c.make_index.ensures, ← zeros) c.search.ensures;
      value = (rw (← c.root.ensures, ← c.cell_number.ensures.0) c.first_missing.ensures.0, c.first_missing.ensures.1);
    }
