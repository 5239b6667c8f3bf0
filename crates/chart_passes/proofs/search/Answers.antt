-- The first pass, with masks that have rules and no places, which cover a table of zeros, and then what is left to find of the root in
-- each turn is what was to be found at the start. (The model's name is a tactic's: it stays qualified.)
use Prim.Native.Nat.{◌-◌}
use mathlib.Core.Path.{◌≡◌, refl, sym, ◌∙◌}
use native.Mathlib.Omega.{arith}
use Rattle.chart_masks.specs.Masks.{mask_numbers}
use Rattle.chart_masks.proofs.Covering.{covers_zeros}
use Rattle.chart_search.specs.Search as model
use Rattle.chart_passes.proofs.Further.{further_end, further_none, further_next}
use Rattle.chart_index.proofs.Zeros.{zeros_at}
use borrow.Author.Rules.{rules}
use Rattle.chart_passes.proofs.search.Goals as goal

pub mark_rules-requires : goal.mark_rules-requires
mark_rules-requires c = (c.requires.0.symbols, search rules, zeros_at mask_numbers)

pub first_pass-requires : goal.first_pass-requires
first_pass-requires c = (
  c.requires.0,
  covers_zeros _ _ c.args.d (omega (arith, c.mark_rules.auto.masks)) c.requires.2,
  c.mark_rules.ensures,
)

pub loop-x-init : goal.loop-x-init
loop-x-init c =
    let all : c.args.d.ranks - 1 - 0 ≡ c.args.d.ranks - 1 = omega arith in (search rules, refl, rw all, refl)

pub cell_number-requires : goal.cell_number-requires
cell_number-requires c = rw c.root.ensures (search rules)

pub shape_of-t-then-price_at-eq0 : goal.shape_of-t-then-price_at-eq0
shape_of-t-then-price_at-eq0 c = c.loop-x.invariant.1 ∙ c.first_pass.auto.t

pub returns-then-price_at-eq0 : goal.returns-then-price_at-eq0
unfolding model.search
returns-then-price_at-eq0 c =
    let a = c.args in
    rw (← c.first_pass.ensures) (sym
    (c.loop-x.invariant.2 ∙ further_none a.rules.now a.edges.now a.index.now a.d (a.d.ranks - 1) c.loop-x.x c.loop-x.t
    c.loop-x-test.true (rw (← c.root.ensures, ← c.cell_number.ensures.0, ← c.price_at.ensures.0)
    c.if-price_at-eq0.true)))

pub slice_bounds-next_of_root-end : goal.slice_bounds-next_of_root-end
slice_bounds-next_of_root-end c = search (rules, c.loop-x.invariant.3)

pub next_of_root-requires : goal.next_of_root-requires
next_of_root-requires c = (c.requires.0, c.requires.1, omega (arith, c.loop-x-test.true))

pub loop-x-preserved : goal.loop-x-preserved
loop-x-preserved c =
    let a = c.args in (
      search rules,
      search rules,
      c.loop-x.invariant.2 ∙ further_next a.rules.now a.edges.now a.index.now a.d (a.d.ranks - 1) c.loop-x.x c.loop-x.t
          c.loop-x-test.true (rw (← c.root.ensures, ← c.cell_number.ensures.0, ← c.price_at.ensures.0)
          c.if-price_at-eq0.false)
          ∙ rw (← c.next_of_root.ensures.t_after),
      c.next_of_root.auto.kept ∙ c.loop-x.invariant.3,
    )

pub shape_of-t : goal.shape_of-t
shape_of-t c = c.loop-x.invariant.1 ∙ c.first_pass.auto.t

pub returns : goal.returns
unfolding model.search
returns c =
    let a = c.args in
    rw (← c.first_pass.ensures) (sym
    (c.loop-x.invariant.2 ∙ further_end a.rules.now a.edges.now a.index.now a.d (a.d.ranks - 1) c.loop-x.x
    c.loop-x.t c.loop-x-test.false))
