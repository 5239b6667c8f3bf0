-- By the test, as in the definition; the number of places is fuel enough for the root.
use native.Mathlib.Omega.{arith}
use borrow.Author.Tests.{eq-eqb, ne_eqb}
use Rattle.chart_search.specs.Search.{next_of_root, keep_of_root}
use borrow.Author.Rules.{rules}
use Rattle.chart_search.proofs.next_of_root.Goals as goal

pub cell_number-requires : goal.cell_number-requires
cell_number-requires c = rw c.root-c.ensures (search rules)

pub returns-then-price_at-eq0 : goal.returns-then-price_at-eq0
unfolding next_of_root keep_of_root
returns-then-price_at-eq0 c =
    let tested = eq-eqb _ _ c.if-price_at-eq0.true in record {
      t_after = simp (← c.root-c.ensures, ← c.cell_number.ensures.0, ← c.price_at.ensures.0, tested);
      kept_after = simp (← c.root-c.ensures, ← c.cell_number.ensures.0, ← c.price_at.ensures.0, tested);
    }

pub extend-requires : goal.extend-requires
extend-requires c = rw (c.part_of.ensures, c.root-c.ensures) (search rules)

pub returns : goal.returns
unfolding next_of_root keep_of_root
returns c = record {
  t_after = simp (← c.root-c.ensures, ← c.cell_number.ensures.0, ← c.price_at.ensures.0, ne_eqb _ _ c.if-price_at-eq0.false)
      ((rw c.part_of.ensures at (c.extend.ensures.by_index c.args.d.last)) (rw c.root-c.ensures (omega arith)));
  kept_after = simp (← c.root-c.ensures, ← c.cell_number.ensures.0, ← c.price_at.ensures.0, ne_eqb _ _ c.if-price_at-eq0.false)
      ((rw c.part_of.ensures at (c.extend.ensures.by_index_2 c.args.d.last)) (rw c.root-c.ensures (omega arith)));
}
