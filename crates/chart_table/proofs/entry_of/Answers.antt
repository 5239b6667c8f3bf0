-- No product wraps, since a cell is below 2 ^ 33 and the ranks kept are at most 256.
use native.Mathlib.Omega.{arith}
use borrow.Author.Tests.{eq-eqb, ne_eqb}
use Rattle.chart_table.specs.Table.{entry_of}
use Rattle.chart_table.proofs.Places.{ranks_small}
use borrow.Author.Rules.{rules}
use Rattle.chart_table.proofs.entry_of.Goals as goal

pub overflow_mul-result-else-rank-eq0 : goal.overflow_mul-result-else-rank-eq0
overflow_mul-result-else-rank-eq0 c = omega (arith, ranks_small c.args.number c.args.d.ranks (search rules) (search rules))

pub overflow_add-result : goal.overflow_add-result
overflow_add-result c = omega (arith, ranks_small c.args.number c.args.d.ranks (search rules) (search rules))

pub overflow_add-result-else-rank-eq0 : goal.overflow_add-result-else-rank-eq0
overflow_add-result-else-rank-eq0 c = omega (arith, ranks_small c.args.number c.args.d.ranks (search rules) (search rules))

pub overflow_mul-result-else-rank-eq0-2 : goal.overflow_mul-result-else-rank-eq0-2
overflow_mul-result-else-rank-eq0-2 c = omega (arith, ranks_small c.args.number c.args.d.ranks (search rules) (search rules))

pub returns-then-rank-eq0 : goal.returns-then-rank-eq0
unfolding entry_of
returns-then-rank-eq0 c = (simp (eq-eqb _ _ c.if-rank-eq0.true), search rules)

pub returns-else-rank-eq0 : goal.returns-else-rank-eq0
unfolding entry_of
returns-else-rank-eq0 c = (
  simp (ne_eqb _ _ c.if-rank-eq0.false),
  omega (
    arith,
    ranks_small c.args.number c.args.d.ranks (search rules)
        (search rules),
  ),
)
