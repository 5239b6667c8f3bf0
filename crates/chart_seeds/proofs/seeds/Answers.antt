-- The loop is the iteration over the members of the head's class. What is found so far is no more than what was before, so a rule
-- that is passed over changes nothing.
use mathlib.Core.Path.{sym, ◌∙◌}
use native.Mathlib.Nat.{le_trans}
use native.Mathlib.Omega.{arith}
use borrow.Author.Rules.{rules}
use Rattle.packing.proofs.Loop.{iter_end}
use Rattle.chart_candidates.proofs.Loops.{from_none, from_more, from_turn}
use Rattle.chart_candidates.proofs.PassedOver.{rules_below}
use Rattle.chart_keys.specs.Keys.{key_number}
use Rattle.chart_candidates.specs.Candidates.{seeds}
use Rattle.chart_seeds.proofs.seeds.Goals as goal

pub loop-y-init : goal.loop-y-init
loop-y-init c = (search rules, search rules, sym (from_none _ _ _))

pub masked_seeds-so_far-requires : goal.masked_seeds-so_far-requires
masked_seeds-so_far-requires c =
    let a = c.args in (
      c.requires.0,
      c.number_at-r.ensures.1,
      c.requires.1,
      rw c.loop-y.invariant.2 (le_trans
          (rules_below a.t.now a.d a.index.now a.rules.now a.c (key_number a.range.floor) (key_number a.range.best)
          c.class_start-start.result c.loop-y.y) c.requires.2),
    )

pub loop-y-preserved : goal.loop-y-preserved
loop-y-preserved c =
    let h = c.loop-y.invariant.0 in (
      search rules,
      search rules,
      rw (from_more, from_turn, ← c.loop-y.invariant.2, ← c.number_at-r.ensures.0) c.masked_seeds-so_far.ensures,
    )

pub returns : goal.returns
unfolding seeds
returns c =
    simp (← c.wide-head.ensures.0, ← c.class_start-start.ensures.0, ← c.class_end-end.ensures.0)
    (c.loop-y.invariant.2 ∙ iter_end _ _ _ _ c.loop-y.invariant.1 (omega (arith, c.loop-y-test.false)))
