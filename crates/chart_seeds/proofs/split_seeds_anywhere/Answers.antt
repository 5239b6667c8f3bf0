-- The loop is the iteration over the splits.
use mir.Syntax.{w64}
use mir.Val.{Fits}
use Prim.Native.Nat.{ℕ, ◌≤◌, ◌<◌, ◌+◌}
use mathlib.Core.Path.{sym, ◌∙◌}
use native.Mathlib.Omega.{arith}
use borrow.Author.Rules.{rules}
use Rattle.packing.proofs.Loop.{iter_end}
use Rattle.chart_candidates.specs.Candidates.{split_seeds}
use Rattle.chart_candidates.proofs.Loops.{from_none, from_more, from_turn}
use Rattle.chart_seeds.proofs.split_seeds_anywhere.Goals as goal

next_fits : (j end : ℕ) → j < end → end ≤ 31 → Fits w64 (j + 1)
next_fits j end h l = omega arith

pub loop-j-init : goal.loop-j-init
loop-j-init c = (search rules, search rules, sym (from_none _ _ _))

pub pair_key-key-requires : goal.pair_key-key-requires
pair_key-key-requires c = rw (c.left_part-left.ensures, c.right_part-right.ensures, c.seed.ensures) (search rules)

pub overflow_step-j-in-loop-j : goal.overflow_step-j-in-loop-j
overflow_step-j-in-loop-j c = next_fits _ _ c.loop-j-test.true c.requires.0.last

pub loop-j-preserved : goal.loop-j-preserved
loop-j-preserved c =
    let h = c.loop-j.invariant.0 in (
      search rules,
      search rules,
      rw (
        from_more,
        from_turn,
        c.lesser-so_far.ensures,
        c.pair_key-key.ensures,
        c.seed.ensures,
        c.right_part-right.ensures,
        c.left_part-left.ensures,
        c.loop-j.invariant.2,
      ),
    )

pub returns : goal.returns
unfolding split_seeds
returns c = c.loop-j.invariant.2 ∙ iter_end _ _ _ _ c.loop-j.invariant.1 (omega arith)
