-- Where a part holds no tree nothing is lowered; else both are.
use mathlib.Core.Path.{refl, ◌∙◌}
use native.Mathlib.Omega.{arith}
use Rattle.outside_entries.specs.Entries.{fourths, plain}
use Rattle.outside_entries.proofs.Steps.{split_no_left, split_no_right, split_both}
use Rattle.outside_entries.proofs.push_split.Goals as goal

pub inside_at-own-requires : goal.inside_at-own-requires
inside_at-own-requires c =
    (c.requires.0, c.requires.1)

pub returns-then-own-eq0 : goal.returns-then-own-eq0
returns-then-own-eq0 c = (
  split_no_left (fourths c.args.t.now) (plain c.args.t.now) c.args.d c.args.left
      c.args.right c.args.around c.inside_at-own.ensures.0 c.if-own-eq0.true,
  refl,
)

pub inside_at-other-requires : goal.inside_at-other-requires
inside_at-other-requires c =
    (c.requires.0, c.requires.2)

pub returns-then-other-eq0 : goal.returns-then-other-eq0
returns-then-other-eq0 c = (
  split_no_right (fourths c.args.t.now) (plain c.args.t.now) c.args.d c.args.left
      c.args.right c.args.around c.inside_at-own.ensures.0 c.if-own-eq0.false c.inside_at-other.ensures.0
      c.if-other-eq0.true,
  refl,
)

pub overflow_sub-other : goal.overflow_sub-other
overflow_sub-other c = omega (arith, c.if-other-eq0.false)

pub overflow_add-around : goal.overflow_add-around
overflow_add-around c =
    omega (arith, c.inside_at-other.ensures.1, c.requires.3)

pub lower-requires : goal.lower-requires
lower-requires c =
    (c.requires.1, omega (arith, c.inside_at-other.ensures.1, c.requires.3))

pub overflow_sub-own : goal.overflow_sub-own
overflow_sub-own c =
    omega (arith, c.if-own-eq0.false)

pub overflow_add-around-2 : goal.overflow_add-around-2
overflow_add-around-2 c =
    omega (arith, c.inside_at-own.ensures.1, c.requires.3)

pub lower-requires-2 : goal.lower-requires-2
lower-requires-2 c =
    (c.requires.2, omega (arith, c.inside_at-own.ensures.1, c.requires.3))

pub returns : goal.returns
returns c = (
  split_both (fourths c.args.t.now) (plain c.args.t.now) c.args.d c.args.left
      c.args.right c.args.around c.inside_at-own.ensures.0 c.if-own-eq0.false
      c.inside_at-other.ensures.0 c.if-other-eq0.false c.lower.ensures.0
      c.lower-2.ensures.0,
  c.lower-2.ensures.1 ∙ c.lower.ensures.1,
)
