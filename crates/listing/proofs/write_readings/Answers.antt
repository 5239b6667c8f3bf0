-- After x turns the blocks of the first x ranks stand in front of what stood beyond them.
use mathlib.Core.Path.{◌≡◌, refl, ◌∙◌}
use mathlib.Core.List.{◌++◌}
use Prim.Native.Nat.{ℕ, ◌+◌, ◌-◌, ◌*◌, ◌<◌, ◌≤◌}
use native.Mathlib.Nat.{mul-le-mul_right, zero-mul}
use native.Mathlib.Omega.{arith}
use lib.ListN.{length, drop, length-take, length-drop}
use borrow.Rule.Slice.PartMut.{same_len_mid}
use Rattle.packing.specs.Loop.{iter}
use Rattle.listing.specs.Model.{blocks_at}
use Rattle.listing.proofs.Written.{written_more}
use Rattle.listing.proofs.write_readings.Goals as goal

-- a turn's block lies within the output
within : (x m size n : ℕ) → x < m → m * size ≤ n → (x + 1) * size ≤ n
within x m size n turn room = let all : (x + 1) * size ≤ m * size = mul-le-mul_right size (omega arith) in omega arith

pub loop-x-init : goal.loop-x-init
unfolding blocks_at iter
loop-x-init c = (omega arith, refl, rw zero-mul)

pub overflow_mul-at : goal.overflow_mul-at
overflow_mul-at c = omega (arith, within c.loop-x.x c.args.m c.args.form.size (length c.loop-x.out) c.loop-x-test.true (omega (arith, c.requires)))

pub slice_bounds-write_rank-count : goal.slice_bounds-write_rank-count
slice_bounds-write_rank-count c = omega (
  arith,
  within c.loop-x.x c.args.m c.args.form.size (length c.loop-x.out) c.loop-x-test.true
      (omega (arith, c.requires)),
)

pub slice_bounds-write_rank-start : goal.slice_bounds-write_rank-start
slice_bounds-write_rank-start c = omega (
  arith,
  within c.loop-x.x c.args.m c.args.form.size (length c.loop-x.out) c.loop-x-test.true
      (omega (arith, c.requires)),
)

pub slice_bounds-write_rank-end : goal.slice_bounds-write_rank-end
slice_bounds-write_rank-end c = omega arith

pub write_rank-requires : goal.write_rank-requires
write_rank-requires c = (
  c.requires.0,
  c.requires.1,
  omega (arith, c.requires, c.loop-x-test.true),
  simp (length-take, length-drop) (omega (
    arith,
    within c.loop-x.x c.args.m c.args.form.size (length c.loop-x.out) c.loop-x-test.true
        (omega (arith, c.requires)),
  )),
)

pub overflow_step-x : goal.overflow_step-x
overflow_step-x c = omega arith

pub loop-x-smaller : goal.loop-x-smaller
loop-x-smaller c = omega arith

pub loop-x-preserved : goal.loop-x-preserved
loop-x-preserved c =
    let a = c.args in
    let l = c.loop-x in
    let size = a.form.size in
    let part = c.write_rank.new.out in (
      omega (arith, c.loop-x-test.true),
      same_len_mid (l.x * size) (length l.out - l.x * size) l.out part c.write_rank.auto.out ∙ l.invariant.1,
      written_more a.t.now a.rules.now a.d a.form c.requires.1 l.x a.out.now l.invariant.2 c.write_rank.ensures,
    )

pub shape_of-out : goal.shape_of-out
shape_of-out c = omega arith

pub returns : goal.returns
returns c =
    let all : c.loop-x.x ≡ c.args.m = omega (arith, c.loop-x-test.false) in
    rw all at c.loop-x.invariant.2
