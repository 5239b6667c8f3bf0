-- Each turn's reading lies within the output, and its row within the array.
use mathlib.Core.Path.{◌≡◌, refl, ◌∙◌}
use Prim.Native.Nat.{ℕ, ◌+◌, ◌-◌, ◌*◌, ◌≤◌, ◌<◌}
use native.Mathlib.Nat.{mul-le-mul_right}
use native.Mathlib.Omega.{arith}
use borrow.Author.Rules.{rules}
use borrow.Rule.Slice.PartMut.{same_len_mid}
use lib.ListN.{length}
use Rattle.reading_rows.specs.Model.{RowsSay}
use Rattle.reading_rows.proofs.Rows.{row_length, no_rows, rows_more}
use Rattle.reading_rows.proofs.write_rows.Goals as goal

part_within : (k m size n : ℕ) → k < m → m * size ≤ n → k * size + size ≤ n
part_within k m size n l h = let parts : k + 1 ≤ m = omega arith in omega (arith, mul-le-mul_right size parts)

rows_within : (k m n : ℕ) → k < m → m ≤ 8 → 400 ≤ n → k * 50 + 50 ≤ n
rows_within k m n l h r = omega arith

pub size_of-size-requires : goal.size_of-size-requires
size_of-size-requires c = c.requires.0

pub loop-k-init : goal.loop-k-init
loop-k-init c = (omega arith, refl, no_rows _ _ _ _ _)

pub overflow_mul-from : goal.overflow_mul-from
overflow_mul-from c =
    omega (
      arith,
      part_within c.loop-k.k c.args.m c.size_of-size.result (length c.args.out.now)
          c.loop-k-test.true (rw c.size_of-size.ensures c.requires.2),
    )

pub overflow_add-upto : goal.overflow_add-upto
overflow_add-upto c =
    omega (
      arith,
      part_within c.loop-k.k c.args.m c.size_of-size.result (length c.args.out.now)
          c.loop-k-test.true (rw c.size_of-size.ensures c.requires.2),
    )

pub overflow_mul-at : goal.overflow_mul-at
overflow_mul-at c =
    omega (
      arith,
      rows_within c.loop-k.k c.args.m (length c.args.shown.now) c.loop-k-test.true c.requires.1
          c.requires.3,
    )

pub overflow_add-end : goal.overflow_add-end
overflow_add-end c =
    omega (
      arith,
      rows_within c.loop-k.k c.args.m (length c.args.shown.now) c.loop-k-test.true c.requires.1
          c.requires.3,
    )

pub slice_bounds-write_row-end : goal.slice_bounds-write_row-end
slice_bounds-write_row-end c =
    omega (
      arith,
      part_within c.loop-k.k c.args.m c.size_of-size.result (length c.args.out.now)
          c.loop-k-test.true (rw c.size_of-size.ensures c.requires.2),
    )

pub overflow_add-k : goal.overflow_add-k
overflow_add-k c = omega (arith, c.loop-k-test.true)

pub overflow_cast-k : goal.overflow_cast-k
overflow_cast-k c = omega (arith, c.loop-k-test.true, c.requires.1)

pub slice_bounds-write_row-end-in-loop-k : goal.slice_bounds-write_row-end-in-loop-k
slice_bounds-write_row-end-in-loop-k c =
    omega (
      arith,
      c.loop-k.invariant.1,
      rows_within c.loop-k.k c.args.m (length c.args.shown.now)
          c.loop-k-test.true c.requires.1 c.requires.3,
    )

pub write_row-requires : goal.write_row-requires
write_row-requires c = (
  c.requires.0,
  row_length c.loop-k.k c.loop-k.shown
      (omega (
        arith,
        c.loop-k.invariant.1,
        rows_within c.loop-k.k c.args.m (length c.args.shown.now)
            c.loop-k-test.true c.requires.1 c.requires.3,
      )),
)

pub overflow_step-k : goal.overflow_step-k
overflow_step-k c = omega (arith, c.loop-k-test.true)

pub loop-k-smaller : goal.loop-k-smaller
loop-k-smaller c = omega (arith, c.loop-k-test.true)

pub loop-k-preserved : goal.loop-k-preserved
loop-k-preserved c =
    let a = c.args in
    let l = c.loop-k in
    let part = c.write_row.new.row in
    let room : l.k * 50 + 50 ≤ length l.shown = omega (
      arith,
      l.invariant.1,
      rows_within c.loop-k.k c.args.m (length c.args.shown.now) c.loop-k-test.true c.requires.1
          c.requires.3,
    ) in
    let size : length part ≡ 50 = c.write_row.auto.row ∙ row_length l.k l.shown room in (
      omega (arith, c.loop-k-test.true),
      same_len_mid (l.k * 50) (l.k * 50 + 50 - l.k * 50) l.shown part c.write_row.auto.row ∙ l.invariant.1,
      rows_more a.rules.now a.marks.now a.s a.out.now l.k c.size_of-size.result c.size_of-size.ensures a.shown.now
          l.shown part l.invariant.2 size room c.write_row.ensures,
    )

pub shape_of-shown : goal.shape_of-shown
shape_of-shown c = c.loop-k.invariant.1

pub returns : goal.returns
returns c =
    let all : c.loop-k.k ≡ c.args.m = omega (arith, c.loop-k-test.false, c.loop-k.invariant.0) in
    rw all at c.loop-k.invariant.2
