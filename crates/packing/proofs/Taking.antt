-- A field that was taken: it stands in its source, its value is in its range, and the next place is the one behind it; and
-- the other way round.
-- Assumes nothing.
use mathlib.Core.Path.{◌≡◌}
use mathlib.Core.List.{List}
use Prim.Native.Nat.{ℕ, ◌+◌, ◌*◌, ◌≤◌, ◌<◌}
use borrow.Author.Tests.{ltb-true, ltb-false, lt-ltb, le-ltb, leb-true, le-leb}
use lib.Dec.{ltb, leb}
use lib.ListN.{length, get_or}
use Rattle.bits.specs.Bits.{field}
use Rattle.packing.specs.Parse.{parsed}
use Rattle.packing.specs.Source.{bytes, numbers, in_range, field_at, Field}
use Rattle.packing.specs.Valid.{InRange}
use Rattle.packing.proofs.Parse.{parsed_else, parsed_then}

pub in_range_out : (f : Field) (u m : ℕ) {v next : ℕ} → in_range f u m ≡ parsed v next → InRange f v × (u ≡ v) × (m ≡ next)
unfolding in_range
in_range_out f u m {v} e =
    let (above, d) = parsed_else (ltb f.most u) _ _ e in
    let (below, p) = parsed_else (ltb u f.least) _ (parsed u m) d in
    let a : f.least ≤ u = ltb-false _ _ below in
    let b : u ≤ f.most = ltb-false _ _ above in
    let s : u ≡ v = cc in
    ((rw s at a, rw s at b), s, cc)

pub in_range_lem : (f : Field) (v next : ℕ) → InRange f v → in_range f v next ≡ parsed v next
unfolding in_range
in_range_lem f v next (l, h) = rw (le-ltb f.most v h, le-ltb v f.least l)

module _ (missing : ℕ) (s : List ℕ) (at : ℕ) (f : Field) where
  pub field_at_bytes_out : {v next : ℕ} → field_at (bytes missing s) at f ≡ parsed v next
      → (at + f.width ≤ 8 * length s) × (field s at f.width ≡ v) × (at + f.width ≡ next) × InRange f v
  unfolding field_at
  field_at_bytes_out e =
      let (t, r) = parsed_then (leb (at + f.width) (8 * length s)) _ _ e in
      let (i, v, n) = in_range_out f _ _ r in
      (leb-true _ _ t, v, n, i)

  pub field_at_bytes : at + f.width ≤ 8 * length s → InRange f (field s at f.width) → field_at (bytes missing s) at f
      ≡ parsed (field s at f.width) (at + f.width)
  unfolding field_at
  field_at_bytes h i = rw (le-leb _ _ h) (in_range_lem f _ _ i)

module _ (s : List ℕ) (at : ℕ) (f : Field) where
  pub field_at_numbers_out : {v next : ℕ} → field_at (numbers s) at f ≡ parsed v next
      → (at < length s) × (get_or s at 0 ≡ v) × (at + 1 ≡ next) × InRange f v
  unfolding field_at
  field_at_numbers_out e =
      let (t, r) = parsed_then (ltb at (length s)) _ _ e in
      let (i, v, n) = in_range_out f _ _ r in
      (ltb-true _ _ t, v, n, i)

  pub field_at_numbers : at < length s → InRange f (get_or s at 0) → field_at (numbers s) at f ≡ parsed (get_or s at 0) (at + 1)
  unfolding field_at
  field_at_numbers h i = rw (lt-ltb _ _ h) (in_range_lem f _ _ i)
