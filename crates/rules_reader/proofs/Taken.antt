-- A field that was taken: its value is in its range, and the next place is near. Assumes nothing.
use mathlib.Core.Path.{◌≡◌}
use Prim.Native.Nat.{ℕ, ◌+◌, ◌≤◌}
use Rattle.packing.specs.Parse.{parsed}
use Rattle.packing.specs.Source.{Source, field_at, Field}
use Rattle.packing.specs.Valid.{InRange}
use Rattle.packing.proofs.Bounds.{field_at_range, field_at_next}

pub taken : (f : Field) (b : ℕ) (src : Source) (at : ℕ) {v next : ℕ} → f.width ≤ b → 1 ≤ b → field_at src at f ≡ parsed v next
    → InRange f v × (next ≤ at + b)
taken f b src at w o e = (field_at_range f src at e, (field_at_next f src at b w o e).1)
