-- A number of a block or a sheet: document 01, "Packed blocks" and "Where each check stands": a field is read, then
-- checked, before the next. Assumes nothing.
use Rattle.std.specs.Prelude.{List, map, ℕ, ◌+◌, ◌*◌, ltb, leb, length, get_or}
use Rattle.bits.specs.Bits.{pick, field}
use Rattle.bits.specs.Fields.{Fld, fld}
use Rattle.packing.specs.Parse.{Parse, parsed, failed}

-- a number of a block or a sheet: its width in a block, its least and greatest value, and the refusals of a value below and above
pub record Field : Type 0 where
  pub width : ℕ
  pub least : ℕ
  pub most : ℕ
  pub below : ℕ
  pub above : ℕ

-- a block's bytes, with the refusal of a field that passes their end; or a sheet's numbers
pub data Source : Type 0 where
  bytes : ℕ → List ℕ → Source
  numbers : List ℕ → Source

-- a value in the field's range, with the next place
unfoldable pub in_range : Field → ℕ → ℕ → Parse ℕ
in_range f v next = pick (ltb f.most v) (failed f.above) (pick (ltb v f.least) (failed f.below) (parsed v next))

-- the field at a place: a bit of a block, an index of a sheet
unfoldable pub field_at : Source → ℕ → Field → Parse ℕ
field_at (bytes missing s) at f =
    pick (leb (at + f.width) (8 * length s)) (in_range f (field s at f.width) (at + f.width)) (failed missing)
field_at (numbers s) at f = pick (ltb at (length s)) (in_range f (get_or s at 0) (at + 1)) (failed 41)

-- the field of one range with one refusal
abbrev pub within : ℕ → ℕ → ℕ → ℕ → Field
within width least most n = record { width = width; least = least; most = most; below = n; above = n }

-- a field with a value: a sheet has the values, and a block each value in its field's width
pub data Entry : Type 0 where
  entry : Field → ℕ → Entry

abbrev pub value_of : Entry → ℕ
value_of (entry f v) = v

abbrev pub fld_of : Entry → Fld
fld_of (entry f v) = fld f.width v

abbrev pub values : List Entry → List ℕ
values es = map value_of es

abbrev pub flds : List Entry → List Fld
flds es = map fld_of es
