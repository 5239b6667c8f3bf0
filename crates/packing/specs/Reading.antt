-- Reading blocks for an utterance of n slots and a grammar of R rules: document 01, "Packed blocks" and the row reading
-- block of "Where each check stands", up to 33; 34 to 36 are the check's. Assumes nothing.
use Rattle.std.specs.Prelude.{List, [], ◌∷◌, ◌++◌, ℕ, zero, suc, ◌+◌, ◌-◌, ◌*◌, ◌/◌}
use Rattle.bits.specs.Bits.{pack}
use Rattle.bits.specs.Width.{width_of}
use Rattle.bits.specs.Fields.{bits_of_all}
use Rattle.packing.specs.Meaning.{Reading}
use Rattle.packing.specs.Parse.{Parse, parsed, ◌⟫◌}
use Rattle.packing.specs.Source.{Source, bytes, field_at, within, Entry, entry, flds, Field}
use Rattle.packing.specs.Grammar.{block_kind}

-- the fields: n, which is the utterance's, the weight, a rule number; any weight and rule number can be read
abbrev pub reading_slots : ℕ → Field
reading_slots n = within 6 n n 33

abbrev pub reading_weight : Field
reading_weight = within 24 0 16777215 35

abbrev pub rule_number : ℕ → Field
rule_number R = within (width_of (R - 1)) 0 255 34

-- m rule numbers behind the earlier ones
unfoldable pub walk_from : Source → ℕ → ℕ → ℕ → List ℕ → Parse (List ℕ)
walk_from src R zero at rs = parsed rs at
walk_from src R (suc m) at rs = field_at src at (rule_number R) ⟫ λ r at. walk_from src R m at (rs ++ (r ∷ []))

-- a reading block's fields; what stands behind them is judged by `ended`, later
unfoldable pub reading_from : ℕ → ℕ → List ℕ → Parse Reading
reading_from n R s =
    let src = bytes 31 s in
    field_at src 0 (block_kind 3 32) ⟫ λ kind at. field_at src at (reading_slots n) ⟫ λ m at. field_at src at reading_weight ⟫ λ w at.
    walk_from src R (2 * n - 1) at [] ⟫ λ rs at. parsed (record { slots = n; weight = w; walk = rs }) at

-- the fields of a reading with their values, and its block
unfoldable pub walk_entries : ℕ → List ℕ → List Entry
walk_entries R [] = []
walk_entries R (r ∷ rs) = entry (rule_number R) r ∷ walk_entries R rs

unfoldable pub reading_entries : ℕ → Reading → List Entry
reading_entries R d =
    entry (block_kind 3 32) 3 ∷ entry (reading_slots d.slots) d.slots ∷ entry reading_weight d.weight ∷ walk_entries R d.walk

unfoldable pub block_of_reading : ℕ → Reading → List ℕ
block_of_reading R d = pack (bits_of_all (flds (reading_entries R d)))

-- L, its length in bytes for n slots and R rules: kind, n, weight and 2n − 1 rule numbers
unfoldable pub reading_length : ℕ → ℕ → ℕ
reading_length n R = (34 + (2 * n - 1) * width_of (R - 1) + 7) / 8
