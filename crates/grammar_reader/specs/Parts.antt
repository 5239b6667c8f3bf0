-- The parts of a grammar reader, for the contracts of its functions: document 01, "Packed blocks". Assumes nothing. Nobody need believe
-- this page: `read_block` promises what Grammar says.
use Rattle.std.specs.Prelude.{◌≡◌, Bool, List, ℕ, ◌+◌, ◌*◌, ◌≤◌, Result, Ok, Err}
use Rattle.packing.specs.Meaning as meaning
use Rattle.packing.specs.Parse.{Parse, parsed, failed, ◌⟫◌}
use Rattle.packing.specs.Source.{Source, field_at}
use Rattle.packing.specs.Read.{as_parse}
use Rattle.packing.specs.Grammar.{size_field, grammar_from}
use Rattle.packing.specs.Flat.{Begins, Overlaid, rule_numbers, mark_numbers}
use Rattle.packing.specs.declared.refusal.Refusal.{Refusal}
use Rattle.grammar_reader.specs.Answer.{sizes, Bounded}
use Rattle.grammar_reader.specs.declared.Sizes.{Sizes}

-- S, W and R
unfoldable pub sizes_from : Source → ℕ → Parse Sizes
sizes_from src at =
    field_at src at (size_field 6 32) ⟫ λ S at. field_at src at (size_field 8 200) ⟫ λ W at. field_at src at (size_field 9 256) ⟫ λ R at.
    parsed (record { symbols = S; words = W; rules = R }) at

-- sizes that were read are in their ranges, and the next place is at most `most`
abbrev pub SizesNear : ℕ → Result (Sizes × ℕ) Refusal → Type 0
SizesNear most (Ok (z, at)) = Bounded z × (at ≤ most)
SizesNear most (Err r) = Unit {0}

-- the sizes of a grammar that was read, and its rules and marks in arrays
abbrev pub sizes_in : Parse meaning.Marked → Parse Sizes
sizes_in x = x ⟫ λ m at. parsed (sizes (meaning.grammar_of m)) at

abbrev pub GrammarIn : Parse meaning.Marked → List ℕ → List ℕ → List ℕ → Type 0
GrammarIn (parsed m at) before rules marks = Overlaid (rule_numbers (meaning.grammar_of m)) before rules × Begins (mark_numbers m) marks
GrammarIn (failed n) before rules marks = Unit {0}

-- what reading a grammar from a place promises of its answer and of the arrays
pub record GrammarTold (marking : Bool) (src : Source) (at : ℕ) (r : Result (Sizes × ℕ) Refusal) (before rules marks : List ℕ) : Type 0 where
  pub answer : as_parse r ≡ sizes_in (grammar_from marking src at)
  pub stands : GrammarIn (grammar_from marking src at) before rules marks
  pub near : SizesNear (at + 23 + 42 * 256) r
