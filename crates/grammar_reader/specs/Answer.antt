-- The answers of the grammar readers: document 01, "Where an answer is an enum, a definition sets out this paper's number and values for
-- each of its cases". Assumes nothing. Nobody need believe this page: no service's promise names it.
use Rattle.std.specs.Prelude.{◌≡◌, Bool, List, ℕ, ◌≤◌, length, Result, Ok, Err}
use Rattle.packing.specs.Meaning as meaning
use Rattle.packing.specs.Parse.{Verdict, accepted, refused, ◌then◌}
use Rattle.packing.specs.Read.{as_verdict}
use Rattle.packing.specs.Flat.{Overlaid, rule_numbers, MarkedIn}
use Rattle.packing.specs.declared.refusal.Refusal.{Refusal}
use Rattle.grammar_reader.specs.declared.Sizes.{Sizes}

-- S, W and R of a grammar
abbrev pub sizes : meaning.Grammar → Sizes
sizes g = record { symbols = g.symbols; words = g.words; rules = length g.rules }

abbrev pub sizes_told : Verdict meaning.Grammar → Verdict Sizes
sizes_told v = v then λ g. accepted (sizes g)

-- S, W and R are in their ranges
pub record Bounded (z : Sizes) : Type 0 where
  pub some_symbol : 1 ≤ z.symbols
  pub symbols : z.symbols ≤ 32
  pub some_word : 1 ≤ z.words
  pub words : z.words ≤ 200
  pub some_rule : 1 ≤ z.rules
  pub rules : z.rules ≤ 256

abbrev pub InBounds : Result Sizes Refusal → Type 0
InBounds (Ok z) = Bounded z
InBounds (Err r) = Unit {0}

-- of grammars with marks: S, W and R, and whether rules bear marks
abbrev pub marked_sizes : Verdict meaning.Marked → Verdict (Sizes × Bool)
marked_sizes v = v then λ m. accepted (sizes (meaning.grammar_of m), m.marking)

abbrev pub MarkedBounds : Result (Sizes × Bool) Refusal → Type 0
MarkedBounds (Ok (z, b)) = Bounded z
MarkedBounds (Err r) = Unit {0}

-- the rules' numbers are laid over the front of the array, and what stood behind them stands there still
abbrev pub RulesOver : Verdict meaning.Grammar → List ℕ → List ℕ → Type 0
RulesOver (accepted g) before rules = Overlaid (rule_numbers g) before rules
RulesOver (refused n) before rules = Unit {0}

abbrev pub MarkedOver : Verdict meaning.Marked → List ℕ → List ℕ → Type 0
MarkedOver (accepted m) before rules = Overlaid (rule_numbers (meaning.grammar_of m)) before rules
MarkedOver (refused n) before rules = Unit {0}

-- what the readers promise of a verdict, the answer and the arrays
pub record MarkedTold (v : Verdict meaning.Marked) (r : Result (Sizes × Bool) Refusal) (before rules marks : List ℕ) : Type 0 where
  pub answer : as_verdict r ≡ marked_sizes v
  pub stands : MarkedIn v rules marks
  pub laid : MarkedOver v before rules
  pub bounds : MarkedBounds r
