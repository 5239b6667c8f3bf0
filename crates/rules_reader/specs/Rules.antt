-- The parts of the reader of a grammar's rules, for the contracts of its functions: document 01, "Packed blocks", and document 02, N5.
-- Assumes nothing. Nobody need believe this page: no service's promise names it.
use Rattle.std.specs.Prelude.{◌≡◌, List, [], ◌∷◌, map, Bool, true, ℕ, ◌+◌, ◌*◌, ◌%◌, ◌≤◌, eqb, length, get_or, Result, Ok, Err}
use Rattle.packing.specs.Meaning.{MarkedRule, marked, rule_in, mark_in}
use Rattle.packing.specs.Parse.{Parse, parsed, failed}
use Rattle.packing.specs.Source.{Source, values}
use Rattle.packing.specs.Refusal.{number}
use Rattle.packing.specs.Alike.{any_like}
use Rattle.packing.specs.Grammar.{rule_of, rules_from, rules_entries}
use Rattle.packing.specs.Flat.{Begins, Overlaid}
use Rattle.packing.specs.declared.Rule as rules
use Rattle.packing.specs.declared.refusal.Refusal.{Refusal}
use Rattle.rules_reader.specs.declared.rule.RuleNumbers.{RuleNumbers}

-- the rule of five numbers, and with its mark
abbrev pub rule_by : RuleNumbers → rules.Rule
rule_by n = rule_of n.kind n.head n.weight n.first n.second

abbrev pub marked_by : RuleNumbers → MarkedRule
marked_by n = marked (rule_by n) n.mark

-- a place that was reached is at most `most`
abbrev pub Near : {A : Type 0} → ℕ → Result (A × ℕ) Refusal → Type 0
Near most (Ok (a, at)) = at ≤ most
Near most (Err r) = Unit {0}

-- the numbers in their order
abbrev pub row : RuleNumbers → List ℕ
row n = n.kind ∷ n.head ∷ n.weight ∷ n.first ∷ n.second ∷ []

-- kind, head and body of a rule as one number, and whether such a number is in a list
abbrev pub key_of : RuleNumbers → ℕ
key_of n = ((n.kind * 32 + n.head) * 256 + n.first) * 256 + n.second

abbrev pub among : ℕ → List ℕ → Bool
among k xs = any_like eqb k xs

-- a filter has each item of a list: a 1 stands at the item's place. It may have others
abbrev pub Filters : {A : Type 0} → (A → A → Bool) → (A → ℕ) → List A → List ℕ → Type 0
Filters {A} like place l filter = (x : A) → any_like like x l ≡ true → get_or filter (place x) 0 ≡ 1

-- where a key stands in a filter, and a filter of keys
abbrev pub filter_place : ℕ → ℕ
filter_place k = k % 1021

abbrev pub Filtered : List ℕ → List ℕ → Type 0
Filtered keys filter = Filters eqb filter_place keys filter

-- the place behind what was read
abbrev pub place_of : {A : Type 0} → Parse A → Parse ℕ
place_of (parsed a at) = parsed at at
place_of (failed n) = failed n

-- a place that was reached
abbrev pub reached : Result ℕ Refusal → Parse ℕ
reached (Ok at) = parsed at at
reached (Err r) = failed (number r)

-- R rules, with their numbers laid over the front of the one array, and their marks at the front of the other
abbrev pub RowsIn : (S W R : ℕ) → Parse (List MarkedRule) → List ℕ → List ℕ → List ℕ → Type 0
RowsIn S W R (parsed rs at) before rules marks =
    (length rs ≡ R) × Overlaid (values (rules_entries S W (map rule_in rs))) before rules × Begins (map mark_in rs) marks
RowsIn S W R (failed n) before rules marks = Unit {0}

abbrev pub PlaceNear : ℕ → Result ℕ Refusal → Type 0
PlaceNear most (Ok at) = at ≤ most
PlaceNear most (Err r) = Unit {0}

-- what reading the rules from a place promises of its answer and of the arrays
pub record RulesTold (marking : Bool) (src : Source) (S W R at : ℕ) (r : Result ℕ Refusal) (before rules marks : List ℕ) : Type 0 where
  pub answer : reached r ≡ place_of (rules_from marking src S W R at [])
  pub rows : RowsIn S W R (rules_from marking src S W R at []) before rules marks
  pub near : PlaceNear (at + 42 * 256) r
