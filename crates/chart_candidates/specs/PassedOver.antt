-- What the masks say of the rules of a cell (chart_masks): the parts of a rule do not meet, nor those of any pair rule of its head. And
-- what a filter says of their words: where it lacks a word, no word rule of the head has it.
-- Nobody need believe this page: what is passed over changes no selection (proofs/PassedOver). Assumes nothing.
use Rattle.std.specs.Prelude.{◌≡◌, List, ℕ, ◌+◌, ◌*◌, ◌%◌, ◌^◌, ◌≤◌, ◌<◌, get_or}
use Rattle.packing.specs.Meaning.{symbol_of}
use Rattle.chart_table.specs.declared.Cell.{Cell}
use Rattle.chart_table.specs.declared.Layout.{Layout}
use Rattle.chart_classes.specs.Classes.{pair_base, word_base, class_start, class_end}
use Rattle.masks.specs.Digits.{digit}
use Rattle.chart_masks.specs.Masks.{Apart}
use Rattle.chart_heads.specs.Heads.{word_of}

abbrev pub RuleApart : List ℕ → Layout → List ℕ → Cell → ℕ → Type 0
RuleApart m d rules c r = Apart m d (symbol_of (get_or rules (5 * r + 3) 0)) (symbol_of (get_or rules (5 * r + 4) 0)) c

abbrev pub NoSeed : List ℕ → Layout → List ℕ → List ℕ → Cell → Type 0
NoSeed m d rules index c =
    (y : ℕ) → class_start index pair_base c.head.0 ≤ y → y < class_end index pair_base c.head.0 → RuleApart m d rules c (get_or index y 0)

-- the place of a word in a filter, and its bit there
abbrev pub filter_place : ℕ → ℕ
filter_place word = word % 64

abbrev pub word_bit : ℕ → ℕ
word_bit word = 2 ^ filter_place word

-- a filter has the words of the rules of a class before y; and of all word rules of a head
pub record WordsBefore (rules index : List ℕ) (start y filter : ℕ) : Type 0 where
  pub has : (z : ℕ) → start ≤ z → z < y → digit filter (filter_place (word_of rules (get_or index z 0))) ≡ 0 → ⊥

abbrev pub WordFilter : (rules index : List ℕ) → ℕ → ℕ → Type 0
WordFilter rules index head filter = WordsBefore rules index (class_start index word_base head) (class_end index word_base head) filter
