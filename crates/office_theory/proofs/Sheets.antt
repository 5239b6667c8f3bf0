-- Office sheets of document 02's request N5 and what they mean: the main example, and each refusal at its field.
use mathlib.Core.Path.{◌≡◌, refl}
use mathlib.Core.List.{[], ◌∷◌}
use Rattle.packing.specs.declared.Rule.TheVariants.{Pair, Word}
use Rattle.packing.specs.Meaning.{symbol_of, word}
use Rattle.packing.specs.Parse.{accepted, refused}
use Rattle.packing.specs.Source.{field_at, in_range}
use Rattle.packing.specs.Alike.{any_like, unlike_from}
use Rattle.office.specs.Office.{symbol, spoken, rule, Office}
use Rattle.office.specs.Sheet.{item_from, items_from, office_rule_from, items_alike, rule_alike, office_from, office_sheet}
use Rattle.office.specs.Conversion.{convert, marks}

abbrev pub desk : Office
desk = record {
  symbols = 2;
  words = 4;
  rules =
      rule (symbol_of 0) 5 (spoken (word 0) ∷ symbol (symbol_of 1) ∷ spoken (word 2) ∷ [])
      ∷ rule (symbol_of 1) 1 (spoken (word 1) ∷ [])
      ∷ rule (symbol_of 1) 2 (spoken (word 3) ∷ spoken (word 1) ∷ [])
      ∷ rule (symbol_of 0) 7 (spoken (word 0) ∷ symbol (symbol_of 1) ∷ spoken (word 2) ∷ spoken (word 2) ∷ [])
      ∷ [];
}

desk_read : office_sheet (2 ∷ 4 ∷ 4 ∷ 0 ∷ 5 ∷ 3 ∷ 1 ∷ 0 ∷ 0 ∷ 1 ∷ 1 ∷ 2 ∷ 1 ∷ 1 ∷ 1 ∷ 1 ∷ 1 ∷ 1 ∷ 2 ∷ 2 ∷ 1 ∷ 3 ∷ 1 ∷ 1 ∷ 0 ∷ 7 ∷ 4 ∷ 1 ∷ 0 ∷ 0 ∷ 1 ∷ 1 ∷ 2
    ∷ 1 ∷
    2 ∷ [])
    ≡ accepted desk
unfolding field_at in_range item_from items_from office_rule_from items_alike rule_alike any_like unlike_from office_from office_sheet
desk_read = refl

empty : office_sheet ([]) ≡ refused 41
unfolding field_at in_range item_from items_from office_rule_from items_alike rule_alike any_like unlike_from office_from office_sheet
empty = refl

only_symbols : office_sheet (1 ∷ []) ≡ refused 41
unfolding field_at in_range item_from items_from office_rule_from items_alike rule_alike any_like unlike_from office_from office_sheet
only_symbols = refl

no_symbol : office_sheet (0 ∷ []) ≡ refused 3
unfolding field_at in_range item_from items_from office_rule_from items_alike rule_alike any_like unlike_from office_from office_sheet
no_symbol = refl

many_words : office_sheet (1 ∷ 201 ∷ []) ≡ refused 3
unfolding field_at in_range item_from items_from office_rule_from items_alike rule_alike any_like unlike_from office_from office_sheet
many_words = refl

many_rules : office_sheet (1 ∷ 1 ∷ 257 ∷ []) ≡ refused 3
unfolding field_at in_range item_from items_from office_rule_from items_alike rule_alike any_like unlike_from office_from office_sheet
many_rules = refl

no_head : office_sheet (1 ∷ 1 ∷ 1 ∷ []) ≡ refused 41
unfolding field_at in_range item_from items_from office_rule_from items_alike rule_alike any_like unlike_from office_from office_sheet
no_head = refl

head : office_sheet (1 ∷ 1 ∷ 1 ∷ 1 ∷ []) ≡ refused 4
unfolding field_at in_range item_from items_from office_rule_from items_alike rule_alike any_like unlike_from office_from office_sheet
head = refl

weight : office_sheet (1 ∷ 1 ∷ 1 ∷ 0 ∷ 65536 ∷ []) ≡ refused 42
unfolding field_at in_range item_from items_from office_rule_from items_alike rule_alike any_like unlike_from office_from office_sheet
weight = refl

no_items : office_sheet (1 ∷ 1 ∷ 1 ∷ 0 ∷ 0 ∷ 0 ∷ []) ≡ refused 54
unfolding field_at in_range item_from items_from office_rule_from items_alike rule_alike any_like unlike_from office_from office_sheet
no_items = refl

seven_items : office_sheet (1 ∷ 1 ∷ 1 ∷ 0 ∷ 0 ∷ 7 ∷ []) ≡ refused 54
unfolding field_at in_range item_from items_from office_rule_from items_alike rule_alike any_like unlike_from office_from office_sheet
seven_items = refl

one_symbol : office_sheet (1 ∷ 1 ∷ 1 ∷ 0 ∷ 0 ∷ 1 ∷ 0 ∷ []) ≡ refused 55
unfolding field_at in_range item_from items_from office_rule_from items_alike rule_alike any_like unlike_from office_from office_sheet
one_symbol = refl

kind : office_sheet (1 ∷ 1 ∷ 1 ∷ 0 ∷ 0 ∷ 1 ∷ 2 ∷ []) ≡ refused 42
unfolding field_at in_range item_from items_from office_rule_from items_alike rule_alike any_like unlike_from office_from office_sheet
kind = refl

word_range : office_sheet (1 ∷ 1 ∷ 1 ∷ 0 ∷ 0 ∷ 1 ∷ 1 ∷ 1 ∷ []) ≡ refused 5
unfolding field_at in_range item_from items_from office_rule_from items_alike rule_alike any_like unlike_from office_from office_sheet
word_range = refl

surplus : office_sheet (1 ∷ 1 ∷ 1 ∷ 0 ∷ 0 ∷ 1 ∷ 1 ∷ 0 ∷ 9 ∷ []) ≡ refused 41
unfolding field_at in_range item_from items_from office_rule_from items_alike rule_alike any_like unlike_from office_from office_sheet
surplus = refl

again : office_sheet (1 ∷ 1 ∷ 2 ∷ 0 ∷ 0 ∷ 1 ∷ 1 ∷ 0 ∷ 0 ∷ 7 ∷ 1 ∷ 1 ∷ 0 ∷ []) ≡ refused 6
unfolding field_at in_range item_from items_from office_rule_from items_alike rule_alike any_like unlike_from office_from office_sheet
again = refl

again_and_surplus : office_sheet (1 ∷ 1 ∷ 2 ∷ 0 ∷ 0 ∷ 1 ∷ 1 ∷ 0 ∷ 0 ∷ 7 ∷ 1 ∷ 1 ∷ 0 ∷ 5 ∷ []) ≡ refused 6
unfolding field_at in_range item_from items_from office_rule_from items_alike rule_alike any_like unlike_from office_from office_sheet
again_and_surplus = refl

pub desk_becomes : convert desk ≡ record {
  symbols = 9;
  words = 4;
  rules =
      Pair (symbol_of 0) (symbol_of 2) (symbol_of 4) 5
      ∷ Word (symbol_of 1) (word 1) 1
      ∷ Pair (symbol_of 1) (symbol_of 5) (symbol_of 6) 2
      ∷ Pair (symbol_of 0) (symbol_of 2) (symbol_of 7) 7
      ∷ Word (symbol_of 2) (word 0) 0
      ∷ Word (symbol_of 3) (word 2) 0
      ∷ Pair (symbol_of 4) (symbol_of 1) (symbol_of 3) 0
      ∷ Word (symbol_of 5) (word 3) 0
      ∷ Word (symbol_of 6) (word 1) 0
      ∷ Pair (symbol_of 7) (symbol_of 1) (symbol_of 8) 0
      ∷ Pair (symbol_of 8) (symbol_of 3) (symbol_of 3) 0
      ∷ [];
}
unfolding convert
desk_becomes = refl

pub desk_marks : marks desk ≡ 0 ∷ 0 ∷ 0 ∷ 0 ∷ 1 ∷ 1 ∷ 1 ∷ 1 ∷ 1 ∷ 1 ∷ 1 ∷ []
unfolding marks
desk_marks = refl
