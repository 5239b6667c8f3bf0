-- Office sheets: document 02, request N5. Every number: 41 if it is missing, then its own range, before the
-- next. Stands on Office and on packing's Source and Grammar.
use Rattle.std.specs.Prelude.{Bool, true, false, ◌&&◌, List, [], ◌∷◌, ℕ, zero, suc, eqb, length}
use Rattle.bits.specs.Bits.{pick}
use Rattle.packing.specs.Meaning.{symbol_of, word}
use Rattle.packing.specs.Parse.{Parse, parsed, ◌⟫◌, Verdict, finish}
use Rattle.packing.specs.Source.{numbers, field_at, within, Field}
use Rattle.packing.specs.Alike.{unlike_from}
use Rattle.packing.specs.Grammar as G
use Rattle.packing.specs.Grammar.{size_field, weight_field, first_of}
use Rattle.office.specs.Office.{Item, symbol, spoken, OfficeRule, rule, Office}

-- the number of items, and the kind of an item: a body of n items has a 0 (a symbol) only where n is not 1, else 55
abbrev pub item_count : Field
item_count = within 0 1 6 54

abbrev pub item_kind : ℕ → Field
item_kind n = record { width = 0; least = pick (eqb n 1) 1 0; most = 1; below = 55; above = 42 }

abbrev pub item_of : ℕ → ℕ → Item
item_of kind v = pick (eqb kind 0) (symbol (symbol_of v)) (spoken (word v))

-- an item of a body of n, and m items
unfoldable pub item_from : List ℕ → ℕ → ℕ → ℕ → ℕ → Parse Item
item_from s S W n at =
    field_at (numbers s) at (item_kind n) ⟫ λ kind at. field_at (numbers s) at (first_of S W kind) ⟫ λ v at. parsed (item_of kind v) at

unfoldable pub items_from : List ℕ → ℕ → ℕ → ℕ → ℕ → ℕ → Parse (List Item)
items_from s S W n zero at = parsed [] at
items_from s S W n (suc m) at = item_from s S W n at ⟫ λ x at. items_from s S W n m at ⟫ λ l at. parsed (x ∷ l) at

-- head, weight, item count and the items
unfoldable pub office_rule_from : List ℕ → ℕ → ℕ → ℕ → Parse OfficeRule
office_rule_from s S W at =
    field_at (numbers s) at (G.symbol S) ⟫ λ head at. field_at (numbers s) at weight_field ⟫ λ w at. field_at (numbers s) at item_count ⟫ λ n at.
    items_from s S W n n at ⟫ λ l at. parsed (rule (symbol_of head) w l) at

-- head and items are equal; the weight is no part of it
abbrev pub item_alike : Item → Item → Bool
item_alike (symbol A) (symbol B) = eqb A.0 B.0
item_alike (symbol A) (spoken y) = false
item_alike (spoken x) (symbol B) = false
item_alike (spoken x) (spoken y) = eqb x.0 y.0

unfoldable pub items_alike : List Item → List Item → Bool
items_alike [] [] = true
items_alike [] (y ∷ m) = false
items_alike (x ∷ l) [] = false
items_alike (x ∷ l) (y ∷ m) = item_alike x y && items_alike l m

unfoldable pub rule_alike : OfficeRule → OfficeRule → Bool
rule_alike (rule A u l) (rule B w m) = eqb A.0 B.0 && items_alike l m

-- n rules behind the earlier ones: 6 after a rule's last item
abbrev pub office_rules_from : List ℕ → ℕ → ℕ → ℕ → ℕ → List OfficeRule → Parse (List OfficeRule)
office_rules_from s S W n at rs = unlike_from (office_rule_from s S W) rule_alike 6 n at rs

-- S, W and R, then the rules
unfoldable pub office_from : List ℕ → ℕ → Parse Office
office_from s at =
    field_at (numbers s) at (size_field 6 32) ⟫ λ S at. field_at (numbers s) at (size_field 8 200) ⟫ λ W at. field_at (numbers s) at (size_field 9 256) ⟫
    λ R at.
    office_rules_from s S W R at [] ⟫ λ rs at. parsed (record { symbols = S; words = W; rules = rs }) at

-- the meaning of an office sheet: nothing is left behind the rules, else 41
unfoldable pub office_sheet : List ℕ → Verdict Office
office_sheet s = finish (λ at. eqb at (length s)) 41 (office_from s 0)
