-- An office sheet as the flat array that it is: a rule from place p on is its head, weight and item count, and for each item its
-- kind and number. Nobody need believe this page: no promise to a caller names it. Stands on Sheet.
use Rattle.std.specs.Prelude.{List, [], ◌∷◌, ℕ, zero, suc, ◌+◌, ◌*◌, get_or}
use Rattle.packing.specs.Meaning.{symbol_of}
use Rattle.office.specs.Office.{Item, OfficeRule, rule}
use Rattle.office.specs.Sheet.{item_of}

abbrev pub item_at : List ℕ → ℕ → Item
item_at s p = item_of (get_or s p 0) (get_or s (p + 1) 0)

-- n items
unfoldable pub items_at : List ℕ → ℕ → ℕ → List Item
items_at s p zero = []
items_at s p (suc n) = item_at s p ∷ items_at s (p + 2) n

abbrev pub count_at : List ℕ → ℕ → ℕ
count_at s p = get_or s (p + 2) 0

abbrev pub office_rule_at : List ℕ → ℕ → OfficeRule
office_rule_at s p = rule (symbol_of (get_or s p 0)) (get_or s (p + 1) 0) (items_at s (p + 3) (count_at s p))

-- the place behind it, and behind n rules
abbrev pub behind : List ℕ → ℕ → ℕ
behind s p = p + 3 + 2 * count_at s p

unfoldable pub behind_all : List ℕ → ℕ → ℕ → ℕ
behind_all s p zero = p
behind_all s p (suc n) = behind s (behind_all s p n)

-- n rules
unfoldable pub office_rules_at : List ℕ → ℕ → ℕ → List OfficeRule
office_rules_at s p zero = []
office_rules_at s p (suc n) = office_rule_at s p ∷ office_rules_at s (behind s p) n
