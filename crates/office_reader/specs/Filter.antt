-- Where an office rule stands in a filter, by which most rules are found unlike all earlier ones at once: 6 of document 02, request N5. Stands on office's
-- Office. Nobody need believe this page: no service's promise names it.
use Rattle.std.specs.Prelude.{List, [], ◌∷◌, ℕ, ◌+◌, ◌*◌, ◌%◌}
use Rattle.office.specs.Office.{Item, symbol, spoken, OfficeRule, rule}

-- an item as one number
abbrev pub item_number : Item → ℕ
item_number (symbol A) = 2 * A.0
item_number (spoken x) = 2 * x.0 + 1

-- the place of items behind others that stand at a place
unfoldable pub items_place : List Item → ℕ → ℕ
items_place [] place = place
items_place (x ∷ l) place = items_place l ((place * 512 + item_number x) % 4093)

-- the place of a rule: by its head and items, not by its weight
unfoldable pub rule_place : OfficeRule → ℕ
rule_place (rule A w l) = items_place l (A.0 % 4093)
