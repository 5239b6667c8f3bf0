-- Outside weights in the entries of a table, as functions on lists of numbers. Nobody need believe this page: outside_theory joins it to cost_changes'
-- outside weights. A weight stands in arrays plus 1, and 0 stands for none.
use Rattle.std.specs.Prelude.{List, [], ◌∷◌, ℕ, ◌+◌, ◌-◌, ◌/◌, ◌%◌, eqb, ltb, get_or, set}
use Rattle.bits.specs.Width.{u32_values}
use Rattle.bits.specs.Bits.{pick}
use Rattle.chart_keys.specs.Keys.{weight_unit}
use Rattle.chart_table.specs.declared.Layout.{Layout}
use Rattle.chart_table.specs.Table.{price_at}

-- a table for one reading has four numbers a cell: the fourth ones, and the table with 0 in their place
unfoldable pub fourths : List ℕ → List ℕ
fourths [] = []
fourths (a ∷ []) = []
fourths (a ∷ b ∷ []) = []
fourths (a ∷ b ∷ c ∷ []) = []
fourths (a ∷ b ∷ c ∷ d ∷ t) = d ∷ fourths t

unfoldable pub plain : List ℕ → List ℕ
plain [] = []
plain (a ∷ []) = a ∷ []
plain (a ∷ b ∷ []) = a ∷ b ∷ []
plain (a ∷ b ∷ c ∷ []) = a ∷ b ∷ c ∷ []
plain (a ∷ b ∷ c ∷ d ∷ t) = a ∷ b ∷ c ∷ 0 ∷ plain t

-- what sums of three numbers of 32 bits are below
abbrev pub sums : ℕ
sums = 12884901888

-- the lesser of two, where 0 is none
unfoldable pub lesser : ℕ → ℕ → ℕ
lesser a b = pick (eqb a 0) b (pick (eqb b 0) a (pick (ltb b a) b a))

-- the inside weight of a cell, by the price of its first rank
unfoldable pub inside_at : List ℕ → Layout → ℕ → ℕ
inside_at t d number = pick (eqb (price_at t d number 0) 0) 0 ((price_at t d number 0 - 1) / weight_unit + 1)

-- outside weights o, by the cells' numbers, and a table t of inside weights: a cell's outside weight lowered
unfoldable pub lower : List ℕ → ℕ → ℕ → List ℕ
lower o number x = set o number (lesser (get_or o number 0) x % u32_values)

-- what stands around both parts of a node, the cells l and r, lowered, if both hold a tree: `a` stands around the node and its rule
unfoldable pub push_split : (o t : List ℕ) → Layout → (l r a : ℕ) → List ℕ
push_split o t d l r a =
    pick (eqb (inside_at t d l) 0) o (pick (eqb (inside_at t d r) 0) o
    (lower (lower o l (a + (inside_at t d r - 1))) r (a + (inside_at t d l - 1))))
