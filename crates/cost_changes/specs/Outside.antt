-- Inside and outside weights: the least weight of a derivation that uses an edge, found cell by cell, the longer spans first. A cell is a
-- head and two places. Nobody need believe this page: proofs/Inside, Outside and Through say what its numbers are. Stands on derivation's List.
use Rattle.std.proofs.Math.Option.{Option, none, some}
use Rattle.std.specs.Prelude.{List, eqb, length}
use Prim.Native.Nat.{ℕ, zero, suc, ◌+◌, ◌-◌, min}
use Rattle.std.proofs.Math.ListN.{get_elem?}
use Rattle.bits.specs.Bits.{pick}
use Rattle.packing.specs.declared.Sym.{Sym}
use Rattle.packing.specs.declared.Rule as R
use Rattle.packing.specs.declared.Rule.TheVariants.{Pair, Word}
use Rattle.packing.specs.Meaning.{Grammar, Edge, edge}
use Rattle.derivation.specs.Derivation.{Tree, weight}
use Rattle.derivation.specs.List.{ranked}

-- a number for each cell, or none
abbrev pub Cells : Type 0
Cells = Sym → ℕ → ℕ → Option ℕ

-- the lesser of two, where none is no number
unfoldable pub lesser : Option ℕ → Option ℕ → Option ℕ
lesser none o = o
lesser (some x) none = some x
lesser (some x) (some y) = some (min x y)

-- the least of f 0, f 1, .. f (m - 1)
unfoldable pub least_upto : (ℕ → Option ℕ) → ℕ → Option ℕ
unfolding lesser
least_upto f zero = none
least_upto f (suc m) = lesser (least_upto f m) (f m)

-- the sum of w and two numbers, if both are there
unfoldable pub sum : ℕ → Option ℕ → Option ℕ → Option ℕ
sum w none b = none
sum w (some a) none = none
sum w (some a) (some b) = some (w + a + b)

-- o where m and n are equal, else none
abbrev pub if_same : ℕ → ℕ → Option ℕ → Option ℕ
if_same m n o = pick (eqb m n) o none

-- a number where there is another
unfoldable pub if_there : Option ℕ → Option ℕ → Option ℕ
if_there none o = none
if_there (some x) o = o

-- the weight of a cell's first tree
unfoldable pub weight_if : Grammar → List Edge → Option Tree → Option ℕ
unfolding weight
weight_if g es none = none
weight_if g es (some t) = some (weight g es t)

unfoldable pub inside : Grammar → List Edge → Cells
unfolding weight_if ranked
inside g es A i k = weight_if g es (get_elem? (ranked g es A i k) 0)

-- a derivation has head S and spans 0 to n: around it there is nothing
unfoldable pub around : Sym → ℕ → Cells
around S n B i j = if_same B.0 S.0 (if_same i 0 (if_same j n (some 0)))

-- from what stands around longer cells (outer) and from the weights of shorter ones (inner)
module _ (outer inner : Cells) where
  -- a rule with B for its left part: the right part goes on from j
  unfoldable pub as_left : (n : ℕ) → Sym → ℕ → ℕ → Option R.Rule → Option ℕ
  unfolding least_upto sum
  as_left n B i j none = none
  as_left n B i j (some (Word H x w)) = none
  as_left n B i j (some (Pair H L R w)) =
      if_same L.0 B.0 (least_upto (λ d. sum w (outer H i (suc (j + d))) (inner R j (suc (j + d)))) (n - j))

  -- a rule with B for its right part: the left part ends at i
  unfoldable pub as_right : Sym → ℕ → ℕ → Option R.Rule → Option ℕ
  unfolding least_upto sum
  as_right B i j none = none
  as_right B i j (some (Word H x w)) = none
  as_right B i j (some (Pair H L R w)) = if_same R.0 B.0 (least_upto (λ h. sum w (outer H h j) (inner L h i)) i)

  module _ (g : Grammar) (S : Sym) (n : ℕ) where
    -- the least that the first m rules give
    unfoldable pub after_rules : Sym → ℕ → ℕ → ℕ → Option ℕ
    unfolding lesser around as_left as_right
    after_rules B i j zero = around S n B i j
    after_rules B i j (suc m) =
        lesser (lesser (after_rules B i j m) (as_left n B i j (get_elem? g.rules m))) (as_right B i j (get_elem? g.rules m))

    -- of cells that have a tree
    unfoldable pub outside_from : Cells
    unfolding if_there after_rules
    outside_from B i j = if_there (inner B i j) (after_rules B i j (length g.rules))

module _ (g : Grammar) (es : List Edge) (S : Sym) (n : ℕ) where
  -- the least weight of what stands around a cell, at most `depth` nodes above it
  unfoldable pub outside_within : ℕ → Cells
  unfolding if_there around inside outside_from
  outside_within zero B i j = if_there (inside g es B i j) (around S n B i j)
  outside_within (suc depth) B i j = outside_from (outside_within depth) (inside g es) g S n B i j

  -- each node above is longer by a place at least
  unfoldable pub outside : Cells
  unfolding outside_within
  outside B i j = outside_within (n - (j - i)) B i j

-- over an edge with a word rule's word: the rule's weight, the cost, and what stands around the rule's head
unfoldable pub through_by : Cells → Edge → Option R.Rule → Option ℕ
unfolding sum
through_by outer a none = none
through_by outer a (some (Pair H L R w)) = none
through_by outer (edge i k x c) (some (Word H y w)) = if_same y.0 x.0 (sum w (some c) (outer H i k))

-- the least weight of a derivation that uses an edge
unfoldable pub through : Grammar → Cells → Edge → Option ℕ
unfolding least_upto through_by
through g outer a = least_upto (λ r. through_by outer a (get_elem? g.rules r)) (length g.rules)
