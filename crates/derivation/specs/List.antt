-- The trees of a cell as a list that can be made: all of them, by rules, edges and splits, and a sort.
-- Nobody need believe this page to believe demand 3: proofs/HeardTheorems says that the list has the derivations by their ranks
-- (specs/Rank), each once and none left out. Stands on Derivation and Order.
use Rattle.std.specs.Prelude.{Bool, true, false, eqb, ltb}
use mathlib.Core.List.{List, [], ◌∷◌, ◌++◌}
use Prim.Native.Nat.{ℕ, zero, suc, ◌+◌, ◌-◌, Ordering}
use Rattle.packing.specs.declared.Sym.{Sym}
use Rattle.packing.specs.declared.Rule as R
use Rattle.packing.specs.declared.Rule.TheVariants.{Pair, Word}
use Rattle.packing.specs.Meaning.{not_heard, Grammar, Edge, edge}
use Rattle.derivation.specs.Derivation.{Tree, leaf, node, weight}
use Rattle.derivation.specs.Order.{◌▸◌, cost_sum, order}

-- f at each element of a list and its number, the results joined
unfoldable pub each : {A B : Type 0} → (ℕ → A → List B) → List A → List B
each f [] = []
each f (x ∷ l) = f 0 x ++ each (λ n. f (suc n)) l

-- f at 0, 1, .. n - 1, the results joined
unfoldable pub each_below : {B : Type 0} → (ℕ → List B) → ℕ → List B
each_below f zero = []
each_below f (suc n) = f 0 ++ each_below (λ m. f (suc m)) n

unfoldable pub keep_if : {B : Type 0} → Bool → List B → List B
keep_if true l = l
keep_if false l = []

-- l where m and n are equal, else nothing
unfoldable pub only : {B : Type 0} → ℕ → ℕ → List B → List B
unfolding keep_if
only m n l = keep_if (eqb m n) l

-- the leaf of a rule and an edge, if it has head A and spans i to k
unfoldable pub leaf_of : Sym → ℕ → ℕ → ℕ → R.Rule → ℕ → Edge → List Tree
unfolding only keep_if
leaf_of A i k r (Pair H B C w) e a = []
leaf_of A i k r (Word H x w) e (edge from to y c) =
    only H.0 A.0 (only from i (only to k (only x.0 y.0 (keep_if (ltb c not_heard) (leaf r e ∷ [])))))

unfoldable pub leaves_of_rule : List Edge → Sym → ℕ → ℕ → ℕ → R.Rule → List Tree
unfolding each leaf_of
leaves_of_rule es A i k r rule = each (leaf_of A i k r rule) es

-- each left part with each right part
unfoldable pub combined : ℕ → ℕ → List Tree → List Tree → List Tree
unfolding each
combined r j lefts rights = each (λ p s. each (λ q t. node r j s t ∷ []) rights) lefts

-- the nodes of a rule, if it has head A: over i to k, split at each place between
unfoldable pub nodes_of_rule : (Sym → ℕ → ℕ → List Tree) → Sym → ℕ → ℕ → ℕ → R.Rule → List Tree
unfolding only each_below combined
nodes_of_rule parts A i k r (Word H x w) = []
nodes_of_rule parts A i k r (Pair H B C w) =
    only H.0 A.0 (each_below (λ d. combined r (suc (i + d)) (parts B i (suc (i + d))) (parts C (suc (i + d)) k)) (k - suc i))

-- the trees with head A from i to k that are at most `depth` nodes above their deepest leaf
unfoldable pub trees_within : Grammar → List Edge → ℕ → Sym → ℕ → ℕ → List Tree
unfolding each leaves_of_rule nodes_of_rule
trees_within g es zero A i k = each (leaves_of_rule es A i k) g.rules
trees_within g es (suc depth) A i k =
    each (λ r rule. leaves_of_rule es A i k r rule ++ nodes_of_rule (trees_within g es depth) A i k r rule) g.rules

-- all trees of a cell (head, from, to): none is deeper than its span is long
unfoldable pub trees : Grammar → List Edge → Sym → ℕ → ℕ → List Tree
unfolding trees_within
trees g es A i k = trees_within g es (k - i) A i k

-- insertion sort, where what is there already is not put in again; `insertBy` is given the tail with x in its place
unfoldable pub insert_by : {A : Type 0} → Ordering → A → A → List A → List A → List A
insert_by Ordering.lt x y l placed = x ∷ y ∷ l
insert_by Ordering.eq x y l placed = y ∷ l
insert_by Ordering.gt x y l placed = y ∷ placed

module _ {A : Type 0} (cmp : A → A → Ordering) where
  unfoldable pub insert : A → List A → List A
  unfolding insert_by
  insert x [] = x ∷ []
  insert x (y ∷ l) = insert_by (cmp x y) x y l (insert x l)

  unfoldable pub sort : List A → List A
  unfolding insert
  sort [] = []
  sort (x ∷ l) = insert x (sort l)

-- the trees of a cell, the least first
unfoldable pub ranked : Grammar → List Edge → Sym → ℕ → ℕ → List Tree
unfolding sort order ◌▸◌ weight cost_sum trees
ranked g es A i k = sort (order g es) (trees g es A i k)
