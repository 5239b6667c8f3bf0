-- The derivations of office grammars: document 02, request N5. Stands on Office, on packing's Meaning, and on derivation's `At`, `Offered`
-- and edge costs.
use Rattle.std.proofs.Math.Option.{Option, none, some}
use Rattle.std.specs.Prelude.{List, [], ◌∷◌, ◌++◌, ℕ, ◌+◌, ◌<◌}
use Rattle.std.proofs.Math.ListN.{get_elem?}
use Rattle.packing.specs.declared.Sym.{Sym}
use Rattle.packing.specs.declared.Word as W
use Rattle.packing.specs.Meaning.{Edge, edge}
use Rattle.office.specs.Office.{Item, symbol, spoken, OfficeRule, rule, Office}
use Rattle.derivation.specs.Derivation.{At, Offered, edge_cost}

-- a derivation of a list of items: one word by an edge; one symbol by a rule over the rule's items; or a first item, the place
-- where it ends, and the rest. Rules and edges are named by number
pub data OfficeTree : Type 0 where
  heard : (edge : ℕ) → OfficeTree
  ruled : (rule : ℕ) → OfficeTree → OfficeTree
  parted : (split : ℕ) → OfficeTree → OfficeTree → OfficeTree

-- OfficeDerives o es l i k t: t is a tree of the items l over the span from place i to place k
pub data OfficeDerives (o : Office) (es : List Edge) : List Item → ℕ → ℕ → OfficeTree → Type 0 where
  by_edge : {x : W.Word} {e c i k : ℕ} → Offered es e (edge i k x c) → OfficeDerives o es (spoken x ∷ []) i k (heard e)
  by_rule : {A : Sym} {l : List Item} {r w i k : ℕ} {t : OfficeTree} → At o.rules r (rule A w l)
      → OfficeDerives o es l i k t → OfficeDerives o es (symbol A ∷ []) i k (ruled r t)
  by_parts : {x y : Item} {l : List Item} {i j k : ℕ} {s t : OfficeTree} → i < j → j < k → OfficeDerives o es (x ∷ []) i j s
      → OfficeDerives o es (y ∷ l) j k t → OfficeDerives o es (x ∷ y ∷ l) i k (parted j s t)

-- the rules' weights and the edges' costs
unfoldable pub office_rule_weight : Option OfficeRule → ℕ
office_rule_weight none = 0
office_rule_weight (some (rule A w l)) = w

unfoldable pub office_weight : Office → List Edge → OfficeTree → ℕ
unfolding office_rule_weight edge_cost
office_weight o es (heard e) = edge_cost (get_elem? es e)
office_weight o es (ruled r t) = office_rule_weight (get_elem? o.rules r) + office_weight o es t
office_weight o es (parted j s t) = office_weight o es s + office_weight o es t

-- the rule numbers from the top, the first item's before the rest's
unfoldable pub office_walk : OfficeTree → List ℕ
office_walk (heard e) = []
office_walk (ruled r t) = r ∷ office_walk t
office_walk (parted j s t) = office_walk s ++ office_walk t
