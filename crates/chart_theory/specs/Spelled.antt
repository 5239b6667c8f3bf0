-- The tree that a table spells, in the chart's terms: on the entries of a table (chart_table/specs/Table), where a tree stands unless its price
-- plus 1 is 0, and on the four numbers of a back pointer (chart_keys/specs/Keys).
-- Nobody need believe this page: open_listing joins it to its page Stands.
use Rattle.std.specs.Prelude.{◌≡◌, Bool, true, false, List, ℕ, ◌-◌, ◌/◌, ◌<◌}
use Rattle.packing.specs.Meaning.{Grammar, Heard, slots, graph, heard_edges}
use Rattle.packing.specs.declared.Sym.{Sym}
use Rattle.packing.specs.declared.Rule.TheVariants.{Pair}
use Rattle.derivation.specs.Derivation.{At, Tree, leaf, node, weight}
use Rattle.chart_keys.specs.declared.BackPointer.{BackPointer}
use Rattle.chart_keys.specs.Keys.{weight_unit, back_pointer}
use Rattle.chart_table.specs.declared.Cell.{Cell}
use Rattle.chart_table.specs.declared.Layout.{Layout}
use Rattle.chart_table.specs.Table.{root, left_part, right_part, cell_number, price_at, back_at}

-- "A rank of a span and head is found once its tree stands in the table": rank x, from 0, of a cell is found, and b is its back pointer
pub record FoundWith (d : Layout) (table : List ℕ) (c : Cell) (x : ℕ) (b : BackPointer) : Type 0 where
  pub found : 0 < price_at table d (cell_number d c) x
  pub points : back_pointer (back_at table d (cell_number d c) x) ≡ b

-- of a graph a reading names its edges; of slots it does not
abbrev pub names_edges : Heard → Bool
names_edges (slots u) = false
names_edges (graph w) = true

-- a leaf's back pointer has the edge e, where readings name edges
abbrev pub EdgeNamed : Bool → BackPointer → ℕ → Type 0
EdgeNamed true b e = b.left ≡ e
EdgeNamed false b e = Unit {0}

-- Spelled g named d table z c x: rank x of cell c spells the tree z. It is found, and its back pointer has the tree's rule; of a leaf it has
-- the edge, where readings name edges, and of a node the place where the parts meet and the ranks of the parts' own cells that spell them
pub data Spelled (g : Grammar) (named : Bool) (d : Layout) (table : List ℕ) : Tree → Cell → ℕ → Type 0 where
  leaf_spelled : {c : Cell} {x e : ℕ} {b : BackPointer} → FoundWith d table c x b → EdgeNamed named b e
      → Spelled g named d table (leaf b.rule e) c x
  node_spelled : {c : Cell} {x w : ℕ} {b : BackPointer} {B C : Sym} {s t : Tree} → FoundWith d table c x b
      → At g.rules b.rule (Pair c.head B C w) → Spelled g named d table s (left_part c B b.split) b.left
      → Spelled g named d table t (right_part c C b.split) b.right → Spelled g named d table (node b.rule b.split s t) c x

-- the weight that the price of rank x of a cell says: a price is weight × weightUnit + cost sum, and stands in the table plus 1
abbrev pub weight_at : Layout → List ℕ → Cell → ℕ → ℕ
weight_at d table c x = (price_at table d (cell_number d c) x - 1) / weight_unit

-- the reading that rank x of the root spells: a tree, with the weight that the rank's price says
pub record SpelledReading (g : Grammar) (h : Heard) (d : Layout) (table : List ℕ) (x : ℕ) (z : Tree) : Type 0 where
  pub tree : Spelled g (names_edges h) d table z (root d) x
  pub weighs : weight_at d table (root d) x ≡ weight g (heard_edges h) z
