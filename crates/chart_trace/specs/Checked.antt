-- The back trace that checks: what the tree weighs that a rank of a cell spells, where it and all ranks that it is put together from are
-- found, and rules, splits and edges fit together.
-- Nobody need believe this page: the theorems of chart_theory join it to the derivations. Assumes nothing.
use Rattle.std.specs.Prelude.{Bool, false, List, ℕ, zero, suc, ◌+◌, ◌*◌, ltb, eqb, get_or, Some, None}
use Rattle.std.specs.Prelude as P
use Rattle.std.proofs.Math.Option.{Option, none, some}
use Rattle.bits.specs.Bits.{pick}
use Rattle.packing.specs.Meaning.{not_heard}
use Rattle.packing.specs.Flat.{rule_at}
use Rattle.packing.specs.declared.Word as W
use Rattle.packing.specs.declared.Rule.{Rule}
use Rattle.packing.specs.declared.Rule.TheVariants.{Pair, Word}
use Rattle.chart_keys.specs.declared.BackPointer.{BackPointer}
use Rattle.chart_keys.specs.Keys.{back_pointer}
use Rattle.chart_table.specs.declared.Cell.{Cell}
use Rattle.chart_table.specs.declared.Layout.{Layout}
use Rattle.chart_table.specs.Table.{left_part, right_part, cell_number, price_at, back_at}
use Rattle.chart_trace.specs.declared.checked.Scope.{Scope}
use Rattle.chart_trace.specs.declared.checked.CheckedNode.{CheckedNode}
use Rattle.chart_trace.specs.declared.checked.CheckedNode.TheVariants.{Leaf, Pairing}
use Rattle.chart_trace.specs.declared.checked.Traced.{Traced}

-- whether edge e is one of the first E, goes over the cell's span with this word, and was heard
unfoldable pub edge_fits : List ℕ → ℕ → Cell → ℕ → W.Word → Bool
edge_fits edges E c e x =
    pick (ltb e E)
    (pick (eqb (get_or edges (4 * e) 0) c.from)
    (pick (eqb (get_or edges (4 * e + 1) 0) c.to)
    (pick (eqb (get_or edges (4 * e + 2) 0) x.0) (ltb (get_or edges (4 * e + 3) 0) not_heard) false) false) false) false

-- the leaf of edge e, by a rule of weight w
abbrev pub leaf_of : List ℕ → ℕ → ℕ → CheckedNode
leaf_of edges e w = Leaf (w + get_or edges (4 * e + 3) 0)

-- the leaf of the last of the first n edges that fits
unfoldable pub any_leaf : List ℕ → ℕ → Cell → W.Word → ℕ → ℕ → P.Option CheckedNode
any_leaf edges E c x w zero = None
any_leaf edges E c x w (suc e) = pick (edge_fits edges E c e x) (Some (leaf_of edges e w)) (any_leaf edges E c x w e)

-- a leaf by a rule of that word: of edge e, if that fits, and else, where leaves do not name their edges, of any edge that does
abbrev pub leaf_in : List ℕ → Scope → Cell → ℕ → W.Word → ℕ → P.Option CheckedNode
leaf_in edges k c e x w =
    pick (edge_fits edges k.edges c e x) (Some (leaf_of edges e w)) (pick k.named None (any_leaf edges k.edges c x w k.edges))

-- a node in a cell by its back pointer and its rule, whose head is to be the cell's; none where it can't stand there
abbrev pub node_in : List ℕ → Scope → Cell → BackPointer → Rule → P.Option CheckedNode
node_in edges k c b (Pair h x y w) =
    pick (eqb h.0 c.head.0) (pick (ltb c.from b.split) (pick (ltb b.split c.to) (Some (Pairing x y w)) None) None) None
node_in edges k c b (Word h x w) =
    pick (eqb h.0 c.head.0) (leaf_in edges k c b.left x w) None

unfoldable pub checked_node : List ℕ → List ℕ → Scope → Cell → BackPointer → P.Option CheckedNode
checked_node rules edges k c b = pick (ltb b.rule k.rules) (node_in edges k c b (rule_at rules b.rule)) None

-- what the node's own rule and edge weigh
abbrev pub own_weight : P.Option CheckedNode → ℕ
own_weight (Some (Leaf w)) = w
own_weight (Some (Pairing x y w)) = w
own_weight None = 0

-- a node's weight with those of its parts
abbrev pub with_parts : ℕ → Option ℕ → Option ℕ → Option ℕ
with_parts w none y = none
with_parts w (some x) none = none
with_parts w (some x) (some y) = some (w + x + y)

abbrev pub node_weight : (Cell → ℕ → Option ℕ) → Cell → BackPointer → P.Option CheckedNode → Option ℕ
node_weight spelled c b (Some (Leaf w)) = some w
node_weight spelled c b (Some (Pairing x y w)) = with_parts w (spelled (left_part c x b.split) b.left) (spelled (right_part c y b.split) b.right)
node_weight spelled c b None = none

-- the weight of the tree that a rank of a cell spells; any fuel of at least the span's length serves
unfoldable pub spelled_weight : (t rules edges : List ℕ) → Scope → Layout → ℕ → Cell → ℕ → Option ℕ
spelled_weight t rules edges k d zero c rank = none
spelled_weight t rules edges k d (suc fuel) c rank =
    let b = back_pointer (back_at t d (cell_number d c) rank) in
    pick (eqb (price_at t d (cell_number d c) rank) 0) none
    (node_weight (spelled_weight t rules edges k d fuel) c b (checked_node rules edges k c b))

-- the answer, where the trace has n numbers
abbrev pub traced_of : Option ℕ → ℕ → P.Option Traced
traced_of none n = None
traced_of (some w) n = Some (record { numbers = n; weight = w })
