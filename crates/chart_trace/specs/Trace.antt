-- The back trace of a tree from the back pointers of found ranks: two numbers for each node, its rule's and its left part's, which of a
-- leaf is its edge's.
-- Nobody need believe this page: the theorems of chart_theory join it to the derivations. Assumes nothing.
use Rattle.std.specs.Prelude.{List, [], ◌∷◌, ◌++◌, ℕ, zero, suc, ltb}
use Rattle.bits.specs.Bits.{pick}
use Rattle.packing.specs.Flat.{rule_at}
use Rattle.packing.specs.declared.Rule.{Rule}
use Rattle.packing.specs.declared.Rule.TheVariants.{Pair, Word}
use Rattle.chart_keys.specs.declared.BackPointer.{BackPointer}
use Rattle.chart_keys.specs.Keys.{back_pointer}
use Rattle.chart_table.specs.declared.Cell.{Cell}
use Rattle.chart_table.specs.declared.Layout.{Layout}
use Rattle.chart_table.specs.Table.{left_part, right_part, cell_number, back_at}

-- the traces of the parts of a node
abbrev pub trace_parts : (Cell → ℕ → List ℕ) → Cell → BackPointer → Rule → List ℕ
trace_parts trace c b (Pair h x y w) = trace (left_part c x b.split) b.left ++ trace (right_part c y b.split) b.right
trace_parts trace c b (Word h x w) = []

-- the trace of a rank of a cell; any fuel of at least the span's length serves
unfoldable pub trace_back : List ℕ → List ℕ → Layout → ℕ → Cell → ℕ → List ℕ
trace_back t rules d zero c rank = []
trace_back t rules d (suc fuel) c rank =
    let b = back_pointer (back_at t d (cell_number d c) rank) in
    b.rule
    ∷ b.left
    ∷ pick (ltb c.from b.split)
    (pick (ltb b.split c.to) (trace_parts (trace_back t rules d fuel) c b (rule_at rules b.rule)) [])
    []
