-- What is handed on from nodes to their parts, as functions on lists of numbers. Nobody need believe this page: proofs/Filled joins it to cost_changes'
-- outside weights. Outside weights `o` stand by the cells' numbers, plus 1, and 0 stands for none; `t` is a table of inside weights.
use Rattle.std.specs.Prelude.{List, [], ℕ, ◌+◌, ◌-◌, eqb, get_or, set, replicate}
use Rattle.bits.specs.Bits.{pick}
use Rattle.packing.specs.Meaning.{symbol_of}
use Rattle.packing.specs.Flat.{rule_at}
use Rattle.packing.specs.Loop.{iter}
use Rattle.packing.specs.declared.Sym.{Sym}
use Rattle.packing.specs.declared.Rule as R
use Rattle.packing.specs.declared.Rule.TheVariants.{Pair, Word}
use Rattle.chart_classes.specs.Classes.{pair_base, members}
use Rattle.chart_index.specs.Build.{make_index}
use Rattle.chart_table.specs.declared.Cell.{Cell}
use Rattle.chart_table.specs.declared.Layout.{Layout}
use Rattle.chart_table.specs.Table.{cell, root, cell_number}
use Rattle.outside_entries.specs.Entries.{push_split}

-- at every split of a node, by a rule, by all rules of its head, and of all nodes, the longer first
unfoldable pub push_splits : (o t : List ℕ) → Layout → Cell → Sym → Sym → ℕ → List ℕ
push_splits o t d c L R a =
    iter (λ u x. push_split u t d (cell_number d (cell L c.from (c.from + x + 1))) (cell_number d (cell R (c.from + x + 1) c.to)) a) o
    (c.to - c.from - 1)

abbrev pub push_rule : (o t : List ℕ) → Layout → Cell → ℕ → R.Rule → List ℕ
push_rule o t d c a (Pair H L R w) = push_splits o t d c L R (a + w)
push_rule o t d c a (Word H x w) = o

unfoldable pub push_rules : (o t rules index : List ℕ) → Layout → Cell → ℕ → List ℕ
push_rules o t rules index d c a = members index pair_base c.head.0 (λ u r. push_rule u t d c a (rule_at rules r)) o

unfoldable pub push_node : (o t rules index : List ℕ) → Layout → Cell → List ℕ
push_node o t rules index d c =
    pick (eqb (get_or o (cell_number d c) 0) 0) o (push_rules o t rules index d c (get_or o (cell_number d c) 0))

unfoldable pub over_heads : (o t rules index : List ℕ) → Layout → ℕ → ℕ → List ℕ
over_heads o t rules index d i k = iter (λ u a. push_node u t rules index d (cell (symbol_of a) i k)) o d.symbols

unfoldable pub over_spans : (o t rules index : List ℕ) → Layout → ℕ → List ℕ
over_spans o t rules index d len = iter (λ u i. over_heads u t rules index d i (i + len)) o (d.last + 1 - len)

unfoldable pub over_lengths : (o t rules index : List ℕ) → Layout → List ℕ
over_lengths o t rules index d = iter (λ u x. over_spans u t rules index d (d.last - x)) o d.last

-- the index of so many rules by their heads
abbrev pub pairs_of : List ℕ → ℕ → Layout → List ℕ
pairs_of rules m d = make_index rules m d.symbols [] 0 0 (replicate 640 0)

unfoldable pub fill : (o t rules : List ℕ) → ℕ → Layout → List ℕ
fill o t rules m d = over_lengths (set o (cell_number d (root d)) 1) t rules (pairs_of rules m d) d
