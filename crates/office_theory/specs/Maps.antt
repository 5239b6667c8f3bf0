-- The two maps between an office's derivations and the converted grammar's, as functions that can be run. Nobody need believe this page: Matching says what
-- two such maps are to do, and proofs/Matching that these do it. Stands on Conversion and on derivation's Derivation.
use Rattle.std.proofs.Math.Option.{Option, none, some}
use Rattle.std.specs.Prelude.{List, ℕ, ◌+◌, ◌-◌, eqb, length, get_or}
use Rattle.std.proofs.Math.ListN.{get_elem?}
use Rattle.bits.specs.Bits.{pick}
use Rattle.packing.specs.declared.Sym.{Sym}
use Rattle.packing.specs.declared.Rule as R
use Rattle.packing.specs.declared.Rule.TheVariants.{Pair, Word}
use Rattle.packing.specs.Meaning.{symbol_of}
use Rattle.derivation.specs.Derivation.{Tree, leaf, node}
use Rattle.office.specs.Office.{Office}
use Rattle.office.specs.Conversion.{convert, marks}
use Rattle.office_theory.specs.Derivations.{OfficeTree, heard, ruled, parted}

-- a tree without its marked nodes
unfoldable pub unless_marked : List ℕ → ℕ → OfficeTree → OfficeTree
unless_marked ms r t = pick (eqb (get_or ms r 0) 0) (ruled r t) t

unfoldable pub reduced : List ℕ → Tree → OfficeTree
reduced ms (leaf r e) = unless_marked ms r (heard e)
reduced ms (node r j s t) = unless_marked ms r (parted j (reduced ms s) (reduced ms t))

-- a rule's two parts
unfoldable pub left_of : Option R.Rule → Sym
left_of none = symbol_of 0
left_of (some (Pair A B C w)) = B
left_of (some (Word A x w)) = symbol_of 0

unfoldable pub right_of : Option R.Rule → Sym
right_of none = symbol_of 0
right_of (some (Pair A B C w)) = C
right_of (some (Word A x w)) = symbol_of 0

-- the number of a helper's one rule
unfoldable pub helper_number : Office → Sym → ℕ
helper_number o A = length o.rules + (A.0 - o.symbols)

-- an office's tree with the helpers' nodes: what is no symbol's is a leaf or a node of rule r
unfoldable pub expanded_by : Office → ℕ → OfficeTree → Tree
expanded_by o r (heard e) = leaf r e
expanded_by o r (ruled q t) = expanded_by o q t
expanded_by o r (parted j s t) =
    node r j (expanded_by o (helper_number o (left_of (get_elem? (convert o).rules r))) s)
    (expanded_by o (helper_number o (right_of (get_elem? (convert o).rules r))) t)

-- the two maps over any span, between derivations with head A
abbrev pub to_grammar : Office → OfficeTree → Tree
to_grammar o t = expanded_by o 0 t

abbrev pub to_office : Office → Tree → OfficeTree
to_office o s = reduced (marks o) s
