-- The office's derivations and the converted grammar's match one to one, with equal weight: document 02, request N5. Stands on
-- Office, Conversion and derivation's Derivation.
use Rattle.std.specs.Prelude.{◌≡◌, List, [], ◌∷◌, ℕ, eqb, get_or}
use Rattle.bits.specs.Bits.{pick}
use Rattle.packing.specs.declared.Sym.{Sym}
use Rattle.packing.specs.Meaning.{symbol_of, Edge, Heard, heard_edges, last_place}
use Rattle.derivation.specs.Derivation.{Tree, Derives, weight, walk}
use Rattle.office.specs.Office.{symbol, Office}
use Rattle.office_theory.specs.Derivations.{OfficeTree, OfficeDerives, office_weight, office_walk}
use Rattle.office.specs.Conversion.{convert, marks}

abbrev pub OfficeDerivation : Office → List Edge → Sym → ℕ → ℕ → OfficeTree → Type 0
OfficeDerivation o es A i k t = OfficeDerives o es (symbol A ∷ []) i k t

-- a walk without its marked numbers, as the lister prints it
unfoldable pub without_marked : List ℕ → List ℕ → List ℕ
without_marked ms [] = []
without_marked ms (r ∷ rs) = pick (eqb (get_or ms r 0) 0) (r ∷ without_marked ms rs) (without_marked ms rs)

-- over any span, between derivations with head A, there are two maps: each takes derivations to derivations, and the other takes them back; weights are
-- equal; and "the lister leaves helper nodes out": what is left of the walk is the office derivation's own list of rule numbers
pub record OneToOne (o : Office) (es : List Edge) (A : Sym) (i k : ℕ) : Type 0 where
  pub to_grammar : OfficeTree → Tree
  pub to_office : Tree → OfficeTree
  pub out : (t : OfficeTree) → OfficeDerivation o es A i k t → Derives (convert o) es A i k (to_grammar t)
  pub back : (s : Tree) → Derives (convert o) es A i k s → OfficeDerivation o es A i k (to_office s)
  pub out_back : (t : OfficeTree) → OfficeDerivation o es A i k t → to_office (to_grammar t) ≡ t
  pub back_out : (s : Tree) → Derives (convert o) es A i k s → to_grammar (to_office s) ≡ s
  pub weighs : (t : OfficeTree) → OfficeDerivation o es A i k t → weight (convert o) es (to_grammar t) ≡ office_weight o es t
  pub walks : (t : OfficeTree) → OfficeDerivation o es A i k t → without_marked (marks o) (walk (to_grammar t)) ≡ office_walk t

-- of what was heard, slots or a graph: between the office's derivations and the converted grammar's
abbrev pub Match : Office → Heard → Type 0
Match o h = OneToOne o (heard_edges h) (symbol_of 0) 0 (last_place h)
