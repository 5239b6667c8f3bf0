-- The check of a reading as a function that can be run: the first of all trees of derivation's List that has the nodes that were read. Nobody need
-- believe this page: Judgement says by derivations what passes and what is refused, and proofs/Theorems and Refused that this is it.
use Rattle.std.specs.Prelude.{Bool, true, false, List, [], ◌∷◌, ℕ, suc, ◌*◌, eqb, leb, length}
use Rattle.std.proofs.Math.Option.{Option, none, some}
use Rattle.bits.specs.Bits.{pick, bit_at, ended}
use Rattle.bits.specs.Fields.{bits_of_all}
use Rattle.packing.specs.Meaning.{Grammar, Edge, Heard, heard_edges, last_place, symbol_of, Node}
use Rattle.packing.specs.Parse.{Parse, parsed, failed, Verdict, accepted, refused, ◌then◌}
use Rattle.packing.specs.Source.{flds}
use Rattle.packing.specs.Grammar.{grammar_block}
use Rattle.packing.specs.Heard.{heard_block}
use Rattle.packing.specs.GraphReading.{trace_entries}
use Rattle.derivation.specs.Derivation.{Tree, walk, weight}
use Rattle.derivation.specs.Heard.{path_length, trace}
use Rattle.derivation.specs.List.{trees}
use Rattle.checker.specs.Judgement.{Fields, walked, headed, weight_read, fields_from}

-- two lists of numbers are equal
abbrev pub same : List ℕ → List ℕ → Bool
same [] [] = true
same [] (y ∷ ys) = false
same (x ∷ xs) [] = false
same (x ∷ xs) (y ∷ ys) = pick (eqb x y) (same xs ys) false

-- a block has these bits from bit `at` on
unfoldable pub has_bits : List ℕ → ℕ → List ℕ → Bool
has_bits s at [] = leb at (8 * length s)
has_bits s at (b ∷ bs) = pick (eqb (bit_at s at) b) (has_bits s (suc at) bs) false

-- those of nodes, behind n and the weight
abbrev pub has_trace : ℕ → List Node → List ℕ → Bool
has_trace R xs s = has_bits s 34 (bits_of_all (flds (trace_entries R xs)))

-- a tree has the nodes that were read (HasNodes), as a test
abbrev pub fits : ℕ → List ℕ → Fields → Tree → Bool
fits R block (walked d) t = same (walk t) d.walk
fits R block (headed d) t = pick (eqb (path_length t) d.edges) (has_trace R (trace t) block) false

-- the first tree of a list that passes a test
unfoldable pub first_with : (Tree → Bool) → List Tree → Option Tree
first_with test [] = none
first_with test (t ∷ ts) = pick (test t) (some t) (first_with test ts)

-- the derivation that has the nodes that were read
unfoldable pub derivation_of : Grammar → Heard → List ℕ → Fields → Option Tree
derivation_of g h block d = first_with (fits (length g.rules) block d) (trees g (heard_edges h) (symbol_of 0) 0 (last_place h))

-- 34, 35 and 36, in this order, of the weight that was read and the place behind the reading
abbrev pub judged : Grammar → List Edge → List ℕ → ℕ → ℕ → Option Tree → Verdict Tree
judged g es block w at none = refused 34
judged g es block w at (some t) = pick (eqb (weight g es t) w) (pick (ended block at) (accepted t) (refused 36)) (refused 35)

abbrev pub after_fields : Grammar → Heard → List ℕ → Parse Fields → Verdict Tree
after_fields g h block (failed n) = refused n
after_fields g h block (parsed d at) = judged g (heard_edges h) block (weight_read d) at (derivation_of g h block d)

-- the derivation whose reading passes, or the refusal
unfoldable pub check : List ℕ → List ℕ → List ℕ → Verdict Tree
check grammar heard reading =
    grammar_block grammar then λ g. heard_block g.words heard then λ h. after_fields g h reading (fields_from g h reading)

-- that a reading passes, whatever its derivation
abbrev pub passed : Verdict Tree → Verdict (Unit {0})
passed v = v then λ t. accepted tt
