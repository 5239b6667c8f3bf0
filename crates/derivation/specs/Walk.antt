-- When rule numbers are the walk of a derivation, and its weight, found number by number: document 01, "Where each check
-- stands", 34 and 35.
-- Stands on packing's Meaning alone. Nobody need believe this page: proofs/Walk says that it agrees with Derivation.
use Rattle.std.proofs.Math.Option.{Option, none, some}
use Rattle.std.specs.Prelude.{List, [], ◌∷◌, ℕ, suc, ◌+◌, eqb, ltb, length}
use Rattle.std.proofs.Math.ListN.{get_elem?}
use Rattle.bits.specs.Bits.{pick}
use Rattle.packing.specs.declared.Sym.{Sym}
use Rattle.packing.specs.declared.Word as W
use Rattle.packing.specs.declared.Rule as R
use Rattle.packing.specs.declared.Rule.TheVariants.{Pair, Word}
use Rattle.packing.specs.Meaning.{not_heard, symbol_of, Utterance, Candidate, candidate}

-- how far a walk has come: the slots that are left, the heads of the parts that are to come, the next first, and the weight
-- so far; or that it is none
pub data State : Type 0 where
  onward : (slots : Utterance) (heads : List Sym) (weight : ℕ) → State
  stuck : State

-- the cost of a word in a slot that offers it
unfoldable pub cost_of : W.Word → List Candidate → Option ℕ
cost_of x [] = none
cost_of x (candidate y c ∷ slot) = pick (eqb y.0 x.0) (pick (ltb c not_heard) (some c) none) (cost_of x slot)

unfoldable pub leaf_step : Utterance → List Sym → ℕ → Option ℕ → State
leaf_step slots heads w none = stuck
leaf_step slots heads w (some c) = onward slots heads (w + c)

-- the next part has head A, and the rule is given: a pair rule puts two parts in its place, where each part to come still has
-- a slot of its own; a word rule takes a slot that offers its word
unfoldable pub rule_step : Utterance → Sym → List Sym → ℕ → Option R.Rule → State
unfolding cost_of leaf_step
rule_step slots A heads w none = stuck
rule_step slots A heads w (some (Pair H B C v)) =
    pick (eqb H.0 A.0) (pick (ltb (suc (length heads)) (length slots)) (onward slots (B ∷ C ∷ heads) (w + v)) stuck)
    stuck
rule_step [] A heads w (some (Word H x v)) = stuck
rule_step (slot ∷ slots) A heads w (some (Word H x v)) =
    pick (eqb H.0 A.0) (leaf_step slots heads (w + v) (cost_of x slot)) stuck

-- one number of the walk
unfoldable pub step : List R.Rule → State → ℕ → State
unfolding rule_step
step rules stuck r = stuck
step rules (onward slots [] w) r = stuck
step rules (onward slots (A ∷ heads) w) r = rule_step slots A heads w (get_elem? rules r)

unfoldable pub run : List R.Rule → State → List ℕ → State
unfolding step
run rules s [] = s
run rules s (r ∷ numbers) = run rules (step rules s r) numbers

-- a walk ends where no slot is left and no part is to come
unfoldable pub finished : State → Option ℕ
finished stuck = none
finished (onward [] [] w) = some w
finished (onward [] (A ∷ heads) w) = none
finished (onward (slot ∷ slots) heads w) = none

-- the weight of the derivation whose walk these numbers are, if they are one's
unfoldable pub walk_weight : List R.Rule → Utterance → List ℕ → Option ℕ
unfolding run finished
walk_weight rules u numbers = finished (run rules (onward u (symbol_of 0 ∷ []) 0) numbers)
