-- The states of a derivation's run as numbers and an array of symbols: document 01, "Where each check stands", 34. Nobody need believe
-- this page: no service's promise names it. Assumes nothing.
use Rattle.std.specs.Prelude.{List, [], ◌∷◌, ℕ, zero, suc, ◌+◌, ◌^◌, ◌≤◌, ◌<◌, eqb, get_or, Some, None}
use Rattle.std.specs.Prelude as std
use Rattle.std.proofs.Math.Option.{Option, none, some}
use Rattle.std.proofs.Math.ListN.{get_elem?}
use Rattle.bits.specs.Bits.{pick}
use Rattle.packing.specs.Meaning.{symbol_of}
use Rattle.packing.specs.declared.Sym.{Sym}
use Rattle.packing.specs.declared.Rule as R
use Rattle.derivation.specs.Path.{State, onward, stuck}
use Rattle.parse_stack.specs.declared.Progress.{Progress}

-- n symbols of an array, the last first
unfoldable pub heads_of : List ℕ → ℕ → List Sym
heads_of l zero = []
heads_of l (suc n) = symbol_of (get_or l n 0) ∷ heads_of l n

-- what the code's answers say
abbrev pub option_of : {A : Type 0} → std.Option A → Option A
option_of (Some a) = some a
option_of None = none

abbrev pub standing : List ℕ → std.Option Progress → State
standing stack (Some p) = onward p.place p.left (heads_of stack p.height) p.weight
standing stack None = stuck

-- a rule, if it has head A
abbrev pub head_of : R.Rule → Sym
head_of (R.TheVariants.Pair H B C w) = H
head_of (R.TheVariants.Word H x w) = H

abbrev pub with_head : Sym → Option R.Rule → Option R.Rule
with_head A none = none
with_head A (some r) = pick (eqb (head_of r).0 A.0) (some r) none

-- rule r, if it has the head of the next part
abbrev pub fit_of : List R.Rule → List Sym → ℕ → Option R.Rule
fit_of rules [] r = none
fit_of rules (A ∷ heads) r = with_head A (get_elem? rules r)

-- a number that was found is that of an array
abbrev pub Small : std.Option ℕ → Type 0
Small (Some n) = n < 2 ^ 32
Small None = Unit {0}

-- each part to come has a slot or an edge of its own, of which there are no more than a limit, and the numbers are far from wrapping
pub record Within (limit : ℕ) (at : Progress) : Type 0 where
  pub parts : at.height ≤ at.left
  pub slots : at.left ≤ limit
  pub place : at.place < 2 ^ 39
  pub weight : at.weight < 2 ^ 39

-- so after a step, which adds little
abbrev pub Further : Progress → std.Option Progress → Type 0
Further at (Some p) =
    (p.height ≤ p.left) × (p.left ≤ at.left) × (p.place ≤ at.place + 2 ^ 33) × (p.weight ≤ at.weight + 2 ^ 33)
Further at None = Unit {0}
