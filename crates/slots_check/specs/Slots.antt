-- The slots of an array, and the states of the walk's run as numbers in flat arrays. Nobody need believe this page: no service's promise names it.
-- Assumes nothing.
use Rattle.std.specs.Prelude.{List, ℕ, ◌+◌, ◌*◌, get_or, Option, Some, None}
use Rattle.packing.specs.Meaning.{Candidate}
use Rattle.packing.specs.Flat.{candidates_of, slots_of}
use Rattle.derivation.specs.Walk.{State, onward, stuck}
use Rattle.parse_stack.specs.Stack.{heads_of}
use Rattle.parse_stack.specs.declared.Progress.{Progress}

-- the slot at place p, and the place behind it
abbrev pub slot_at : List ℕ → ℕ → List Candidate
slot_at l p = candidates_of l (get_or l p 0) (p + 1)

abbrev pub behind : List ℕ → ℕ → ℕ
behind l p = p + 1 + 2 * get_or l p 0

-- what the code's answers say
abbrev pub state_of : List ℕ → List ℕ → Option Progress → State
state_of slots stack (Some p) = onward (slots_of slots p.left p.place) (heads_of stack p.height) p.weight
state_of slots stack None = stuck
