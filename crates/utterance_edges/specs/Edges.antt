-- The edges of an utterance whose slots stand in an array: document 01, "Grammars and derivations", an utterance's slots. Assumes nothing.
-- Nobody need believe this page: no service's promise names it.
use Rattle.std.specs.Prelude.{List, ℕ, min, get_or}
use Rattle.packing.specs.Meaning.{Edge, slot_edges, edges_from}
use Rattle.packing.specs.Flat.{candidates_of, slots_by}

-- n edges of slot i, whose words and costs stand from place p on
abbrev pub candidate_edges : List ℕ → ℕ → ℕ → ℕ → List Edge
candidate_edges l i n p = slot_edges i (candidates_of l n p)

-- the number of candidates at place p, 7 where it says more
abbrev pub at_most7 : ℕ → ℕ
at_most7 n = min n 7

abbrev pub candidates_at : List ℕ → ℕ → ℕ
candidates_at l p = at_most7 (get_or l p 0)

-- n slots from slot i on, the first of which stands at place p
abbrev pub slots_edges : List ℕ → ℕ → ℕ → ℕ → List Edge
slots_edges l n i p = edges_from i (slots_by at_most7 l n p)

-- the edges of the n slots that the array begins with
abbrev pub edges_in : List ℕ → ℕ → List Edge
edges_in l n = slots_edges l n 0 0
