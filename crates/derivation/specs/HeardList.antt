-- The N least derivations of what was heard as a function that can be run. Nobody need believe this page to believe demand 3:
-- proofs/HeardTheorems says that the list has the derivations by their ranks, each once and none left out. Stands on List.
use Rattle.std.specs.Prelude.{List, ℕ, take}
use Rattle.packing.specs.Meaning.{symbol_of, Grammar, Heard, last_place, heard_edges}
use Rattle.derivation.specs.Derivation.{Tree}
use Rattle.derivation.specs.List.{ranked}

-- all derivations, the least first
abbrev pub derivations : Grammar → Heard → List Tree
derivations g h = ranked g (heard_edges h) (symbol_of 0) 0 (last_place h)

-- the N least of them
abbrev pub least_derivations : Grammar → Heard → ℕ → List Tree
least_derivations g h N = take N (derivations g h)
