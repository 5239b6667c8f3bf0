-- An utterance without the candidates that were not heard: document 02, N3, "The comparison with document 001 is made after those
-- candidates are struck out". Stands on packing's Meaning.
use Rattle.std.specs.Prelude.{List, [], ◌∷◌, map, ltb}
use Rattle.bits.specs.Bits.{pick}
use Rattle.packing.specs.Meaning.{not_heard, Utterance, Candidate, candidate}

-- the candidates of a slot that were heard
unfoldable pub heard : List Candidate → List Candidate
heard [] = []
heard (candidate x c ∷ slot) = pick (ltb c not_heard) (candidate x c ∷ heard slot) (heard slot)

abbrev pub struck_out : Utterance → Utterance
struck_out u = map heard u
