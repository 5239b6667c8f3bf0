-- The listing as a function that can be run: what is asked for (Conditions), and then the first N of the sorted enumeration of derivation's
-- HeardList, packed. Nobody need believe this page: Demand3 says by ranks what is listed, and proofs/Demand3 that this is it.
use Rattle.std.specs.Prelude.{List, [], ◌∷◌, ◌++◌, map, ℕ, length, drop}
use Rattle.packing.specs.Meaning.{Grammar, Heard}
use Rattle.packing.specs.Parse.{Verdict, accepted, refused, ◌then◌}
use Rattle.packing.specs.Grammar.{grammar_block}
use Rattle.packing.specs.Heard.{heard_block}
use Rattle.derivation.specs.Heard.{packed}
use Rattle.derivation.specs.HeardList.{least_derivations}
use Rattle.listing.specs.Conditions.{conditions}
use Rattle.listing_limits.specs.declared.Limits.{Limits}

-- the N least readings, each packed as it stands in the output
abbrev pub readings_of : ℕ → Grammar × Heard → List (List ℕ)
readings_of N b = map (packed b.0 b.1) (least_derivations b.0 b.1 N)

-- of a grammar and of what was heard, both accepted
unfoldable pub listed : Limits → Grammar → Heard → ℕ → ℕ → ℕ → Verdict (List (List ℕ))
listed l g h N work out = conditions l g h N work out then λ b. accepted (readings_of N b)

-- the readings found, or the refusal, for a work table and an output of these lengths
unfoldable pub list : Limits → List ℕ → List ℕ → ℕ → ℕ → ℕ → Verdict (List (List ℕ))
list l grammar heard N work out =
    grammar_block grammar then λ g. heard_block g.words heard then λ h. listed l g h N work out

-- one after another
unfoldable pub joined : List (List ℕ) → List ℕ
joined [] = []
joined (l ∷ ls) = l ++ joined ls

-- the output afterwards; a refusal changes nothing
abbrev pub output_after : Verdict (List (List ℕ)) → List ℕ → List ℕ
output_after (accepted ls) out = joined ls ++ drop (length (joined ls)) out
output_after (refused n) out = out
