-- The next phrase as a function that can be run: document 02, N9, by the enumeration of phrases. Nobody need believe this page: phrases' theorems say
-- that it is the least phrase above the one at hand.
use Rattle.std.proofs.Math.Option.{Option}
use Rattle.std.specs.Prelude.{List, ℕ, eqb, length, take}
use Rattle.bits.specs.Bits.{pick}
use Rattle.packing.specs.Parse.{Verdict, accepted, ◌then◌}
use Rattle.phrases.specs.Enumeration.{first_phrase, next_phrase}
use Rattle.specimen.specs.Conditions.{asked}

-- "The caller says whether a call is the first. The first call gives the specimen, or "end" if there is none. A later call finds some string
-- in the output and writes the least derivable one above it, or says "end" and writes nothing. 25 means outside 1 to 6 here; 26 applies."
unfoldable pub next : (grammar : List ℕ) (n first : ℕ) (out : List ℕ) → Verdict (Option (List ℕ))
unfolding asked
next grammar n first out =
    asked 6 grammar n (length out) then λ g. accepted (pick (eqb first 0) (next_phrase g n (take n out)) (first_phrase g n))
