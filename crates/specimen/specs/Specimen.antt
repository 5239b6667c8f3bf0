-- The specimen as a function that can be run: what is asked for (Conditions), and then the first of the enumeration of phrases. Nobody need believe
-- this page: phrases' theorems say that this is the least phrase of its length.
use Rattle.std.specs.Prelude.{◌≡◌, List, ◌++◌, ℕ, Result, length, drop}
use Rattle.std.proofs.Math.Option.{Option, none, some}
use Rattle.packing.specs.Parse.{Verdict, accepted, refused, ◌then◌}
use Rattle.packing.specs.Read.{as_verdict}
use Rattle.packing.specs.declared.refusal.Refusal.{Refusal}
use Rattle.phrases.specs.Enumeration.{first_phrase}
use Rattle.specimen.specs.Conditions.{asked}

-- the first string of n words, or that there is none
unfoldable pub specimen : List ℕ → ℕ → ℕ → Verdict (Option (List ℕ))
unfolding asked
specimen grammar n out = asked 24 grammar n out then λ g. accepted (first_phrase g n)

-- the service's answer, the length of the string that was written, 0 for none; and its output: "one word number a byte, bytes beyond unchanged"
abbrev pub string_length : Option (List ℕ) → ℕ
string_length none = 0
string_length (some s) = length s

abbrev pub length_told : Verdict (Option (List ℕ)) → Verdict ℕ
length_told due = due then λ o. accepted (string_length o)

abbrev pub output_of : Verdict (Option (List ℕ)) → List ℕ → List ℕ
output_of (refused m) out = out
output_of (accepted none) out = out
output_of (accepted (some s)) out = s ++ drop (length s) out

-- both, of what is due and the output before
abbrev pub WritesString : Verdict (Option (List ℕ)) → (before : List ℕ) → Result ℕ Refusal → (after : List ℕ) → Type 0
WritesString due before r after = (as_verdict r ≡ length_told due) × (after ≡ output_of due before)
