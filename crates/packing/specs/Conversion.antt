-- The four conversions: document 01, "The services" and the row sheet or block output; and demand 2, that sheets and blocks turn
-- into each other without change. Assumes nothing.
use Rattle.std.specs.Prelude.{◌≡◌, List, ◌++◌, ℕ, ltb, length, take, drop}
use Rattle.bits.specs.Bits.{pick}
use Rattle.packing.specs.Parse.{Verdict, accepted, refused, ◌then◌}
use Rattle.packing.specs.Grammar.{marked_block, marked_sheet, grammar_block, block_of_marked, sheet_of_marked}
use Rattle.packing.specs.Utterance.{utterance_block, utterance_sheet, block_of_utterance, sheet_of_utterance}

-- what each conversion writes, or its refusal; a grammar keeps its kind
unfoldable pub grammar_to_block : List ℕ → Verdict (List ℕ)
grammar_to_block sheet = marked_sheet sheet then λ m. accepted (block_of_marked m)

unfoldable pub grammar_to_sheet : List ℕ → Verdict (List ℕ)
grammar_to_sheet block = marked_block block then λ m. accepted (sheet_of_marked m)

-- an utterance under a grammar of W words, and under a grammar block
abbrev pub block_under : ℕ → List ℕ → Verdict (List ℕ)
block_under W sheet = utterance_sheet W sheet then λ u. accepted (block_of_utterance W u)

abbrev pub sheet_under : ℕ → List ℕ → Verdict (List ℕ)
sheet_under W block = utterance_block W block then λ u. accepted (sheet_of_utterance W u)

unfoldable pub utterance_to_block : List ℕ → List ℕ → Verdict (List ℕ)
utterance_to_block grammar sheet = grammar_block grammar then λ g. block_under g.words sheet

unfoldable pub utterance_to_sheet : List ℕ → List ℕ → Verdict (List ℕ)
utterance_to_sheet grammar block = grammar_block grammar then λ g. sheet_under g.words block

-- 43 where the output is shorter than the result
unfoldable pub fitting : Verdict (List ℕ) → List ℕ → Verdict (List ℕ)
fitting v out = v then λ l. pick (ltb (length out) (length l)) (refused 43) (accepted l)

-- the output afterwards: the result and what stood beyond it; all as it was on a refusal
abbrev pub written : Verdict (List ℕ) → List ℕ → List ℕ
written (accepted l) out = l ++ drop (length l) out
written (refused n) out = out

-- without change: what was written, n numbers where the answer is n, turns back into what was given
abbrev pub TurnsBack : (back : List ℕ → Verdict (List ℕ)) (given : List ℕ) (AnswerIs : ℕ → Type 0) (out : List ℕ) → Type 0
TurnsBack back given AnswerIs out = (n : ℕ) → AnswerIs n → back (take n out) ≡ accepted given
