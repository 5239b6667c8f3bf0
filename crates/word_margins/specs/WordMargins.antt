-- Which word to listen to again as a function that can be run: what is asked for (Conditions), and then the list of cost_changes' Listed. Nobody need
-- believe this page: cost_changes' Margins says what the list is, and proofs/WaysOut that this is it (Meant).
use Rattle.std.specs.Prelude.{◌≡◌, List, ◌++◌, ℕ, ◌*◌, ◌≤◌, length, drop, replicate}
use Rattle.packing.specs.Meaning.{Grammar, Utterance, edges}
use Rattle.packing.specs.Parse.{Verdict, accepted, refused, ◌then◌}
use Rattle.packing.specs.Grammar.{grammar_block}
use Rattle.packing.specs.Utterance.{utterance_block}
use Rattle.cost_changes.specs.Margins as M
use Rattle.cost_changes.specs.Margins.{list_numbers}
use Rattle.cost_changes.specs.Listed.{margins_of}
use Rattle.chart.specs.WorkTable.{table_size}
use Rattle.word_margins.specs.Conditions.{margins_conditions}

-- of a grammar and an utterance, both accepted
unfoldable pub listed : Grammar → Utterance → ℕ → ℕ → Verdict (List M.MarginEntry)
listed g u work out = margins_conditions g u work out then λ b. accepted (margins_of b.0 b.1)

-- the list, or the refusal, for a work table and an output of these lengths
unfoldable pub margins : List ℕ → List ℕ → ℕ → ℕ → Verdict (List M.MarginEntry)
margins grammar utterance work out = grammar_block grammar then λ g. utterance_block g.words utterance then λ u. listed g u work out

-- "The answer is the number of entries", as the listing's is of readings (`counted`); "output beyond them is unchanged", and the work table
-- is all zeros (`workAfter`); a refusal changes nothing
abbrev pub output_after : Verdict (List M.MarginEntry) → List ℕ → List ℕ
output_after (accepted l) out = list_numbers l ++ drop (length (list_numbers l)) out
output_after (refused n) out = out

-- what is to hold where all is accepted and `AnswerIs l` says that l was answered: l is the list of the request, its numbers stand at the front
-- of the output, and the work table is all zeros
abbrev pub Meant : (grammar utterance work out : List ℕ) (AnswerIs : List M.MarginEntry → Type 0) (work' out' : List ℕ) → Type 0
Meant grammar utterance work out AnswerIs work' out' =
    (g : Grammar) → grammar_block grammar ≡ accepted g → (u : Utterance) → utterance_block g.words utterance ≡ accepted u
    → table_size g.symbols (length u) 1 ≤ length work → 4 * length (edges u) ≤ length out
    → (l : List M.MarginEntry) × AnswerIs l × M.Margins g u l × (out' ≡ list_numbers l ++ drop (length (list_numbers l)) out)
    × (work' ≡ replicate (length work) 0)
