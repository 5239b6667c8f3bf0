-- Costs known within ranges as a function that can be run: what is asked for (Conditions), and then the three passes of cost_changes' Passes. Nobody
-- need believe this page: cost_changes' Ranges says what the answer is over all choices, and proofs/WaysOut that this is it (Meant).
use Rattle.std.specs.Prelude.{◌≡◌, true, List, ℕ, ◌≤◌, length, replicate}
use Rattle.packing.specs.Meaning.{Grammar, Utterance}
use Rattle.packing.specs.Parse.{Verdict, accepted, refused, ◌then◌}
use Rattle.packing.specs.Grammar.{grammar_block}
use Rattle.packing.specs.Utterance.{utterance_block}
use Rattle.cost_changes.specs.Ranges.{rises, Answer, nothing, outweighed, stands, Answers}
use Rattle.cost_changes.specs.Passes.{answer}
use Rattle.chart.specs.WorkTable.{table_size}
use Rattle.cost_ranges.specs.Conditions.{ranges_conditions}
use Rattle.cost_ranges.specs.declared.Ranged.{Ranged}
use Rattle.cost_ranges.specs.declared.Ranged.TheVariants.{Nothing, Outweighed, Stands}

-- of a grammar and of the utterances with low and high costs, all accepted
unfoldable pub ranged : Grammar → Utterance → Utterance → ℕ → Verdict Answer
ranged g low high work = ranges_conditions g low high work then λ b. accepted (answer b.0 b.1 b.2)

-- the answer, or the refusal, for a work table of this length
unfoldable pub ranges : List ℕ → List ℕ → List ℕ → ℕ → Verdict Answer
ranges grammar low high work =
    grammar_block grammar then λ g. utterance_block g.words low then λ u. utterance_block g.words high then λ v. ranged g u v work

-- the code's answer
abbrev pub answered : Answer → Ranged
answered nothing = Nothing
answered (outweighed least greatest) = Outweighed (record { least = least; greatest = greatest })
answered (stands least greatest) = Stands (record { least = least; greatest = greatest })

abbrev pub ranged_of : Verdict Answer → Verdict Ranged
ranged_of v = v then λ a. accepted (answered a)

-- what is to hold where all is accepted and `AnswerIs a` says that a was answered: it is the answer over all choices of costs between low
-- and high, and the work table is all zeros
abbrev pub Meant : (grammar low high work : List ℕ) (AnswerIs : Answer → Type 0) (work' : List ℕ) → Type 0
Meant grammar low high work AnswerIs work' =
    (g : Grammar) → grammar_block grammar ≡ accepted g → (u : Utterance) → utterance_block g.words low ≡ accepted u
    → (v : Utterance) → utterance_block g.words high ≡ accepted v → rises u v ≡ true → table_size g.symbols (length u) 1 ≤ length work
    → (a : Answer) × AnswerIs a × Answers g u v a × (work' ≡ replicate (length work) 0)
