-- What the service for words to listen to again accepts: document 02, N12, with the rows grammar block and utterance block of document 01's "Where
-- each check stands". Stands on packing's definitions and on the chart's size of a table.
use Rattle.std.specs.Prelude.{◌≡◌, ◌⊎◌, List, ℕ, ◌*◌, ltb, length}
use Rattle.bits.specs.Bits.{pick}
use Rattle.packing.specs.Meaning.{Grammar, Utterance, edges}
use Rattle.packing.specs.Parse.{Verdict, accepted, refused, ◌then◌}
use Rattle.packing.specs.Grammar.{grammar_block}
use Rattle.packing.specs.Utterance.{utterance_block}
use Rattle.chart.specs.WorkTable.{table_size}

-- "The work table is as for one reading (22); next, an output shorter than four numbers for each candidate in the utterance block gives 43", for
-- a work table and an output of these lengths. An utterance has an edge for each candidate, whether it was heard or not
unfoldable pub margins_conditions : Grammar → Utterance → (work out : ℕ) → Verdict (Grammar × Utterance)
margins_conditions g u work out =
    pick (ltb work (table_size g.symbols (length u) 1)) (refused 22)
    (pick (ltb out (4 * length (edges u))) (refused 43) (accepted (g, u)))

-- what is refused beyond the rows of both blocks
abbrev pub MarginsRow : ℕ → Type 0
MarginsRow n = (n ≡ 22) ⊎ (n ≡ 43)

-- the grammar and the utterance, or the refusal; "This is for slots only": of another kind the block is refused with 12
unfoldable pub asked_margins : (grammar utterance : List ℕ) (work out : ℕ) → Verdict (Grammar × Utterance)
asked_margins grammar utterance work out =
    grammar_block grammar then λ g. utterance_block g.words utterance then λ u. margins_conditions g u work out
