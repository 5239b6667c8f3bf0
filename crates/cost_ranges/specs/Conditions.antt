-- What the service for costs known within ranges accepts: document 02, N11, with the rows grammar block and utterance block of document 01's "Where
-- each check stands". Stands on packing's definitions, on cost_changes' Ranges and on the chart's size of a table.
use Rattle.std.specs.Prelude.{List, ℕ, ltb, length}
use Rattle.bits.specs.Bits.{pick}
use Rattle.packing.specs.Meaning.{Grammar, Utterance}
use Rattle.packing.specs.Parse.{Verdict, accepted, refused, ◌then◌}
use Rattle.packing.specs.Grammar.{grammar_block}
use Rattle.packing.specs.Utterance.{utterance_block}
use Rattle.cost_changes.specs.Ranges.{rises}
use Rattle.chart.specs.WorkTable.{table_size}

-- 59, and then 22 for one reading, of a grammar and of the utterances with low and high costs, all accepted, for a work table of this length
unfoldable pub ranges_conditions : Grammar → (low high : Utterance) (work : ℕ) → Verdict (Grammar × Utterance × Utterance)
ranges_conditions g low high work =
    pick (rises low high) (pick (ltb work (table_size g.symbols (length low) 1)) (refused 22) (accepted (g, low, high))) (refused 59)

-- the grammar and both utterances, or the refusal: "59 .. after both blocks' own checks, the low block's first"
unfoldable pub asked_ranges : (grammar low high : List ℕ) (work : ℕ) → Verdict (Grammar × Utterance × Utterance)
asked_ranges grammar low high work =
    grammar_block grammar then λ g. utterance_block g.words low then λ u. utterance_block g.words high then λ v. ranges_conditions g u v work
