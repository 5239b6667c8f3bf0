-- What a listing accepts: document 01, "Tables" and the rows grammar block, utterance block and listing of "Where each check stands"; document
-- 02, N1, of slots and of word graphs, and N8, within the limits of the library or of the panel. Stands on packing's and derivation's
-- definitions, and on the chart's size of a table.
use Rattle.std.specs.Prelude.{◌≡◌, List, ℕ, ◌*◌, ◌≤◌, ltb}
use Rattle.bits.specs.Bits.{pick}
use Rattle.packing.specs.Meaning.{Grammar, Heard, last_place}
use Rattle.packing.specs.Parse.{Verdict, accepted, refused, ◌then◌}
use Rattle.packing.specs.Grammar.{grammar_block}
use Rattle.packing.specs.Heard.{heard_block}
use Rattle.derivation.specs.Heard.{output_length}
use Rattle.chart.specs.WorkTable.{table_size}
use Rattle.listing_limits.specs.declared.Limits.{Limits}

-- the most slots, in a graph one less than its places, and the most readings: "The library keeps 24 and 256", the panel has "at most 12 slots and
-- 16 readings", "12 slots or 13 places"
abbrev pub library : Limits
library = record { slots = 24; readings = 256 }

abbrev pub panel : Limits
panel = record { slots = 12; readings = 16 }

-- what was heard, if both blocks are accepted, and N are within the limits
pub record Within (l : Limits) (grammar heard : List ℕ) (N : ℕ) : Type 0 where
  pub slots : (g : Grammar) (h : Heard) → grammar_block grammar ≡ accepted g → heard_block g.words heard ≡ accepted h → last_place h ≤ l.slots
  pub readings : N ≤ l.readings

-- the conditions 57 ("after 16"), 21, 58 ("directly after 21"), 22 and 23, in this order, of a grammar and of what was heard, both accepted, for a
-- work table and an output of these lengths
unfoldable pub conditions : Limits → Grammar → Heard → (N work out : ℕ) → Verdict (Grammar × Heard)
conditions l g h N work out =
    pick (ltb l.slots (last_place h)) (refused 57)
    (pick (ltb N 1) (refused 21)
    (pick (ltb 256 N) (refused 21)
    (pick (ltb l.readings N) (refused 58)
    (pick (ltb work (table_size g.symbols (last_place h) N)) (refused 22)
    (pick (ltb out (N * output_length g h)) (refused 23)
    (accepted (g, h)))))))

-- the grammar and what was heard, of which N readings are listed, or the refusal
unfoldable pub asked_listing : Limits → (grammar heard : List ℕ) → (N work out : ℕ) → Verdict (Grammar × Heard)
asked_listing l grammar heard N work out =
    grammar_block grammar then λ g. heard_block g.words heard then λ h. conditions l g h N work out
