-- Valid meanings: those that a block can have, as no condition of its row in document 01's "Where each check stands" holds.
-- Assumes nothing.
use Rattle.std.specs.Prelude.{◌≡◌, Bool, List, [], ◌∷◌, ℕ, ◌-◌, ◌*◌, ◌^◌, ◌≤◌, ◌<◌, length, get_or}
use Rattle.bits.specs.Bits.{pick}
use Rattle.packing.specs.Meaning.{Grammar, MarkedRule, marked, Marked, Utterance, Reading, Graph, Heard, slots, graph, GraphReading}
use Rattle.packing.specs.Source.{Entry, entry, Field}
use Rattle.packing.specs.Alike.{NoTwo, All}
use Rattle.packing.specs.Grammar.{alike, grammar_entries, marked_alike, marked_entries}
use Rattle.packing.specs.Utterance.{utterance_entries}
use Rattle.packing.specs.Reading.{reading_entries}
use Rattle.packing.specs.Graph.{edges_alike, graph_entries}
use Rattle.packing.specs.GraphReading.{graph_reading_entries, word_nodes}
use Rattle.packing.specs.declared.Rule as R

-- a list of bytes
abbrev pub Bytes : List ℕ → Type 0
Bytes s = (i : ℕ) → get_or s i 0 < 256

-- a value within its field's least and most, and one that can be written in its width
abbrev pub InRange : Field → ℕ → Type 0
InRange f v = (f.least ≤ v) × (v ≤ f.most)

abbrev pub InWidth : Field → ℕ → Type 0
InWidth f v = v < 2 ^ f.width

-- it is so of every entry
abbrev pub Each : (Field → ℕ → Type 0) → List Entry → Type 0
Each P [] = Unit {0}
Each P (entry f v ∷ es) = P f v × Each P es

abbrev pub Fits : List Entry → Type 0
Fits es = Each InRange es

-- no two rules have kind, head and body alike
abbrev pub Unlike : List R.Rule → Type 0
Unlike rs = NoTwo alike rs

abbrev pub ValidGrammar : Grammar → Type 0
ValidGrammar g = Fits (grammar_entries g) × Unlike g.rules

-- a mark is 0 or 1, and 0 where rules bear none
abbrev pub MarkWithin : Bool → MarkedRule → Type 0
MarkWithin marking (marked r m) = m ≤ pick marking 1 0

abbrev pub ValidMarked : Marked → Type 0
ValidMarked m = Fits (marked_entries m) × NoTwo marked_alike m.rules × All (MarkWithin m.marking) m.rules

-- under a grammar of W words; that words ascend is in the entries' least
abbrev pub ValidUtterance : ℕ → Utterance → Type 0
ValidUtterance W u = Fits (utterance_entries W u)

-- under a grammar of R rules: 2n − 1 numbers of the rule width, which need not be a walk
abbrev pub ValidReading : ℕ → Reading → Type 0
ValidReading R d = Fits (reading_entries R d) × Each InWidth (reading_entries R d) × (length d.walk ≡ 2 * d.slots - 1)

-- no two edges have from, to and word alike; that an edge goes forward, within P places, is in the entries' ranges
abbrev pub ValidGraph : ℕ → Graph → Type 0
ValidGraph W g = Fits (graph_entries W g) × NoTwo edges_alike g.edges

abbrev pub ValidHeard : ℕ → Heard → Type 0
ValidHeard W (slots u) = ValidUtterance W u
ValidHeard W (graph g) = ValidGraph W g

-- under a grammar of R rules: n word rules and n − 1 pair rules, which need not be a derivation's
abbrev pub ValidGraphReading : ℕ → GraphReading → Type 0
ValidGraphReading R d =
    Fits (graph_reading_entries R d) × Each InWidth (graph_reading_entries R d) × (length d.trace ≡ 2 * d.edges - 1) × (word_nodes d.trace ≡ d.edges)
