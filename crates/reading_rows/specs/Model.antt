-- What the parts of the code promise. Nobody need believe this page: the proofs join it to specs/Rows. Assumes nothing.
use Rattle.std.specs.Prelude.{◌≡◌, List, ◌++◌, ℕ, ◌+◌, ◌-◌, ◌*◌, ◌≤◌, ◌<◌, length, take, drop}
use Rattle.packing.specs.Meaning.{Grammar, Marked, grammar_of, Heard, last_place, heard_edges, Reading}
use Rattle.packing.specs.Parse.{parsed}
use Rattle.packing.specs.Source.{bytes}
use Rattle.packing.specs.Reading.{block_of_reading}
use Rattle.packing.specs.GraphReading.{GraphHead, graph_head_from}
use Rattle.packing.specs.Flat.{Begins, rule_numbers, mark_numbers, rules_of}
use Rattle.packing.specs.Valid.{ValidGrammar, ValidMarked, ValidHeard, ValidReading}
use Rattle.derivation.specs.Derivation.{Tree, Derivation, weight, walk}
use Rattle.derivation.specs.Heard.{packed}
use Rattle.derivation.specs.Path.{rules_read}
use Rattle.heard_reader.specs.Answer.{is_graph}
use Rattle.office_theory.specs.Matching.{without_marked}
use Rattle.traced_readings.specs.Model as Traced
use Rattle.reading_rows.specs.Rows.{row_of}
use Rattle.reading_rows.specs.declared.Shape.{Shape}
use Rattle.reading_rows.specs.declared.Line.{Line}

-- the last place and R in their ranges
pub record Bounded (s : Shape) : Type 0 where
  pub some_place : 1 ≤ s.last
  pub places : s.last ≤ 24
  pub some_rule : 1 ≤ s.rules
  pub rules : s.rules ≤ 256

-- the shape of a grammar's readings of what was heard, and the length of one in the output
abbrev pub shape_of : Grammar → Heard → Shape
shape_of g h = record { graph = is_graph h; last = last_place h; rules = length g.rules }

abbrev pub size_of : Shape → ℕ
size_of s = Traced.size_of s.graph s.last s.rules

-- no derivation has more nodes
abbrev pub Few : Line → Type 0
Few r = r.nodes ≤ 47

-- where a part of the output is the packed reading of a derivation, the line has its weight, and the array begins with its rule numbers
abbrev pub Says : (rules : List ℕ) → Shape → (block : List ℕ) → Line → (array : List ℕ) → Type 0
Says rules s block r array =
    (g : Grammar) (h : Heard) (t : Tree) → ValidGrammar g → ValidHeard g.words h → Begins (rule_numbers g) rules → s ≡ shape_of g h → Derivation g h t
    → block ≡ packed g h t → (r.weight ≡ weight g (heard_edges h) t) × (r.nodes ≡ length (walk t)) × Begins (walk t) array

-- where a block is that of a reading of slots
abbrev pub SlotsSay : Shape → (block : List ℕ) → Line → (array : List ℕ) → Type 0
SlotsSay s block r array =
    (d : Reading) → ValidReading s.rules d → d.slots ≡ s.last → block ≡ block_of_reading s.rules d
    → (r.weight ≡ d.weight) × (r.nodes ≡ 2 * d.slots - 1) × Begins d.walk array

-- the rule numbers of a graph's reading stand in the array, where they can be read
abbrev pub WalkRead : (rules : List ℕ) (R nodes : ℕ) (block array : List ℕ) → Type 0
WalkRead rules R nodes block array =
    (l : List ℕ) (next : ℕ) → rules_read (rules_of rules R) (bytes 31 block) nodes 34 ≡ parsed l next → Begins l array

-- where a block's head and its rule numbers can be read
abbrev pub GraphSays : (rules : List ℕ) → Shape → (block : List ℕ) → Line → (array : List ℕ) → Type 0
GraphSays rules s block r array =
    (d : GraphHead) (l : List ℕ) (next : ℕ) → graph_head_from s.last s.rules block ≡ parsed d 34
    → rules_read (rules_of rules s.rules) (bytes 31 block) (2 * d.edges - 1) 34 ≡ parsed l next
    → (r.weight ≡ d.weight) × (r.nodes ≡ 2 * d.edges - 1) × Begins l array

-- the n numbers of a walk whose rules are not marked stand in front of what stood behind them
abbrev pub Shown : (marks walk : List ℕ) (n : ℕ) (array array' : List ℕ) → Type 0
Shown marks walk n array array' = (n ≡ length (without_marked marks walk)) × (array' ≡ without_marked marks walk ++ drop n array)

-- where a part of the output is the packed reading of a derivation, its row is written
abbrev pub RowSays : (rules marks : List ℕ) → Shape → (block : List ℕ) (rank : ℕ) (row' : List ℕ) → Type 0
RowSays rules marks s block rank row' =
    (m : Marked) (h : Heard) (t : Tree) → ValidMarked m → ValidHeard m.words h → Begins (rule_numbers (grammar_of m)) rules → Begins (mark_numbers m) marks
    → s ≡ shape_of (grammar_of m) h → Derivation (grammar_of m) h t → block ≡ packed (grammar_of m) h t → row' ≡ row_of rank m h t

-- the rows of the first readings, in front of what stood behind them
pub record RowsSay (rules marks : List ℕ) (s : Shape) (out : List ℕ) (found : ℕ) (shown shown' : List ℕ) : Type 0 where
  pub each : (j : ℕ) → j < found → RowSays rules marks s (take (size_of s) (drop (j * size_of s) out)) (j + 1) (take 50 (drop (j * 50) shown'))
  pub beyond : drop (found * 50) shown' ≡ drop (found * 50) shown
