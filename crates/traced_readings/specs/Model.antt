-- The reading of a rank as the code writes it, from the table and the rules. Nobody need believe this page: proofs/Packed joins it to derivation's
-- `packed`.
use Rattle.std.specs.Prelude.{◌≡◌, Bool, List, ℕ, ◌+◌, ◌-◌, ◌*◌, ◌/◌, ◌≤◌, length, replicate}
use Rattle.bits.specs.Bits.{pick}
use Rattle.packing.specs.Store.{store_all}
use Rattle.packing.specs.Reading.{block_of_reading, reading_length}
use Rattle.packing.specs.GraphReading.{block_of_graph_reading, graph_reading_length, padded}
use Rattle.reading_writer.specs.Answer.{reading_of}
use Rattle.graph_reading_writer.specs.Answer.{graph_reading_of}
use Rattle.chart_table.specs.declared.Layout.{Layout}
use Rattle.chart.specs.Chart.{root_weight, root_trace}
use Rattle.traced_readings.specs.declared.Form.{Form}

-- the bytes that a reading takes in the output, for the last place n under R rules, and the form of such readings
abbrev pub size_of : Bool → ℕ → ℕ → ℕ
size_of graph n R = pick graph (graph_reading_length n R) (reading_length n R)

abbrev pub form_of : Bool → ℕ → ℕ → Form
form_of graph n R = record { graph = graph; rules = R; size = size_of graph n R }

-- a form for the last place n, within a limit
pub record FormFor (limit n : ℕ) (f : Form) : Type 0 where
  pub some_place : 1 ≤ n
  pub places : n ≤ limit
  pub some_rule : 1 ≤ f.rules
  pub rules : f.rules ≤ 256
  pub size : f.size ≡ size_of f.graph n f.rules

-- the numbers of a path of n edges: two for each of its nodes
abbrev pub trace_numbers : ℕ → ℕ
trace_numbers n = 2 * (2 * n - 1)

-- the trace of rank x of the root of a table, in an array of so many zeros; in one for a path over all places; and how many edges its path has
abbrev pub trace_in : (room : ℕ) → List ℕ → List ℕ → Layout → ℕ → List ℕ
trace_in room t rules d x = store_all (replicate room 0) 0 (root_trace t rules d x)

abbrev pub trace_at : List ℕ → List ℕ → Layout → ℕ → List ℕ
trace_at t rules d x = trace_in (trace_numbers d.last) t rules d x

abbrev pub edges_at : List ℕ → List ℕ → Layout → ℕ → ℕ
edges_at t rules d x = (length (root_trace t rules d x) / 2 + 1) / 2

-- the array has room for so many numbers, and the trace of rank x in front of zeros, of which there are this many
pub record Traced (room : ℕ) (trace t rules : List ℕ) (d : Layout) (x numbers : ℕ) : Type 0 where
  pub stands : trace ≡ trace_in room t rules d x
  pub count : numbers ≡ length (root_trace t rules d x)

-- its reading, packed
unfoldable pub block_at : List ℕ → List ℕ → Layout → Form → ℕ → List ℕ
block_at t rules d f x =
    pick f.graph
    (padded f.size (block_of_graph_reading f.rules (graph_reading_of rules (edges_at t rules d x) (root_weight t d x) (trace_at t rules d x))))
    (block_of_reading f.rules (reading_of d.last (root_weight t d x) (trace_at t rules d x)))
