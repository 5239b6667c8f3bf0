-- A call over arrays as functions. Nobody need believe this page: open_listing's theorems join it to its page Open.
use Rattle.std.specs.Prelude.{◌≡◌, Bool, true, false, List, ◌++◌, ℕ, ◌-◌, ◌*◌, ◌==◌, eqb, ltb, length, take, drop, replicate}
use Rattle.std.specs.List.{list_all}
use Rattle.bits.specs.Bits.{pick}
use Rattle.chart_table.specs.declared.Layout.{Layout}
use Rattle.chart_classes.specs.Classes.{index_numbers}
use Rattle.chart_index.specs.Build.{make_index}
use Rattle.chart_search.specs.Search.{next_of_root}
use Rattle.chart.specs.Chart.{enumerate, root_found}
use Rattle.open_answer.specs.Model.{is_reading, settled, output_by}
use Rattle.open_answer.specs.declared.Plan.{Plan}
use Rattle.open_answer.specs.Answer as A
use Rattle.open_answer.specs.Answer.{Full, Refused}
use Rattle.open_search.specs.Left.{Left, left}
use Rattle.open_search.specs.declared.Place.{Place}

-- whether all numbers are 0
unfoldable pub zeros : List ℕ → Bool
zeros l = list_all (λ x. x == 0) l

-- the table after the search of a first call, and after that of a later one
unfoldable pub first_table : (rules edges : List ℕ) → Plan → List ℕ → List ℕ
first_table rules edges p work =
    let d = p.layout in
    let single : Layout = record { symbols = d.symbols; last = d.last; ranks = 1; cells = d.cells } in
    enumerate rules p.form.rules edges p.edges single (4 * d.cells) ++ drop (4 * d.cells) work

unfoldable pub next_table : (rules edges : List ℕ) → Plan → ℕ → List ℕ → List ℕ
next_table rules edges p x work =
    next_of_root rules edges (make_index rules p.form.rules p.layout.symbols edges p.edges p.layout.last (replicate index_numbers 0))
    p.layout work x

-- what is left where rank x is there or not, as the first test says: the table and the reading, or everything as it was
pub record Answered (found : Bool) (table rules edges : List ℕ) (p : Plan) (x : ℕ) (work out : List ℕ) (r : A.CallAnswer) (work' out' : List ℕ) : Type 0 where
  pub answer : r ≡ settled table rules edges p x found
  pub left : work' ≡ pick (is_reading r) table work
  pub output : out' ≡ output_by (is_reading r) table rules p x out

-- in a table in which it was looked for
abbrev pub Searched : (table rules edges : List ℕ) → Plan → ℕ → (work out : List ℕ) → A.CallAnswer → (work' out' : List ℕ) → Type 0
Searched table rules edges p x = Answered (root_found table p.layout x) table rules edges p x

-- nothing is changed; rank x decides, where it is there or not, as the first test says
abbrev pub unchanged : A.CallAnswer → (work out : List ℕ) → Left
unchanged r work out = left r work out

abbrev pub answered_by : Bool → (table rules edges : List ℕ) → Plan → ℕ → (work out : List ℕ) → Left
answered_by found table rules edges p x work out =
    let r = settled table rules edges p x found in
    left r (pick (is_reading r) table work) (output_by (is_reading r) table rules p x out)

-- whether a call looks for the rank behind those that were handed out: at an opened place, and of a first call in a table whose front is zeros
unfoldable pub seeks : Plan → Place → List ℕ → Bool
seeks q p work = pick (eqb p.opened 1) (pick (eqb p.handed 0) (zeros (take (4 * q.layout.cells) work)) true) false

-- the table that its search makes; where nothing is looked for, the table as it stands
unfoldable pub table_by : (rules edges : List ℕ) → Plan → Place → List ℕ → List ℕ
table_by rules edges q p work =
    pick (seeks q p work) (pick (eqb p.handed 0) (first_table rules edges q work) (next_table rules edges q (p.handed - 1) work)) work

-- what a call answers and leaves where nothing is short and more can be handed out; a rank that was not looked for is taken for found
unfoldable pub sought_by : (rules edges : List ℕ) → Plan → Place → (work out : List ℕ) → Left
sought_by rules edges q p work out =
    let t = table_by rules edges q p work in
    answered_by (pick (seeks q p work) (root_found t q.layout p.handed) true) t rules edges q p.handed work out

-- and any call, by the arrays of rules and edges and the plan
unfoldable pub call_by : (rules edges : List ℕ) → Plan → Place → (work out : List ℕ) → Left
call_by rules edges q p work out =
    pick (ltb (length work) (4 * q.layout.cells * q.layout.ranks)) (unchanged (Refused 22) work out)
    (pick (ltb (length out) q.form.size) (unchanged (Refused 23) work out)
    (pick (ltb p.handed 256) (sought_by rules edges q p work out) (unchanged Full work out)))

-- an answer and what was lent are as this says
pub record As (l : Left) (r : A.CallAnswer) (work' out' : List ℕ) : Type 0 where
  pub answer : r ≡ l.answer
  pub table : work' ≡ l.table
  pub output : out' ≡ l.output
