-- What the theory assumes of the arrays and the layout, and the invariant of the search: what a table holds of the ranked lists
-- of its cells. A table that grows keeps what it holds, since all of that is said of entries that are found.
use mathlib.Core.Path.{◌≡◌}
use mathlib.Core.Logic.{⊎_elim}
use mathlib.Core.List.{List}
use Prim.Native.Nat.{ℕ, zero, suc, ◌+◌, ◌*◌, ◌≤◌, ◌<◌}
use native.Mathlib.Nat.{eq-or-lt_of_le}
use native.Mathlib.Omega.{arith}
use lib.ListN.{length, get_or}
use Rattle.packing.specs.declared.Sym.{Sym}
use Rattle.packing.specs.declared.Rule.TheVariants.{Pair}
use Rattle.packing.specs.Meaning.{word, Grammar, Edge, edge}
use Rattle.packing.specs.Flat.{rule_at}
use Rattle.derivation.specs.Derivation.{At, Tree, leaf, weight}
use Rattle.derivation.specs.Order.{cost_sum}
use Rattle.derivation.proofs.Rows.{Row, row}
use Rattle.chart_keys.specs.Keys.{weight_unit, back_number, back_pointer}
use Rattle.chart_table.specs.declared.Cell.{Cell}
use Rattle.chart_table.specs.declared.Layout.{Layout}
use Rattle.chart_table.specs.Table.{left_part, right_part, cell_number, price_at, back_at, last_rank}
use Rattle.chart_queue.specs.Queue.{queued_key, queue_length}
use Rattle.chart_index.specs.Index.{Indexed}
use Rattle.chart_theory.proofs.Table.Keys.{row_number, row_back, RowFits, decoded}
use Rattle.chart_theory.proofs.Table.Cells.{InChart, Planned, span, ranked_in, DerivesIn, RowAtIn}
use Rattle.chart_theory.proofs.Table.Entries.{InEntry}
use Rattle.chart_theory.proofs.Queue.Numbers.{tag_at}
use Rattle.chart_theory.proofs.Queue.Pool.{Queue, Fresh}

-- the arrays hold the grammar and the edges, the index is theirs, a key has room for all of their numbers, and by one rule a cell has one leaf
pub record Setting (g : Grammar) (es : List Edge) (rules edges index : List ℕ) (d : Layout) : Type 0 where
  pub kept : 0 < d.ranks
  pub few_ranks : d.ranks ≤ 256
  pub planned : Planned d
  pub few_places : d.last ≤ 31
  pub few_rules : length g.rules ≤ 256
  pub few_edges : length es ≤ 256
  pub rule_at_lem : (r : ℕ) → r < length g.rules → At g.rules r (rule_at rules r)
  pub edge_at_lem : (e : ℕ) → e < length es
      → At es e
      (edge (get_or edges (4 * e) 0) (get_or edges (4 * e + 1) 0) (word (get_or edges (4 * e + 2) 0)) (get_or edges (4 * e + 3) 0))
  pub indexed : Indexed rules edges index d.symbols (length g.rules) (length es) d.last
  pub parts : (A B C : Sym) (r w : ℕ) → At g.rules r (Pair A B C w) → (B.0 < d.symbols) × (C.0 < d.symbols)
  pub price_bound : (c : Cell) (z : Tree) → c.to ≤ d.last → DerivesIn g es c z
      → (weight g es z < 5592405) × (cost_sum es z < weight_unit)
  pub one_edge : (c : Cell) (r e f : ℕ) → DerivesIn g es c (leaf r e) → DerivesIn g es c (leaf r f) → e ≡ f

-- the price of a rank of a cell, plus 1; the rank, from 0, is found
abbrev pub price_in : Layout → List ℕ → Cell → ℕ → ℕ
price_in d t c = price_at t d (cell_number d c)

abbrev pub Found : Layout → List ℕ → Cell → ℕ → Type 0
Found d t c x = 0 < price_in d t c x

module _ (g : Grammar) (es : List Edge) (d : Layout) (t : List ℕ) where
  -- rank x is found, or there is none, or it is not kept
  abbrev pub Known : Cell → ℕ → Type 0
  Known c x = x < d.ranks → x < length (ranked_in g es c) → Found d t c x

module _ (g : Grammar) (es : List Edge) (d : Layout) (t : List ℕ) (c : Cell) where
  -- the parts of a pairing are found
  abbrev pub PartsFound : Row → Type 0
  PartsFound (row w r j p q) =
      (B C : Sym) (v : ℕ) → At g.rules r (Pair c.head B C v) → Found d t (left_part c B j) p × Found d t (right_part c C j) q

  -- the parts of a pairing's successors are known
  abbrev pub SuccessorsKnown : Row → Type 0
  SuccessorsKnown (row w r j p q) =
      (B C : Sym) (v : ℕ) → At g.rules r (Pair c.head B C v)
      → Known g es d t (right_part c C j) (suc q) × (q ≡ 0 → Known g es d t (left_part c B j) (suc p))

  -- the entry of rank x holds the row of that rank
  pub record HoldsRow (x : ℕ) (v : Row) : Type 0 where
    pub place : RowAtIn g es c x v
    pub fits : RowFits v
    pub priced : price_in d t c x ≡ row_number v + 1
    pub points : back_at t d (cell_number d c) x ≡ back_number (row_back v)
    pub parts : PartsFound v

  pub row_back_lem : {v : Row} (x : ℕ) → HoldsRow x v → back_pointer (back_at t d (cell_number d c) x) ≡ row_back v
  row_back_lem {v} x holds = rw holds.points (decoded (row_back v) holds.fits.has_key)

module _ (g : Grammar) (es : List Edge) (d : Layout) (t : List ℕ) (c : Cell) where
  -- the queue of the cell where n ranks are found, of which l is the last, and a candidate that follows o
  abbrev pub QueueIn : ℕ → Row → Type 0
  QueueIn n l =
      Queue g es d.ranks c (PartsFound g es d t c) n l (queue_length t d (cell_number d c)) (queued_key t d (cell_number d c))
      (tag_at t d (cell_number d c))

  abbrev pub FreshIn : (n : ℕ) → Row → (o key : ℕ) → Type 0
  FreshIn = Fresh g es d.ranks c (PartsFound g es d t c)

-- the invariant, where the first ranks of all spans shorter than m are known
pub record Invariant (g : Grammar) (es : List Edge) (d : Layout) (m : ℕ) (t : List ℕ) : Type 0 where
  pub room : 4 * (d.cells * d.ranks) ≤ length t
  pub holds : {c : Cell} (x : ℕ) → InChart d c → Found d t c x → (v : Row) × HoldsRow g es d t c x v
  pub prefix_closed : {c : Cell} (x : ℕ) → InChart d c → Found d t c (suc x) → Found d t c x
  pub first_known : {c : Cell} → InChart d c → span c < m → Known g es d t c 0
  pub successors_known : {c : Cell} {v : Row} (x : ℕ) → InChart d c → Found d t c (suc x) → RowAtIn g es c x v
      → SuccessorsKnown g es d t c v
  pub nonzero_found : (z : ℕ) → 0 < get_or t z 0
      → (c : Cell) × (x : ℕ) × InChart d c × Found d t c x × InEntry d (cell_number d c) x z
  pub last : {c : Cell} (x : ℕ) → InChart d c → Found d t c x → x ≤ last_rank t d (cell_number d c)
  pub no_queue : {c : Cell} → InChart d c → price_in d t c 0 ≡ 0 → queue_length t d (cell_number d c) ≡ 0
  pub queued : {c : Cell} {v : Row} (x : ℕ) → InChart d c → Found d t c x → suc x < d.ranks → price_in d t c (suc x) ≡ 0
      → RowAtIn g es c x v → QueueIn g es d t c (suc x) v

-- u has found what t has
pub record Grows (d : Layout) (t u : List ℕ) : Type 0 where
  pub keeps : (c x : ℕ) → 0 < price_at t d c x → 0 < price_at u d c x

module _ (g : Grammar) (es : List Edge) {d : Layout} {t u : List ℕ} (grows : Grows d t u) where
  pub known_grows : (c : Cell) (x : ℕ) → Known g es d t c x → Known g es d u c x
  known_grows c x known l m = grows.keeps _ x (known l m)

  pub parts_grow : (c : Cell) (v : Row) → PartsFound g es d t c v → PartsFound g es d u c v
  parts_grow c (row w r j p q) parts = λ B C v rule.
      let (l, m) = parts B C v rule in (grows.keeps _ p l, grows.keeps _ q m)

  pub successors_grow : (c : Cell) (v : Row) → SuccessorsKnown g es d t c v → SuccessorsKnown g es d u c v
  successors_grow c (row w r j p q) known = λ B C v rule.
      let (l, m) = known B C v rule in
      (known_grows (right_part c C j) (suc q) l, λ e. known_grows (left_part c B j) (suc p) (m e))

-- the invariant holds of u, which has found what t has
pub record Grown (g : Grammar) (es : List Edge) (d : Layout) (m : ℕ) (t u : List ℕ) : Type 0 where
  pub invariant : Invariant g es d m u
  pub grows : Grows d t u

module _ {g : Grammar} {es : List Edge} {d : Layout} {m : ℕ} where
  pub grown_refl : {t : List ℕ} → Invariant g es d m t → Grown g es d m t t
  grown_refl invariant = record { invariant = invariant; grows = record { keeps = λ c x h. h } }

  pub grown_trans : {t u v : List ℕ} → Grown g es d m t u → Grown g es d m u v → Grown g es d m t v
  grown_trans p q = record {
    invariant = q.invariant;
    grows = record { keeps = λ c x h. q.grows.keeps c x (p.grows.keeps c x h) };
  }

  -- all ranks up to one that is found are found
  pub all_below : {t : List ℕ} {c : Cell} → Invariant g es d m t → InChart d c → (x y : ℕ) → y ≤ x → Found d t c x → Found d t c y
  all_below invariant in_chart zero y l h = let e : y ≡ 0 = omega arith in rw e h
  all_below invariant in_chart (suc x) y l h =
      ⊎_elim (λ e. rw e h) (λ less. all_below invariant in_chart x y (omega arith) (invariant.prefix_closed x in_chart h))
      (eq-or-lt_of_le l)
