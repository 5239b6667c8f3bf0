-- The trace of the first rank of a table. It has an even number of numbers, 94 at most, so it stands whole in front of the array that it is traced
-- into, and a loop takes its nodes one by one.
use mathlib.Core.Path.{◌≡◌, refl}
use mathlib.Core.List.{List, [], ◌∷◌, ◌++◌}
use Prim.Native.Nat.{ℕ, ◌+◌, ◌*◌, ◌≤◌, ◌<◌}
use native.Mathlib.Omega.{arith}
use lib.ListN.{length, take, get_or, replicate, length-replicate}
use Rattle.packing.specs.Flat.{rule_at, node_by, nodes_in}
use Rattle.packing.specs.Store.{store_all}
use Rattle.packing.proofs.Flat.{stored_begins}
use Rattle.packing.proofs.Store.{length_store}
use Rattle.chart_table.specs.declared.Layout.{Layout}
use Rattle.chart_table.specs.Table.{root}
use Rattle.chart_trace.proofs.Shape.{shape}
use Rattle.chart.specs.Chart.{root_trace}

-- the trace of the first rank of any table
module _ (t rules : List ℕ) (d : Layout) (some : 1 ≤ d.last) (small : d.last ≤ 24) where
  trace_size : (m : ℕ) × (m ≤ 24) × (length (root_trace t rules d 0) + 2 ≡ 4 * m)
  unfolding root_trace
  trace_size =
      let (m, few, s) = shape t rules d d.last (root d) 0 some (omega arith) in
      (m, omega arith, s.numbers)

  pub trace_front : {n : ℕ} {trace : List ℕ} → n ≡ length (root_trace t rules d 0) → trace ≡ store_all (replicate 94 0) 0 (root_trace t rules d 0)
      → take n trace ≡ root_trace t rules d 0
  trace_front e s =
      let (m, few, size) = trace_size in
      let l = root_trace t rules d 0 in
      rw (e, s) (stored_begins (replicate 94 0) l (rw length-replicate (omega arith)))

  pub trace_fits : {n : ℕ} {trace : List ℕ} → n ≡ length (root_trace t rules d 0) → trace ≡ store_all (replicate 94 0) 0 (root_trace t rules d 0)
      → (n ≤ length trace) × (length (take n trace) ≤ 94)
  trace_fits e s =
      let (m, few, size) = trace_size in
      (rw (e, s, length_store, length-replicate) (omega arith), rw (trace_front e s) (omega arith))

-- the first node of a trace, and those behind it; less than a node is none
module _ (rules : List ℕ) where
  pub nodes_more : (x l : List ℕ) → length x ≡ 2
      → nodes_in rules (x ++ l) ≡ node_by (rule_at rules (get_or x 0 0)) (get_or x 0 0) (get_or x 1 0) ∷ nodes_in rules l
  unfolding nodes_in
  nodes_more [] l h = absurd (omega arith)
  nodes_more (r ∷ []) l h = absurd (omega arith)
  nodes_more (r ∷ e ∷ []) l h = refl
  nodes_more (r ∷ e ∷ a ∷ x) l h = absurd (omega arith)

  pub nodes_end : (l : List ℕ) → length l < 2 → nodes_in rules l ≡ []
  unfolding nodes_in
  nodes_end [] h = refl
  nodes_end (r ∷ []) h = refl
  nodes_end (r ∷ e ∷ l) h = absurd (omega arith)
