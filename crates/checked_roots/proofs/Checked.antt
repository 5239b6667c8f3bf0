-- The checked trace of the root, by what it answers: nothing, a tree of the weight that the price says, or one of another.
use mathlib.Core.Path.{◌≡◌, refl, sym, ap, ◌∙◌}
use mathlib.Core.Bool.{true, false, false≢true}
use mathlib.Core.Option.{Option, none, some}
use mathlib.Core.List.{List}
use Prim.Native.Nat.{ℕ}
use native.Mathlib.Omega.{arith}
use lib.ListN.{length}
use borrow.Author.Tests.{eq-eqb, ne_eqb}
use Rattle.std.specs.Prelude.{Some, None}
use Rattle.std.specs.Prelude as P
use Rattle.bits.specs.Bits.{pick}
use Rattle.packing.specs.Store.{store_all}
use Rattle.chart_table.specs.declared.Layout.{Layout}
use Rattle.chart_table.specs.Table.{root}
use Rattle.chart_trace.specs.declared.checked.Scope.{Scope}
use Rattle.chart_trace.specs.declared.checked.Traced.{Traced}
use Rattle.chart_trace.specs.Trace.{trace_back}
use Rattle.chart_trace.specs.Checked.{spelled_weight, traced_of}
use Rattle.chart.specs.Chart.{root_weight, root_trace, root_spelled}

by_nothing : (o : Option ℕ) (n : ℕ) → None ≡ traced_of o n → o ≡ none
by_nothing none n e = refl
by_nothing (some v) n e = let z : ◌≡◌ {A = ℕ} 0 1 = cc in absurd (omega arith)

by_tree : (o : Option ℕ) (n : ℕ) {r : Traced} → Some r ≡ traced_of o n → (o ≡ some r.weight) × (r.numbers ≡ n)
by_tree none n e = let z : ◌≡◌ {A = ℕ} 0 1 = cc in absurd (omega arith)
by_tree (some v) n {r} e =
    let same : r ≡ record { numbers = n; weight = v } = cc in
    (rw same, rw same)

-- what the root spells, and its trace
abbrev spelled : (t rules edges : List ℕ) → Scope → Layout → ℕ → Option ℕ
spelled t rules edges k d rank = spelled_weight t rules edges k d d.last (root d) rank

abbrev numbers : (t rules : List ℕ) → Layout → ℕ → List ℕ
numbers t rules d rank = trace_back t rules d d.last (root d) rank

module _ (t rules edges : List ℕ) (k : Scope) (d : Layout) (rank : ℕ) {o : P.Option Traced} {trace : List ℕ} (trace₀ : List ℕ)
    (traced : (o ≡ traced_of (spelled t rules edges k d rank) (length (numbers t rules d rank)))
    × ((w : ℕ) → spelled t rules edges k d rank ≡ some w → trace ≡ store_all trace₀ 0 (numbers t rules d rank))) where
  -- what is answered, and what is written where the root spells a tree
  abbrev Answer : P.Option ℕ → Type 0
  Answer n = (n ≡ pick (root_spelled t rules edges k d rank) (Some (length (root_trace t rules d rank))) None)
      × (root_spelled t rules edges k d rank ≡ true → trace ≡ store_all trace₀ 0 (root_trace t rules d rank))

  unspelled : root_spelled t rules edges k d rank ≡ false → Answer None
  unspelled e = (rw e, λ s. absurd (false≢true (sym e ∙ s)))

  pub no_tree : o ≡ None → Answer None
  unfolding root_spelled
  no_tree is = unspelled (rw (by_nothing (spelled t rules edges k d rank) (length (numbers t rules d rank)) (sym is ∙ traced.0)))

  module _ {r : Traced} {v : ℕ} (is : o ≡ Some r) (weight : v ≡ root_weight t d rank) where
    a_tree : (spelled t rules edges k d rank ≡ some r.weight) × (r.numbers ≡ length (numbers t rules d rank))
    a_tree = by_tree (spelled t rules edges k d rank) (length (numbers t rules d rank)) (sym is ∙ traced.0)

    pub other_tree : (r.weight ≡ v → ⊥) → Answer None
    unfolding root_spelled
    other_tree e = unspelled (rw (a_tree.0, ← weight) (ne_eqb r.weight v e))

    pub right_tree : r.weight ≡ v → Answer (Some r.numbers)
    unfolding root_spelled root_trace
    right_tree e = (rw (a_tree.0, ← weight, eq-eqb r.weight v e) (ap Some a_tree.1), λ s. traced.1 r.weight a_tree.0)
