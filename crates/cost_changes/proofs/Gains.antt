-- Why own words high and all others low decide: from any choice to those costs no derivation gains more than the tree itself. Where its own
-- edges rise, so do they in any other derivation that uses them, once each; all other edges fall.
use mathlib.Core.Path.{◌≡◌}
use mathlib.Core.Logic.{inl, inr, ⊎_elim}
use mathlib.Core.List.{List}
use Prim.Native.Nat.{ℕ, ◌+◌, ◌-◌, ◌≤◌}
use native.Mathlib.Omega.{arith}
use Rattle.packing.specs.declared.Sym.{Sym}
use Rattle.packing.specs.Meaning.{Grammar, Edge}
use Rattle.derivation.specs.Derivation.{Tree, Derives, weight}
use Rattle.derivation.proofs.Paths.{Forward}
use Rattle.cost_changes.specs.Costs.{cost_at, edges_of, Uses}
use Rattle.cost_changes.proofs.Sums.{total_upto, total_from, total_within, in_or_not}
use Rattle.cost_changes.proofs.Alike.{NoDearer}
use Rattle.cost_changes.proofs.Weights.{weight_parts}
use Rattle.cost_changes.proofs.Once.{used_once}

module _ (g : Grammar) (low high m : List Edge) (t : Tree) (own : (e : ℕ) → Uses t e → cost_at m e ≡ cost_at high e)
    (other : (e : ℕ) → ¬ Uses t e → cost_at m e ≡ cost_at low e) where
  pub gains : Forward low → (c : List Edge) → NoDearer low c → NoDearer c high → {A : Sym} {i k : ℕ} (s : Tree) → Derives g low A i k s
      → weight g m s + weight g c t ≤ weight g c s + weight g m t
  gains forward c above below s d =
      let more : ℕ → ℕ = λ e. cost_at m e - cost_at c e in
      omega (
        arith,
        weight_parts g m s,
        weight_parts g c s,
        weight_parts g m t,
        weight_parts g c t,
        total_upto (cost_at m) (cost_at c) more (edges_of s) (λ e u. omega arith),
        total_from (cost_at m) (cost_at c) more (edges_of t) (λ e u. omega (arith, below e, own e u)),
        total_within more (edges_of s) (edges_of t) (used_once g low forward d)
            (λ e u. ⊎_elim inl (λ p. inr (omega (arith, other e p, above e))) (in_or_not e (edges_of t))),
      )
