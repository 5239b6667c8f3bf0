-- Where each edge goes forward, a derivation uses no edge twice: an edge used lies in the span, and the parts' spans do not meet.
use mathlib.Core.Path.{◌≡◌}
use mathlib.Core.Logic.{⊎_elim}
use mathlib.Core.List.Memᴰ
use mathlib.Core.List.{List}
use Prim.Native.Nat.{ℕ, ◌≤◌}
use native.Mathlib.Omega.{arith}
use Rattle.packing.specs.declared.Sym.{Sym}
use Rattle.packing.specs.declared.Word as W
use Rattle.packing.specs.Meaning.{Grammar, Edge, edge}
use Rattle.derivation.specs.Derivation.{At, Tree, Derives, by_word_rule, by_pair_rule}
use Rattle.derivation.specs.Rank.{Distinct}
use Rattle.derivation.proofs.Lists.{distinct_append}
use Rattle.derivation.proofs.Joined.{single}
use Rattle.derivation.proofs.Paths.{Forward}
use Rattle.cost_changes.specs.Costs.{edges_of, Uses}

-- edge e is there, and lies between the places i and k
record Within (es : List Edge) (i k e : ℕ) : Type 0 where
  from : ℕ
  to : ℕ
  carries : W.Word
  cost : ℕ
  there : At es e (edge from to carries cost)
  start : i ≤ from
  end : to ≤ k

module _ (g : Grammar) (es : List Edge) where
  used_within : {A : Sym} {i k : ℕ} {t : Tree} → Derives g es A i k t → (f : ℕ) → Uses t f → Within es i k f
  unfolding edges_of
  used_within (by_word_rule {x = x} {e = e} {c = c} {i = i} {k = k} p q) f m =
      let h : f ≡ e = Memᴰ.eq_of_singleton m in
      record { from = i; to = k; carries = x; cost = c; there = rw h q.0; start = omega arith; end = omega arith }
  used_within (by_pair_rule {i = i} {j = j} {k = k} {s = s} p h₁ h₂ d₁ d₂) f m =
      ⊎_elim (λ n. left (used_within d₁ f n)) (λ n. right (used_within d₂ f n)) (Memᴰ.append_cases (edges_of s) m)
    where
      left : Within es i j f → Within es i k f
      left w = record {
        from = w.from;
        to = w.to;
        carries = w.carries;
        cost = w.cost;
        there = w.there;
        start = w.start;
        end = omega (arith, w.end);
      }

      right : Within es j k f → Within es i k f
      right w = record {
        from = w.from;
        to = w.to;
        carries = w.carries;
        cost = w.cost;
        there = w.there;
        start = omega (arith, w.start);
        end = w.end;
      }

  within_apart : Forward es → {i j k f : ℕ} → Within es i j f → Within es j k f → ⊥
  within_apart fw {f = f} a b =
      let n : a.to ≡ b.to = same_to a b in
      omega (arith, a.end, b.start, fw f b.from b.to b.cost b.carries b.there)
    where
      same_to : {i j k l f : ℕ} (a : Within es i j f) (b : Within es k l f) → a.to ≡ b.to
      same_to a b = cc (a.there, b.there)

  pub used_once : Forward es → {A : Sym} {i k : ℕ} {t : Tree} → Derives g es A i k t → Distinct (edges_of t)
  unfolding edges_of
  used_once fw (by_word_rule {e = e} p q) = single e
  used_once fw (by_pair_rule {s = s} {t = t} p h₁ h₂ d₁ d₂) =
      distinct_append (edges_of s) (edges_of t) (used_once fw d₁) (used_once fw d₂)
      (λ f m n. within_apart fw (used_within d₁ f m) (used_within d₂ f n))
