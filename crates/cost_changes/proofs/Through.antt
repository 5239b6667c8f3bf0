-- The weight through an edge that was heard is the least weight of a derivation that uses it: every such derivation is a leaf over the edge,
-- plugged into what stands around it.
use mathlib.Core.Path.{◌≡◌, refl, ap}
use mathlib.Core.Option.{Option, none, some}
use mathlib.Core.List.Memᴰ
use mathlib.Core.List.{List}
use Prim.Native.Nat.{ℕ, ◌+◌, ◌*◌, ◌≤◌, ◌<◌}
use native.Mathlib.Nat.{le_refl}
use native.Mathlib.Omega.{arith}
use lib.ListN.{length, get_elem?}
use Rattle.packing.specs.declared.Sym.{Sym}
use Rattle.packing.specs.declared.Word as W
use Rattle.packing.specs.declared.Rule as R
use Rattle.packing.specs.declared.Rule.TheVariants.{Pair, Word}
use Rattle.packing.specs.Meaning.{Grammar, Edge, edge}
use Rattle.derivation.specs.Derivation.{At, Offered, Tree, leaf, Derives, by_word_rule, weight}
use Rattle.derivation.proofs.Lists.{none≢some, at_length}
use Rattle.derivation.proofs.Paths.{Forward, forward_weight}
use Rattle.derivation.proofs.Ranges.{All, Light}
use Rattle.derivation.proofs.Rows.{leaf_weight}
use Rattle.derivation.proofs.Slots.{CheapEdges}
use Rattle.derivation.proofs.Trees.{same_word}
use Rattle.cost_changes.specs.Costs.{edges_of, Uses}
use Rattle.cost_changes.specs.Outside.{sum, outside, through_by, through}
use Rattle.cost_changes.proofs.Least.{IsLeast, Under, upto_found, upto_finds, sum_found, sum_finds, same_found, same_is}
use Rattle.cost_changes.proofs.Contexts.{Context, Surrounds, plug, plug_weight, plug_derives, plug_uses, leaf_through}
use Rattle.cost_changes.proofs.Outside.{outside_least, outside_found}

module _ (g : Grammar) (es : List Edge) (S : Sym) (n : ℕ) (fw : Forward es) (e i k c : ℕ) (x : W.Word) (offered : Offered es e (edge i k x c)) where
  -- a derivation that uses edge e
  abbrev pub Through : Tree → Type 0
  Through t = Derives g es S 0 n t × Uses t e

  abbrev forward : i < k
  forward = fw e i k c x offered.0

  by_found : (r : ℕ) (o : Option R.Rule) (v : ℕ) → get_elem? g.rules r ≡ o → through_by (outside g es S n) (edge i k x c) o ≡ some v
      → (t : Tree) × Through t × (weight g es t ≡ v)
  unfolding through_by edges_of
  by_found r none v p q = absurd (none≢some q)
  by_found r (some (Pair H L R w)) v p q = absurd (none≢some q)
  by_found r (some (Word H y w)) v p q =
      let (h, q₁) = same_found y.0 x.0 v _ q in
      let (a, b, e₁, e₂, z) = sum_found w v (some c) (outside g es S n H i k) q₁ in
      let (above, s, f) = outside_found g es S n H i k b forward e₂ in
      let p' : At g.rules r (Word H x w) = rw (same_word y x h) at p in
      let ha : c ≡ a = cc in (
        plug above (leaf r e),
        (plug_derives g es S n s (by_word_rule p' offered), plug_uses g es above (leaf r e) e (Memᴰ.head refl)),
        omega (arith, plug_weight g es above (leaf r e), leaf_weight g es r e p' offered),
      )

  by_finds : {H : Sym} {a b r : ℕ} (above : Context) → Surrounds g es S n H a b above → Derives g es H a b (leaf r e)
      → Under (through g (outside g es S n) (edge i k x c)) (weight g es (plug above (leaf r e)))
  unfolding through through_by
  by_finds {H} {a} {b} {r} above s (by_word_rule {x = y} {w = w} {c = d} p q) =
      let hi : i ≡ a = cc (offered.0, q.0) in
      let hk : k ≡ b = cc (offered.0, q.0) in
      let hx : x ≡ y = cc (offered.0, q.0) in
      let hc : c ≡ d = cc (offered.0, q.0) in
      let s' : Surrounds g es S n H i k above = rw (hi, hk) s in
      let p' : At g.rules r (Word H x w) = rw hx p in
      let u = (outside_least g es S n H i k forward (by_word_rule p' offered)).finds above s' in
      let (v, z, l) = go p' u in
      (v, z, omega (arith, plug_weight g es above (leaf r e), leaf_weight g es r e p' offered))
    where
      go : {m : ℕ} → At g.rules r (Word H x w) → Under (outside g es S n H i k) m
          → Under (through g (outside g es S n) (edge i k x c)) (w + c + m)
      go {m} p u =
          upto_finds (λ r. through_by (outside g es S n) (edge i k x c) (get_elem? g.rules r)) (length g.rules) r (w + c + m)
          (at_length g.rules r p) (rw (p, same_is x.0 (sum w (some c) (outside g es S n H i k)))
          (sum_finds w c m (some c) (outside g es S n H i k) (c, refl, le_refl c) u))

  pub through_least : IsLeast Through (weight g es) (through g (outside g es S n) (edge i k x c))
  unfolding through
  through_least = record {
    found = λ v q.
        let (r, h, p) = upto_found _ (length g.rules) v q in by_found r (get_elem? g.rules r) v refl p;
    finds = λ t (d, u).
        let l = leaf_through g es S n e d u in
        let (v, q, b) = by_finds l.above l.surrounds l.derives in
        (v, q, omega (arith, ap (weight g es) l.whole_is));
  }

  -- it fits as a weight does
  pub through_bound : All Light g.rules → CheapEdges es → (v : ℕ) → through g (outside g es S n) (edge i k x c) ≡ some v
      → v + 65535 ≤ 196605 * n
  through_bound light cheap v q =
      let (t, (d, u), p) = through_least.found v q in omega (arith, forward_weight g es fw light cheap d)
