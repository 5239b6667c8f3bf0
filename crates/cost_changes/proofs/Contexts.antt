-- A tree with a hole, from the hole upwards, and what a tree weighs in it.
use mathlib.Core.Path.{◌≡◌}
use mathlib.Core.Logic.{⊎_elim}
use mathlib.Core.List.Memᴰ
use mathlib.Core.List.{List}
use Prim.Native.Nat.{ℕ, ◌+◌, ◌-◌, ◌*◌, ◌≤◌, ◌<◌}
use native.Mathlib.Omega.{arith}
use lib.ListN.{get_elem?}
use Rattle.packing.specs.declared.Sym.{Sym}
use Rattle.packing.specs.declared.Rule.TheVariants.{Pair}
use Rattle.packing.specs.Meaning.{Grammar, Edge}
use Rattle.derivation.specs.Derivation.{At, Tree, leaf, node, Derives, by_word_rule, by_pair_rule, rule_weight, weight}
use Rattle.derivation.proofs.Ranges.{All, all_at, Light}
use Rattle.derivation.proofs.Slots.{Short, CheapEdges}
use Rattle.derivation.proofs.Readings.{weight_bound}
use Rattle.cost_changes.specs.Costs.{edges_of, Uses}

-- the hole is the whole; or it is the left part of a node, with its right part and what is above; or the right part
pub data Context : Type 0 where
  whole : Context
  on_left : (rule split : ℕ) (right : Tree) (above : Context) → Context
  on_right_lem : (rule split : ℕ) (left : Tree) (above : Context) → Context

unfoldable pub plug : Context → Tree → Tree
plug whole t = t
plug (on_left r j s c) t = plug c (node r j t s)
plug (on_right_lem r j s c) t = plug c (node r j s t)

module _ (g : Grammar) (es : List Edge) where
  unfoldable pub rim : Context → ℕ
  unfolding rule_weight weight
  rim whole = 0
  rim (on_left r j s c) = rule_weight (get_elem? g.rules r) + rim c + weight g es s
  rim (on_right_lem r j s c) = rule_weight (get_elem? g.rules r) + rim c + weight g es s

  -- "plugged": its weight is that of both
  pub plug_weight : (c : Context) (t : Tree) → weight g es (plug c t) ≡ rim c + weight g es t
  unfolding plug rim weight
  plug_weight whole t = omega arith
  plug_weight (on_left r j s c) t = omega (arith, plug_weight c (node r j t s))
  plug_weight (on_right_lem r j s c) t = omega (arith, plug_weight c (node r j s t))

  pub rim_left : {A B C : Sym} {w : ℕ} (r j : ℕ) (s : Tree) (c : Context) → At g.rules r (Pair A B C w)
      → rim (on_left r j s c) ≡ w + rim c + weight g es s
  unfolding rim rule_weight
  rim_left r j s c e = rw e

  pub rim_right : {A B C : Sym} {w : ℕ} (r j : ℕ) (s : Tree) (c : Context) → At g.rules r (Pair A B C w)
      → rim (on_right_lem r j s c) ≡ w + rim c + weight g es s
  unfolding rim rule_weight
  rim_right r j s c e = rw e

  module _ (S : Sym) (n : ℕ) where
    -- Surrounds B i j c: c is a derivation with a hole with head B over i to j
    pub data Surrounds : Sym → ℕ → ℕ → Context → Type 0 where
      nothing : Surrounds S 0 n whole
      by_right : {A B C : Sym} {r w i j k : ℕ} {s : Tree} {c : Context} → At g.rules r (Pair A B C w) → i < j → j < k
          → Surrounds A i k c → Derives g es C j k s → Surrounds B i j (on_left r j s c)
      by_left : {A B C : Sym} {r w i j k : ℕ} {s : Tree} {c : Context} → At g.rules r (Pair A B C w) → i < j → j < k
          → Surrounds A i k c → Derives g es B i j s → Surrounds C j k (on_right_lem r j s c)

    pub plug_derives : {B : Sym} {i j : ℕ} {c : Context} {t : Tree} → Surrounds B i j c → Derives g es B i j t
        → Derives g es S 0 n (plug c t)
    unfolding plug
    plug_derives nothing d = d
    plug_derives (by_right p h₁ h₂ a d') d = plug_derives a (by_pair_rule p h₁ h₂ d d')
    plug_derives (by_left p h₁ h₂ a d') d = plug_derives a (by_pair_rule p h₁ h₂ d' d)

    pub surrounds_end : {B : Sym} {i j : ℕ} {c : Context} → Surrounds B i j c → j ≤ n
    surrounds_end nothing = omega arith
    surrounds_end (by_right p h₁ h₂ a d) = omega (arith, surrounds_end a)
    surrounds_end (by_left p h₁ h₂ a d) = surrounds_end a

  -- what the tree uses is still used
  pub plug_uses : (c : Context) (t : Tree) (e : ℕ) → Uses t e → Uses (plug c t) e
  unfolding plug edges_of
  plug_uses whole t e u = u
  plug_uses (on_left r j s c) t e u = plug_uses c (node r j t s) e (Memᴰ.append_left _ u)
  plug_uses (on_right_lem r j s c) t e u = plug_uses c (node r j s t) e (Memᴰ.append_right (edges_of s) u)

  -- a leaf of a derivation, and what stands around it
  pub record Leaf (S : Sym) (n e : ℕ) (t : Tree) : Type 0 where
    pub head : Sym
    pub from : ℕ
    pub upto : ℕ
    pub rule : ℕ
    pub above : Context
    pub surrounds : Surrounds S n head from upto above
    pub derives : Derives g es head from upto (leaf rule e)
    pub whole_is : t ≡ plug above (leaf rule e)

  pub find_leaf : (S : Sym) (n e : ℕ) {A : Sym} {i k : ℕ} {t : Tree} {c : Context} → Surrounds S n A i k c
      → Derives g es A i k t → Uses t e → Leaf S n e (plug c t)
  unfolding edges_of plug
  find_leaf S n e {A} {i} {k} {c = c} a (by_word_rule {r = r} {e = f} p q) u =
      let h : e ≡ f = Memᴰ.eq_of_singleton u in
      record {
        head = A;
        from = i;
        upto = k;
        rule = r;
        above = c;
        surrounds = a;
        derives = rw h (by_word_rule p q);
        whole_is = rw h;
      }
  find_leaf S n e a (by_pair_rule {s = s} p h₁ h₂ d₁ d₂) u =
      ⊎_elim (λ m. find_leaf S n e (by_right p h₁ h₂ a d₂) d₁ m) (λ m. find_leaf S n e (by_left p h₁ h₂ a d₁) d₂ m)
      (Memᴰ.append_cases (edges_of s) u)

  pub leaf_through : (S : Sym) (n e : ℕ) {t : Tree} → Derives g es S 0 n t → Uses t e → Leaf S n e t
  unfolding plug
  leaf_through S n e d u = find_leaf S n e nothing d u

-- over slots what stands around a cell weighs no more than the slots outside it allow: so an outside weight fits as a weight does
module _ (g : Grammar) (es : List Edge) (S : Sym) (n : ℕ) (short : Short es) (light : All Light g.rules) (cheap : CheapEdges es)
  where
    pub rim_bound : {B : Sym} {i j : ℕ} {c : Context} → Surrounds g es S n B i j c
        → rim g es c + 196605 * (j - i) ≤ 196605 * n
    unfolding rim rule_weight
    rim_bound nothing = omega arith
    rim_bound (by_right {r = r} {j = j} {s = s} {c = c} p h₁ h₂ a d) =
        omega (
          arith,
          rim_left g es r j s c p,
          all_at Light g.rules r light p,
          weight_bound g es short light cheap d,
          rim_bound a,
        )
    rim_bound (by_left {r = r} {j = j} {s = s} {c = c} p h₁ h₂ a d) =
        omega (
          arith,
          rim_right g es r j s c p,
          all_at Light g.rules r light p,
          weight_bound g es short light cheap d,
          rim_bound a,
        )
