-- A derivation is decided by its walk, where no two edges from one place carry one word: the next rule number decides between
-- leaf and node, and a leaf's word its edge.
-- Over slots it has one node less than twice its slots; so its weight is bounded.
use mathlib.Core.Path.{◌≡◌, sym, ap, ◌∙◌}
use mathlib.Core.Logic.{⊎_elim}
use mathlib.Core.List.Memᴰ
use mathlib.Core.List.{List, [], ◌++◌, append_assoc}
use Prim.Native.Nat.{ℕ, suc, ◌+◌, ◌-◌, ◌*◌, ◌≤◌, ◌<◌}
use native.Mathlib.Omega.{arith}
use lib.ListN.{length}
use Rattle.packing.specs.declared.Sym.{Sym}
use Rattle.packing.specs.Meaning.{Grammar, Edge}
use Rattle.derivation.specs.Derivation.{Tree, Derives, by_word_rule, by_pair_rule, weight, walk}
use Rattle.derivation.specs.Heard.{path_length}
use Rattle.derivation.specs.Rank.{◌∈◌}
use Rattle.derivation.proofs.Lists.{at_length}
use Rattle.derivation.proofs.Ranges.{All, Light}
use Rattle.derivation.proofs.Slots.{Apart, Short, CheapEdges}
use Rattle.derivation.proofs.Paths.{Forward, path_bound, forward_weight, walk_path}

record Same (s t : Tree) (k l : ℕ) (a b : List ℕ) : Type 0 where
  tree : s ≡ t
  end : k ≡ l
  rest : a ≡ b

module _ (g : Grammar) (es : List Edge) (apart : Apart es) where
  walk_decides : {A : Sym} {i k l : ℕ} {s t : Tree} → Derives g es A i k s → Derives g es A i l t → (a b : List ℕ)
      → walk s ++ a ≡ walk t ++ b → Same s t k l a b
  unfolding walk
  walk_decides {A} {i} {k} {l} (by_word_rule {x = x} {r = r} {e = e} {c = c} p q)
      (by_word_rule {x = x'} {r = r'} {e = e'} {c = c'} p' q') a b h =
      let hr : r ≡ r' = cc in
      let hx : x' ≡ x = cc in
      let he : e ≡ e' = apart e e' i k l c c' x q.0 (rw hx at q'.0) in
      record { tree = rw (hr, he); end = cc; rest = cc }
  walk_decides (by_word_rule {r = r} p q) (by_pair_rule {r = r'} p' h₁ h₂ d₁ d₂) a b h =
      let hr : r ≡ r' = cc in let z : ◌≡◌ {A = ℕ} 0 1 = cc in absurd (omega arith)
  walk_decides (by_pair_rule {r = r} p h₁ h₂ d₁ d₂) (by_word_rule {r = r'} p' q') a b h =
      let hr : r ≡ r' = cc in let z : ◌≡◌ {A = ℕ} 0 1 = cc in absurd (omega arith)
  walk_decides (by_pair_rule {A} {B} {C} {r} {w} {i} {j} {k} {s} {t} p h₁ h₂ d₁ d₂)
      (by_pair_rule {B = B'} {C = C'} {r = r'} {j = j'} {s = s'} {t = t'} p' h₁' h₂' d₁' d₂') a b h =
      let hr : r ≡ r' = cc in
      let h_b : B' ≡ B = cc in
      let h_c : C' ≡ C = cc in
      let hw : (walk s ++ walk t) ++ a ≡ (walk s' ++ walk t') ++ b = cc in
      let one = walk_decides d₁ (rw h_b at d₁') (walk t ++ a) (walk t' ++ b)
      (sym (append_assoc (walk s) (walk t) a) ∙ hw ∙ append_assoc (walk s') (walk t') b) in
      let hj : j' ≡ j = sym one.end in
      let two = walk_decides d₂ (rw (h_c, hj) at d₂') a b one.rest in
      record { tree = rw (hr, one.end, one.tree, two.tree); end = two.end; rest = two.rest }

  pub walk_one : {A : Sym} {i k l : ℕ} {s t : Tree} → Derives g es A i k s → Derives g es A i l t → walk s ≡ walk t → s ≡ t
  walk_one d e h = (walk_decides d e [] [] (ap (λ l. l ++ []) h)).tree

-- each number of a walk is a rule's
pub walk_rules : {g : Grammar} {es : List Edge} {A : Sym} {i k r : ℕ} {t : Tree} → Derives g es A i k t → r ∈ walk t
    → r < length g.rules
unfolding walk
walk_rules {g = g} (by_word_rule {r = r} p q) m = rw (Memᴰ.eq_of_singleton m) (at_length g.rules r p)
walk_rules {g = g} (by_pair_rule {r = r} {s = s} p h₁ h₂ d₁ d₂) m =
    ⊎_elim (λ e. rw e (at_length g.rules r p)) (λ n. ⊎_elim (walk_rules d₁) (walk_rules d₂) (Memᴰ.append_cases (walk s) n))
    (Memᴰ.cases_cons m)

-- a slot's edge goes forward, so a tree over slots spans something; its path's edges and its nodes are counted by its span
short_forward : (es : List Edge) → Short es → Forward es
short_forward es short e i k c x p = omega (arith, short e i k c x p)

pub span : {g : Grammar} {es : List Edge} {A : Sym} {i k : ℕ} {t : Tree} → Short es → Derives g es A i k t → i < k
span {g} {es} short d = omega (arith, path_bound g es (short_forward es short) d)

module _ (g : Grammar) (es : List Edge) (short : Short es) where
  pub short_path : {A : Sym} {i k : ℕ} {t : Tree} → Derives g es A i k t → path_length t ≡ k - i
  unfolding path_length
  short_path (by_word_rule {x = x} {e = e} {c = c} {i = i} {k = k} p q) = omega (arith, short e i k c x q.0)
  short_path (by_pair_rule {i = i} {j = j} {k = k} p h₁ h₂ d₁ d₂) = omega (arith, short_path d₁, short_path d₂)

  pub walk_length : {A : Sym} {i k : ℕ} {t : Tree} → Derives g es A i k t → suc (length (walk t)) ≡ 2 * (k - i)
  walk_length {t = t} d = rw (← short_path d) (walk_path t)

  module _ (light : All Light g.rules) (cheap : CheapEdges es) where
    pub weight_bound : {A : Sym} {i k : ℕ} {t : Tree} → Derives g es A i k t → weight g es t + 65535 ≤ 196605 * (k - i)
    weight_bound d = forward_weight g es (short_forward es short) light cheap d
