-- The enumeration has exactly the trees that `Derives`, each once: soundness by recursion on the depth, completeness by
-- recursion on the derivation.
use mathlib.Core.Path.{◌≡◌, refl, sym, ap, ◌∙◌, subst}
use mathlib.Core.Logic.{⊎_elim, ◌↔◌}
use mathlib.Core.List.Memᴰ
use mathlib.Core.List.{List, ◌++◌}
use Prim.Native.Nat.{ℕ, zero, suc, ◌+◌, ◌-◌, ◌≤◌, ◌<◌}
use native.Mathlib.Nat.{le_refl}
use native.Mathlib.Omega.{arith}
use lib.Dec.{ltb, ltb→lt, lt→ltb}
use Rattle.packing.specs.declared.Sym.{Sym}
use Rattle.packing.specs.declared.Word as W
use Rattle.packing.specs.declared.Rule as R
use Rattle.packing.specs.declared.Rule.TheVariants.{Pair, Word}
use Rattle.packing.specs.Meaning.{not_heard, symbol_of, word, Grammar, Edge, edge}
use Rattle.derivation.specs.Derivation.{At, Offered, Tree, leaf, node, Derives, by_word_rule, by_pair_rule}
use Rattle.derivation.specs.Rank.{◌∈◌, Distinct}
use Rattle.derivation.specs.List.{leaf_of, leaves_of_rule, combined, nodes_of_rule, trees_within, trees}
use Rattle.derivation.proofs.Lists.{distinct_append}
use Rattle.derivation.proofs.Joined.{
  each_out,
  each_in,
  each_distinct,
  below_out,
  below_in,
  below_distinct,
  only_out,
  only_in,
  only_distinct,
  keep_out,
  keep_in,
  keep_distinct,
  single,
  joined_out,
  joined_in,
  joined_distinct,
}

-- a symbol and a word are their numbers
pub same_sym : (A B : Sym) → A.0 ≡ B.0 → A ≡ B
same_sym A B e = ap symbol_of e

pub same_word : (x y : W.Word) → x.0 ≡ y.0 → x ≡ y
same_word x y e = ap word e

-- what is enumerated derives
module _ (g : Grammar) (es : List Edge) where
  leaf_sound : (A : Sym) (i k r : ℕ) (rule : R.Rule) (e : ℕ) (a : Edge) {t : Tree} → At g.rules r rule → At es e a
      → t ∈ leaf_of A i k r rule e a → Derives g es A i k t
  unfolding leaf_of
  leaf_sound A i k r (Pair H B C w) e a p q m = absurd (Memᴰ.not-nil m)
  leaf_sound A i k r (Word H x w) e (edge f h y c) {t} p q m =
      let m₁ = only_out H.0 A.0 m in
      let m₂ = only_out f i m₁.1 in
      let m₃ = only_out h k m₂.1 in
      let m₄ = only_out x.0 y.0 m₃.1 in
      let m₅ = keep_out (ltb c not_heard) m₄.1 in
      let z : t ≡ leaf r e = Memᴰ.eq_of_singleton m₅.1 in
      let q' : At es e (edge f h x c) = rw (same_word x y m₄.0) q in
      rw (z, ← same_sym H A m₁.0, ← m₂.0, ← m₃.0) (by_word_rule p (q', ltb→lt c not_heard m₅.0))

  leaves_sound : (A : Sym) (i k r : ℕ) (rule : R.Rule) {t : Tree} → At g.rules r rule → t ∈ leaves_of_rule es A i k r rule
      → Derives g es A i k t
  unfolding leaves_of_rule
  leaves_sound A i k r rule p m =
      let (e, a, q, m₂) = each_out (leaf_of A i k r rule) es m in leaf_sound A i k r rule e a p q m₂

  nodes_sound : (parts : Sym → ℕ → ℕ → List Tree) → ((B : Sym) (i j : ℕ) (t : Tree) → t ∈ parts B i j → Derives g es B i j t)
      → (A : Sym) (i k r : ℕ) (rule : R.Rule) {t : Tree} → At g.rules r rule → t ∈ nodes_of_rule parts A i k r rule
      → Derives g es A i k t
  unfolding nodes_of_rule
  nodes_sound parts below A i k r (Word H x w) p m = absurd (Memᴰ.not-nil m)
  nodes_sound parts below A i k r (Pair H B C w) {t} p m =
      let m₁ = only_out H.0 A.0 m in
      let (d, h, m₂) = below_out _ (k - suc i) m₁.1 in
      let (s, s', l, l', z) = joined_out r (suc (i + d)) (parts B i (suc (i + d))) (parts C (suc (i + d)) k) m₂ in
      subst (Derives g es A i k) (sym z) (by_pair_rule (rw (same_sym H A m₁.0) at p) (omega arith) (omega arith)
      (below B i (suc (i + d)) s l) (below C (suc (i + d)) k s' l'))

  sound : (n : ℕ) (A : Sym) (i k : ℕ) {t : Tree} → t ∈ trees_within g es n A i k → Derives g es A i k t
  unfolding trees_within
  sound zero A i k m = let (r, rule, p, m₁) = each_out _ g.rules m in leaves_sound A i k r rule p m₁
  sound (suc n) A i k m =
      let (r, rule, p, m₁) = each_out _ g.rules m in
      ⊎_elim (leaves_sound A i k r rule p) (nodes_sound (trees_within g es n) (λ B i j t. sound n B i j) A i k r rule p)
      (Memᴰ.append_cases (leaves_of_rule es A i k r rule) m₁)

-- what derives is enumerated
module _ (g : Grammar) (es : List Edge) where
  leaf_complete : {A : Sym} {x : W.Word} {i k w c : ℕ} (r e n : ℕ) → At g.rules r (Word A x w) → Offered es e (edge i k x c)
      → leaf r e ∈ trees_within g es n A i k
  unfolding trees_within leaves_of_rule leaf_of
  leaf_complete {A} {x} {i} {k} {w} {c} r e n p q = go n
    where
      here : leaf r e ∈ leaves_of_rule es A i k r (Word A x w)
      here =
          each_in (leaf_of A i k r (Word A x w)) es e q.0 (only_in A.0
          (only_in i (only_in k (only_in x.0 (keep_in (ltb c not_heard) (lt→ltb c not_heard q.1) (Memᴰ.head refl))))))

      go : (n : ℕ) → leaf r e ∈ trees_within g es n A i k
      go zero = each_in (leaves_of_rule es A i k) g.rules r p here
      go (suc n) =
          each_in (λ r rule. leaves_of_rule es A i k r rule ++ nodes_of_rule (trees_within g es n) A i k r rule) g.rules r p
          (Memᴰ.append_left _ here)

  nodes_complete : (parts : Sym → ℕ → ℕ → List Tree) (A B C : Sym) (w i j k r : ℕ) {s t : Tree} → i < j → j < k
      → s ∈ parts B i j → t ∈ parts C j k → node r j s t ∈ nodes_of_rule parts A i k r (Pair A B C w)
  unfolding nodes_of_rule
  nodes_complete parts A B C w i j k r {s} {t} h₁ h₂ m₁ m₂ = rw e at (go (j - suc i) (omega arith) (rw e m₁) (rw e m₂))
    where
      e : suc (i + (j - suc i)) ≡ j
      e = omega arith

      go : (d : ℕ) → d < k - suc i → s ∈ parts B i (suc (i + d)) → t ∈ parts C (suc (i + d)) k
          → node r (suc (i + d)) s t ∈ nodes_of_rule parts A i k r (Pair A B C w)
      go d h n₁ n₂ =
          only_in A.0 (below_in (λ d. combined r (suc (i + d)) (parts B i (suc (i + d))) (parts C (suc (i + d)) k))
          (k - suc i) d h (joined_in r (suc (i + d)) _ _ n₁ n₂))

  complete : {A : Sym} {i k : ℕ} {t : Tree} → Derives g es A i k t → (n : ℕ) → k - i ≤ n → t ∈ trees_within g es n A i k
  unfolding trees_within
  complete (by_word_rule {r = r} {e = e} p q) n b = leaf_complete r e n p q
  complete (by_pair_rule {A} {B} {C} {r} {w} {i} {j} {k} {s} {t} p h₁ h₂ d₁ d₂) n b = go n b (complete d₁) (complete d₂)
    where
      go : (n : ℕ) → k - i ≤ n → ((m : ℕ) → j - i ≤ m → s ∈ trees_within g es m B i j)
          → ((m : ℕ) → k - j ≤ m → t ∈ trees_within g es m C j k) → node r j s t ∈ trees_within g es n A i k
      go zero b f₁ f₂ = absurd (omega arith)
      go (suc n) b f₁ f₂ =
          each_in (λ r rule. leaves_of_rule es A i k r rule ++ nodes_of_rule (trees_within g es n) A i k r rule) g.rules r p
          (Memᴰ.append_right (leaves_of_rule es A i k r (Pair A B C w))
          (nodes_complete (trees_within g es n) A B C w i j k r h₁ h₂ (f₁ n (omega arith)) (f₂ n (omega arith))))

-- nothing is enumerated twice: a tree shows its rule, its edge or its split, and its parts
leaf_of_is : (A : Sym) (i k r : ℕ) (rule : R.Rule) (e : ℕ) (a : Edge) {z : Tree} → z ∈ leaf_of A i k r rule e a → z ≡ leaf r e
unfolding leaf_of
leaf_of_is A i k r (Pair H B C w) e a m = absurd (Memᴰ.not-nil m)
leaf_of_is A i k r (Word H x w) e (edge f h y c) m =
    Memᴰ.eq_of_singleton
    (keep_out (ltb c not_heard) (only_out x.0 y.0 (only_out h k (only_out f i (only_out H.0 A.0 m).1).1).1).1).1

leaf_of_distinct : (A : Sym) (i k r : ℕ) (rule : R.Rule) (e : ℕ) (a : Edge) → Distinct (leaf_of A i k r rule e a)
unfolding leaf_of
leaf_of_distinct A i k r (Pair H B C w) e a = tt
leaf_of_distinct A i k r (Word H x w) e (edge f h y c) =
    only_distinct H.0 A.0 _ (only_distinct f i _
    (only_distinct h k _ (only_distinct x.0 y.0 _ (keep_distinct (ltb c not_heard) _ (single (leaf r e))))))

module _ (es : List Edge) (A : Sym) (i k r : ℕ) (rule : R.Rule) where
  leaves_is : {z : Tree} → z ∈ leaves_of_rule es A i k r rule → (e : ℕ) × (z ≡ leaf r e)
  unfolding leaves_of_rule
  leaves_is m = let (e, a, q, m') = each_out (leaf_of A i k r rule) es m in (e, leaf_of_is A i k r rule e a m')

  leaves_distinct : Distinct (leaves_of_rule es A i k r rule)
  unfolding leaves_of_rule
  leaves_distinct = each_distinct (leaf_of A i k r rule) es (λ e a q. leaf_of_distinct A i k r rule e a) (λ n m x y z e f p q.
      let h₁ : z ≡ leaf r n = leaf_of_is A i k r rule n x p in
      let h₂ : z ≡ leaf r m = leaf_of_is A i k r rule m y q in
      cc)

module _ (parts : Sym → ℕ → ℕ → List Tree) (A : Sym) (i k r : ℕ) where
  split : Sym → Sym → ℕ → List Tree
  split B C d = combined r (suc (i + d)) (parts B i (suc (i + d))) (parts C (suc (i + d)) k)

  split_is : (B C : Sym) (d : ℕ) {z : Tree} → z ∈ split B C d → (s : Tree) × (t : Tree) × (z ≡ node r (suc (i + d)) s t)
  unfolding split
  split_is B C d m =
      let (s, t, p, q, e) = joined_out r (suc (i + d)) (parts B i (suc (i + d))) (parts C (suc (i + d)) k) m in (s, t, e)

  nodes_is : (rule : R.Rule) {z : Tree} → z ∈ nodes_of_rule parts A i k r rule
      → (j : ℕ) × (s : Tree) × (t : Tree) × (z ≡ node r j s t)
  unfolding nodes_of_rule split
  nodes_is (Word H x w) m = absurd (Memᴰ.not-nil m)
  nodes_is (Pair H B C w) m =
      let (d, h, m₂) = below_out (split B C) (k - suc i) (only_out H.0 A.0 m).1 in
      let (s, t, e) = split_is B C d m₂ in
      (suc (i + d), s, t, e)

  nodes_distinct : ((B : Sym) (a b : ℕ) → Distinct (parts B a b)) → (rule : R.Rule) → Distinct (nodes_of_rule parts A i k r rule)
  unfolding nodes_of_rule split
  nodes_distinct h (Word H x w) = tt
  nodes_distinct h (Pair H B C w) =
      only_distinct H.0 A.0 _
      (below_distinct (split B C) (k - suc i) (λ d. joined_distinct r (suc (i + d)) (parts B i (suc (i + d)))
      (parts C (suc (i + d)) k) (h B i (suc (i + d))) (h C (suc (i + d)) k)) (λ d d' z p q.
      let (s, t, e) = split_is B C d p in
      let (s', t', f) = split_is B C d' q in
      let n : suc (i + d) ≡ suc (i + d') = cc in
      omega arith))

once : (g : Grammar) (es : List Edge) (n : ℕ) (A : Sym) (i k : ℕ) → Distinct (trees_within g es n A i k)
unfolding trees_within
once g es zero A i k =
    each_distinct (leaves_of_rule es A i k) g.rules (λ r rule e. leaves_distinct es A i k r rule) (λ r r' x y z e f p q.
    let (a, h) = leaves_is es A i k r x p in
    let (b, h') = leaves_is es A i k r' y q in
    cc)
once g es (suc n) A i k =
    each_distinct (λ r rule. leaves_of_rule es A i k r rule ++ nodes_of_rule (trees_within g es n) A i k r rule) g.rules
    (λ r rule e. distinct_append (leaves_of_rule es A i k r rule) _ (leaves_distinct es A i k r rule)
    (nodes_distinct (trees_within g es n) A i k r (once g es n) rule) (λ z p q.
    let (a, h) = leaves_is es A i k r rule p in
    let (j, s, t, h') = nodes_is (trees_within g es n) A i k r rule q in
    let o : ◌≡◌ {A = ℕ} 0 1 = cc in
    omega arith))
    (λ r r' x y z e f p q. sym (root_is r x z p) ∙ root_is r' y z q)
  where
    root : Tree → ℕ
    root (leaf r e) = r
    root (node r j s t) = r

    root_is : (r : ℕ) (rule : R.Rule) (z : Tree) → z ∈ (leaves_of_rule es A i k r rule ++ nodes_of_rule (trees_within g es n) A i k r rule)
        → root z ≡ r
    root_is r rule z m =
        ⊎_elim (λ p. ap root (leaves_is es A i k r rule p).1)
        (λ p. ap root (nodes_is (trees_within g es n) A i k r rule p).3) (Memᴰ.append_cases (leaves_of_rule es A i k r rule) m)

module _ (g : Grammar) (es : List Edge) (A : Sym) (i k : ℕ) where
  pub trees_derive : (t : Tree) → t ∈ trees g es A i k ↔ Derives g es A i k t
  unfolding trees
  trees_derive t = (sound g es (k - i) A i k, λ d. complete g es d (k - i) (le_refl _))

  pub trees_once : Distinct (trees g es A i k)
  unfolding trees
  trees_once = once g es (k - i) A i k
