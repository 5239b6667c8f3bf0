-- Going through all rules, and for a pair rule through all lengths of the left part, finds all that a symbol derives of a length, whatever
-- is found of it (`Is`, such as the least string): a derived string is a word, or joined of two parts that are derived.
-- Assumes nothing.
use mathlib.Core.Path.{◌≡◌, refl, sym, ◌∙◌}
use mathlib.Core.Logic.{◌⊎◌, inl, inr, ⊎_elim}
use mathlib.Core.Bool.{Bool, true, false, true≢false}
use mathlib.Core.List.{List, [], ◌∷◌}
use Prim.Native.Nat.{ℕ, zero, suc, ◌+◌, ◌-◌, ◌<◌}
use native.Mathlib.Decide.{ℕ_discrete}
use native.Mathlib.Omega.{arith}
use borrow.Author.Tests.{eqb-true, eq-eqb}
use lib.Dec.{eqb}
use lib.ListN.{length, length-append}
use Rattle.bits.specs.Bits.{pick}
use Rattle.packing.specs.Meaning.{Grammar, word}
use Rattle.packing.specs.Valid.{ValidGrammar}
use Rattle.packing.specs.Loop.{iter}
use Rattle.packing.specs.declared.Sym.{Sym}
use Rattle.packing.specs.declared.Rule.{Rule}
use Rattle.packing.specs.declared.Rule.TheVariants.{Pair, Word}
use Rattle.derivation.specs.Derivation.{At}
use Rattle.derivation.proofs.Lists.{at_length}
use Rattle.derivation.proofs.Ranges.{Within, all_at, valid_within}
use Rattle.derivation.proofs.Trees.{same_sym}
use Rattle.phrases.specs.Recursion.{head_of, made, by_rule, by_rules}
use Rattle.phrases.proofs.Yields.{Yields, one, two, yields_derives}
use Rattle.phrases.proofs.Least.{Property, Joined}

-- A derives t, of length m
abbrev pub Of : Grammar → Sym → ℕ → Property
Of g A m t = (length t ≡ m) × Yields g A t

-- the rules by number
abbrev pub Stored : Grammar → (ℕ → Rule) → Type 0
Stored g rule = (r : ℕ) → r < length g.rules → At g.rules r (rule r)

-- o is found of the strings with the property P: f takes in those with the property Q too
abbrev pub Adds : {O : Type 0} → (Property → O → Type 0) → Property → (O → O) → Type 1
Adds {O} Is Q f = (P : Property) (o : O) → Is P o → Is (λ t. P t ⊎ Q t) (f o)

module _ {O : Type 0} (Is : Property → O → Type 0)
    (same : (P Q : Property) (o : O) → ((t : List ℕ) → P t → Q t) → ((t : List ℕ) → Q t → P t) → Is P o → Is Q o) where
  adds_same : {Q Q' : Property} {f : O → O} → ((t : List ℕ) → Q t → Q' t) → ((t : List ℕ) → Q' t → Q t) → Adds Is Q f → Adds Is Q' f
  adds_same to from a P o h = same _ _ _ (λ t. ⊎_elim inl (λ q. inr (to t q))) (λ t. ⊎_elim inl (λ q. inr (from t q))) (a P o h)

  -- where a test passes
  adds_test : {Q : Property} {f : O → O} (b : Bool) → (b ≡ true → Adds Is Q f) → Adds Is (λ t. (b ≡ true) × Q t) (λ o. pick b (f o) o)
  adds_test true a P o h = same _ _ _ (λ t. ⊎_elim inl (λ q. inr (refl, q))) (λ t. ⊎_elim inl (λ q. inr q.1)) (a refl P o h)
  adds_test false a P o h = same _ _ _ (λ t. inl) (λ t. ⊎_elim (λ p. p) (λ q. absurd (true≢false (sym q.0)))) h

  adds_equal : {Q : Property} {f : O → O} (m n : ℕ) → (m ≡ n → Adds Is Q f) → Adds Is (λ t. (m ≡ n) × Q t) (λ o. pick (eqb m n) (f o) o)
  adds_equal m n a =
      adds_same (λ t q. (eqb-true m n q.0, q.1)) (λ t q. (eq-eqb m n q.0, q.1)) (adds_test (eqb m n) (λ e. a (eqb-true m n e)))

  adds_iter : (Q : ℕ → Property) (f : O → ℕ → O) (n : ℕ) → ((y : ℕ) → y < n → Adds Is (Q y) (λ o. f o y))
      → Adds Is (λ t. (y : ℕ) × (y < n) × Q y t) (λ o. iter f o n)
  unfolding iter
  adds_iter Q f zero a P o h = same _ _ _ (λ t. inl) (λ t. ⊎_elim (λ p. p) (λ q. absurd (let l = q.1 in omega arith))) h
  adds_iter Q f (suc n) a P o h =
      same _ _ _
      (λ t. ⊎_elim (⊎_elim inl (λ q. inr (q.0, (let l = q.1 in omega arith), q.2))) (λ q. inr (n, omega arith, q)))
      (λ t. ⊎_elim (λ p. inl (inl p)) (λ q. last t q.0 q.1 q.2 (ℕ_discrete q.0 n)))
      (a n (omega arith) (λ t. P t ⊎ ((y : ℕ) × (y < n) × Q y t)) (iter f o n) (adds_iter Q f n (λ y l. a y (omega arith)) P o h))
    where
      last : (t : List ℕ) (y : ℕ) → y < suc n → Q y t → Dec (y ≡ n) → (P t ⊎ ((y : ℕ) × (y < n) × Q y t)) ⊎ Q n t
      last t y l q (yes e) = inr (rw e at q)
      last t y l q (no e) = inl (inr (y, omega arith, q))

-- what a rule makes of words and of derived parts, m words long, and what one with head A makes
module _ (g : Grammar) (m : ℕ) where
  abbrev pub Made : Rule → Property
  Made (Pair H B C w) t = (y : ℕ) × (y < m - 1) × Joined (Of g B (y + 1)) (Of g C (m - (y + 1))) t
  Made (Word H x w) t = (m ≡ 1) × (t ≡ x.0 ∷ [])

  module _ (A : Sym) where
    abbrev pub By : Rule → Property
    By rule t = ((head_of rule).0 ≡ A.0) × Made rule t

    pub by_yields : (r : ℕ) (rl : Rule) → At g.rules r rl → (t : List ℕ) → By rl t → Of g A m t
    by_yields r (Pair H B C w) h t (e, (y, l, (us, vs, (lu, yu), (lv, yv), j))) =
        rw j (simp length-append (omega arith), two r w (rw (same_sym H A e) at h) yu yv)
    by_yields r (Word H x w) h t (e, (em, et)) = rw et (sym em, one r w (rw (same_sym H A e) at h))

    module _ (rule : ℕ → Rule) (stored : Stored g rule) where
      pub yields_by : (t : List ℕ) → Of g A m t → (r : ℕ) × (r < length g.rules) × By (rule r) t
      yields_by t (l, one {x = x} r w h) =
          let b = at_length g.rules r h in
          let is : rule r ≡ Word A (word x) w = cc (stored r b) in
          (r, b, rw is (refl, (sym l, refl)))
      yields_by t (l, two {B = B} {C = C} {us = us} {vs = vs} r w h left right) =
          let b = at_length g.rules r h in
          let is : rule r ≡ Pair A B C w = cc (stored r b) in
          let (p₁, _) = yields_derives g left [] [] in
          let (p₂, _) = yields_derives g right [] [] in
          let n : length us + length vs ≡ m = sym (length-append us vs) ∙ l in
          (r, b, rw is (refl, (length us - 1, omega arith, (us, vs, (omega arith, left), (omega arith, right), refl))))

module _ {O : Type 0} (Is : Property → O → Type 0)
    (same : (P Q : Property) (o : O) → ((t : List ℕ) → P t → Q t) → ((t : List ℕ) → Q t → P t) → Is P o → Is Q o)
    (g : Grammar) (addSplit : Sym → Sym → ℕ → O → O) (add_word : ℕ → O → O) (m : ℕ)
    (splits : (B C : Sym) (j : ℕ) → B.0 < g.symbols → C.0 < g.symbols → 0 < j → j < m → Adds Is (Joined (Of g B j) (Of g C (m - j))) (addSplit B C j))
    (words : (x : ℕ) → x < g.words → m ≡ 1 → Adds Is (λ t. t ≡ x ∷ []) (add_word x)) where
  pub adds_made : (r : Rule) → Within g.symbols g.words r → Adds Is (Made g m r) (λ o. made addSplit add_word m o r)
  unfolding made
  adds_made (Pair H B C w) (a, b, c) =
      adds_iter Is same (λ y. Joined (Of g B (y + 1)) (Of g C (m - (y + 1)))) (λ x y. addSplit B C (y + 1) x) (m - 1)
      (λ y l. splits B C (y + 1) b c (omega arith) (omega arith))
  adds_made (Word H x w) (a, b) = adds_equal Is same m 1 (words x.0 b)

  module _ (v : ValidGrammar g) (rule : ℕ → Rule) (stored : Stored g rule) (A : Sym) where
    pub by_rules_is : (o : O) → Is (λ t. ⊥) o → Is (Of g A m) (by_rules addSplit add_word rule (length g.rules) A m o)
    unfolding by_rules by_rule
    by_rules_is o h =
        same _ _ _
        (λ t. ⊎_elim (λ z. absurd z) (λ q. by_yields g m A q.0 (rule q.0) (stored q.0 q.1) t q.2))
        (λ t q. inr (yields_by g m A rule stored t q))
        (adds_iter Is same (λ r. By g m A (rule r)) (λ x r. by_rule addSplit add_word A m x (rule r)) (length g.rules)
        (λ r l. adds_equal Is same (head_of (rule r)).0 A.0
        (λ e. adds_made (rule r) (all_at (Within g.symbols g.words) g.rules r (valid_within g v) (stored r l))))
        (λ t. ⊥) o h)
