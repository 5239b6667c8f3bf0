-- The rules of a converted grammar: rule r below R is what office rule r becomes, rule R + k is the one rule of helper k, and
-- there is no other.
use mathlib.Core.Path.{◌≡◌, refl, sym, ap, subst}
use mathlib.Core.Logic.{⊎_elim}
use mathlib.Core.List.{List, [], ◌∷◌, map}
use Prim.Native.Nat.{ℕ, zero, suc, ◌+◌, ◌<◌}
use native.Mathlib.Omega.{arith}
use lib.ListN.{length, length-map}
use Rattle.packing.specs.declared.Sym.{Sym}
use Rattle.packing.specs.declared.Word as W
use Rattle.packing.specs.declared.Rule as R
use Rattle.packing.specs.declared.Rule.TheVariants.{Pair, Word}
use Rattle.derivation.specs.Derivation.{At}
use Rattle.derivation.proofs.Lists.{none≢some, at_length, length_at, at_map}
use Rattle.office.specs.Office.{Item, symbol, spoken, OfficeRule, rule, Office, RulesWithin, RuleWithin, OfficeWithin}
use Rattle.office_theory.specs.Derivations.{OfficeTree, ruled}
use Rattle.office.proofs.Steps.{rules_length}
use Rattle.office.specs.Conversion.{Helper, for_word, joins, helper, rules_behind, helpers, helper_rule, helper_rules, convert, marks}
use Rattle.office_theory.specs.Maps.{unless_marked, helper_number}
use Rattle.office_theory.proofs.Places.{at_left, at_right, at_cases, get_d_at}
use Rattle.office_theory.proofs.Spelled.{Spells, a_symbol, a_word, several, Becomes, word_rule, pair_rule_lem, Meant, behind_meant, rules_become}

-- the rules of helpers from helper m on
helper_at : (S m : ℕ) (hs : List Helper) (k : ℕ) {h : Helper} → At hs k h
    → At (helper_rules S m hs) k (helper_rule (helper S (m + k)) h)
unfolding helper_rules
helper_at S m [] k e = absurd (none≢some e)
helper_at S m (h' ∷ hs) zero {h} e =
    let p : h' ≡ h = cc in let z : m + 0 ≡ m = omega arith in rw (p, z)
helper_at S m (h' ∷ hs) (suc k) e = let z : m + suc k ≡ suc m + k = omega arith in rw z (helper_at S (suc m) hs k e)

at_helper : (S m : ℕ) (hs : List Helper) (k : ℕ) {c : R.Rule} → At (helper_rules S m hs) k c
    → (h : Helper) × At hs k h × (c ≡ helper_rule (helper S (m + k)) h)
unfolding helper_rules
at_helper S m [] k e = absurd (none≢some e)
at_helper S m (h ∷ hs) zero {c} e =
    let z : m + 0 ≡ m = omega arith in let p : c ≡ helper_rule (helper S m) h = cc in (h, refl, rw z p)
at_helper S m (h ∷ hs) (suc k) e =
    let z : m + suc k ≡ suc m + k = omega arith in let (g, a, p) = at_helper S (suc m) hs k e in (g, a, rw z p)

rule_within : (S W : ℕ) (rs : List OfficeRule) → RulesWithin S W rs → (r : ℕ) {q : OfficeRule} → At rs r q → RuleWithin S W q
rule_within S W [] v r e = absurd (none≢some e)
rule_within S W (p ∷ rs) v zero {q} e = let z : p ≡ q = cc in subst (RuleWithin S W) z v.0
rule_within S W (p ∷ rs) v (suc r) e = rule_within S W rs v.1 r e

unfoldable pub head_of : R.Rule → Sym
head_of (Pair A B C w) = A
head_of (Word A x w) = A

module _ (o : Office) where
  abbrev Spell : List Item → Sym → Type 0
  Spell = Spells o.symbols (helpers o)

  abbrev Become : OfficeRule → R.Rule → Type 0
  Become = Becomes o.symbols (helpers o)

  -- where a rule of the result comes from
  pub data Origin : ℕ → R.Rule → Type 0 where
    of_office : {r : ℕ} {q : OfficeRule} {c : R.Rule} → At o.rules r q → Become q c → Origin r c
    of_word : {x : W.Word} (k : ℕ) → At (helpers o) k (for_word x)
        → Origin (length o.rules + k) (Word (helper o.symbols k) x 0)
    of_joined : {X Y : Sym} (k : ℕ) → At (helpers o) k (joins X Y)
        → Origin (length o.rules + k) (Pair (helper o.symbols k) X Y 0)

  of_helper : (k : ℕ) (h : Helper) → At (helpers o) k h → Origin (length o.rules + k) (helper_rule (helper o.symbols k) h)
  of_helper k (for_word x) e = of_word k e
  of_helper k (joins X Y) e = of_joined k e

  -- and what its head and its number are
  pub data Place (r : ℕ) (c : R.Rule) : Type 0 where
    office : {q : OfficeRule} → (head_of c).0 < o.symbols → At o.rules r q → Become q c → Place r c
    helping : (k : ℕ) → (head_of c).0 ≡ o.symbols + k → r ≡ length o.rules + k → Place r c

  -- a helper's rule
  pub helper_rule_lem : (k : ℕ) {h : Helper} → At (helpers o) k h
      → At (convert o).rules (length o.rules + k) (helper_rule (helper o.symbols k) h)
  unfolding convert
  helper_rule_lem k {h} e =
      let z : 0 + k ≡ k = omega arith in
      let a = at_right (rules_behind o.symbols [] o.rules) (helper_rules o.symbols 0 (helpers o)) k
      (helper_at o.symbols 0 (helpers o) k e) in
      rw (rules_length o.symbols [] o.rules, z) at a

  -- the number of a helper's rule
  pub helper_number_lem : (k : ℕ) → helper_number o (helper o.symbols k) ≡ length o.rules + k
  unfolding helper_number
  helper_number_lem k = omega arith

  module _ (v : OfficeWithin o) where
    -- an office rule's rule
    pub office_rule : (r : ℕ) {q : OfficeRule} → At o.rules r q → (c : R.Rule) × At (convert o).rules r c × Become q c
    unfolding convert helpers
    office_rule r e =
        let (c, a, b) = rules_become o.symbols (helpers o) o.words [] o.rules v (λ k h f. f) r e in
        (c, at_left (rules_behind o.symbols [] o.rules) (helper_rules o.symbols 0 (helpers o)) r a, b)

    pub origin : (r : ℕ) {c : R.Rule} → At (convert o).rules r c → Origin r c
    unfolding convert helpers
    origin r {c} e = ⊎_elim here there (at_cases (rules_behind o.symbols [] o.rules) (helper_rules o.symbols 0 (helpers o)) r e)
      where
        n : length (rules_behind o.symbols [] o.rules) ≡ length o.rules
        n = rules_length o.symbols [] o.rules

        here : At (rules_behind o.symbols [] o.rules) r c → Origin r c
        here a =
            let (q, p) = length_at o.rules r (rw n at (at_length (rules_behind o.symbols [] o.rules) r a)) in
            let (d, f, b) = rules_become o.symbols (helpers o) o.words [] o.rules v (λ k h f. f) r p in
            let z : d ≡ c = cc in
            of_office p (subst (Become q) z b)

        there : (k : ℕ) × (r ≡ length (rules_behind o.symbols [] o.rules) + k) × At (helper_rules o.symbols 0 (helpers o)) k c
            → Origin r c
        there (k, s, a) =
            let (h, b, p) = at_helper o.symbols 0 (helpers o) k a in
            let z : 0 + k ≡ k = omega arith in
            let m : r ≡ length o.rules + k = rw n at s in
            let q : c ≡ helper_rule (helper o.symbols k) h = rw z at p in
            rw (m, q) (of_helper k h b)

    pub helper_meant : (k : ℕ) {h : Helper} → At (helpers o) k h → Meant o.symbols (helpers o) o.words h
    unfolding helpers
    helper_meant k {h} e =
        behind_meant o.symbols (helpers o) o.words [] o.rules v (λ k h f. f) (λ k h f. absurd (none≢some f)) k h e

    -- its head is below S
    pub ranges : (r : ℕ) {q : OfficeRule} → At o.rules r q → RuleWithin o.symbols o.words q
    ranges r p = rule_within o.symbols o.words o.rules v r p

    pub head_below : (r : ℕ) {A : Sym} {w : ℕ} {l : List Item} → At o.rules r (rule A w l) → A.0 < o.symbols
    head_below r p = (ranges r p).0

    pub place : (r : ℕ) {c : R.Rule} → At (convert o).rules r c → Place r c
    unfolding head_of
    place r {c} e = go r c (origin r e)
      where
        go : (r : ℕ) (c : R.Rule) → Origin r c → Place r c
        go r _ (of_office p word_rule) = office (ranges r p).0 p word_rule
        go r _ (of_office p (pair_rule_lem s t)) = office (ranges r p).0 p (pair_rule_lem s t)
        go _ _ (of_word k a) = helping k refl refl
        go _ _ (of_joined k a) = helping k refl refl

    -- a body of one word stays a word rule; a longer one becomes a pair rule; no body is one symbol
    pub word_at : (r : ℕ) {A : Sym} {x : W.Word} {w : ℕ} → At o.rules r (rule A w (spoken x ∷ []))
        → At (convert o).rules r (Word A x w)
    word_at r {A} {x} {w} p = let (c, a, b) = office_rule r p in go c a b
      where
        go : (c : R.Rule) → At (convert o).rules r c → Become (rule A w (spoken x ∷ [])) c → At (convert o).rules r (Word A x w)
        go _ a word_rule = a

    pub pair_at : (r : ℕ) {A : Sym} {w : ℕ} {x y : Item} {l : List Item} → At o.rules r (rule A w (x ∷ y ∷ l))
        → (X : Sym) × (Z : Sym) × At (convert o).rules r (Pair A X Z w) × Spell (x ∷ []) X × Spell (y ∷ l) Z
    pair_at r {A} {w} {x} {y} {l} p = let (c, a, b) = office_rule r p in go x c a b
      where
        go : (x : Item) (c : R.Rule) → At (convert o).rules r c → Become (rule A w (x ∷ y ∷ l)) c
            → (X : Sym) × (Z : Sym) × At (convert o).rules r (Pair A X Z w) × Spell (x ∷ []) X × Spell (y ∷ l) Z
        go _ _ a (pair_rule_lem {X = X} {Z = Z} s t) = (X, Z, a, s, t)

    pub not_one_symbol : (r : ℕ) {A B : Sym} {w : ℕ} → At o.rules r (rule A w (symbol B ∷ [])) → ⊥
    not_one_symbol r p = (ranges r p).2

  -- what a symbol stands for: itself, where it is the office's; else what its helper says
  pub spells_office : {A : Sym} {l : List Item} → Spell l A → A.0 < o.symbols → l ≡ symbol A ∷ []
  spells_office (a_symbol h) b = refl
  spells_office (a_word k a) b = absurd (omega arith)
  spells_office (several k a s t) b = absurd (omega arith)

  number : {A B : Sym} → A ≡ B → A.0 ≡ B.0
  number e = ap (λ (C : Sym). C.0) e

  same_place : (m k : ℕ) {h h' : Helper} → helper o.symbols m ≡ helper o.symbols k → At (helpers o) m h
      → At (helpers o) k h' → h ≡ h'
  same_place m k e a b = let z : m ≡ k = omega (arith, number e) in cc

  word≢joins : {x : W.Word} {X Y : Sym} → for_word x ≡ joins X Y → ⊥
  word≢joins e = let z : ◌≡◌ {A = ℕ} 0 1 = cc in omega arith

  pub spells_word : {A : Sym} {l : List Item} → Spell l A → (k : ℕ) {x : W.Word} → A ≡ helper o.symbols k
      → At (helpers o) k (for_word x) → l ≡ spoken x ∷ []
  spells_word (a_symbol h) k e b = absurd (omega (arith, number e))
  spells_word (a_word {x = y} m a) k {x} e b = let p : for_word y ≡ for_word x = same_place m k e a b in cc
  spells_word (several m a s t) k e b = absurd (word≢joins (sym (same_place m k e a b)))

  pub data Joined (B C : Sym) : List Item → Type 0 where
    joined : {x y : Item} {l : List Item} → Spell (x ∷ []) B → Spell (y ∷ l) C → Joined B C (x ∷ y ∷ l)

  pub spells_joined : {A : Sym} {l : List Item} → Spell l A → (k : ℕ) {B C : Sym} → A ≡ helper o.symbols k
      → At (helpers o) k (joins B C) → Joined B C l
  spells_joined (a_symbol h) k e b = absurd (omega (arith, number e))
  spells_joined (a_word m a) k e b = absurd (word≢joins (same_place m k e a b))
  spells_joined (several {X = X} {Z = Z} m a s t) k {B} {C} e b =
      let p : joins X Z ≡ joins B C = same_place m k e a b in
      let q : X ≡ B = cc in
      let r : Z ≡ C = cc in
      joined (rw q at s) (rw r at t)

  -- a symbol stands for one list of items
  pub spells_one : {A : Sym} {l m : List Item} → Spell l A → Spell m A → l ≡ m
  spells_one (a_symbol h) n = sym (spells_office n h)
  spells_one (a_word k a) n = sym (spells_word n k refl a)
  spells_one {m = m} (several {x} {y} {l} {X} {Z} k a s t) n = go (λ m n. spells_one s n) (λ m n. spells_one t n) (spells_joined n k refl a)
    where
      go : {m : List Item} → ((m : List Item) → Spell m X → x ∷ [] ≡ m) → ((m : List Item) → Spell m Z → y ∷ l ≡ m) → Joined X Z m
          → x ∷ y ∷ l ≡ m
      go f₁ f₂ (joined {x = x'} {y = y'} {l = l'} n₁ n₂) =
          let p : x ∷ [] ≡ x' ∷ [] = f₁ _ n₁ in let q : y ∷ l ≡ y' ∷ l' = f₂ _ n₂ in cc

  -- marks: none on an office rule, one on a helper's
  pub office_kept : (r : ℕ) {q : OfficeRule} (t : OfficeTree) → At o.rules r q → unless_marked (marks o) r t ≡ ruled r t
  unfolding unless_marked marks
  office_kept r t p = rw (get_d_at (marks o) r (at_left (map (λ q. 0) o.rules) _ r (at_map (λ q. 0) o.rules r p)))

  pub helper_left_out : (k : ℕ) {h : Helper} (t : OfficeTree) → At (helpers o) k h → unless_marked (marks o) (length o.rules + k) t ≡ t
  unfolding unless_marked marks
  helper_left_out k t p =
      let a = at_right {A = ℕ} (map (λ q. 0) o.rules) (map (λ h. 1) (helpers o)) k (at_map (λ h. 1) (helpers o) k p) in
      let b : At (marks o) (length o.rules + k) 1 = rw (length-map {B = ℕ} o.rules (λ q. 0)) at a in
      rw (get_d_at (marks o) (length o.rules + k) b)
