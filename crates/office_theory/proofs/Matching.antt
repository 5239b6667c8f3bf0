-- The two maps between an office grammar's derivations and its conversion's are inverse to each other and keep the weight. Each
-- holds for any list of items and the symbol that stands for it, by recursion on the derivation.
use mathlib.Core.Path.{◌≡◌, refl, sym, ap, ◌∙◌, subst}
use mathlib.Core.List.{List, [], ◌∷◌}
use Prim.Native.Nat.{ℕ, ◌+◌, ◌<◌}
use native.Mathlib.Omega.{arith}
use lib.ListN.{length}
use Rattle.packing.specs.declared.Sym.{Sym}
use Rattle.packing.specs.declared.Word as W
use Rattle.packing.specs.declared.Rule.TheVariants.{Pair, Word}
use Rattle.packing.specs.Meaning.{Edge, edge}
use Rattle.derivation.specs.Derivation.{At, Offered, Tree, leaf, node, Derives, by_word_rule, by_pair_rule, edge_cost, weight}
use Rattle.derivation.proofs.Rows.{leaf_weight, node_weight_lem}
use Rattle.office.specs.Office.{Item, symbol, rule, Office, OfficeWithin}
use Rattle.office_theory.specs.Derivations.{
  OfficeTree,
  heard,
  ruled,
  parted,
  OfficeDerives,
  by_edge,
  by_rule,
  by_parts,
  office_rule_weight,
  office_weight,
  office_walk,
}
use Rattle.office.specs.Conversion.{helper, helpers, convert, marks}
use Rattle.office_theory.specs.Maps.{unless_marked, reduced, left_of, right_of, helper_number, expanded_by, to_grammar, to_office}
use Rattle.office_theory.specs.Matching.{OfficeDerivation, OneToOne}
use Rattle.office_theory.proofs.Walks.{walk_reduced}
use Rattle.office_theory.proofs.Spelled.{Spells, a_symbol, a_word, several, word_rule, pair_rule_lem}
use Rattle.office_theory.proofs.ConvertedRules.{
  Origin,
  of_office,
  of_word,
  of_joined,
  helper_rule_lem,
  helper_number_lem,
  origin,
  head_below,
  word_at,
  pair_at,
  not_one_symbol,
  spells_office,
  spells_word,
  Joined,
  joined,
  spells_joined,
  office_kept,
  helper_left_out,
}

module _ (o : Office) (v : OfficeWithin o) (es : List Edge) where
  abbrev Spell : List Item → Sym → Type 0
  Spell = Spells o.symbols (helpers o)

  -- one step of each map and of the weight
  expanded_parted : (r j : ℕ) (s t : OfficeTree) {A B C : Sym} {w : ℕ} → At (convert o).rules r (Pair A B C w)
      → expanded_by o r (parted j s t) ≡ node r j (expanded_by o (helper_number o B) s) (expanded_by o (helper_number o C) t)
  unfolding expanded_by left_of right_of
  expanded_parted r j s t p = rw p

  heard_weight : (e : ℕ) {i k c : ℕ} {x : W.Word} → Offered es e (edge i k x c) → office_weight o es (heard e) ≡ c
  unfolding office_weight edge_cost
  heard_weight e q = rw q.0

  ruled_weight : (r : ℕ) (t : OfficeTree) {A : Sym} {w : ℕ} {l : List Item} → At o.rules r (rule A w l)
      → office_weight o es (ruled r t) ≡ w + office_weight o es t
  unfolding office_weight office_rule_weight
  ruled_weight r t p = rw p

  -- an office's tree t with its helpers, where rule r of weight w joins its parts: with the rule's own node, t again
  record Step (A : Sym) (r w i k : ℕ) (t : OfficeTree) : Type 0 where
    derives : Derives (convert o) es A i k (expanded_by o r t)
    returns : reduced (marks o) (expanded_by o r t) ≡ unless_marked (marks o) r t
    weighs : weight (convert o) es (expanded_by o r t) ≡ w + office_weight o es t

  record Out (A : Sym) (i k : ℕ) (t : OfficeTree) : Type 0 where
    derives : Derives (convert o) es A i k (expanded_by o (helper_number o A) t)
    returns : reduced (marks o) (expanded_by o (helper_number o A) t) ≡ t
    weighs : weight (convert o) es (expanded_by o (helper_number o A) t) ≡ office_weight o es t

  leaf_step : (r e : ℕ) {A : Sym} {x : W.Word} {w i k c : ℕ} → At (convert o).rules r (Word A x w) → Offered es e (edge i k x c)
      → Step A r w i k (heard e)
  unfolding expanded_by reduced
  leaf_step r e p q = record {
    derives = by_word_rule p q;
    returns = refl;
    weighs = leaf_weight (convert o) es r e p q ∙ rw (heard_weight e q);
  }

  node_step : (r j : ℕ) (s t : OfficeTree) {A B C : Sym} {w i k : ℕ} → At (convert o).rules r (Pair A B C w) → i < j → j < k
      → Out B i j s → Out C j k t → Step A r w i k (parted j s t)
  unfolding reduced office_weight
  node_step r j s t {A} {B} {C} {w} {i} {k} p h₁ h₂ one two =
      let e = expanded_parted r j s t p in
      let a = expanded_by o (helper_number o B) s in
      let b = expanded_by o (helper_number o C) t in
      record {
        derives = rw e (by_pair_rule p h₁ h₂ one.derives two.derives);
        returns = rw e (rw (one.returns, two.returns));
        weighs = rw e (rw (node_weight_lem (convert o) es r j a b p, one.weighs, two.weighs) (omega arith));
      }

  -- below a rule of the office's, and below a helper's
  office_out : (r : ℕ) {A : Sym} {w i k : ℕ} {l : List Item} (t : OfficeTree) → At o.rules r (rule A w l) → Step A r w i k t
      → Out A i k (ruled r t)
  unfolding expanded_by
  office_out r t p s = record {
    derives = s.derives;
    returns = s.returns ∙ office_kept o r t p;
    weighs = s.weighs ∙ sym (ruled_weight r t p);
  }

  helper_out : (k : ℕ) {i j : ℕ} (t : OfficeTree) → (unless_marked (marks o) (length o.rules + k) t ≡ t)
      → Step (helper o.symbols k) (length o.rules + k) 0 i j t → Out (helper o.symbols k) i j t
  helper_out k t m s =
      let n = helper_number_lem o k in
      record {
        derives = rw n s.derives;
        returns = rw n (s.returns ∙ m);
        weighs = rw n (s.weighs ∙ omega arith);
      }

  out : {l : List Item} {i k : ℕ} {t : OfficeTree} → OfficeDerives o es l i k t → {A : Sym} → Spell l A → Out A i k t
  out (by_edge {e = e} q) (a_word k a) = helper_out k (heard e) (helper_left_out o k (heard e) a) (leaf_step _ e (helper_rule_lem o k a) q)
  out (by_rule {r = r} p (by_edge {e = e} q)) (a_symbol h) = office_out r (heard e) p (leaf_step r e (word_at o v r p) q)
  out (by_rule {r = r} p (by_rule p' d)) (a_symbol h) = absurd (not_one_symbol o v r p)
  out (by_rule {r = r} p (by_parts {j = j} {s = s} {t = t} h₁ h₂ d₁ d₂)) (a_symbol h) =
      let (B, C, a, m, n) = pair_at o v r p in
      office_out r (parted j s t) p (node_step r j s t a h₁ h₂ (out d₁ m) (out d₂ n))
  out (by_parts {j = j} {s = s} {t = t} h₁ h₂ d₁ d₂) (several k a m n) =
      helper_out k (parted j s t) (helper_left_out o k (parted j s t) a)
      (node_step _ j s t (helper_rule_lem o k a) h₁ h₂ (out d₁ m) (out d₂ n))

  record Back (l : List Item) (A : Sym) (i k : ℕ) (s : Tree) : Type 0 where
    derives : OfficeDerives o es l i k (reduced (marks o) s)
    returns : expanded_by o (helper_number o A) (reduced (marks o) s) ≡ s

  back_leaf : {A : Sym} {x : W.Word} {r w i k c : ℕ} (e : ℕ) → Origin o r (Word A x w) → Offered es e (edge i k x c)
      → {l : List Item} → Spell l A → Back l A i k (leaf r e)
  unfolding reduced expanded_by
  back_leaf {A} {r = r} {i = i} {k = k} e (of_office p word_rule) q m =
      let z = office_kept o r (heard e) p in
      subst (λ l. Back l A i k (leaf r e)) (sym (spells_office o m (head_below o v r p)))
      (record { derives = rw z (by_rule p (by_edge q)); returns = rw z })
  back_leaf {i = i} {k = k} e (of_word n a) q m =
      let z = helper_left_out o n (heard e) a in
      subst (λ l. Back l (helper o.symbols n) i k (leaf (length o.rules + n) e)) (sym (spells_word o m n refl a))
      (record { derives = rw z (by_edge q); returns = rw (z, helper_number_lem o n) })

  back_node : {A B C : Sym} {r w i j k : ℕ} (s t : Tree) → Origin o r (Pair A B C w) → At (convert o).rules r (Pair A B C w) → i < j → j < k
      → ((l : List Item) → Spell l B → Back l B i j s) → ((l : List Item) → Spell l C → Back l C j k t) → {l : List Item} → Spell l A
      → Back l A i k (node r j s t)
  unfolding reduced expanded_by
  back_node {A} {B} {C} {r} {w} {i} {j} {k} s t (of_office p (pair_rule_lem m₁ m₂)) a h₁ h₂ f₁ f₂ m =
      let one = f₁ _ m₁ in
      let two = f₂ _ m₂ in
      let u = parted j (reduced (marks o) s) (reduced (marks o) t) in
      let z = office_kept o r u p in
      let e = expanded_parted r j (reduced (marks o) s) (reduced (marks o) t) a in
      subst (λ l. Back l A i k (node r j s t)) (sym (spells_office o m (head_below o v r p)))
      (record {
        derives = rw z (by_rule p (by_parts h₁ h₂ one.derives two.derives));
        returns = rw z (e ∙ rw (one.returns, two.returns));
      })
  back_node {B = B} {C} {i = i} {j} {k} s t (of_joined n b) a h₁ h₂ f₁ f₂ m = go (spells_joined o m n refl b)
    where
      go : {l : List Item} → Joined o B C l → Back l (helper o.symbols n) i k (node (length o.rules + n) j s t)
      go (joined m₁ m₂) =
          let one = f₁ _ m₁ in
          let two = f₂ _ m₂ in
          let u = parted j (reduced (marks o) s) (reduced (marks o) t) in
          let z = helper_left_out o n u b in
          let e = expanded_parted (length o.rules + n) j (reduced (marks o) s) (reduced (marks o) t) a in
          record {
            derives = rw z (by_parts h₁ h₂ one.derives two.derives);
            returns = rw (z, helper_number_lem o n) (e ∙ rw (one.returns, two.returns));
          }

  back : {A : Sym} {i k : ℕ} {s : Tree} → Derives (convert o) es A i k s → {l : List Item} → Spell l A → Back l A i k s
  back (by_word_rule {r = r} {e = e} p q) m = back_leaf e (origin o v r p) q m
  back (by_pair_rule {r = r} {s = s} {t = t} p h₁ h₂ d₁ d₂) m = back_node s t (origin o v r p) p h₁ h₂ (λ l m. back d₁ m) (λ l m. back d₂ m) m

  -- a symbol's tree has a rule's number, so that the number it is expanded by does not count
  any_number : {A : Sym} {i k : ℕ} {t : OfficeTree} → OfficeDerives o es (symbol A ∷ []) i k t → (m n : ℕ)
      → expanded_by o m t ≡ expanded_by o n t
  unfolding expanded_by
  any_number (by_rule p d) m n = refl

  pub one_to_one : (A : Sym) (i k : ℕ) → A.0 < o.symbols → OneToOne o es A i k
  one_to_one A i k h = record {
    to_grammar = to_grammar o;
    to_office = to_office o;
    out = λ t d. rw (any_number d 0 (helper_number o A)) (out d (a_symbol h)).derives;
    back = λ s d. (back d (a_symbol h)).derives;
    out_back = λ t d. returns d;
    back_out = λ s d. any_number (back d (a_symbol h)).derives 0 (helper_number o A) ∙ (back d (a_symbol h)).returns;
    weighs = λ t d. rw (any_number d 0 (helper_number o A)) (out d (a_symbol h)).weighs;
    walks = λ t d. walk_reduced (marks o) (to_grammar o t) ∙ ap office_walk (returns d);
  }
    where
      returns : {t : OfficeTree} → OfficeDerivation o es A i k t → to_office o (to_grammar o t) ≡ t
      returns d = rw (any_number d 0 (helper_number o A)) (out d (a_symbol h)).returns
