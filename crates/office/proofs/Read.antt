-- What was read stands in the sheet, in its ranges.
use mathlib.Core.Path.{◌≡◌, refl, sym, ap, ◌∙◌, subst}
use mathlib.Core.Bool.{Bool, true, false}
use mathlib.Core.List.{List, [], ◌∷◌, ◌++◌}
use Prim.Native.Nat.{ℕ, zero, suc, ◌+◌, ◌*◌, ◌≤◌}
use native.Mathlib.Omega.{arith}
use borrow.Author.Tests.{ne_eqb}
use lib.Dec.{eqb}
use lib.ListN.{length, get_or}
use Rattle.bits.specs.Bits.{pick}
use Rattle.packing.specs.Meaning as M
use Rattle.packing.specs.Parse.{parsed}
use Rattle.packing.specs.Source.{numbers, field_at}
use Rattle.packing.specs.Alike.{any_like, unlike_from}
use Rattle.packing.specs.Grammar as G
use Rattle.packing.specs.Grammar.{weight_field, first_of}
use Rattle.packing.specs.Valid.{InRange}
use Rattle.packing.proofs.Parse.{through, same_parsed, parsed_else}
use Rattle.packing.proofs.Taking.{field_at_numbers_out}
use Rattle.office.specs.Office.{Item, symbol, spoken, OfficeRule, ItemWithin, ItemsWithin, Body, RuleWithin, RulesWithin}
use Rattle.office.specs.Sheet.{item_count, item_kind, item_of, item_from, items_from, office_rule_from, rule_alike, office_rules_from}
use Rattle.office.specs.Flat.{item_at, items_at, count_at, office_rule_at, behind, behind_all, office_rules_at}

module _ (s : List ℕ) where
  -- rules at places: one more at the end
  pub rules_snoc : (p n : ℕ) → office_rules_at s p (suc n) ≡ office_rules_at s p n ++ (office_rule_at s (behind_all s p n) ∷ [])
  unfolding office_rules_at behind_all
  rules_snoc p zero = refl
  rules_snoc p (suc n) = rw (← behind_first p n) (ap (λ (l : List OfficeRule). office_rule_at s p ∷ l) (rules_snoc (behind s p) n))
    where
      behind_first : (p n : ℕ) → behind_all s (behind s p) n ≡ behind s (behind_all s p n)
      behind_first p zero = refl
      behind_first p (suc n) = rw (behind_first p n)

  pub length_rules : (p n : ℕ) → length (office_rules_at s p n) ≡ n
  unfolding office_rules_at
  length_rules p zero = refl
  length_rules p (suc n) = ap suc (length_rules (behind s p) n)

  pub length_items : (p n : ℕ) → length (items_at s p n) ≡ n
  unfolding items_at
  length_items p zero = refl
  length_items p (suc n) = ap suc (length_items (p + 2) n)

module _ (s : List ℕ) (S W : ℕ) (some_symbol : 1 ≤ S) (some_word : 1 ≤ W) where
  -- an item: what stands there, within S and W; a symbol only in a body that has not one item
  abbrev ItemRead : ℕ → ℕ → Item → ℕ → Type 0
  ItemRead n at x next = (x ≡ item_at s at) × (next ≡ at + 2) × ItemWithin S W x × (1 ≤ get_or s at 0 + pick (eqb n 1) 0 1)

  item_within : (kind v : ℕ) → InRange (first_of S W kind) v → ItemWithin S W (item_of kind v)
  item_within kind v h = go (eqb kind 0) h
    where
      go : (b : Bool) → InRange (pick b (G.symbol S) (G.rule_word W)) v → ItemWithin S W (pick b (symbol (M.symbol_of v)) (spoken (M.word v)))
      go true h = omega arith
      go false h = omega arith

  pub item_read : (n at : ℕ) {x : Item} {next : ℕ} → item_from s S W n at ≡ parsed x next → ItemRead n at x next
  unfolding item_from
  item_read n at e =
      through (field_at (numbers s) at (item_kind n)) _ e λ kind a p e. through (field_at (numbers s) a (first_of S W kind)) _ e λ v b q e.
      let (_, k, i, r) = field_at_numbers_out s at (item_kind n) p in
      let (_, m, j, t) = field_at_numbers_out s a (first_of S W kind) q in
      let u : get_or s (at + 1) 0 ≡ v = rw i m in
      same_parsed (ItemRead n at) e (rw (k, u), omega arith, item_within kind v t, least (eqb n 1) (omega (arith, k)) r.0)
    where
      least : {kind : ℕ} (b : Bool) → kind ≤ get_or s at 0 → pick b 1 0 ≤ kind → 1 ≤ get_or s at 0 + pick b 0 1
      least true h e = omega arith
      least false h e = omega arith

  abbrev ItemsRead : ℕ → ℕ → List Item → ℕ → Type 0
  ItemsRead m at l next = (l ≡ items_at s at m) × (next ≡ at + 2 * m) × ItemsWithin S W l

  pub items_read : (n m at : ℕ) {l : List Item} {next : ℕ} → items_from s S W n m at ≡ parsed l next → ItemsRead m at l next
  unfolding items_from items_at
  items_read n zero at e = same_parsed (ItemsRead 0 at) e (refl, omega arith, tt)
  items_read n (suc m) at e =
      through (item_from s S W n at) _ e λ x a p e. through (items_from s S W n m a) _ e λ l b q e.
      let (x_is, x-end, x-in, _) = item_read n at p in
      let (l_is, l-end, l-in) = items_read n m a q in
      let l_there : l ≡ items_at s (at + 2) m = rw x-end at l_is in
      same_parsed (ItemsRead (suc m) at) e (rw (x_is, l_there), omega arith, (x-in, l-in))

  -- a body of one item is a word, since its kind is not 0
  body_read : (n at : ℕ) {l : List Item} {next : ℕ} → 1 ≤ n → n ≤ 6 → items_from s S W n n at ≡ parsed l next → Body l
  unfolding items_from items_at
  body_read zero at lo hi e = absurd (omega arith)
  body_read (suc zero) at lo hi e =
      through (item_from s S W 1 at) _ e λ x a p e.
      let (x_is, _, _, kind) = item_read 1 at p in
      let spoke : eqb (get_or s at 0) 0 ≡ false = ne_eqb (get_or s at 0) 0 (λ z. omega arith) in
      let word_there : x ≡ spoken (M.word (get_or s (at + 1) 0)) = rw spoke at x_is in
      same_parsed (λ l next. Body l) e (rw word_there tt)
  body_read (suc (suc n)) at lo hi e =
      let (is, _, _) = items_read (suc (suc n)) (suc (suc n)) at e in
      subst Body (sym is) (long (item_at s at) (item_at s (at + 2)) (items_at s (at + 2 + 2) n) (omega (arith, length_items s (at + 2 + 2) n)))
    where
      long : (x y : Item) (m : List Item) → length m ≤ 4 → Body (x ∷ y ∷ m)
      long (symbol A) y m h = h
      long (spoken x) y m h = h

  abbrev RuleRead : ℕ → OfficeRule → ℕ → Type 0
  RuleRead at r next = (r ≡ office_rule_at s at) × (next ≡ behind s at) × (count_at s at ≤ 6) × RuleWithin S W r

  pub rule_read : (at : ℕ) {r : OfficeRule} {next : ℕ} → office_rule_from s S W at ≡ parsed r next → RuleRead at r next
  unfolding office_rule_from
  rule_read at e =
      through (field_at (numbers s) at (G.symbol S)) _ e λ h a p e. through (field_at (numbers s) a weight_field) _ e λ w b q e.
      through (field_at (numbers s) b item_count) _ e λ n c r e. through (items_from s S W n n c) _ e λ l d t e.
      let (_, h-is, a-is, h-in) = field_at_numbers_out s at (G.symbol S) p in
      let (_, w-is, b-is, w-in) = field_at_numbers_out s a weight_field q in
      let (_, n_is, c-is, n-in) = field_at_numbers_out s b item_count r in
      let (l_is, d_is, l-in) = items_read n n c t in
      let two : b ≡ at + 2 = omega arith in
      let three : c ≡ at + 3 = omega arith in
      let w_there : get_or s (at + 1) 0 ≡ w = rw a-is w-is in
      let n_there : get_or s (at + 2) 0 ≡ n = rw two at n_is in
      let l_there : l ≡ items_at s (at + 3) n = rw three at l_is in
      same_parsed (RuleRead at) e (
        rw (h-is, w_there, n_there, l_there),
        rw n_there (omega arith),
        rw n_there n-in.1,
        (omega arith, w-in.1, body_read n c n-in.0 n-in.1 t, l-in),
      )

  -- n rules behind i that stand there
  abbrev RulesRead : ℕ → ℕ → List OfficeRule → ℕ → Type 0
  RulesRead start m rs next = (rs ≡ office_rules_at s start m) × (next ≡ behind_all s start m) × RulesWithin S W rs

  within_snoc : (rs : List OfficeRule) (r : OfficeRule) → RulesWithin S W rs → RuleWithin S W r → RulesWithin S W (rs ++ (r ∷ []))
  within_snoc [] r h k = (k, tt)
  within_snoc (q ∷ rs) r h k = (h.0, within_snoc rs r h.1 k)

  pub rules_read_lem : (start n i at : ℕ) (qs : List OfficeRule) {rs : List OfficeRule} {next : ℕ} → office_rules_from s S W n at qs ≡ parsed rs next
      → RulesRead start i qs at → RulesRead start (n + i) rs next
  unfolding unlike_from behind_all
  rules_read_lem start zero i at qs {rs} {next} e h =
      let z : i ≡ 0 + i = omega arith in
      subst (λ (m : ℕ). RulesRead start m rs next) z (same_parsed (RulesRead start i) e h)
  rules_read_lem start (suc n) i at qs {rs} {next} e (qs-is, at_is, qs-in) =
      through (office_rule_from s S W at) _ e λ r a p e.
      let (new, e) = parsed_else (any_like rule_alike r qs) 6 (office_rules_from s S W n a (qs ++ (r ∷ []))) e in
      let (r_is, a-is, _, r-in) = rule_read at p in
      let all : qs ++ (r ∷ []) ≡ office_rules_at s start (suc i) = rw (rules_snoc s start i, ← at_is, ← qs-is, r_is) in
      let end : a ≡ behind_all s start (suc i) = a-is ∙ more at_is in
      let z : n + suc i ≡ suc n + i = omega arith in
      subst (λ (m : ℕ). RulesRead start m rs next) z (rules_read_lem start n (suc i) a (qs ++ (r ∷ [])) e (all, end, within_snoc qs r qs-in r-in))
    where
      more : {at : ℕ} → at ≡ behind_all s start i → behind s at ≡ behind_all s start (suc i)
      more e = rw e
