-- Rules and items at two places, compared number by number.
use mathlib.Core.Path.{◌≡◌, refl, sym, ap, ◌∙◌}
use mathlib.Core.Bool.{Bool, true, false, ◌&&◌, and-false}
use mathlib.Core.List.{List, [], ◌∷◌}
use Prim.Native.Nat.{ℕ, suc, ◌+◌, ◌-◌, ◌*◌, ◌≤◌, ◌<◌}
use native.Mathlib.Omega.{arith}
use borrow.Author.Tests.{eq-eqb, ne_eqb}
use lib.Dec.{eqb}
use lib.ListN.{length, get_or}
use Rattle.bits.specs.Bits.{pick}
use Rattle.packing.specs.Alike.{any_like}
use Rattle.office.specs.Office.{Item}
use Rattle.office.specs.Sheet.{item_of, item_alike, items_alike, rule_alike}
use Rattle.office.specs.Flat.{item_at, items_at, count_at, office_rule_at, behind, office_rules_at}
use Rattle.office.proofs.Read.{length_items}

module _ (k v m w : ℕ) where
  pub symbols_alike : k ≡ 0 → m ≡ 0 → eqb v w ≡ item_alike (item_of k v) (item_of m w)
  symbols_alike p q = rw (eq-eqb k 0 p, eq-eqb m 0 q)

  pub symbol_word : k ≡ 0 → (m ≡ 0 → ⊥) → false ≡ item_alike (item_of k v) (item_of m w)
  symbol_word p q = rw (eq-eqb k 0 p, ne_eqb m 0 q)

  pub word_symbol : (k ≡ 0 → ⊥) → m ≡ 0 → false ≡ item_alike (item_of k v) (item_of m w)
  word_symbol p q = rw (ne_eqb k 0 p, eq-eqb m 0 q)

  pub words_alike : (k ≡ 0 → ⊥) → (m ≡ 0 → ⊥) → eqb v w ≡ item_alike (item_of k v) (item_of m w)
  words_alike p q = rw (ne_eqb k 0 p, ne_eqb m 0 q)

module _ (s : List ℕ) (p q n : ℕ) where
  -- the turns of the loop over the items
  abbrev pub Left : ℕ → Bool
  Left i = items_alike (items_at s (p + 2 * i) (n - i)) (items_at s (q + 2 * i) (n - i))

  pub alike_start : Left 0 ≡ items_alike (items_at s p n) (items_at s q n)
  alike_start =
      let z : n - 0 ≡ n = omega arith in
      let a : p + 2 * 0 ≡ p = omega arith in
      let b : q + 2 * 0 ≡ q = omega arith in
      rw (z, a, b)

  module _ (i : ℕ) (l : i < n) {r : Bool} (told : r ≡ item_alike (item_at s (p + 2 * i)) (item_at s (q + 2 * i))) where
    unrolled : Left i ≡ (item_alike (item_at s (p + 2 * i)) (item_at s (q + 2 * i)) && Left (i + 1))
    unfolding items_at items_alike
    unrolled =
        let z : n - i ≡ suc (n - (i + 1)) = omega arith in
        let a : p + 2 * (i + 1) ≡ p + 2 * i + 2 = omega arith in
        let b : q + 2 * (i + 1) ≡ q + 2 * i + 2 = omega arith in
        rw (z, a, b)

    pub alike_here : r ≡ true → Left i ≡ Left (i + 1)
    alike_here e = rw (unrolled, ← told, e)

    pub unlike_here : r ≡ false → Left i ≡ false
    unlike_here e = rw (unrolled, ← told, e)

  pub alike_end : (i : ℕ) → n ≤ i → Left i ≡ true
  unfolding items_at items_alike
  alike_end i l = let z : n - i ≡ 0 = omega arith in rw z

-- bodies of different lengths are not alike
lengths_unlike : (l m : List Item) → (length l ≡ length m → ⊥) → items_alike l m ≡ false
unfolding items_alike
lengths_unlike [] [] f = absurd (f refl)
lengths_unlike [] (y ∷ m) f = refl
lengths_unlike (x ∷ l) [] f = refl
lengths_unlike (x ∷ l) (y ∷ m) f = go (item_alike x y) (lengths_unlike l m (λ e. f (ap suc e)))
  where
    go : (b : Bool) → items_alike l m ≡ false → (b && items_alike l m) ≡ false
    go true e = e
    go false e = refl

module _ (s : List ℕ) (p q : ℕ) where
  pub heads_differ : (get_or s p 0 ≡ get_or s q 0 → ⊥) → false ≡ rule_alike (office_rule_at s p) (office_rule_at s q)
  unfolding rule_alike
  heads_differ f = rw (ne_eqb (get_or s p 0) (get_or s q 0) f)

  pub counts_differ : (count_at s p ≡ count_at s q → ⊥) → false ≡ rule_alike (office_rule_at s p) (office_rule_at s q)
  unfolding rule_alike
  counts_differ f =
      let z = lengths_unlike (items_at s (p + 3) (count_at s p)) (items_at s (q + 3) (count_at s q))
      (λ e. f (sym (length_items s (p + 3) (count_at s p)) ∙ e ∙ length_items s (q + 3) (count_at s q))) in
      rw (z, and-false)

  pub heads_same : {r : Bool} {n : ℕ} → get_or s p 0 ≡ get_or s q 0 → n ≡ count_at s p → n ≡ count_at s q
      → r ≡ items_alike (items_at s (p + 3) n) (items_at s (q + 3) n) → r ≡ rule_alike (office_rule_at s p) (office_rule_at s q)
  unfolding rule_alike
  heads_same e a b told = rw (eq-eqb (get_or s p 0) (get_or s q 0) e, ← a, ← b) told

-- the turns of the loop over the earlier rules
module _ (s : List ℕ) (at n : ℕ) where
  abbrev pub Among : ℕ → ℕ → Bool
  Among i p = any_like rule_alike (office_rule_at s at) (office_rules_at s p (n - i))

  pub among_start : Among 0 3 ≡ any_like rule_alike (office_rule_at s at) (office_rules_at s 3 n)
  among_start = let z : n - 0 ≡ n = omega arith in rw z

  module _ (i p : ℕ) (l : i < n) {r : Bool} (told : r ≡ rule_alike (office_rule_at s at) (office_rule_at s p)) where
    among_unrolled : Among i p ≡ pick (rule_alike (office_rule_at s at) (office_rule_at s p)) true (Among (i + 1) (behind s p))
    unfolding office_rules_at any_like
    among_unrolled = let z : n - i ≡ suc (n - (i + 1)) = omega arith in rw z

    pub among_found : r ≡ true → Among i p ≡ true
    among_found e = rw (among_unrolled, ← told, e)

    pub among_on : r ≡ false → Among i p ≡ Among (i + 1) (behind s p)
    among_on e = rw (among_unrolled, ← told, e)

  pub among_end : (i p : ℕ) → n ≤ i → Among i p ≡ false
  unfolding office_rules_at any_like
  among_end i p l = let z : n - i ≡ 0 = omega arith in rw z
