-- Rules that are alike stand at one place of a filter, since the place is made from head and items alone. The turns of the loop over the items. Assumes
-- nothing.
use mathlib.Core.Path.{◌≡◌, refl, ap}
use mathlib.Core.Bool.{Bool, true, false, ◌&&◌, false≢true}
use mathlib.Core.List.{List, [], ◌∷◌}
use Prim.Native.Nat.{ℕ, suc, ◌+◌, ◌-◌, ◌*◌, ◌%◌, ◌≤◌, ◌<◌}
use native.Mathlib.Omega.{arith}
use borrow.Author.Tests.{eqb-true, eq-eqb, ne_eqb}
use native.Mathlib.Numerals.{add-one}
use lib.Dec.{eqb}
use lib.ListN.{length, set}
use Rattle.office.specs.Office.{Item, symbol, spoken, OfficeRule, rule}
use Rattle.office.specs.Sheet.{item_of, item_alike, items_alike, rule_alike}
use Rattle.office.specs.Flat.{item_at, items_at, office_rule_at, behind_all, office_rules_at}
use Rattle.office.proofs.Read.{rules_snoc}
use Rattle.rules_reader.specs.Rules.{Filters}
use Rattle.rules_reader.proofs.Filter.{filters_more}
use Rattle.office_reader.specs.Filter.{item_number, items_place, rule_place}

both : (a b : Bool) → (a && b) ≡ true → (a ≡ true) × (b ≡ true)
both true b e = (refl, e)
both false b e = absurd (false≢true e)

item_number_lem : (x y : Item) → item_alike x y ≡ true → item_number x ≡ item_number y
item_number_lem (symbol A) (symbol B) e = ap (λ (n : ℕ). 2 * n) (eqb-true A.0 B.0 e)
item_number_lem (symbol A) (spoken y) e = absurd (false≢true e)
item_number_lem (spoken x) (symbol B) e = absurd (false≢true e)
item_number_lem (spoken x) (spoken y) e = ap (λ (n : ℕ). 2 * n + 1) (eqb-true x.0 y.0 e)

items_place_lem : (l m : List Item) (place : ℕ) → items_alike l m ≡ true → items_place l place ≡ items_place m place
unfolding items_alike items_place
items_place_lem [] [] place e = refl
items_place_lem [] (y ∷ m) place e = absurd (false≢true e)
items_place_lem (x ∷ l) [] place e = absurd (false≢true e)
items_place_lem (x ∷ l) (y ∷ m) place e =
    let (first, rest) = both (item_alike x y) (items_alike l m) e in
    rw (item_number_lem x y first) (items_place_lem l m ((place * 512 + item_number y) % 4093) rest)

pub rule_place_lem : (r s : OfficeRule) → rule_alike r s ≡ true → rule_place r ≡ rule_place s
unfolding rule_alike rule_place
rule_place_lem (rule A u l) (rule B w m) e =
    let (head, items) = both (eqb A.0 B.0) (items_alike l m) e in
    rw (eqb-true A.0 B.0 head) (items_place_lem l m (B.0 % 4093) items)

module _ (k v : ℕ) where
  pub symbol_number : k ≡ 0 → 2 * v ≡ item_number (item_of k v)
  symbol_number e = rw (eq-eqb k 0 e)

  pub word_number : (k ≡ 0 → ⊥) → 2 * v + 1 ≡ item_number (item_of k v)
  word_number e = rw (ne_eqb k 0 e)

module _ (s : List ℕ) (p n : ℕ) where
  -- what is left of the items after i of them
  abbrev pub Placed : ℕ → ℕ → ℕ
  Placed i place = items_place (items_at s (p + 2 * i) (n - i)) place

  pub placed_start : (place : ℕ) → Placed 0 place ≡ items_place (items_at s p n) place
  placed_start place =
      let z : n - 0 ≡ n = omega arith in
      let a : p + 2 * 0 ≡ p = omega arith in
      rw (z, a)

  pub placed_on : (i place : ℕ) → i < n → Placed i place ≡ Placed (i + 1) ((place * 512 + item_number (item_at s (p + 2 * i))) % 4093)
  unfolding items_at items_place
  placed_on i place l =
      let z : n - i ≡ suc (n - (i + 1)) = omega arith in
      let a : p + 2 * (i + 1) ≡ p + 2 * i + 2 = omega arith in
      rw (z, a)

  pub placed_end : (i place : ℕ) → n ≤ i → Placed i place ≡ place
  unfolding items_at items_place
  placed_end i place l = let z : n - i ≡ 0 = omega arith in rw z

-- a filter of the first i rules, and then of one more
pub filters_next : (s filter : List ℕ) (i at place : ℕ) → at ≡ behind_all s 3 i → place ≡ rule_place (office_rule_at s at) → place < length filter
    → Filters rule_alike rule_place (office_rules_at s 3 i) filter → Filters rule_alike rule_place (office_rules_at s 3 (i + 1)) (set filter place 1)
filters_next s filter i at place here is room h =
    rw (add-one i, rules_snoc s 3 i, ← here, is)
    (filters_more rule_alike rule_place rule_place_lem (office_rules_at s 3 i) filter (office_rule_at s at) (rw (← is) room) h)
