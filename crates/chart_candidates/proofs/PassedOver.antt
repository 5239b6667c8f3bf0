-- What is passed over changes no selection: a part that is missing makes a key that is none or above, and a best that is none or
-- below stays. Where no edge over a span has the word of a rule, there is no leaf; nor is there one of an edge whose word a filter lacks.
use mathlib.Core.Path.{◌≡◌, refl, ap, ◌∙◌}
use mathlib.Core.Logic.{◌⊎◌, inl, inr}
use mathlib.Core.Bool.{Bool, true, false}
use mathlib.Core.List.{List}
use Prim.Native.Nat.{ℕ, zero, suc, ◌+◌, ◌-◌, ◌*◌, ◌^◌, ◌≤◌, ◌<◌}
use native.Mathlib.Decide.{ℕ_discrete}
use native.Mathlib.Nat.{le_refl, le_trans, mul-le-mul_right}
use native.Mathlib.Omega.{arith}
use lib.Bits.{bit_and, bit_or}
use lib.Dec.{ltb, eqb}
use lib.ListN.{get_or}
use borrow.Author.Tests.{ltb-true, le-ltb, eqb-true, ne_eqb}
use Rattle.bits.specs.Bits.{pick}
use Rattle.packing.specs.Loop.{iter, over}
use Rattle.packing.specs.Meaning.{symbol_of, word}
use Rattle.packing.specs.Flat.{rule_at}
use Rattle.packing.specs.declared.Rule.{Rule}
use Rattle.packing.specs.declared.Rule.TheVariants.{Pair, Word}
use Rattle.chart_keys.specs.Keys.{prices, key_unit, key_of, no_key, back, back_number, part_price, leaf_price, join_price, lesser}
use Rattle.chart_table.specs.declared.Cell.{Cell}
use Rattle.chart_table.specs.declared.Layout.{Layout}
use Rattle.chart_table.specs.Table.{last_place, left_part, right_part, cell_number, price_at}
use Rattle.chart_classes.specs.Classes.{pair_base, word_base, edge_base, class_start, class_end, members}
use Rattle.masks.specs.Digits.{digit}
use Rattle.chart_masks.specs.Masks.{ends_at, starts_at, Covered, Apart}
use Rattle.chart_heads.specs.Heads.{word_of, Worded, EdgeHeads, NoLeaf}
use Rattle.masks.proofs.Digits.{own_digit, and_lacks, or_lacks}
use Rattle.chart_candidates.specs.declared.PairRule.{PairRule}
use Rattle.chart_candidates.specs.Candidates.{pair_key, word_leaf, edge_leaves, leaves, split_seeds, rule_seeds, seeds}
use Rattle.chart_candidates.specs.PassedOver.{filter_place, word_bit, RuleApart, NoSeed, WordsBefore, WordFilter}

-- a loop whose every turn changes nothing, and one whose every turn comes to no more
iter_stays : {A : Type 0} (g : A → ℕ → A) (b : A) (n : ℕ) → ((x : ℕ) → x < n → g b x ≡ b) → iter g b n ≡ b
unfolding iter
iter_stays g b zero h = refl
iter_stays g b (suc n) h = ap (λ x. g x n) (iter_stays g b n (λ x l. h x (omega arith))) ∙ h n (omega arith)

iter_below : (g : ℕ → ℕ → ℕ) (b : ℕ) (n : ℕ) → ((u x : ℕ) → g u x ≤ u) → iter g b n ≤ b
unfolding iter
iter_below g b zero h = le_refl b
iter_below g b (suc n) h = le_trans (h (iter g b n) n) (iter_below g b n h)

-- the lesser is no more than the best, and is the best where the key is no less
lesser_below : (floor best key : ℕ) → lesser floor best key ≤ best
unfolding lesser
lesser_below floor best key = go (ltb floor key) (ltb key best) refl
  where
    go : (s t : Bool) → ltb key best ≡ t → pick s (pick t key best) best ≤ best
    go false t e = le_refl best
    go true false e = le_refl best
    go true true e = omega (arith, ltb-true key best e)

lesser_stays : (floor best key : ℕ) → best ≤ key → lesser floor best key ≡ best
unfolding lesser
lesser_stays floor best key h = rw (le-ltb key best h) (go (ltb floor key))
  where
    go : (s : Bool) → pick s best best ≡ best
    go true = refl
    go false = refl

-- the key of a pairing of which a part is missing
key_above : (u q p x : ℕ) → q ≤ p → q * u ≤ p * u + x
key_above u q p x h = omega (arith, mul-le-mul_right u h)

left_missing : (w right x : ℕ) → no_key ≤ key_of (join_price w 0 right) x
unfolding join_price part_price
left_missing w right x = key_above key_unit prices (join_price w 0 right) x (omega arith)

right_missing : (w left x : ℕ) → no_key ≤ key_of (join_price w left 0) x
unfolding join_price part_price
right_missing w left x = key_above key_unit prices (join_price w left 0) x (omega arith)

module _ (t : List ℕ) (d : Layout) where
  splits_below : (rule : PairRule) (c : Cell) (floor best : ℕ) → split_seeds t d rule c floor best ≤ best
  unfolding split_seeds
  splits_below rule c floor best = iter_below _ best (c.to - (c.from + 1)) (λ u x. lesser_below floor u _)

  rule_below : (c : Cell) (floor best r : ℕ) (x : Rule) → rule_seeds t d c floor best r x ≤ best
  unfolding rule_seeds
  rule_below c floor best r (Pair h x y w) = splits_below _ c floor best
  rule_below c floor best r (Word h x w) = le_refl best

  -- the best so far of a loop over rules
  pub rules_below : (index rules : List ℕ) (c : Cell) (floor best from y : ℕ)
      → over (λ x y. rule_seeds t d c floor x (get_or index y 0) (rule_at rules (get_or index y 0))) best from y ≤ best
  rules_below index rules c floor best from y = iter_below _ best (y - from) (λ u x. rule_below c floor u _ _)

  module _ (m : List ℕ) (covered : Covered m t d) (c : Cell) (floor best : ℕ) (last : c.to ≤ last_place) (low : best ≤ no_key) where
    splits_passed : (rule : PairRule) → Apart m d rule.first rule.second c → split_seeds t d rule c floor best ≡ best
    unfolding split_seeds pair_key
    splits_passed rule apart =
        iter_stays _ best (c.to - (c.from + 1)) λ x l.
        lesser_stays floor best _ (le_trans low (go (c.from + 1 + x) (omega arith) (omega arith) (apart.disjoint (c.from + 1 + x))))
      where
        go : (j : ℕ) → c.from < j → j < c.to
            → (digit (get_or m (ends_at rule.first c.from) 0) j ≡ 0) ⊎ (digit (get_or m (starts_at rule.second c.to) 0) j ≡ 0)
            → no_key ≤ key_of (join_price rule.weight (price_at t d (cell_number d (left_part c rule.first j)) 0)
            (price_at t d (cell_number d (right_part c rule.second j)) 0)) (back_number (back rule.number j 0 0))
        go j l l' (inl e) = rw ((covered apart.size).ends rule.first c.from j apart.left l (omega arith) e) (left_missing rule.weight _ _)
        go j l l' (inr e) = rw ((covered apart.size).starts rule.second j c.to apart.right l' last e) (right_missing rule.weight _ _)

    pub rule_passed : (rules : List ℕ) (r : ℕ) → RuleApart m d rules c r → rule_seeds t d c floor best r (rule_at rules r) ≡ best
    unfolding rule_seeds
    rule_passed rules r apart = go (eqb (get_or rules (5 * r) 0) 0)
      where
        go : (s : Bool)
            → rule_seeds t d c floor best r
            (pick s (Pair (symbol_of (get_or rules (5 * r + 1) 0)) (symbol_of (get_or rules (5 * r + 3) 0)) (symbol_of (get_or rules (5 * r + 4) 0))
            (get_or rules (5 * r + 2) 0))
            (Word (symbol_of (get_or rules (5 * r + 1) 0)) (word (get_or rules (5 * r + 3) 0)) (get_or rules (5 * r + 2) 0))) ≡ best
        go true = splits_passed _ apart
        go false = refl

    pub seeds_passed : (rules index : List ℕ) → NoSeed m d rules index c → seeds t d rules index c floor best ≡ best
    unfolding seeds
    seeds_passed rules index none =
        iter_stays _ best (class_end index pair_base c.head.0 - class_start index pair_base c.head.0) λ x l.
        rule_passed rules _ (none (class_start index pair_base c.head.0 + x) (omega arith) (omega arith))

-- leaves
pub other_word : (rules edges : List ℕ) (e floor best r : ℕ) → (word_of rules r ≡ get_or edges (4 * e + 2) 0 → ⊥)
    → word_leaf edges e floor best r (rule_at rules r) ≡ best
unfolding word_leaf
other_word rules edges e floor best r other = go (eqb (get_or rules (5 * r) 0) 0)
  where
    go : (s : Bool)
        → word_leaf edges e floor best r
        (pick s (Pair (symbol_of (get_or rules (5 * r + 1) 0)) (symbol_of (get_or rules (5 * r + 3) 0)) (symbol_of (get_or rules (5 * r + 4) 0))
        (get_or rules (5 * r + 2) 0))
        (Word (symbol_of (get_or rules (5 * r + 1) 0)) (word (get_or rules (5 * r + 3) 0)) (get_or rules (5 * r + 2) 0))) ≡ best
    go true = refl
    go false = rw (ne_eqb (word_of rules r) (get_or edges (4 * e + 2) 0) other)

word_below : (edges : List ℕ) (e floor best r : ℕ) (x : Rule) → word_leaf edges e floor best r x ≤ best
unfolding word_leaf
word_below edges e floor best r (Pair h b c w) = le_refl best
word_below edges e floor best r (Word h x w) = go (eqb x.0 (get_or edges (4 * e + 2) 0))
  where
    go : (s : Bool) → pick s (lesser floor best (key_of (leaf_price w (get_or edges (4 * e + 3) 0)) (back_number (back r 0 e 0)))) best ≤ best
    go true = lesser_below floor best _
    go false = le_refl best

module _ (rules edges index : List ℕ) where
  edge_below : (c : Cell) (floor best e : ℕ) → edge_leaves rules edges index c floor best e ≤ best
  unfolding edge_leaves
  edge_below c floor best e = go (eqb (get_or edges (4 * e + 1) 0) c.to)
    where
      go : (s : Bool) → pick s (members index word_base c.head.0 (λ x r. word_leaf edges e floor x r (rule_at rules r)) best) best ≤ best
      go true =
          iter_below _ best (class_end index word_base c.head.0 - class_start index word_base c.head.0)
          (λ u x. word_below edges e floor u _ _)
      go false = le_refl best

  pub leaves_below : (c : Cell) (floor best : ℕ) → leaves rules edges index c floor best ≤ best
  unfolding leaves
  leaves_below c floor best =
      iter_below _ best (class_end index edge_base c.from - class_start index edge_base c.from) (λ u x. edge_below c floor u _)

  -- an edge whose word no rule of the head has
  edge_passed : (c : Cell) (floor best e : ℕ)
      → (get_or edges (4 * e + 1) 0 ≡ c.to → (z : ℕ) → class_start index word_base c.head.0 ≤ z → z < class_end index word_base c.head.0
      → word_of rules (get_or index z 0) ≡ get_or edges (4 * e + 2) 0 → ⊥) → edge_leaves rules edges index c floor best e ≡ best
  unfolding edge_leaves
  edge_passed c floor best e never = go (eqb (get_or edges (4 * e + 1) 0) c.to) refl
    where
      go : (s : Bool) → eqb (get_or edges (4 * e + 1) 0) c.to ≡ s
          → pick s (members index word_base c.head.0 (λ x r. word_leaf edges e floor x r (rule_at rules r)) best) best ≡ best
      go false q = refl
      go true q =
          iter_stays _ best (class_end index word_base c.head.0 - class_start index word_base c.head.0) λ z l.
          other_word rules edges e floor best _ (never (eqb-true _ _ q) (class_start index word_base c.head.0 + z) (omega arith) (omega arith))

  pub no_leaves : (c : Cell) (floor best : ℕ) → NoLeaf rules edges index c → leaves rules edges index c floor best ≡ best
  unfolding leaves
  no_leaves c floor best never =
      iter_stays _ best (class_end index edge_base c.from - class_start index edge_base c.from) λ y l.
      edge_passed c floor best _ (λ reaches z. never (class_start index edge_base c.from + y) z (omega arith) (omega arith) reaches)

  pub word_passed : (m : List ℕ) (c : Cell) (floor best e heads : ℕ) → Worded rules index m c.head.0 → EdgeHeads m edges e c.to heads
      → digit heads c.head.0 ≡ 0 → edge_leaves rules edges index c floor best e ≡ best
  word_passed m c floor best e heads worded has lacks =
      edge_passed c floor best e (λ reaches z h l same. worded.has z h l (rw same (has c.head.0 lacks reaches)))

  -- and one whose word a filter of the head's words lacks
  pub filter_passed : (c : Cell) (floor best e filter : ℕ) → WordFilter rules index c.head.0 filter
      → bit_and filter (word_bit (get_or edges (4 * e + 2) 0)) ≡ 0 → edge_leaves rules edges index c floor best e ≡ best
  filter_passed c floor best e filter words lacks =
      edge_passed c floor best e (λ reaches z h l same. words.has z h l (rw same (and_lacks filter (filter_place (get_or edges (4 * e + 2) 0)) lacks)))

-- one more word in a filter
pub filter_next : (rules : List ℕ) {index : List ℕ} {start y filter : ℕ} → WordsBefore rules index start y filter
    → WordsBefore rules index start (y + 1) (bit_or filter (word_bit (word_of rules (get_or index y 0))))
filter_next rules {index} {start} {y} {filter} before = record { has = λ z h l e. go z h l (or_lacks filter _ _ e) (ℕ_discrete z y) }
  where
    place : ℕ → ℕ
    place z = filter_place (word_of rules (get_or index z 0))

    go : (z : ℕ) → start ≤ z → z < y + 1 → (digit filter (place z) ≡ 0) × (digit (2 ^ place y) (place z) ≡ 0) → Dec (z ≡ y) → ⊥
    go z h l e (yes same) = omega (arith, own_digit (place y), rw same at e.1)
    go z h l e (no other) = before.has z h (omega arith) e.0
