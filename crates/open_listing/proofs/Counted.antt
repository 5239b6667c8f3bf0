-- The ranks that a first call adds: behind the table's front nothing is changed, and at the front there is one rank of each cell. What was found stays.
use mathlib.Core.Path.{◌≡◌, refl, sym, ap, ◌∙◌}
use mathlib.Core.Bool.{Bool, true, false}
use mathlib.Core.List.{List, ◌++◌}
use Prim.Native.Nat.{ℕ, zero, suc, ◌+◌, ◌-◌, ◌*◌, ◌%◌, ◌≤◌, ◌<◌}
use native.Mathlib.Omega.{arith}
use borrow.Author.Tests.{ne_eqb}
use lib.Dec.{ltb, eqb}
use lib.ListN.{length, get_or, take, drop, replicate, get_or-replicate}
use lib.Seq.{get_or-append-add, get_or-take, get_or-drop}
use Rattle.bits.specs.Bits.{pick}
use Rattle.packing.specs.Loop.{iter}
use Rattle.chart_table.specs.declared.Layout.{Layout}
use Rattle.chart_table.specs.Table.{entry_of, price_at, back_at, count_found}

-- a count of what is not 0, where only the first can differ
abbrev counted : (ℕ → ℕ) → ℕ → ℕ
counted f n = iter (λ m x. pick (eqb (f x) 0) m (m + 1)) 0 n

one_more : (f h : ℕ → ℕ) → ((x : ℕ) → 0 < x → h x ≡ f x) → (n : ℕ) → counted h n ≤ counted f n + 1
unfolding iter
one_more f h same zero = omega arith
one_more f h same (suc zero) = go (eqb (h 0) 0) (eqb (f 0) 0)
  where
    go : (a b : Bool) → pick a 0 (0 + 1) ≤ pick b 0 (0 + 1) + 1
    go true b = omega arith
    go false true = omega arith
    go false false = omega arith
one_more f h same (suc (suc n)) = rw (same (suc n) (omega arith)) (go (eqb (f (suc n)) 0) (one_more f h same (suc n)))
  where
    go : (b : Bool) → counted h (suc n) ≤ counted f (suc n) + 1
        → pick b (counted h (suc n)) (counted h (suc n) + 1) ≤ pick b (counted f (suc n)) (counted f (suc n) + 1) + 1
    go true l = l
    go false l = omega arith

-- behind the front
behind : (n : ℕ) (e work : List ℕ) → length e ≡ n → (i : ℕ) → n ≤ i → get_or (e ++ drop n work) i 0 ≡ get_or work i 0
behind n e work size i h =
    let at : length e + (i - n) ≡ i = omega arith in
    let again : n + (i - n) ≡ i = omega arith in
    ap (λ (k : ℕ). get_or (e ++ drop n work) k 0) (sym at) ∙ get_or-append-add e (drop n work) (i - n) 0 ∙ get_or-drop n work (i - n) 0
    ∙ ap (λ (k : ℕ). get_or work k 0) again

module _ (d : Layout) (e work : List ℕ) (size : length e ≡ 4 * d.cells) where
  abbrev after : List ℕ
  after = e ++ drop (4 * d.cells) work

  -- the further ranks, whose trees stand there
  further : (c x : ℕ) → 0 < x → (price_at after d c x ≡ price_at work d c x) × (back_at after d c x ≡ back_at work d c x)
  unfolding price_at back_at entry_of
  further c x positive =
      let at = (d.cells + c * (d.ranks - 1) + (x - 1)) * 4 in
      rw (
        ne_eqb x 0 (λ z. omega arith),
        behind (4 * d.cells) e work size at (omega arith),
        behind (4 * d.cells) e work size (at + 1) (omega arith),
        behind (4 * d.cells) e work size (at + 2) (omega arith),
      )
      (refl, refl)

  pub first_adds : (c : ℕ) → count_found after d c ≤ count_found work d c + 1
  unfolding count_found
  first_adds c = one_more (price_at work d c) (price_at after d c) (λ x positive. (further c x positive).0) d.ranks

  -- where the front was zeros, a first rank was not found
  module _ (clear : take (4 * d.cells) work ≡ replicate (4 * d.cells) 0) where
    zero_at : (i : ℕ) → i < 4 * d.cells → get_or work i 0 ≡ 0
    zero_at i l =
        sym (get_or-take (4 * d.cells) work i 0 l) ∙ ap (λ (t : List ℕ). get_or t i 0) clear ∙ get_or-replicate (4 * d.cells) i 0 0 l

    no_first : (c : ℕ) → c < d.cells → price_at work d c 0 ≡ 0
    unfolding price_at entry_of
    no_first c l = rw (zero_at (c * 4) (omega arith), zero_at (c * 4 + 1) (omega arith)) (go (ltb 0 d.ranks))
      where
        go : (b : Bool) → pick b (0 % 2048 * 4294967296 + 0) 0 ≡ 0
        go true = refl
        go false = refl

    pub first_stays : (c x : ℕ) → c < d.cells → 0 < price_at work d c x
        → (price_at after d c x ≡ price_at work d c x) × (back_at after d c x ≡ back_at work d c x)
    first_stays c zero l found = absurd (omega (arith, no_first c l))
    first_stays c (suc x) l found = further c (suc x) (omega arith)
