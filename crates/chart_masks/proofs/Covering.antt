-- The masks cover the table again where a cell is found and marked: the first rank of a cell, stored, is that of no other.
use mathlib.Core.Path.{◌≡◌, refl, ◌∙◌}
use mathlib.Core.Logic.{◌≢◌}
use mathlib.Core.Bool.{Bool, true, false}
use mathlib.Core.List.{List}
use Prim.Native.Nat.{ℕ, ◌+◌, ◌*◌, ◌/◌, ◌%◌, ◌≤◌, ◌<◌}
use native.Mathlib.Decide.{ℕ_discrete}
use native.Mathlib.Omega.{arith}
use lib.Dec.{ltb}
use lib.ListN.{length, get_or, set}
use lib.Seq.{get_or-set_other}
use Rattle.bits.specs.Bits.{pick}
use Rattle.packing.specs.declared.Sym.{Sym}
use Rattle.chart_keys.specs.Keys.{key_unit, no_key}
use Rattle.chart_table.specs.declared.Cell.{Cell}
use Rattle.chart_table.specs.declared.Layout.{Layout}
use Rattle.chart_table.specs.Table.{
  last_place,
  cell,
  cell_number,
  entry_of,
  price_in,
  price_at,
  beside_at,
  put_beside,
  put_found,
  last_rank,
  put_last_rank,
  put_key,
  InTable,
}
use Rattle.chart_table.proofs.Cells.{cell_injective, first_price}
use Rattle.masks.specs.Digits.{digit, Put}
use Rattle.chart_masks.specs.Masks.{mask_numbers, ends_at, starts_at, Marked, Covers}

-- the first rank of a cell, stored, is that of no other
beside_other : (t : List ℕ) (d : Layout) (c n c' : ℕ) → c' ≢ c → price_in (put_beside t d c 0 n) (c' * 4) ≡ price_in t (c' * 4)
unfolding put_beside entry_of
beside_other t d c n c' other =
    let one : List ℕ = set t (c * 4 + 1) (n / 4294967296 * 2048 + get_or t (c * 4 + 1) 0 % 2048) in
    let low = get_or-set_other one (c * 4 + 3) (c' * 4) (n % 4294967296) 0 (λ e. omega arith)
    ∙ get_or-set_other t (c * 4 + 1) (c' * 4) (n / 4294967296 * 2048 + get_or t (c * 4 + 1) 0 % 2048) 0 (λ e. omega arith) in
    let high = get_or-set_other one (c * 4 + 3) (c' * 4 + 1) (n % 4294967296) 0 (λ e. omega arith)
    ∙ get_or-set_other t (c * 4 + 1) (c' * 4 + 1) (n / 4294967296 * 2048 + get_or t (c * 4 + 1) 0 % 2048) 0 (λ e. other (omega arith)) in
    rw (low, high)

last_other : (t : List ℕ) (d : Layout) (c rank c' : ℕ) → c' ≢ c → price_in (put_last_rank t d c rank) (c' * 4) ≡ price_in t (c' * 4)
unfolding put_last_rank
last_other t d c rank c' other = go (ltb (last_rank t d c) rank)
  where
    go : (s : Bool) → price_in (pick s (put_beside t d c 0 ((beside_at t d c 0 / 262144 * 512 + rank) * 512 + beside_at t d c 0 % 512)) t) (c' * 4)
        ≡ price_in t (c' * 4)
    go true = beside_other t d c ((beside_at t d c 0 / 262144 * 512 + rank) * 512 + beside_at t d c 0 % 512) c' other
    go false = refl

found_other : (t : List ℕ) (d : Layout) (c price back c' : ℕ) → c' ≢ c → price_in (put_found t d c 0 price back) (c' * 4) ≡ price_in t (c' * 4)
unfolding put_found entry_of
found_other t d c price back c' other =
    let one : List ℕ = set t (c * 4) (price % 4294967296) in
    let high : ℕ = get_or t (c * 4 + 1) 0 / 2048 * 2048 + price / 4294967296 in
    let p = get_or-set_other (set one (c * 4 + 1) high) (c * 4 + 2) (c' * 4) (back % 4294967296) 0 (λ e. omega arith)
    ∙ get_or-set_other one (c * 4 + 1) (c' * 4) high 0 (λ e. omega arith)
    ∙ get_or-set_other t (c * 4) (c' * 4) (price % 4294967296) 0 (λ e. other (omega arith)) in
    let q = get_or-set_other (set one (c * 4 + 1) high) (c * 4 + 2) (c' * 4 + 1) (back % 4294967296) 0 (λ e. omega arith)
    ∙ get_or-set_other one (c * 4 + 1) (c' * 4 + 1) high 0 (λ e. other (omega arith))
    ∙ get_or-set_other t (c * 4) (c' * 4 + 1) (price % 4294967296) 0 (λ e. omega arith) in
    rw (p, q)

first_other : (t : List ℕ) (d : Layout) (c c' key : ℕ) → 0 < d.ranks → c' ≢ c → price_at (put_key t d c 0 key) d c' 0 ≡ price_at t d c' 0
unfolding put_key entry_of
first_other t d c c' key kept other =
    rw (first_price (put_key t d c 0 key) d c' kept, first_price t d c' kept) (go (ltb key no_key))
  where
    go : (s : Bool)
        → price_in (pick s (put_last_rank (put_found t d c 0 (key / key_unit) (key % key_unit)) d c 0) t) (c' * 4) ≡ price_in t (c' * 4)
    go false = refl
    go true =
        last_other (put_found t d c 0 (key / key_unit) (key % key_unit)) d c 0 c' other
        ∙ found_other t d c (key / key_unit) (key % key_unit) c' other

module _ (m m' t : List ℕ) (d : Layout) (a : Sym) (i k key : ℕ) (s : a.0 < d.symbols) (kept : 0 < d.ranks)
    (l : i < k) (h : k ≤ last_place) (covers : Covers m t d) (mark : Marked m (cell a i k) m') where
  pub covers_more : Covers m' (put_key t d (cell_number d (cell a i k)) 0 key) d
  covers_more = record {
    size = rw mark.size covers.size;
    ends = λ b x y s' l' h' e. from b x y s' l' h' e (ℕ_discrete (cell_number d (cell b x y)) (cell_number d (cell a i k)));
    starts = λ b x y s' l' h' e. to b x y s' l' h' e (ℕ_discrete (cell_number d (cell b x y)) (cell_number d (cell a i k)));
  }
    where
      from : (b : Sym) (x y : ℕ) → b.0 < d.symbols → x < y → y ≤ last_place → digit (get_or m' (ends_at b x) 0) y ≡ 0
          → Dec (cell_number d (cell b x y) ≡ cell_number d (cell a i k))
          → price_at (put_key t d (cell_number d (cell a i k)) 0 key) d (cell_number d (cell b x y)) 0 ≡ 0
      from b x y s' l' h' e (no other) =
          first_other t d (cell_number d (cell a i k)) (cell_number d (cell b x y)) key kept other ∙ covers.ends b x y s' l' h' (mark.kept _ y e)
      from b x y s' l' h' e (yes same) =
          let (p, q, r) = cell_injective d b a x y i k s' s l' l same in absurd (mark.end (rw (p, q, r) at e))

      to : (b : Sym) (x y : ℕ) → b.0 < d.symbols → x < y → y ≤ last_place → digit (get_or m' (starts_at b y) 0) x ≡ 0
          → Dec (cell_number d (cell b x y) ≡ cell_number d (cell a i k))
          → price_at (put_key t d (cell_number d (cell a i k)) 0 key) d (cell_number d (cell b x y)) 0 ≡ 0
      to b x y s' l' h' e (no other) =
          first_other t d (cell_number d (cell a i k)) (cell_number d (cell b x y)) key kept other ∙ covers.starts b x y s' l' h' (mark.kept _ x e)
      to b x y s' l' h' e (yes same) =
          let (p, q, r) = cell_injective d b a x y i k s' s l' l same in absurd (mark.start (rw (p, q, r) at e))

-- any masks cover a table of which no first rank is found
pub covers_zeros : (m t : List ℕ) (d : Layout) → mask_numbers ≤ length m → ((x : ℕ) → get_or t x 0 ≡ 0) → Covers m t d
unfolding price_at
covers_zeros m t d h z = record { size = h; ends = λ b i k s l h' e. go b i k; starts = λ b i k s l h' e. go b i k }
  where
    go : (b : Sym) (i k : ℕ) → price_at t d (cell_number d (cell b i k)) 0 ≡ 0
    go b i k = pick_zero (ltb 0 d.ranks) (rw (z (entry_of d (cell_number d (cell b i k)) 0), z (entry_of d (cell_number d (cell b i k)) 0 + 1)))
      where
        pick_zero : (s : Bool) {x : ℕ} → x ≡ 0 → pick s x 0 ≡ 0
        pick_zero true e = e
        pick_zero false e = refl

-- a cell that is found, stored and marked
pub covers_found : {m t : List ℕ} {d : Layout} {c : Cell} {m' t' : List ℕ} (number key : ℕ) → InTable d c → c.head.0 < d.symbols
    → Covers m t d → number ≡ cell_number d c → t' ≡ put_key t d number 0 key → Marked m c m' → Covers m' t' d
covers_found {m} {t} {d} {c} {m'} number key inside s covers e p q =
    rw (p, e) (covers_more m m' t d c.head c.from c.to key s inside.sized.kept inside.order inside.last covers q)

-- a cell is marked by four masks put into others
pub marked_puts : {m m₁ m₂ m₃ m₄ : List ℕ} (c : Cell) (head to from firsts seconds : ℕ) → head ≡ c.head.0
    → c.head.0 ≤ last_place → c.from ≤ last_place → c.to ≤ last_place
    → digit to c.to ≡ 1 → digit from c.from ≡ 1 → firsts ≡ get_or m (2336 + head) 0 → seconds ≡ get_or m (2400 + head) 0
    → Put m (c.from * 32 + head) to m₁ → Put m₁ (1024 + c.to * 32 + head) from m₂ → Put m₂ (2464 + c.from) firsts m₃
    → Put m₃ (2496 + c.to) seconds m₄ → length m₄ ≡ length m → Marked m c m₄
marked_puts {m} {m₁} {m₂} {m₃} {m₄} c head to from firsts seconds is h i k one one' f g p₁ p₂ p₃ p₄ size = record {
  size = size;
  kept = λ y j e. p₁.kept y j (p₂.kept y j (p₃.kept y j (p₄.kept y j e)));
  end = λ e. let z = p₁.has c.to (rw (← is) at (p₂.kept _ _ (p₃.kept _ _ (p₄.kept _ _ e)))) in omega (arith, z, one);
  start = λ e. let z = p₂.has c.from (rw (← is) at (p₃.kept _ _ (p₄.kept _ _ e))) in omega (arith, z, one');
  left = λ a e. rw (← is, ← f) (p₃.has a (p₄.kept _ _ e));
  right = λ a e. rw (← is, ← g) (p₄.has a e);
  other = λ y n₁ n₂ n₃ n₄.
      p₄.other y n₄ ∙ p₃.other y n₃ ∙ p₂.other y (λ e. n₂ (rw (← is) e)) ∙ p₁.other y (λ e. n₁ (rw (← is) e));
}
