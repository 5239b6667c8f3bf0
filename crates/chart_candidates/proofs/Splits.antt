-- The loop over the splits of a cell: where the first entries of the two parts stand at split j, and the best so far. The loop
-- itself knows only where they stand at the first split and by how much they go on, so what it keeps is said of every layout
-- and every cell that it can have after_first with.
use mathlib.Core.Path.{◌≡◌, sym, ◌∙◌}
use mathlib.Core.List.{List}
use Prim.Native.Nat.{ℕ, zero, suc, ◌+◌, ◌-◌, ◌*◌, ◌≤◌, ◌<◌}
use native.Mathlib.Nat.{mul-le-mul, mul-suc}
use native.Mathlib.Omega.{arith}
use lib.ListN.{length}
use Rattle.packing.specs.Loop.{over}
use Rattle.packing.specs.declared.Sym.{Sym}
use Rattle.chart_keys.specs.Keys.{back, back_number, join_price, key_of, lesser}
use Rattle.chart_table.specs.declared.Cell.{Cell}
use Rattle.chart_table.specs.declared.Layout.{Layout}
use Rattle.chart_table.specs.Table.{last_place, cell, left_part, right_part, cell_number, entry_of, price_in}
use Rattle.chart_table.proofs.Cells.{entry_from_suc, entry_to_suc, first_price}
use Rattle.chart_candidates.specs.declared.PairRule.{PairRule}
use Rattle.chart_candidates.specs.Candidates.{pair_key}
use Rattle.chart_candidates.proofs.Loops.{from_none, from_more, from_turn}

-- what keeps the loop's sums in range
pub record InRange (step first end j x y : ℕ) : Type 0 where
  pub after_first : first ≤ j
  pub turns : j - first ≤ end - first
  pub last : end ≤ last_place
  pub apart : step ≤ 128
  pub left : x ≤ 17592186044416 + 4096 * j
  pub right : y ≤ 17592186044416 + 4096 * j

-- a stride, by which the left part's entry goes on, and the next one
pub stride_small : {step j : ℕ} → step ≤ 128 → j ≤ last_place → step * j ≤ 3968
stride_small {step} {j} s h = mul-le-mul {n₁ = step} {m₁ = j} {n₂ = 128} {m₂ = 31} s h

pub stride_next : (step j : ℕ) {stride : ℕ} → stride ≡ step * j → stride + step ≡ step * (j + 1)
stride_next step j e =
    let n : j + 1 ≡ suc j = omega arith in
    rw (n, mul-suc, e)

pub step_small : {step first end j x y : ℕ} → InRange step first end j x y → j < end → step * j ≤ 3968
step_small r h = stride_small r.apart (omega (arith, r.last))

-- what does not fall at a step does not fall over many
grows : (f : ℕ → ℕ) → ((n : ℕ) → f n ≤ f (n + 1)) → (m more : ℕ) → f m ≤ f (m + more)
grows f up m zero =
    let e : m + zero ≡ m = omega arith in
    rw e (omega arith)
grows f up m (suc more) =
    let e : m + suc more ≡ m + more + 1 = omega arith in
    rw e (omega (arith, grows f up m more, up (m + more)))

module _ (d : Layout) (a : Sym) where
  to_in_order : (i k l : ℕ) → k ≤ l → entry_of d (cell_number d (cell a i k)) 0 ≤ entry_of d (cell_number d (cell a i l)) 0
  to_in_order i k l h =
      let e : k + (l - k) ≡ l = omega arith in
      rw e at (grows (λ n. entry_of d (cell_number d (cell a i n)) 0) (λ n. omega (arith, entry_to_suc d a i n)) k (l - k))

  from_in_order : (i j k : ℕ) → i ≤ j → entry_of d (cell_number d (cell a i k)) 0 ≤ entry_of d (cell_number d (cell a j k)) 0
  from_in_order i j k h =
      let e : i + (j - i) ≡ j = omega arith in
      rw e at (grows (λ n. entry_of d (cell_number d (cell a n k)) 0) (λ n. omega (arith, entry_from_suc d a n k)) i (j - i))

-- the seed of a rule at a split
abbrev pub seed_key : List ℕ → Layout → PairRule → Cell → ℕ → ℕ
seed_key t d rule c j =
    pair_key t d (left_part c rule.first j) (right_part c rule.second j) rule.weight (back rule.number j 0 0)

module _ (t : List ℕ) (rule : PairRule) (floor best step first end x₀ y₀ : ℕ) where
  pub record From (d : Layout) (c : Cell) : Type 0 where
    pub kept : 0 < d.ranks
    pub apart : step ≡ d.symbols * 4
    pub left : x₀ ≡ entry_of d (cell_number d (left_part c rule.first first)) 0
    pub right : y₀ ≡ entry_of d (cell_number d (right_part c rule.second first)) 0

  pub record At (j x y so_far : ℕ) (d : Layout) (c : Cell) : Type 0 where
    pub left : x ≡ entry_of d (cell_number d (left_part c rule.first j)) 0
    pub right : y ≡ entry_of d (cell_number d (right_part c rule.second j)) 0
    pub seeds : so_far ≡ over (λ s j. lesser floor s (seed_key t d rule c j)) best first j

  -- the table is long enough for the last split
  pub record Long : Type 0 where
    pub d : Layout
    pub c : Cell
    pub from_first : From d c
    pub last : end ≡ c.to
    pub left : entry_of d (cell_number d (left_part c rule.first (c.to - 1))) 0 + 1 < length t
    pub right : entry_of d (cell_number d (right_part c rule.second (c.to - 1))) 0 + 1 < length t

  abbrev pub Kept : ℕ → ℕ → ℕ → ℕ → Type 0
  Kept j x y so_far = (d : Layout) (c : Cell) → From d c → At j x y so_far d c

  pub at_first : (so_far : ℕ) → so_far ≡ best → Kept first x₀ y₀ so_far
  at_first so_far e d c f = record { left = f.left; right = f.right; seeds = e ∙ sym (from_none _ _ _) }

  pub at_next : (j x y so_far : ℕ) → first ≤ j → Kept j x y so_far
      → Kept (j + 1) (x + step * j) (y + step)
      (lesser floor so_far (key_of (join_price rule.weight (price_in t x) (price_in t y)) (back_number (back rule.number j 0 0))))
  unfolding pair_key
  at_next j x y so_far h kept d c f =
      let a = kept d c f in
      record {
        left = rw (entry_to_suc d rule.first c.from j, f.apart, a.left);
        right = rw (entry_from_suc d rule.second j c.to, f.apart, a.right);
        seeds =
            rw (
              from_more,
              from_turn,
              ← a.seeds,
              first_price t d (cell_number d (left_part c rule.first j)) f.kept,
              first_price t d (cell_number d (right_part c rule.second j)) f.kept,
              ← a.left,
              ← a.right,
            );
      }

  module _ (long : Long) (j x y so_far : ℕ) (kept : Kept j x y so_far) (h : j < end) where
    pub left_read : x + 1 < length t
    left_read =
        omega (
          arith,
          (kept _ _ long.from_first).left,
          to_in_order long.d rule.first long.c.from j (long.c.to - 1) (omega (arith, long.last)),
          long.left,
        )

    pub right_read : y + 1 < length t
    right_read =
        omega (
          arith,
          (kept _ _ long.from_first).right,
          from_in_order long.d rule.second j (long.c.to - 1) long.c.to (omega (arith, long.last)),
          long.right,
        )
