-- The pending parts, as the array has them.
use mathlib.Core.Path.{◌≡◌, refl, ap}
use mathlib.Core.List.{List, [], ◌∷◌}
use Prim.Native.Nat.{ℕ, zero, suc, ◌+◌, ◌-◌, ◌≤◌, ◌<◌}
use native.Mathlib.Numerals.{add-one}
use native.Mathlib.Omega.{arith}
use lib.ListN.{length, get_or, set}
use lib.Seq.{get_or-set_same, get_or-set_other}
use Rattle.std.specs.Prelude.{Option, Some, None}
use Rattle.packing.specs.Meaning.{symbol_of}
use Rattle.chart_table.specs.declared.Part.{Part}
use Rattle.chart_trace.specs.declared.right_parts.RightPart.{RightPart}
use Rattle.chart_trace.specs.RightParts.{right_part_of, backwards, part_from, popped, left_pending}

pub length-backwards : (parts : List RightPart) (n : ℕ) → length (backwards parts n) ≡ n
unfolding backwards
length-backwards parts zero = refl
length-backwards parts (suc n) = ap suc (length-backwards parts n)

-- what is stored behind them does not matter
backwards-set : (parts : List RightPart) (n m : ℕ) (q : RightPart) → n ≤ m → backwards (set parts m q) n ≡ backwards parts n
unfolding backwards
backwards-set parts zero m q h = refl
backwards-set parts (suc n) m q h =
    rw (get_or-set_other parts m n q (right_part_of (symbol_of 0) 0 0) (λ z. omega arith), backwards-set parts n m q (omega arith))

pub pushed : (parts : List RightPart) (n : ℕ) (q : RightPart) → n < length parts → backwards (set parts n q) (n + 1) ≡ q ∷ backwards parts n
unfolding backwards
pushed parts n q h =
    rw (add-one n, get_or-set_same parts n q (right_part_of (symbol_of 0) 0 0) h, backwards-set parts n n q (omega arith))

module _ (parts : List RightPart) (from : ℕ) where
  abbrev Pops : ℕ → ℕ → Option Part → Type 0
  Pops n m p = (p ≡ popped from (backwards parts n)) × (backwards parts m ≡ left_pending (backwards parts n))

  pub pops_none : (n : ℕ) → n ≡ 0 → Pops n n None
  unfolding backwards
  pops_none n e = rw e (refl, refl)

  pub pops_one : (n : ℕ) → (n ≡ 0 → ⊥) → Pops n (n - 1) (Some (part_from from (get_or parts (n - 1) (right_part_of (symbol_of 0) 0 0))))
  unfolding backwards
  pops_one zero some = absurd (some refl)
  pops_one (suc n) some = let e : suc n - 1 ≡ n = omega arith in rw e (refl, refl)
