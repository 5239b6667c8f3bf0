-- A part filled or left out, the head of a rule, and a cell that is put. Assumes nothing.
use mathlib.Core.Path.{◌≡◌, refl, ◌∙◌}
use mathlib.Core.Bool.{Bool, true, false}
use mathlib.Core.List.{List}
use Prim.Native.Nat.{ℕ, ◌+◌, ◌-◌, ◌*◌, ◌/◌, ◌%◌, ◌≤◌, ◌<◌}
use native.Mathlib.Omega.{arith}
use borrow.Author.Tests.{lt-ltb, le-ltb}
use lib.Dec.{eqb}
use lib.ListN.{length, get_or, set, length-set}
use lib.Seq.{get_or-set_same, get_or-set_other}
use Rattle.bits.specs.Bits.{pick}
use Rattle.packing.specs.Meaning.{symbol_of, word}
use Rattle.packing.specs.declared.Sym.{Sym}
use Rattle.packing.specs.declared.Rule.TheVariants.{Pair, Word}
use Rattle.phrases.specs.Recursion.{head_of}
use Rattle.specimen.specs.Table.{fitted, fitted_at}
use Rattle.next_phrase.specs.Table.{cell_at, put_cell, fill_part, part_step}
use Rattle.next_phrase.specs.declared.Cell.{Cell}

-- a part is filled, or left out where it passes the end
module _ (rules : List ℕ) (count : ℕ) (s : List ℕ) (t : List Cell) (p : ℕ) where
  pub part_left_out : length s < p % 6 + (p / 6 + 1) → t ≡ part_step rules count s t p
  unfolding part_step
  part_left_out h = rw (lt-ltb _ _ h)

  pub part_filled : p % 6 + (p / 6 + 1) ≤ length s → fill_part rules count s (p % 6) (p / 6 + 1) t ≡ part_step rules count s t p
  unfolding part_step
  part_filled h = rw (le-ltb _ _ h)

-- the head of a rule is the second of its numbers
pub head_is : (rules : List ℕ) (r : ℕ) → (head_of (fitted_at rules r)).0 ≡ get_or rules (5 * r + 1) 0
head_is rules r = go (eqb (get_or rules (5 * r) 0) 0)
  where
    go : (x : Bool) → (head_of (fitted (pick x
        (Pair (symbol_of (get_or rules (5 * r + 1) 0)) (symbol_of (get_or rules (5 * r + 3) 0)) (symbol_of (get_or rules (5 * r + 4) 0))
        (get_or rules (5 * r + 2) 0))
        (Word (symbol_of (get_or rules (5 * r + 1) 0)) (word (get_or rules (5 * r + 3) 0)) (get_or rules (5 * r + 2) 0))))).0 ≡ get_or rules (5 * r + 1) 0
    go true = refl
    go false = refl

-- a cell that is put is read there, and the others are as they were
module _ (t : List Cell) (c : ℕ) (x : Cell) (room : length t ≡ 1152) (h : c < 1152) where
  pub put_length : length (put_cell t c x) ≡ 1152
  put_length = simp length-set room

  pub put_same : cell_at (put_cell t c x) c ≡ x
  put_same = get_or-set_same t c x _ (omega arith)

  pub put_other : (d : ℕ) → (d ≡ c → ⊥) → cell_at (put_cell t c x) d ≡ cell_at t d
  put_other d n = get_or-set_other t c d x _ n
