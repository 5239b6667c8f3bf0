-- A reading's fields, written one after the other, are its block, for which its length leaves room.
-- Assumes nothing.
use mathlib.Core.Path.{◌≡◌, ap, ◌∙◌}
use mathlib.Core.List.{List, [], ◌∷◌}
use Prim.Native.Nat.{ℕ, zero, suc, ◌+◌, ◌-◌, ◌*◌, ◌≤◌, ◌<◌}
use native.Mathlib.Omega.{arith}
use lib.ListN.{length, take, drop, get_or}
use lib.Seq.{drop-cons, length-take-le}
use Rattle.bits.specs.Put.{put, laid, puts}
use Rattle.bits.specs.Width.{width_of}
use Rattle.bits.specs.Fields.{Fld, fld, widths, bits_of_all}
use Rattle.bits.proofs.Fields.{puts_block}
use Rattle.packing.specs.Source.{flds}
use Rattle.packing.specs.Reading.{walk_entries, reading_entries, reading_length}
use Rattle.packing.proofs.Widths.{walk_bits}
use Rattle.reading_writer.specs.Answer.{walk_in, reading_of}

pub walk_length : (n : ℕ) (l : List ℕ) → length l ≡ 2 * n → length (walk_in l) ≡ n
unfolding walk_in
walk_length n [] e = omega arith
walk_length n (r ∷ []) e = absurd (omega arith)
walk_length zero (r ∷ x ∷ l) e = absurd (omega arith)
walk_length (suc n) (r ∷ x ∷ l) e = ap suc (walk_length n l (omega arith))

module _ (R : ℕ) where
  -- what a block's length leaves room for, and the block from its fields
  module _ (n w : ℕ) (trace o : List ℕ) (h : 2 * (2 * n - 1) ≤ length trace) (l : reading_length n R ≤ length o) where
    abbrev walk : List ℕ
    walk = walk_in (take (2 * (2 * n - 1)) trace)

    pub walk_room : 34 + widths (flds (walk_entries R walk)) ≤ 8 * length o
    unfolding reading_length
    walk_room =
        let nodes : length walk ≡ 2 * n - 1 = walk_length (2 * n - 1) (take (2 * (2 * n - 1)) trace) (length-take-le (2 * (2 * n - 1)) trace h) in
        rw (walk_bits R walk, nodes) (omega arith)

    pub reading_written : ((i : ℕ) → get_or o i 0 < 256) → {kind slots weight out : List ℕ} → kind ≡ put o 0 4 3 → slots ≡ put kind 4 6 n
        → weight ≡ put slots 10 24 w → out ≡ puts weight 34 (flds (walk_entries R walk))
        → out ≡ laid o (bits_of_all (flds (reading_entries R (reading_of n w trace))))
    unfolding reading_entries puts widths
    reading_written y e₁ e₂ e₃ e = rw (e₃, e₂, e₁) at e ∙ puts_block o (flds (reading_entries R (reading_of n w trace))) y (omega (arith, walk_room))

  -- what is left to write of n nodes behind the first i
  abbrev pub rest : List ℕ → ℕ → ℕ → List Fld
  rest trace n i = flds (walk_entries R (walk_in (take (2 * (n - i)) (drop (2 * i) trace))))

  module _ (trace : List ℕ) (n i : ℕ) where
    pub rest_more : {w : ℕ} → w ≡ width_of (R - 1) → i < n → 2 * n ≤ length trace → rest trace n i ≡ fld w (get_or trace (2 * i) 0) ∷ rest trace n (i + 1)
    unfolding walk_entries walk_in
    rest_more e l h =
        let z : 2 * (n - i) ≡ suc (suc (2 * (n - (i + 1)))) = omega arith in
        let y : suc (suc (2 * i)) ≡ 2 * (i + 1) = omega arith in
        rw (e, z, drop-cons trace (2 * i) 0 (omega arith), drop-cons trace (suc (2 * i)) 0 (omega arith), y)

    pub rest_end : n ≤ i → rest trace n i ≡ []
    unfolding walk_entries walk_in
    rest_end l = let z : 2 * (n - i) ≡ 0 = omega arith in rw z
