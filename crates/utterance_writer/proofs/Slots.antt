-- The fields of an array's candidates and slots, one after the other.
-- Assumes nothing.
use mathlib.Core.Path.{◌≡◌, refl, sym, ap, ◌∙◌}
use mathlib.Core.List.{List, [], ◌∷◌, ◌++◌, map-append}
use Prim.Native.Nat.{ℕ, zero, suc, ◌+◌, ◌-◌, ◌*◌, ◌/◌, ◌≤◌, ◌<◌}
use native.Mathlib.Nat.{mul-le-mul}
use native.Mathlib.Omega.{arith}
use lib.ListN.{length, get_or}
use Rattle.bits.specs.Put.{put, puts}
use Rattle.bits.specs.Width.{width_of}
use Rattle.bits.specs.Fields.{Fld, fld, widths}
use Rattle.bits.proofs.Fields.{length_block}
use Rattle.bits.proofs.Remaining.{Remaining, one_written, some_within, some_written}
use Rattle.packing.specs.Meaning.{Candidate, candidate}
use Rattle.packing.specs.Source.{fld_of, flds}
use Rattle.packing.specs.Utterance.{candidates_entries, slots_entries}
use Rattle.packing.specs.Flat.{candidates_of, slots_by, slots_of}
use Rattle.packing.proofs.Flat.{length_candidates_of}
use Rattle.packing.proofs.Widths.{byte_width}
use Rattle.sheet_writer.specs.Arrays.{candidates_fields, slots_fields, slots_bits, utterance_fields, block_of}

pub candidates_small : {m w : ℕ} → m ≤ 180 → w ≤ 24 → m * w ≤ 4320
candidates_small h k = mul-le-mul h k

-- slots that have m numbers together: the block's length, and that they take few bits
module _ (W : ℕ) (l : List ℕ) (n m : ℕ) (e : widths (slots_fields W l 0 n) ≡ slots_bits W n m) where
  pub block_length : (10 + slots_bits W n m + 7) / 8 ≡ length (block_of (utterance_fields W n l))
  unfolding widths
  block_length = ap (λ (k : ℕ). (k + 7) / 8) (omega arith) ∙ sym (length_block (utterance_fields W n l))

  pub slots_small : W ≤ 200 → m ≤ 360 → n ≤ 24 → widths (slots_fields W l 0 n) ≤ 4392
  slots_small w k h =
      let b : (m - n) / 2 * (width_of (W - 1) + 16) ≤ 4320 = candidates_small (omega arith) (omega (arith, byte_width W (omega arith))) in
      omega (arith, e)

-- the least word is no part of the fields
any_least : (W least : ℕ) (cs : List Candidate) → flds (candidates_entries W least cs) ≡ flds (candidates_entries W 0 cs)
unfolding candidates_entries
any_least W least [] = refl
any_least W least (candidate w c ∷ cs) = refl

module _ (W : ℕ) (l : List ℕ) where
  -- each candidate takes some bits, whatever words may stand there
  some_bits : (least p n : ℕ) → 2 * n ≤ widths (flds (candidates_entries W least (candidates_of l n p)))
  unfolding candidates_entries candidates_of widths
  some_bits least p zero = omega arith
  some_bits least p (suc n) = omega (arith, some_bits (suc (get_or l p 0)) (p + 2) n)

  pub candidates_some : (p n : ℕ) → 2 * n ≤ widths (candidates_fields W l p n)
  candidates_some p n = some_bits 0 p n

  module _ (p n i : ℕ) where
    pub candidates_end : n ≤ i → candidates_fields W l (p + 2 * i) (n - i) ≡ []
    unfolding candidates_entries candidates_of
    candidates_end h = let z : n - i ≡ 0 = omega arith in rw z

    pub candidates_more : {w : ℕ} → w ≡ width_of (W - 1) → i < n
        → candidates_fields W l (p + 2 * i) (n - i)
        ≡ fld w (get_or l (p + 2 * i) 0) ∷ fld 16 (get_or l (p + 2 * i + 1) 0) ∷ candidates_fields W l (p + 2 * (i + 1)) (n - (i + 1))
    unfolding candidates_entries candidates_of
    candidates_more e h =
        let z : n - i ≡ suc (n - (i + 1)) = omega arith in
        let q : p + 2 * (i + 1) ≡ p + 2 * i + 2 = omega arith in
        rw (e, z, q, any_least W (suc (get_or l (p + 2 * i) 0)) (candidates_of l (n - (i + 1)) (p + 2 * i + 2)))

    pub slots_end : n ≤ i → slots_fields W l p (n - i) ≡ []
    unfolding slots_entries slots_by
    slots_end h = let z : n - i ≡ 0 = omega arith in rw z

    pub slots_more : {k : ℕ} → k ≡ get_or l p 0 → i < n
        → slots_fields W l p (n - i) ≡ fld 3 k ∷ (candidates_fields W l (p + 1) k ++ slots_fields W l (p + 1 + 2 * k) (n - (i + 1)))
    unfolding slots_entries slots_by
    slots_more {k} e h =
        let z : n - i ≡ suc (n - (i + 1)) = omega arith in
        let cs = candidates_of l k (p + 1) in
        let es = slots_entries W (slots_of l (n - (i + 1)) (p + 1 + 2 * k)) in
        rw (z, ← e, length_candidates_of l k (p + 1), map-append fld_of (candidates_entries W 0 cs) es)

-- a slot whose fields come next: there is room for them, and behind them the next slot's remain
module _ (W : ℕ) (l : List ℕ) (p n i : ℕ) {o out : List ℕ} {start at k : ℕ} {fs : List Fld} (e : k ≡ get_or l p 0) (h : i < n)
    (r : Remaining o start fs out at (slots_fields W l p (n - i))) where
  behind : {out' : List ℕ} → out' ≡ put out at 3 k
      → Remaining o start fs out' (at + 3) (candidates_fields W l (p + 1) k ++ slots_fields W l (p + 1 + 2 * k) (n - (i + 1)))
  behind w = one_written (rw (slots_more W l p n i e h) at r) w

  pub slot_within : (at + 3 + widths (candidates_fields W l (p + 1) k) ≤ start + widths fs) × (2 * k ≤ widths (candidates_fields W l (p + 1) k))
  slot_within =
      (some_within (candidates_fields W l (p + 1) k) (slots_fields W l (p + 1 + 2 * k) (n - (i + 1))) (behind refl), candidates_some W l (p + 1) k)

  pub slot_written : {out' out'' : List ℕ} {at'' : ℕ} → out' ≡ put out at 3 k → out'' ≡ puts out' (at + 3) (candidates_fields W l (p + 1) k)
      → at'' ≡ at + 3 + widths (candidates_fields W l (p + 1) k)
      → Remaining o start fs out'' at'' (slots_fields W l (p + 1 + 2 * k) (n - (i + 1)))
  slot_written w = some_written (candidates_fields W l (p + 1) k) (slots_fields W l (p + 1 + 2 * k) (n - (i + 1))) (behind w)
