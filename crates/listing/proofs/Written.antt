-- Readings written one after another: each has the length L, so the next one starts where the last one ends, and what stands
-- beyond it is kept. Of a graph a reading fits into L bytes whatever the table holds, since its trace has no more nodes, and no more of
-- them by word rules, than a path over all places.
use mathlib.Core.Path.{◌≡◌, ◌∙◌}
use mathlib.Core.List.{List, ◌++◌, append_assoc, append-nil}
use Prim.Native.Nat.{ℕ, zero, suc, ◌+◌, ◌-◌, ◌*◌}
use native.Mathlib.Nat.{zero-mul, suc-mul}
use native.Mathlib.Numerals.{add-one}
use native.Mathlib.Omega.{arith}
use lib.ListN.{length, take, drop, length-append, drop_of_length-le}
use lib.Seq.{take_all, take_at, drop_at, drop-drop}
use borrow.Rule.Slice.PartMut.{put_mid}
use Rattle.bits.proofs.Fields as Fields
use Rattle.packing.specs.Loop.{iter}
use Rattle.chart_table.specs.declared.Layout.{Layout}
use Rattle.traced_readings.specs.Model.{FormFor, block_at}
use Rattle.traced_readings.proofs.Written.{length_at}
use Rattle.listing.specs.Model.{blocks_at}
use Rattle.traced_readings.specs.declared.Form.{Form}

-- what comes back of an output of which the end from place a on was lent, where the first a numbers were P
put_end : (a : ℕ) (P D part : List ℕ) → length P ≡ a → put_mid a (length (P ++ D) - a) (P ++ D) part ≡ P ++ part
put_end a P D part e =
    let rest : drop a (P ++ D) ≡ D = drop_at P D a e in
    let all : length (P ++ D) - a ≡ length D = omega (arith, length-append P D) in
    rw (take_at P D a e, rest, all, drop_of_length-le D {i = length D} (omega arith), append-nil part)

lent_end : (a : ℕ) (P D : List ℕ) → length P ≡ a → take (length (P ++ D) - a) (drop a (P ++ D)) ≡ D
lent_end a P D e =
    let all : length (P ++ D) - a ≡ length D = omega (arith, length-append P D) in
    rw (drop_at P D a e, all) (take_all (length D) D (omega arith))

module _ (t rules : List ℕ) (d : Layout) (f : Form) {limit : ℕ} (form : FormFor limit d.last f) where
  length_blocks : (m : ℕ) → length (blocks_at t rules d f m) ≡ m * f.size
  unfolding blocks_at iter
  length_blocks zero = rw zero-mul
  length_blocks (suc m) = rw (length-append, length_blocks m, length_at t rules d m form.some_place f form, suc-mul)

  -- a turn of the loop
  pub written_more : (x : ℕ) (out₀ : List ℕ) {out part : List ℕ} → out ≡ blocks_at t rules d f x ++ drop (x * f.size) out₀
      → part ≡ block_at t rules d f x ++ drop f.size (take (length out - x * f.size) (drop (x * f.size) out))
      → put_mid (x * f.size) (length out - x * f.size) out part ≡ blocks_at t rules d f (x + 1) ++ drop ((x + 1) * f.size) out₀
  unfolding blocks_at iter
  written_more x out₀ {out} {part} e p =
      let L = f.size in
      let P = blocks_at t rules d f x in
      let D = drop (x * L) out₀ in
      let B = block_at t rules d f x in
      let q : part ≡ B ++ drop L D = p ∙ rw (e, lent_end (x * L) P D (length_blocks x)) in
      let next : x * L + L ≡ (x + 1) * L = rw (add-one, suc-mul) in
      rw (e, put_end (x * L) P D part (length_blocks x), q, drop-drop L (x * L) out₀, next, add-one, append_assoc)
