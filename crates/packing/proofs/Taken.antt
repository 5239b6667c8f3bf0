-- Entries taken one after the other from a source. A block's bytes give them exactly if they hold the entries' bits, a sheet
-- exactly if it has their values; so what is read and what is packed meet here, and nowhere else.
-- Assumes nothing.
use mathlib.Core.Path.{◌≡◌, refl, sym, ap, ◌∙◌}
use mathlib.Core.List.{List, [], ◌∷◌, ◌++◌}
use Prim.Native.Nat.{ℕ, suc, ◌+◌, ◌*◌, ◌≤◌, ◌<◌}
use native.Mathlib.Nat.{add-zero, add_assoc}
use native.Mathlib.Numerals.{add-one}
use native.Mathlib.Omega.{arith}
use lib.ListN.{length, get_or, drop, length-drop}
use lib.Seq.{drop-cons}
use Rattle.bits.specs.Fields.{fld, widths, bits_of_all}
use Rattle.bits.proofs.Num.{field_lt}
use Rattle.bits.proofs.Holds.{Holds}
use Rattle.bits.proofs.Fields.{first_field, cons_field}
use Rattle.packing.specs.Parse.{parsed}
use Rattle.packing.specs.Source.{Source, bytes, numbers, field_at, Entry, entry, values, flds, Field}
use Rattle.packing.specs.Valid.{InWidth, Each, Fits}
use Rattle.packing.proofs.Taking.{field_at_bytes, field_at_bytes_out, field_at_numbers, field_at_numbers_out}
use Rattle.packing.proofs.Bounds.{field_at_range}

-- from a place of the source to the next
pub data Taken (src : Source) : ℕ → List Entry → ℕ → Type 0 where
  all : {at : ℕ} → Taken src at [] at
  more : {at mid next v : ℕ} {f : Field} {es : List Entry} → field_at src at f ≡ parsed v mid → Taken src mid es next → Taken src at (entry f v ∷ es) next

module _ {src : Source} where
  pub taken_join : {at mid next : ℕ} {ds es : List Entry} → Taken src at ds mid → Taken src mid es next → Taken src at (ds ++ es) next
  taken_join all e = e
  taken_join (more p d) e = more p (taken_join d e)

  pub taken_split : {at next : ℕ} (ds : List Entry) {es : List Entry} → Taken src at (ds ++ es) next
      → (mid : ℕ) × Taken src at ds mid × Taken src mid es next
  taken_split {at} [] e = (at, all, e)
  taken_split (entry f v ∷ ds) (more p d) = let (mid, l, r) = taken_split ds d in (mid, more p l, r)

  pub taken_fits : {at next : ℕ} {es : List Entry} → Taken src at es next → Fits es
  taken_fits all = tt
  taken_fits {at} (more {f} p e) = (field_at_range f src at p, taken_fits e)

module _ (missing : ℕ) (s : List ℕ) where
  -- entries that were taken are held
  pub taken_held : {at next : ℕ} {es : List Entry} → at ≤ 8 * length s → Taken (bytes missing s) at es next
      → (next ≡ at + widths (flds es)) × Each InWidth es × Holds s at (bits_of_all (flds es))
  unfolding widths bits_of_all
  taken_held {at} l all = (sym (add-zero at), tt, (omega arith, λ k h. absurd (omega arith)))
  taken_held {at} l (more {v} {f} {es} p e) =
      let (b, x, m, r) = field_at_bytes_out missing s at f p in
      let (n, w, h) = taken_held (omega arith) e in
      (omega arith, (rw x at (field_lt s at f.width), w), cons_field s at f.width v (flds es) (sym x) (rw m h))

  -- and entries that are held are taken
  pub held_taken : (at : ℕ) (es : List Entry) → Fits es → Each InWidth es → Holds s at (bits_of_all (flds es))
      → Taken (bytes missing s) at es (at + widths (flds es))
  unfolding widths
  held_taken at [] r w h = rw add-zero all
  held_taken at (entry f v ∷ es) (r, rs) (w, ws) h =
      let (x, k) = first_field s at (fld f.width v) (flds es) w h in
      more (rw x at (field_at_bytes missing s at f (omega arith) (rw x r))) (rw add_assoc at (held_taken (at + f.width) es rs ws k))

module _ (s : List ℕ) where
  -- entries that were taken stand in the sheet
  pub taken_listed : {at next : ℕ} {es : List Entry} → Taken (numbers s) at es next
      → (next ≡ at + length es) × (drop at s ≡ values es ++ drop next s)
  taken_listed {at} all = (sym (add-zero at), refl)
  taken_listed {at} (more {mid} {f} p e) =
      let (b, x, m, r) = field_at_numbers_out s at f p in
      let (n, d) = taken_listed e in
      let z : suc at ≡ mid = omega arith in
      (omega arith, drop-cons s at 0 b ∙ rw (x, z, d))

  -- and entries that stand in it are taken
  pub listed_taken : (at : ℕ) (es : List Entry) (rest : List ℕ) → Fits es → drop at s ≡ values es ++ rest → Taken (numbers s) at es (at + length es)
  listed_taken at [] rest r d = rw add-zero all
  listed_taken at (entry f v ∷ es) rest (r, rs) d =
      let b : at < length s = omega (arith, rw length-drop at (ap length d)) in
      let c : get_or s at 0 ∷ drop (suc at) s ≡ v ∷ values es ++ rest = sym (drop-cons s at 0 b) ∙ d in
      let x : get_or s at 0 ≡ v = cc in
      let k : drop (at + 1) s ≡ values es ++ rest = rw (add-one at) (cc) in
      let z : at + 1 + length es ≡ at + suc (length es) = omega arith in
      more (rw x at (field_at_numbers s at f b (rw x r))) (rw z at (listed_taken (at + 1) es rest rs k))
