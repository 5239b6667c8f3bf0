-- The words of a string are the digits of its number: one word more written, and the rest a place further to the left. Assumes nothing.
use mathlib.Core.Path.{◌≡◌, sym, ap, ◌∙◌}
use mathlib.Core.List.{List, [], ◌∷◌, ◌++◌}
use Prim.Native.Nat.{ℕ, zero, suc, ◌+◌, ◌*◌, ◌/◌, ◌%◌, ◌≤◌, ◌<◌}
use native.Mathlib.Nat.{zero-add}
use native.Mathlib.Numerals.{add-one}
use native.Mathlib.Omega.{arith}
use lib.ListN.{length, get_or, set, drop, length-drop}
use lib.Seq.{drop-cons, paste, paste-suc, take_all}
use Rattle.phrases.specs.Numbers.{scale, placed, Bytes}
use Rattle.phrases.proofs.Numbers.{placed_under, placed_shift}

byte_at : (s : List ℕ) (x : ℕ) → x < length s → Bytes s → get_or s x 0 < 256
byte_at [] x l b = absurd (omega arith)
byte_at (y ∷ s) zero l (b, bs) = b
byte_at (y ∷ s) (suc x) l (b, bs) = byte_at s x (omega arith) bs

drop_bytes : (x : ℕ) (s : List ℕ) → Bytes s → Bytes (drop x s)
drop_bytes zero s b = b
drop_bytes (suc x) [] b = tt
drop_bytes (suc x) (y ∷ s) (b, bs) = drop_bytes x s bs

-- the first digit of six, and those behind it
first_digit : (y : ℕ) (t : List ℕ) → y < 256 → length t ≤ 5 → Bytes t → {rest : ℕ} → rest ≡ placed 6 (y ∷ t)
    → (rest / 1099511627776 % 256 ≡ y) × (rest % 1099511627776 * 256 ≡ placed 6 t)
unfolding placed scale
first_digit y t b l bs {rest} e =
    let u : placed 5 t < 1099511627776 = placed_under 5 t l bs in
    let z : rest ≡ y * 1099511627776 + placed 5 t = e in
    (omega arith, (let k = placed_shift 5 t l in omega arith))

module _ (n x : ℕ) (s before : List ℕ) (size : length s ≡ n) (bytes : Bytes s) (most : n ≤ 6) (room : n ≤ length before) where
  pub digit_more : x < n → {rest : ℕ} {out : List ℕ} → rest ≡ placed 6 (drop x s) → out ≡ paste before 0 s x
      → (rest % 1099511627776 * 256 ≡ placed 6 (drop (x + 1) s)) × (set out x (rest / 1099511627776 % 256) ≡ paste before 0 s (x + 1))
  digit_more l {rest} {out} e f =
      let z = drop-cons s x 0 (omega arith) in
      let (p, q) = first_digit (get_or s x 0) (drop (suc x) s) (byte_at s x (omega arith) bytes) (simp length-drop (omega arith)) (drop_bytes (suc x) s bytes)
      (rw z at e) in
      let k = paste-suc before 0 s x 0 (omega arith) (omega arith) in
      let at : set (paste before 0 s x) (0 + x) (get_or s x 0) ≡ set (paste before 0 s x) x (get_or s x 0) =
      ap (λ (n : ℕ). set (paste before 0 s x) n (get_or s x 0)) (zero-add x) in
      (rw (add-one x) q, rw (p, f, add-one x) (sym at ∙ k))

  pub digits_all : n ≤ x → x ≤ n → {out : List ℕ} → out ≡ paste before 0 s x → out ≡ s ++ drop n before
  digits_all l h e = let z : x ≡ n = omega arith in e ∙ rw (z, zero-add n, take_all n s (omega arith))
