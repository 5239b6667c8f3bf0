-- A row in an array of 50 zeros, and row behind row: each turn writes its own row and leaves those before it and what stands beyond it.
use mathlib.Core.Path.{◌≡◌, refl, sym, ap, ◌∙◌}
use mathlib.Core.List.{List, [], ◌∷◌, ◌++◌, append-nil}
use Prim.Native.Nat.{ℕ, ◌+◌, ◌-◌, ◌*◌, ◌≤◌, ◌<◌}
use native.Mathlib.Omega.{arith}
use native.Mathlib.Decide.{dec_lt}
use lib.ListN.{length, set, take, drop, replicate, length-replicate, replicate-append-replicate}
use lib.Seq.{length-take-le, drop-drop, drop_at, take_at, take-add, take-take}
use borrow.Rule.Slice.PartMut.{put_mid, same_len_mid, mid_len, take_put, drop_put}
use Rattle.reading_rows.specs.Rows.{row}
use Rattle.reading_rows.specs.Model.{size_of, RowSays, RowsSay}
use Rattle.reading_rows.specs.declared.Shape.{Shape}

abbrev zeros : ℕ → List ℕ
zeros n = replicate n 0

zeros_behind : (n k : ℕ) → n ≤ k → drop n (zeros k) ≡ zeros (k - n)
zeros_behind n k h =
    let all : n + (k - n) ≡ k = omega arith in
    let parts : zeros n ++ zeros (k - n) ≡ zeros k = rw all at (replicate-append-replicate {A = ℕ} n (k - n) 0) in
    rw (← parts) (drop_at (zeros n) (zeros (k - n)) n (length-replicate {A = ℕ} n 0))

-- the numbers behind the first three, then these
pub row_is : (rank w n : ℕ) (l part : List ℕ) → n ≡ length l → n ≤ 47 → part ≡ l ++ drop n (zeros 47)
    → set (set (set (put_mid 3 47 (zeros 50) part) 0 rank) 1 w) 2 n ≡ row rank w l
row_is rank w n l part e h p =
    let behind : drop n (zeros 47) ≡ zeros (47 - length l) = zeros_behind n 47 h ∙ ap (λ (i : ℕ). zeros (47 - i)) e in
    let is : part ++ [] ≡ l ++ zeros (47 - length l) = append-nil part ∙ p ∙ ap (λ (r : List ℕ). l ++ r) behind in
    ap (λ (r : List ℕ). rank ∷ w ∷ n ∷ r) is ∙ ap (λ (i : ℕ). rank ∷ w ∷ i ∷ l ++ zeros (47 - length l)) e

pub row_written : (rank w n : ℕ) (row₀ l blank part x₁ x₂ x₃ : List ℕ) → length row₀ ≡ 50 → blank ≡ replicate (length row₀) 0 → n ≡ length l → n ≤ 47
    → part ≡ l ++ drop n (take (length blank - 3) (drop 3 blank)) → x₁ ≡ set (put_mid 3 (length blank - 3) blank part) 0 rank → x₂ ≡ set x₁ 1 w → x₃
    ≡ set x₂ 2 n
    → x₃ ≡ row rank w l
row_written rank w n row₀ l blank part x₁ x₂ x₃ long is e h p a b c =
    let all : blank ≡ zeros 50 = is ∙ ap zeros long in
    c ∙ rw (b, a, all) (row_is rank w n l part e h (rw all at p))

-- a row's place
pub row_length : (k : ℕ) (l : List ℕ) → k * 50 + 50 ≤ length l → length (take (k * 50 + 50 - k * 50) (drop (k * 50) l)) ≡ 50
row_length k l room = mid_len (k * 50) (k * 50 + 50) l room ∙ omega arith

-- a part that lies in front of a place
in_front : (n b a : ℕ) (l l' : List ℕ) → b + n ≤ a → b ≤ length l → b ≤ length l' → take a l ≡ take a l' → take n (drop b l) ≡ take n (drop b l')
in_front n b a l l' h r r' e =
    let same : take (b + n) l ≡ take (b + n) l' = sym (take-take (b + n) a l h) ∙ ap (take (b + n)) e ∙ take-take (b + n) a l' h in
    let both : take b l ++ take n (drop b l) ≡ take b l' ++ take n (drop b l') = sym (take-add b n l) ∙ same ∙ take-add b n l' in
    sym (drop_at (take b l) (take n (drop b l)) b (length-take-le b l r)) ∙ ap (drop b) both
    ∙ drop_at (take b l') (take n (drop b l')) b (length-take-le b l' r')

module _ (rules marks : List ℕ) (s : Shape) (out : List ℕ) where
  pub no_rows : (shown : List ℕ) → RowsSay rules marks s out 0 shown shown
  no_rows shown = record { each = λ j l. absurd (omega arith); beyond = refl }

  pub rows_more : (k size : ℕ) → size ≡ size_of s → (shown now part : List ℕ) → RowsSay rules marks s out k shown now → length part ≡ 50
      → k * 50 + 50 ≤ length now
      → RowSays rules marks s (take (k * size + size - k * size) (drop (k * size) out)) (k + 1) part
      → RowsSay rules marks s out (k + 1) shown (put_mid (k * 50) (k * 50 + 50 - k * 50) now part)
  rows_more k bytes sized shown now part before size room says = record { each = each; beyond = beyond }
    where
      after : List ℕ
      after = put_mid (k * 50) (k * 50 + 50 - k * 50) now part

      beyond : drop ((k + 1) * 50) after ≡ drop ((k + 1) * 50) shown
      beyond =
          let e : (k + 1) * 50 ≡ k * 50 + 50 = omega arith in
          rw e (drop_put (k * 50) (k * 50 + 50) now part (omega arith) room (omega (arith, size)) ∙ sym (drop-drop 50 (k * 50) now)
          ∙ ap (drop 50) before.beyond ∙ drop-drop 50 (k * 50) shown)

      mine : take 50 (drop (k * 50) after) ≡ part
      mine =
          ap (take 50) (drop_at (take (k * 50) now) _ (k * 50) (length-take-le (k * 50) now (omega (arith, room)))) ∙ take_at part _ 50 size

      kept : length after ≡ length now
      kept = same_len_mid (k * 50) (k * 50 + 50 - k * 50) now part (size ∙ sym (row_length k now room))

      others : (j : ℕ) → j < k → take 50 (drop (j * 50) after) ≡ take 50 (drop (j * 50) now)
      others j l = in_front 50 (j * 50) (k * 50) after now (omega arith) (omega (arith, kept, room)) (omega (arith, room))
          (take_put (k * 50) (k * 50 + 50 - k * 50) now part (omega (arith, room)))

      each : (j : ℕ) → j < k + 1 → RowSays rules marks s (take (size_of s) (drop (j * size_of s) out)) (j + 1) (take 50 (drop (j * 50) after))
      each j l = go (dec_lt j k)
        where
          go : Dec (j < k) → RowSays rules marks s (take (size_of s) (drop (j * size_of s) out)) (j + 1) (take 50 (drop (j * 50) after))
          go (yes h) = rw (others j h) (before.each j h)
          go (no h) =
              let e : j ≡ k = omega arith in
              let whole : k * bytes + bytes - k * bytes ≡ bytes = omega arith in
              rw (e, mine, ← sized) (rw whole at says)
