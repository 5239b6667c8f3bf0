-- What a journal holds, as a list of entries as they were, the last kept first. Keeping an entry puts it in front, and putting all back
-- restores them from the first of the list to the last.
use mathlib.Core.Path.{◌≡◌, refl, ap, ◌∙◌}
use mathlib.Core.Logic.{◌⊎◌, inl, inr}
use mathlib.Core.List.{List, [], ◌∷◌}
use Prim.Native.Nat.{ℕ, suc, ◌+◌, ◌*◌, ◌/◌, ◌%◌, ◌≤◌, ◌<◌}
use native.Mathlib.Omega.{arith}
use lib.ListN.{length, get_or, set, replicate, length-set, length-replicate, get_or-replicate}
use lib.Seq.{get_or-set_same, get_or-set_other}
use borrow.Author.Tests.{lt-ltb}
use Rattle.chart_journal.specs.Journal.{most_kept, kept_at, keep_entry, restore_entry, restore_all, put_back}

-- an entry as it was: where it starts, and its four numbers
pub record Saved : Type 0 where
  pub at : ℕ
  pub first : ℕ
  pub second : ℕ
  pub third : ℕ
  pub fourth : ℕ

abbrev pub saved : List ℕ → ℕ → Saved
saved t at = record { at = at; first = get_or t at 0; second = get_or t (at + 1) 0; third = get_or t (at + 2) 0; fourth = get_or t (at + 3) 0 }

-- it is put back, and all of a list are
abbrev pub restore : Saved → List ℕ → List ℕ
restore s t = set (set (set (set t (s.at + 0) s.first) (s.at + 1) s.second) (s.at + 2) s.third) (s.at + 3) s.fourth

abbrev pub undo : List Saved → List ℕ → List ℕ
undo [] t = t
undo (s ∷ l) t = undo l (restore s t)

-- the numbers of a kept entry
pub record Stands (k : List ℕ) (p : ℕ) (s : Saved) : Type 0 where
  pub low : get_or k p 0 ≡ s.at % 4294967296
  pub high : get_or k (p + 1) 0 ≡ s.at / 4294967296
  pub first : get_or k (p + 2) 0 ≡ s.first
  pub second : get_or k (p + 3) 0 ≡ s.second
  pub third : get_or k (p + 4) 0 ≡ s.third
  pub fourth : get_or k (p + 5) 0 ≡ s.fourth

abbrev pub AllStand : List ℕ → List Saved → Type 0
AllStand k [] = Unit {0}
AllStand k (s ∷ l) = Stands k (kept_at (length l)) s × AllStand k l

-- a journal with room for all holds a list
pub record Kept (k : List ℕ) (l : List Saved) : Type 0 where
  pub room : kept_at most_kept ≤ length k
  pub count : get_or k 0 0 ≡ length l
  pub stand : AllStand k l

-- a store at another place leaves what stands
elsewhere : (p q j : ℕ) → (q < p) ⊎ (p + 6 ≤ q) → j < 6 → p + j ≡ q → ⊥
elsewhere p q j (inl h) l e = omega arith
elsewhere p q j (inr h) l e = omega arith

stands_set : (k : List ℕ) (p : ℕ) (s : Saved) (q v : ℕ) → (q < p) ⊎ (p + 6 ≤ q) → Stands k p s → Stands (set k q v) p s
stands_set k p s q v off h = record {
  low = get_or-set_other k q p v 0 (λ e. elsewhere p q 0 off (omega arith) (omega arith)) ∙ h.low;
  high = get_or-set_other k q (p + 1) v 0 (elsewhere p q 1 off (omega arith)) ∙ h.high;
  first = get_or-set_other k q (p + 2) v 0 (elsewhere p q 2 off (omega arith)) ∙ h.first;
  second = get_or-set_other k q (p + 3) v 0 (elsewhere p q 3 off (omega arith)) ∙ h.second;
  third = get_or-set_other k q (p + 4) v 0 (elsewhere p q 4 off (omega arith)) ∙ h.third;
  fourth = get_or-set_other k q (p + 5) v 0 (elsewhere p q 5 off (omega arith)) ∙ h.fourth;
}

all_stand_set : (k : List ℕ) (l : List Saved) (q v : ℕ) → (q ≡ 0) ⊎ (kept_at (length l) ≤ q) → AllStand k l → AllStand (set k q v) l
all_stand_set k [] q v off h = tt
all_stand_set k (s ∷ l) q v off (h, rest) = (stands_set k (kept_at (length l)) s q v (here off) h, all_stand_set k l q v (below off) rest)
  where
    here : (q ≡ 0) ⊎ (kept_at (suc (length l)) ≤ q) → (q < kept_at (length l)) ⊎ (kept_at (length l) + 6 ≤ q)
    here (inl e) = inl (omega arith)
    here (inr h) = inr (omega arith)

    below : (q ≡ 0) ⊎ (kept_at (suc (length l)) ≤ q) → (q ≡ 0) ⊎ (kept_at (length l) ≤ q)
    below (inl e) = inl e
    below (inr h) = inr (omega arith)

-- six numbers stored one after another, and then the count
module _ (k : List ℕ) (p n : ℕ) (s : Saved) (some : 1 ≤ p) (room : p + 6 ≤ length k) where
  abbrev k₁ : List ℕ
  k₁ = set k p (s.at % 4294967296)

  abbrev k₂ : List ℕ
  k₂ = set k₁ (p + 1) (s.at / 4294967296)

  abbrev k₃ : List ℕ
  k₃ = set k₂ (p + 2) s.first

  abbrev k₄ : List ℕ
  k₄ = set k₃ (p + 3) s.second

  abbrev k₅ : List ℕ
  k₅ = set k₄ (p + 4) s.third

  abbrev k₆ : List ℕ
  k₆ = set k₅ (p + 5) s.fourth

  abbrev put : List ℕ
  put = set k₆ 0 n

  put_stands : Stands put p s
  put_stands = record {
    low = get_or-set_other k₆ 0 p n 0 (λ e. omega arith)
        ∙ get_or-set_other k₅ (p + 5) p s.fourth 0 (λ e. omega arith)
        ∙ get_or-set_other k₄ (p + 4) p s.third 0 (λ e. omega arith)
        ∙ get_or-set_other k₃ (p + 3) p s.second 0 (λ e. omega arith)
        ∙ get_or-set_other k₂ (p + 2) p s.first 0 (λ e. omega arith)
        ∙ get_or-set_other k₁ (p + 1) p (s.at / 4294967296) 0 (λ e. omega arith)
        ∙ get_or-set_same k p (s.at % 4294967296) 0 (omega arith);
    high = get_or-set_other k₆ 0 (p + 1) n 0 (λ e. omega arith)
        ∙ get_or-set_other k₅ (p + 5) (p + 1) s.fourth 0 (λ e. omega arith)
        ∙ get_or-set_other k₄ (p + 4) (p + 1) s.third 0 (λ e. omega arith)
        ∙ get_or-set_other k₃ (p + 3) (p + 1) s.second 0 (λ e. omega arith)
        ∙ get_or-set_other k₂ (p + 2) (p + 1) s.first 0 (λ e. omega arith)
        ∙ get_or-set_same k₁ (p + 1) (s.at / 4294967296) 0 (simp length-set (omega arith));
    first = get_or-set_other k₆ 0 (p + 2) n 0 (λ e. omega arith)
        ∙ get_or-set_other k₅ (p + 5) (p + 2) s.fourth 0 (λ e. omega arith)
        ∙ get_or-set_other k₄ (p + 4) (p + 2) s.third 0 (λ e. omega arith)
        ∙ get_or-set_other k₃ (p + 3) (p + 2) s.second 0 (λ e. omega arith)
        ∙ get_or-set_same k₂ (p + 2) s.first 0 (simp length-set (omega arith));
    second = get_or-set_other k₆ 0 (p + 3) n 0 (λ e. omega arith)
        ∙ get_or-set_other k₅ (p + 5) (p + 3) s.fourth 0 (λ e. omega arith)
        ∙ get_or-set_other k₄ (p + 4) (p + 3) s.third 0 (λ e. omega arith)
        ∙ get_or-set_same k₃ (p + 3) s.second 0 (simp length-set (omega arith));
    third = get_or-set_other k₆ 0 (p + 4) n 0 (λ e. omega arith)
        ∙ get_or-set_other k₅ (p + 5) (p + 4) s.fourth 0 (λ e. omega arith)
        ∙ get_or-set_same k₄ (p + 4) s.third 0 (simp length-set (omega arith));
    fourth = get_or-set_other k₆ 0 (p + 5) n 0 (λ e. omega arith)
        ∙ get_or-set_same k₅ (p + 5) s.fourth 0 (simp length-set (omega arith));
  }

  put_count : get_or put 0 0 ≡ n
  put_count = get_or-set_same k₆ 0 n 0 (simp length-set (omega arith))

  put_size : length put ≡ length k
  put_size = simp length-set

  put_others : (l : List Saved) → kept_at (length l) ≤ p → AllStand k l → AllStand put l
  put_others l h a =
      all_stand_set k₆ l 0 n (inl refl)
      (all_stand_set k₅ l (p + 5) s.fourth (inr (omega arith))
      (all_stand_set k₄ l (p + 4) s.third (inr (omega arith))
      (all_stand_set k₃ l (p + 3) s.second (inr (omega arith))
      (all_stand_set k₂ l (p + 2) s.first (inr (omega arith))
      (all_stand_set k₁ l (p + 1) (s.at / 4294967296) (inr (omega arith))
      (all_stand_set k l p (s.at % 4294967296) (inr (omega arith)) a))))))

-- an entry is kept
pub kept_more : (t k : List ℕ) (l : List Saved) (at : ℕ) → Kept k l → length l < most_kept → Kept (keep_entry t k at) (saved t at ∷ l)
unfolding keep_entry
kept_more t k l at kept few =
    let p = kept_at (length l) in
    let n = length l + 1 in
    let room : p + 6 ≤ length k = omega (arith, kept.room) in
    let some : 1 ≤ p = omega arith in
    rw (kept.count, lt-ltb (length l) most_kept few) (record {
      room = rw (put_size k p n (saved t at) some room) kept.room;
      count = put_count k p n (saved t at) some room ∙ omega arith;
      stand = (put_stands k p n (saved t at) some room, put_others k p n (saved t at) some room l (omega arith) kept.stand);
    })

-- a kept entry is put back, and all are
entry_restored : (k t : List ℕ) (n : ℕ) (s : Saved) → Stands k (kept_at n) s → restore_entry k n t ≡ restore s t
unfolding restore_entry
entry_restored k t n s h =
    let place : s.at / 4294967296 * 4294967296 + s.at % 4294967296 ≡ s.at = omega arith in
    rw (h.low, h.high, h.first, h.second, h.third, h.fourth, place)

none_restored : (k t : List ℕ) → restore_all k 0 t ≡ t
unfolding restore_all
none_restored k t = refl

last_restored : (k t : List ℕ) (n : ℕ) → restore_all k (suc n) t ≡ restore_all k n (restore_entry k n t)
unfolding restore_all
last_restored k t n = refl

all_restored : (k : List ℕ) (l : List Saved) (t : List ℕ) → AllStand k l → restore_all k (length l) t ≡ undo l t
all_restored k [] t h = none_restored k t
all_restored k (s ∷ l) t (h, rest) =
    last_restored k t (length l) ∙ ap (restore_all k (length l)) (entry_restored k t (length l) s h) ∙ all_restored k l (restore s t) rest

pub put_back_lem : (k : List ℕ) (l : List Saved) (t : List ℕ) → Kept k l → put_back k t ≡ undo l t
put_back_lem k l t kept = rw kept.count (all_restored k l t kept.stand)

-- an empty journal
pub kept_none : {room : ℕ} → kept_at most_kept ≤ room → Kept (replicate room 0) []
kept_none {room} h = record { room = rw length-replicate h; count = get_or-replicate room 0 0 0 (omega arith); stand = tt }
