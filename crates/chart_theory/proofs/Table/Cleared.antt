-- Clearing the entries of each cell's ranks up to the last found leaves zeros where nothing else is written: an entry cleared
-- is four zeros, no store of another entry touches it, and a cell's last rank is read before its first entry is cleared.
use mathlib.Core.Path.{◌≡◌, refl, ap, ◌∙◌}
use mathlib.Core.Logic.{◌⊎◌, inl, inr, ⊎_elim}
use mathlib.Core.Bool.{Bool, true, false}
use mathlib.Core.List.{List, [], ◌∷◌}
use Prim.Native.Nat.{ℕ, suc, ◌+◌, ◌*◌, ◌≤◌, ◌<◌}
use native.Mathlib.Nat.{eq-or-lt_of_le, le_refl}
use native.Mathlib.Decide.{ℕ_discrete, dec_lt, dec_le}
use native.Mathlib.Omega.{arith}
use lib.ListN.{length, get_or, set, replicate, length-set}
use lib.Seq.{get_or-set_same, get_or-set_other}
use lib.Dec.{ltb}
use borrow.Author.Tests.{ltb-true}
use Rattle.bits.specs.Bits.{pick}
use Rattle.packing.proofs.Loop.{iter_keeps}
use Rattle.chart_table.specs.declared.Layout.{Layout}
use Rattle.chart_table.specs.Table.{entry_of, beside_at, last_rank, ranks_to_clear, clear_entry, clear_cell, clear}
use Rattle.chart_theory.proofs.Table.Entries.{InEntry, entry_injective, entry_four, entry_within}

-- a list of zeros
all_zeros : (l : List ℕ) → ((y : ℕ) → get_or l y 0 ≡ 0) → l ≡ replicate (length l) 0
all_zeros [] zeros = refl
all_zeros (x ∷ l) zeros =
    let e : x ≡ 0 = zeros 0 in
    let rest = all_zeros l (λ y. zeros (suc y)) in
    rw e (ap (λ (m : List ℕ). 0 ∷ m) rest)

-- two entries that share a number are one
one_entry : (d : Layout) (c x c' x' z : ℕ) → InEntry d c x z → InEntry d c' x' z → entry_of d c x ≡ entry_of d c' x'
one_entry d c x c' x' z b b' = omega (arith, b.0, b.1, b'.0, b'.1, entry_four d c x, entry_four d c' x')

-- the ranks to clear are those up to the last found, of those kept
module _ (t : List ℕ) (d : Layout) (c : ℕ) where
  ranks_below : ranks_to_clear t d c ≤ d.ranks
  unfolding ranks_to_clear
  ranks_below = go (ltb (last_rank t d c) d.ranks) refl
    where
      go : (b : Bool) → ltb (last_rank t d c) d.ranks ≡ b → pick b (last_rank t d c + 1) d.ranks ≤ d.ranks
      go true e = omega (arith, ltb-true (last_rank t d c) d.ranks e)
      go false e = le_refl d.ranks

  ranks_reach : (x : ℕ) → x < d.ranks → x ≤ last_rank t d c → x < ranks_to_clear t d c
  unfolding ranks_to_clear
  ranks_reach x l h = go (ltb (last_rank t d c) d.ranks)
    where
      go : (b : Bool) → x < pick b (last_rank t d c + 1) d.ranks
      go true = omega arith
      go false = l

-- one entry cleared
module _ (t : List ℕ) (d : Layout) (c x : ℕ) (room : entry_of d c x + 4 ≤ length t) where
  abbrev at : ℕ
  at = entry_of d c x

  abbrev one : List ℕ
  one = set t at 0

  abbrev two : List ℕ
  two = set one (at + 1) 0

  abbrev three : List ℕ
  three = set two (at + 2) 0

  set_zero : (l : List ℕ) (p z : ℕ) → p < length l → (z ≡ p) ⊎ (get_or l z 0 ≡ 0) → get_or (set l p 0) z 0 ≡ 0
  set_zero l p z h b = go (ℕ_discrete z p)
    where
      go : Dec (z ≡ p) → get_or (set l p 0) z 0 ≡ 0
      go (yes e) = rw e (get_or-set_same l p 0 0 h)
      go (no other) = get_or-set_other l p z 0 0 other ∙ ⊎_elim (λ e. absurd (other e)) (λ e. e) b

  entry_cleared : (z : ℕ) → InEntry d c x z → get_or (clear_entry t d c x) z 0 ≡ 0
  unfolding clear_entry
  entry_cleared z b = first (ℕ_discrete z at) (ℕ_discrete z (at + 1)) (ℕ_discrete z (at + 2))
    where
      long : at + 4 ≤ length three
      long = simp length-set room

      third : get_or two z 0 ≡ 0 → get_or (set three (at + 3) 0) z 0 ≡ 0
      third e =
          set_zero three (at + 3) z (omega (arith, long))
          (inr (set_zero two (at + 2) z (simp length-set (omega arith)) (inr e)))

      first : Dec (z ≡ at) → Dec (z ≡ at + 1) → Dec (z ≡ at + 2) → get_or (set three (at + 3) 0) z 0 ≡ 0
      first (yes e) _ _ = third (set_zero one (at + 1) z (simp length-set (omega arith)) (inr (set_zero t at z (omega arith) (inl e))))
      first (no n) (yes e) _ = third (set_zero one (at + 1) z (simp length-set (omega arith)) (inl e))
      first (no n) (no n') (yes e) =
          set_zero three (at + 3) z (omega (arith, long)) (inr (set_zero two (at + 2) z (simp length-set (omega arith)) (inl e)))
      first (no n) (no n') (no n'') = set_zero three (at + 3) z (omega (arith, long)) (inl (omega (arith, b.0, b.1)))

  entry_kept : (z : ℕ) → (InEntry d c x z → ⊥) → get_or (clear_entry t d c x) z 0 ≡ get_or t z 0
  unfolding clear_entry
  entry_kept z out =
      get_or-set_other three (at + 3) z 0 0 (λ e. out (omega arith, omega arith))
      ∙ get_or-set_other two (at + 2) z 0 0 (λ e. out (omega arith, omega arith))
      ∙ get_or-set_other one (at + 1) z 0 0 (λ e. out (omega arith, omega arith))
      ∙ get_or-set_other t at z 0 0 (λ e. out (omega arith, omega arith))

  entry_size : length (clear_entry t d c x) ≡ length t
  unfolding clear_entry
  entry_size = simp length-set

module _ (d : Layout) (len : ℕ) (room : 4 * (d.cells * d.ranks) ≤ len) where
  entry_room : (c x : ℕ) → c < d.cells → x < d.ranks → (u : List ℕ) → length u ≡ len → entry_of d c x + 4 ≤ length u
  entry_room c x h l u e = omega (arith, entry_within d c x h l)

  -- the first x entries of a cell cleared
  record Entries (t : List ℕ) (c x : ℕ) (u : List ℕ) : Type 0 where
    size : length u ≡ len
    hit : (y z : ℕ) → y < x → InEntry d c y z → get_or u z 0 ≡ 0
    miss : (z : ℕ) → ((y : ℕ) → y < x → InEntry d c y z → ⊥) → get_or u z 0 ≡ get_or t z 0
    either : (z : ℕ) → (get_or u z 0 ≡ 0) ⊎ (get_or u z 0 ≡ get_or t z 0)

  entries_cleared : (t : List ℕ) (c : ℕ) → length t ≡ len → c < d.cells
      → Entries t c (ranks_to_clear t d c) (clear_cell t d c)
  unfolding clear_cell
  entries_cleared t c size below =
      iter_keeps (Entries t c) (λ u x. clear_entry u d c x) t (ranks_to_clear t d c)
      (record { size = size; hit = λ y z h. absurd (omega arith); miss = λ z out. refl; either = λ z. inr refl }) step
    where
      step : (x : ℕ) (u : List ℕ) → x < ranks_to_clear t d c → Entries t c x u → Entries t c (suc x) (clear_entry u d c x)
      step x u l entries = record {
        size = entry_size u d c x here ∙ entries.size;
        hit = λ y z h b. by_entry y z h b (inside z);
        miss = λ z out. entry_kept u d c x here z (out x (omega arith)) ∙ entries.miss z (λ y h. out y (omega arith));
        either = λ z. go z (inside z);
      }
        where
          kept : x < d.ranks
          kept = omega (arith, ranks_below t d c)

          here : entry_of d c x + 4 ≤ length u
          here = entry_room c x below kept u entries.size

          inside : (z : ℕ) → InEntry d c x z ⊎ (InEntry d c x z → ⊥)
          inside z = at (dec_le (entry_of d c x) z) (dec_lt z (entry_of d c x + 4))
            where
              at : Dec (entry_of d c x ≤ z) → Dec (z < entry_of d c x + 4) → InEntry d c x z ⊎ (InEntry d c x z → ⊥)
              at (yes a) (yes b) = inl (a, b)
              at (no a) _ = inr (λ w. a w.0)
              at (yes a) (no b) = inr (λ w. b w.1)

          go : (z : ℕ) → InEntry d c x z ⊎ (InEntry d c x z → ⊥)
              → (get_or (clear_entry u d c x) z 0 ≡ 0) ⊎ (get_or (clear_entry u d c x) z 0 ≡ get_or t z 0)
          go z (inl b) = inl (entry_cleared u d c x here z b)
          go z (inr out) =
              ⊎_elim (λ e. inl (entry_kept u d c x here z out ∙ e)) (λ e. inr (entry_kept u d c x here z out ∙ e)) (entries.either z)

          by_entry : (y z : ℕ) → y < suc x → InEntry d c y z → InEntry d c x z ⊎ (InEntry d c x z → ⊥)
              → get_or (clear_entry u d c x) z 0 ≡ 0
          by_entry y z h b (inl in-x) = entry_cleared u d c x here z in-x
          by_entry y z h b (inr out) =
              entry_kept u d c x here z out
              ∙ ⊎_elim (λ e. absurd (out (rw e at b))) (λ less. entries.hit y z less b) (eq-or-lt_of_le {n = y} {m = x} (omega arith))

  -- the first c cells cleared
  record Cells (t : List ℕ) (c : ℕ) (u : List ℕ) : Type 0 where
    size : length u ≡ len
    hit : (b x z : ℕ) → b < c → x < d.ranks → x ≤ last_rank t d b → InEntry d b x z → get_or u z 0 ≡ 0
    later : (b x z : ℕ) → c ≤ b → b < d.cells → x < d.ranks → InEntry d b x z → get_or u z 0 ≡ get_or t z 0
    either : (z : ℕ) → (get_or u z 0 ≡ 0) ⊎ (get_or u z 0 ≡ get_or t z 0)

  cells_cleared : (t : List ℕ) → length t ≡ len → 0 < d.ranks → Cells t d.cells (clear t d)
  unfolding clear last_rank beside_at
  cells_cleared t size kept =
      iter_keeps (Cells t) (λ u c. clear_cell u d c) t d.cells
      (record {
        size = size;
        hit = λ b x z h. absurd (omega arith);
        later = λ b x z h below l b'. refl;
        either = λ z. inr refl;
      })
      step
    where
      step : (c : ℕ) (u : List ℕ) → c < d.cells → Cells t c u → Cells t (suc c) (clear_cell u d c)
      step c u l cells = record {
        size = entries.size;
        hit = hit;
        later = λ b x z h below l' in_entry. entries.miss z (λ y h' in_c.
            let (e, _) = entry_injective d c y b x l below (omega (arith, ranks_below u d c)) l' (one_entry d c y b x z in_c in_entry) in
            omega arith)
            ∙ cells.later b x z (omega arith) below l' in_entry;
        either = λ z. ⊎_elim inl (λ e. ⊎_elim (λ e'. inl (e ∙ e')) (λ e'. inr (e ∙ e')) (cells.either z)) (entries.either z);
      }
        where
          entries : Entries u c (ranks_to_clear u d c) (clear_cell u d c)
          entries = entries_cleared u c cells.size l

          -- the cell was as it is in t
          same_last : last_rank u d c ≡ last_rank t d c
          same_last =
              rw (
                cells.later c 0 (entry_of d c 0 + 1) (le_refl c) l kept (omega arith, omega arith),
                cells.later c 0 (entry_of d c 0 + 3) (le_refl c) l kept (omega arith, omega arith),
              )

          hit : (b x z : ℕ) → b < suc c → x < d.ranks → x ≤ last_rank t d b → InEntry d b x z → get_or (clear_cell u d c) z 0 ≡ 0
          hit b x z h l' le in_entry =
              ⊎_elim
              (λ e.
              let in_c : InEntry d c x z = rw e at in_entry in
              entries.hit x z (ranks_reach u d c x l' (rw same_last (rw e at le))) in_c)
              (λ less. ⊎_elim (λ e. e) (λ e. e ∙ cells.hit b x z less l' le in_entry) (entries.either z))
              (eq-or-lt_of_le {n = b} {m = c} (omega arith))

-- where what is not 0 stands in the entry of a rank up to the last found, clearing leaves zeros
module _ (d : Layout) (t : List ℕ) (room : 4 * (d.cells * d.ranks) ≤ length t) (kept : 0 < d.ranks)
    (found : (z : ℕ) → 0 < get_or t z 0
    → (c : ℕ) × (x : ℕ) × (c < d.cells) × (x < d.ranks) × (x ≤ last_rank t d c) × InEntry d c x z) where
  pub clear_zeros : clear t d ≡ replicate (length t) 0
  clear_zeros = all_zeros (clear t d) zeros ∙ rw cells.size
    where
      cells : Cells d (length t) room t d.cells (clear t d)
      cells = cells_cleared d (length t) room t refl kept

      zeros : (z : ℕ) → get_or (clear t d) z 0 ≡ 0
      zeros z = ⊎_elim (λ e. e) (λ e. go e (dec_lt 0 (get_or t z 0))) (cells.either z)
        where
          go : get_or (clear t d) z 0 ≡ get_or t z 0 → Dec (0 < get_or t z 0) → get_or (clear t d) z 0 ≡ 0
          go e (no h) = omega (arith, e)
          go e (yes h) =
              let (c, x, below, l, le, in_entry) = found z h in
              cells.hit c x z below l le in_entry
