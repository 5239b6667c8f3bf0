-- The four numbers of an entry stand at places of their own, for entries begin at multiples of 4 and no two share a number; and the
-- second number has two digits, one of the price, one of what stands beside it. So what stands beside a tree is written without
-- the tree, and the store of a key changes the price and the back pointer of its own rank only, and of the rest the last rank found.
use mathlib.Core.Path.{◌≡◌, refl, sym, ◌∙◌}
use mathlib.Core.Logic.{◌⊎◌, inl, inr, ⊎_elim, ◌≢◌}
use mathlib.Core.Bool.{Bool, true, false}
use mathlib.Core.List.{List}
use Prim.Native.Nat.{ℕ, ◌+◌, ◌*◌, ◌/◌, ◌%◌, ◌≤◌, ◌<◌}
use native.Mathlib.Nat.{le_refl, le_trans}
use native.Mathlib.Decide.{dec_le, ℕ_discrete}
use native.Mathlib.Omega.{arith}
use lib.Arith.{digits_div, digits_mod}
use lib.Dec.{ltb}
use lib.ListN.{length, get_or, set, length-set}
use lib.Seq.{set_out, get_or-set_same, get_or-set_other}
use borrow.Author.Tests.{lt-ltb, ltb-true, ltb-false}
use Rattle.bits.specs.Bits.{pick}
use Rattle.chart_table.specs.declared.Layout.{Layout}
use Rattle.chart_keys.specs.Keys.{prices, key_unit, no_key}
use Rattle.chart_table.specs.Table.{entry_of, price_at, back_at, beside_at, put_beside, put_found, last_rank, put_last_rank, put_key}
use Rattle.chart_theory.proofs.Table.Entries.{InEntry, entry_four, entry_behind, first_injective}

-- two numbers of entries are apart where they are not of one kind
kinds_apart : (d : Layout) (c x c' x' f f' : ℕ) → f < 4 → f' < 4 → f ≢ f' → entry_of d c x + f ≢ entry_of d c' x' + f'
kinds_apart d c x c' x' f f' h h' other e = other (omega (arith, entry_four d c x, entry_four d c' x'))

module _ (t : List ℕ) (d : Layout) (c x f v : ℕ) (h : f < 4) where
  abbrev u : List ℕ
  u = set t (entry_of d c x + f) v

  -- a store of one kind leaves the others
  kind_other : (c' x' f' : ℕ) → f' < 4 → f ≢ f' → get_or u (entry_of d c' x' + f') 0 ≡ get_or t (entry_of d c' x' + f') 0
  kind_other c' x' f' h' other =
      get_or-set_other t (entry_of d c x + f) (entry_of d c' x' + f') v 0 (λ e. kinds_apart d c x c' x' f f' h h' other (sym e))

  -- and of the same kind, those of other entries
  entry_other : (c' x' : ℕ) → entry_of d c' x' ≢ entry_of d c x → get_or u (entry_of d c' x' + f) 0 ≡ get_or t (entry_of d c' x' + f) 0
  entry_other c' x' other = get_or-set_other t (entry_of d c x + f) (entry_of d c' x' + f) v 0 (λ e. other (omega arith))

-- a number of which one digit is written keeps the other, past the end too
module _ (t : List ℕ) (i : ℕ) where
  keeps_low : (q : ℕ) → get_or (set t i (q * 2048 + get_or t i 0 % 2048)) i 0 % 2048 ≡ get_or t i 0 % 2048
  keeps_low q = go (dec_le (length t) i)
    where
      go : Dec (length t ≤ i) → get_or (set t i (q * 2048 + get_or t i 0 % 2048)) i 0 % 2048 ≡ get_or t i 0 % 2048
      go (yes past) = rw (set_out t i (q * 2048 + get_or t i 0 % 2048) past)
      go (no within) =
          rw (get_or-set_same t i (q * 2048 + get_or t i 0 % 2048) 0 (omega arith)) (digits_mod q {m = 2048} {r = get_or t i 0 % 2048} (omega arith))

  keeps_high : (r : ℕ) → r < 2048 → get_or (set t i (get_or t i 0 / 2048 * 2048 + r)) i 0 / 2048 ≡ get_or t i 0 / 2048
  keeps_high r h = go (dec_le (length t) i)
    where
      go : Dec (length t ≤ i) → get_or (set t i (get_or t i 0 / 2048 * 2048 + r)) i 0 / 2048 ≡ get_or t i 0 / 2048
      go (yes past) = rw (set_out t i (get_or t i 0 / 2048 * 2048 + r) past)
      go (no within) =
          rw (get_or-set_same t i (get_or t i 0 / 2048 * 2048 + r) 0 (omega arith)) (digits_div (get_or t i 0 / 2048) {m = 2048} {r = r} h)

-- what stands beside a tree, written: it changes no price and no back pointer, and nothing beside other entries
module _ (t : List ℕ) (d : Layout) (c x n : ℕ) where
  abbrev e : ℕ
  e = entry_of d c x

  abbrev high : ℕ
  high = n / 4294967296 * 2048 + get_or t (entry_of d c x + 1) 0 % 2048

  abbrev half : List ℕ
  half = set t (entry_of d c x + 1) high

  abbrev beside : List ℕ
  beside = put_beside t d c x n

  pub beside_size : length beside ≡ length t
  unfolding put_beside
  beside_size = simp length-set

  -- a number that it changes is one of the entry's
  pub beside_within : (z : ℕ) → (get_or beside z 0 ≡ get_or t z 0) ⊎ InEntry d c x z
  unfolding put_beside
  beside_within z = go (ℕ_discrete z (e + 1)) (ℕ_discrete z (e + 3))
    where
      go : Dec (z ≡ e + 1) → Dec (z ≡ e + 3) → (get_or (set half (e + 3) (n % 4294967296)) z 0 ≡ get_or t z 0) ⊎ InEntry d c x z
      go (yes a) _ = inr (omega arith, omega arith)
      go (no a) (yes b) = inr (omega arith, omega arith)
      go (no a) (no b) = inl (get_or-set_other half (e + 3) z (n % 4294967296) 0 b ∙ get_or-set_other t (e + 1) z high 0 a)

  -- numbers of the other two kinds
  beside_kind : (c' x' f : ℕ) → f < 4 → f ≢ 1 → f ≢ 3 → get_or beside (entry_of d c' x' + f) 0 ≡ get_or t (entry_of d c' x' + f) 0
  unfolding put_beside
  beside_kind c' x' f h one three =
      kind_other half d c x 3 (n % 4294967296) (omega arith) c' x' f h (λ w. three (sym w))
      ∙ kind_other t d c x 1 high (omega arith) c' x' f h (λ w. one (sym w))

  -- the second number keeps the lower bits
  beside_low : (c' x' : ℕ) → get_or beside (entry_of d c' x' + 1) 0 % 2048 ≡ get_or t (entry_of d c' x' + 1) 0 % 2048
  unfolding put_beside
  beside_low c' x' =
      rw (kind_other half d c x 3 (n % 4294967296) (omega arith) c' x' 1 (omega arith) (λ w. omega arith))
      (go (ℕ_discrete (entry_of d c' x') e))
    where
      go : Dec (entry_of d c' x' ≡ e) → get_or half (entry_of d c' x' + 1) 0 % 2048 ≡ get_or t (entry_of d c' x' + 1) 0 % 2048
      go (yes w) = rw w (keeps_low t (e + 1) (n / 4294967296))
      go (no w) = rw (entry_other t d c x 1 high (omega arith) c' x' w)

  pub beside_price : (c' x' : ℕ) → price_at beside d c' x' ≡ price_at t d c' x'
  unfolding price_at
  beside_price c' x' =
      let z : entry_of d c' x' + 0 ≡ entry_of d c' x' = omega arith in
      rw (rw z at (beside_kind c' x' 0 (omega arith) (λ w. omega arith) (λ w. omega arith)), beside_low c' x')

  pub beside_back : (c' x' : ℕ) → back_at beside d c' x' ≡ back_at t d c' x'
  unfolding back_at
  beside_back c' x' = beside_kind c' x' 2 (omega arith) (λ w. omega arith) (λ w. omega arith)

  pub beside_other : (c' x' : ℕ) → entry_of d c' x' ≢ entry_of d c x → beside_at beside d c' x' ≡ beside_at t d c' x'
  unfolding put_beside beside_at
  beside_other c' x' other =
      rw (
        kind_other half d c x 3 (n % 4294967296) (omega arith) c' x' 1 (omega arith) (λ w. omega arith),
        entry_other t d c x 1 high (omega arith) c' x' other,
        entry_other half d c x 3 (n % 4294967296) (omega arith) c' x' other,
        kind_other t d c x 1 high (omega arith) c' x' 3 (omega arith) (λ w. omega arith),
      )

  pub beside_same : entry_of d c x + 4 ≤ length t → beside_at beside d c x ≡ n
  unfolding put_beside beside_at
  beside_same room =
      rw (
        kind_other half d c x 3 (n % 4294967296) (omega arith) c x 1 (omega arith) (λ w. omega arith),
        get_or-set_same t (e + 1) high 0 (omega arith),
        get_or-set_same half (e + 3) (n % 4294967296) 0 (simp length-set (omega arith)),
        digits_div (n / 4294967296) {m = 2048} {r = get_or t (e + 1) 0 % 2048} (omega arith),
      )
      (omega arith)

-- a tree, written: it changes nothing that stands beside one, and no other tree
module _ (t : List ℕ) (d : Layout) (c x p b : ℕ) where
  abbrev at : ℕ
  at = entry_of d c x

  abbrev upper : ℕ
  upper = get_or t (entry_of d c x + 1) 0 / 2048 * 2048 + p / 4294967296

  abbrev first : List ℕ
  first = set t (entry_of d c x) (p % 4294967296)

  abbrev second : List ℕ
  second = set first (entry_of d c x + 1) upper

  abbrev found : List ℕ
  found = put_found t d c x p b

  found_size : length found ≡ length t
  unfolding put_found
  found_size = simp length-set

  found_within : (z : ℕ) → (get_or found z 0 ≡ get_or t z 0) ⊎ InEntry d c x z
  unfolding put_found
  found_within z = go (ℕ_discrete z at) (ℕ_discrete z (at + 1)) (ℕ_discrete z (at + 2))
    where
      go : Dec (z ≡ at) → Dec (z ≡ at + 1) → Dec (z ≡ at + 2)
          → (get_or (set second (at + 2) (b % 4294967296)) z 0 ≡ get_or t z 0) ⊎ InEntry d c x z
      go (yes w) _ _ = inr (omega arith, omega arith)
      go (no w) (yes w₁) _ = inr (omega arith, omega arith)
      go (no w) (no w₁) (yes w₂) = inr (omega arith, omega arith)
      go (no w) (no w₁) (no w₂) =
          inl
          (get_or-set_other second (at + 2) z (b % 4294967296) 0 w₂ ∙ get_or-set_other first (at + 1) z upper 0 w₁
          ∙ get_or-set_other t at z (p % 4294967296) 0 w)

  -- the first number stands at its place plus 0
  first_kind : (c' x' f : ℕ) → f < 4 → f ≢ 0 → get_or first (entry_of d c' x' + f) 0 ≡ get_or t (entry_of d c' x' + f) 0
  first_kind c' x' f h other =
      let z : entry_of d c x + 0 ≡ entry_of d c x = omega arith in
      rw z at (kind_other t d c x 0 (p % 4294967296) (omega arith) c' x' f h (λ w. other (sym w)))

  found_beside : p < prices → (c' x' : ℕ) → beside_at found d c' x' ≡ beside_at t d c' x'
  unfolding put_found beside_at
  found_beside small c' x' =
      rw (
        kind_other second d c x 2 (b % 4294967296) (omega arith) c' x' 1 (omega arith) (λ w. omega arith),
        kind_other second d c x 2 (b % 4294967296) (omega arith) c' x' 3 (omega arith) (λ w. omega arith),
        kind_other first d c x 1 upper (omega arith) c' x' 3 (omega arith) (λ w. omega arith),
        first_kind c' x' 3 (omega arith) (λ w. omega arith),
        go (ℕ_discrete (entry_of d c' x') at),
      )
    where
      kept : get_or t (at + 1) 0 ≡ get_or first (at + 1) 0
      kept = sym (first_kind c x 1 (omega arith) (λ w. omega arith))

      go : Dec (entry_of d c' x' ≡ at) → get_or second (entry_of d c' x' + 1) 0 / 2048 ≡ get_or t (entry_of d c' x' + 1) 0 / 2048
      go (yes w) = rw (w, kept) (keeps_high first (at + 1) (p / 4294967296) (omega arith))
      go (no w) = rw (entry_other first d c x 1 upper (omega arith) c' x' w, first_kind c' x' 1 (omega arith) (λ w'. omega arith))

  found_price : p < prices → entry_of d c x + 4 ≤ length t → x < d.ranks → price_at found d c x ≡ p
  unfolding put_found price_at
  found_price small room h =
      rw (
        lt-ltb x d.ranks h,
        get_or-set_other second (at + 2) at (b % 4294967296) 0 (λ w. omega arith),
        get_or-set_other first (at + 1) at upper 0 (λ w. omega arith),
        get_or-set_same t at (p % 4294967296) 0 (omega arith),
        get_or-set_other second (at + 2) (at + 1) (b % 4294967296) 0 (λ w. omega arith),
        get_or-set_same first (at + 1) upper 0 (simp length-set (omega arith)),
        digits_mod (get_or t (at + 1) 0 / 2048) {m = 2048} {r = p / 4294967296} (omega arith),
      )
      (omega arith)

  found_back : entry_of d c x + 4 ≤ length t → back_at found d c x ≡ b % 4294967296
  unfolding put_found back_at
  found_back room = get_or-set_same second (at + 2) (b % 4294967296) 0 (simp length-set (omega arith))

  module _ (c' x' : ℕ) (other : entry_of d c' x' ≢ entry_of d c x) where
    found_price_other : price_at found d c' x' ≡ price_at t d c' x'
    unfolding put_found price_at
    found_price_other =
        let z : entry_of d c' x' + 0 ≡ entry_of d c' x' = omega arith in
        rw (
          rw z at (kind_other second d c x 2 (b % 4294967296) (omega arith) c' x' 0 (omega arith) (λ w. omega arith)),
          rw z at (kind_other first d c x 1 upper (omega arith) c' x' 0 (omega arith) (λ w. omega arith)),
          get_or-set_other t at (entry_of d c' x') (p % 4294967296) 0 other,
          kind_other second d c x 2 (b % 4294967296) (omega arith) c' x' 1 (omega arith) (λ w. omega arith),
          entry_other first d c x 1 upper (omega arith) c' x' other,
          first_kind c' x' 1 (omega arith) (λ w. omega arith),
        )

    found_back_other : back_at found d c' x' ≡ back_at t d c' x'
    unfolding put_found back_at
    found_back_other =
        entry_other second d c x 2 (b % 4294967296) (omega arith) c' x' other
        ∙ kind_other first d c x 1 upper (omega arith) c' x' 2 (omega arith) (λ w. omega arith)
        ∙ first_kind c' x' 2 (omega arith) (λ w. omega arith)

-- the digits of what stands beside the first rank
module _ (a b r : ℕ) (h : b < 512) (l : r < 512) where
  tally_length : ((a * 512 + r) * 512 + b) % 512 ≡ b
  tally_length = omega arith

  tally_last : ((a * 512 + r) * 512 + b) / 512 % 512 ≡ r
  tally_last = omega arith

  tally_back : ((a * 512 + r) * 512 + b) / 262144 ≡ a
  tally_back = omega arith

-- the last rank found, written: it only grows
module _ (t : List ℕ) (d : Layout) (c rank : ℕ) where
  abbrev tally : ℕ
  tally = (beside_at t d c 0 / 262144 * 512 + rank) * 512 + beside_at t d c 0 % 512

  last_cases : ((put_last_rank t d c rank ≡ put_beside t d c 0 tally) × (last_rank t d c < rank)) ⊎ ((put_last_rank t d c rank ≡ t) × (rank ≤ last_rank t d c))
  unfolding put_last_rank
  last_cases = go (ltb (last_rank t d c) rank) refl
    where
      go : (b : Bool) → ltb (last_rank t d c) rank ≡ b
          → ((pick b (put_beside t d c 0 tally) t ≡ put_beside t d c 0 tally) × (last_rank t d c < rank))
          ⊎ ((pick b (put_beside t d c 0 tally) t ≡ t) × (rank ≤ last_rank t d c))
      go true e = inl (refl, ltb-true (last_rank t d c) rank e)
      go false e = inr (refl, ltb-false (last_rank t d c) rank e)

  last_size : length (put_last_rank t d c rank) ≡ length t
  last_size = ⊎_elim (λ e. rw e.0 (beside_size t d c 0 tally)) (λ e. rw e.0) last_cases

  last_within : (z : ℕ) → (get_or (put_last_rank t d c rank) z 0 ≡ get_or t z 0) ⊎ InEntry d c 0 z
  last_within z = ⊎_elim (λ e. rw e.0 (beside_within t d c 0 tally z)) (λ e. rw e.0 (inl refl)) last_cases

  last_price : (c' x' : ℕ) → price_at (put_last_rank t d c rank) d c' x' ≡ price_at t d c' x'
  last_price c' x' = ⊎_elim (λ e. rw e.0 (beside_price t d c 0 tally c' x')) (λ e. rw e.0) last_cases

  last_back : (c' x' : ℕ) → back_at (put_last_rank t d c rank) d c' x' ≡ back_at t d c' x'
  last_back c' x' = ⊎_elim (λ e. rw e.0 (beside_back t d c 0 tally c' x')) (λ e. rw e.0) last_cases

  last_other : (c' x' : ℕ) → entry_of d c' x' ≢ entry_of d c 0 → beside_at (put_last_rank t d c rank) d c' x' ≡ beside_at t d c' x'
  last_other c' x' other = ⊎_elim (λ e. rw e.0 (beside_other t d c 0 tally c' x' other)) (λ e. rw e.0) last_cases

  module _ (room : entry_of d c 0 + 4 ≤ length t) (few : rank < 512) where
    -- the queue's length and its back pointer stay, in every cell
    last_kept : (c' : ℕ) → (beside_at (put_last_rank t d c rank) d c' 0 % 512 ≡ beside_at t d c' 0 % 512)
        × (beside_at (put_last_rank t d c rank) d c' 0 / 262144 ≡ beside_at t d c' 0 / 262144)
    last_kept c' = go (ℕ_discrete (entry_of d c' 0) (entry_of d c 0))
      where
        here : (beside_at (put_last_rank t d c rank) d c 0 % 512 ≡ beside_at t d c 0 % 512)
            × (beside_at (put_last_rank t d c rank) d c 0 / 262144 ≡ beside_at t d c 0 / 262144)
        here =
            ⊎_elim
            (λ w.
            rw (w.0, beside_same t d c 0 tally room) (
              tally_length (beside_at t d c 0 / 262144) (beside_at t d c 0 % 512) rank (omega arith) few,
              tally_back (beside_at t d c 0 / 262144) (beside_at t d c 0 % 512) rank (omega arith) few,
            ))
            (λ w. rw w.0 (refl, refl)) last_cases

        go : Dec (entry_of d c' 0 ≡ entry_of d c 0) → (beside_at (put_last_rank t d c rank) d c' 0 % 512 ≡ beside_at t d c' 0 % 512)
            × (beside_at (put_last_rank t d c rank) d c' 0 / 262144 ≡ beside_at t d c' 0 / 262144)
        go (yes e) = let same : c' ≡ c = first_injective d c' c e in rw same here
        go (no other) = rw (last_other c' 0 other) (refl, refl)

    last_new : rank ≤ last_rank (put_last_rank t d c rank) d c
    unfolding last_rank
    last_new =
        ⊎_elim
        (λ w.
        rw (w.0, beside_same t d c 0 tally room, tally_last (beside_at t d c 0 / 262144) (beside_at t d c 0 % 512) rank (omega arith) few)
        (le_refl rank))
        (λ w. rw w.0 w.1) last_cases

    last_grows : (c' : ℕ) → last_rank t d c' ≤ last_rank (put_last_rank t d c rank) d c'
    unfolding last_rank
    last_grows c' = go (ℕ_discrete (entry_of d c' 0) (entry_of d c 0))
      where
        go : Dec (entry_of d c' 0 ≡ entry_of d c 0) → last_rank t d c' ≤ last_rank (put_last_rank t d c rank) d c'
        go (yes e) =
            let same : c' ≡ c = first_injective d c' c e in
            rw same (⊎_elim (λ w. le_trans (omega (arith, w.1)) last_new) (λ w. rw w.0 (le_refl _)) last_cases)
        go (no other) = rw (last_other c' 0 other) (le_refl _)

-- what the store of a key changes, and what it leaves
module _ (t : List ℕ) (d : Layout) (c x key : ℕ) (some : key < no_key) where
  abbrev p : ℕ
  p = key / key_unit

  abbrev b : ℕ
  b = key % key_unit

  small : key / key_unit < prices
  small = omega arith

  abbrev put : List ℕ
  put = put_found t d c x (key / key_unit) (key % key_unit)

  put_is : put_key t d c x key ≡ put_last_rank put d c x
  unfolding put_key
  put_is = rw (lt-ltb key no_key some)

  pub put_size : length (put_key t d c x key) ≡ length t
  put_size = rw put_is (last_size put d c x ∙ found_size t d c x p b)

  pub put_within : (z : ℕ) → (get_or (put_key t d c x key) z 0 ≡ get_or t z 0) ⊎ (InEntry d c 0 z ⊎ InEntry d c x z)
  put_within z =
      rw put_is
      (⊎_elim (λ e. ⊎_elim (λ e'. inl (e ∙ e')) (λ w. inr (inr w)) (found_within t d c x p b z)) (λ w. inr (inl w)) (last_within put d c x z))

  module _ (room : entry_of d c x + 4 ≤ length t) where
    pub put_price : x < d.ranks → price_at (put_key t d c x key) d c x ≡ key / key_unit
    put_price h = rw put_is (last_price put d c x c x ∙ found_price t d c x p b small room h)

    pub put_back_lem : back_at (put_key t d c x key) d c x ≡ key % key_unit % 4294967296
    put_back_lem = rw put_is (last_back put d c x c x ∙ found_back t d c x p b room)

  module _ (c' x' : ℕ) (other : entry_of d c' x' ≢ entry_of d c x) where
    pub put_price_other : price_at (put_key t d c x key) d c' x' ≡ price_at t d c' x'
    put_price_other = rw put_is (last_price put d c x c' x' ∙ found_price_other t d c x p b c' x' other)

    pub put_back_other : back_at (put_key t d c x key) d c' x' ≡ back_at t d c' x'
    put_back_other = rw put_is (last_back put d c x c' x' ∙ found_back_other t d c x p b c' x' other)

  -- beside further ranks nothing changes
  pub put_beside_lem : c < d.cells → (c' y : ℕ) → beside_at (put_key t d c x key) d c' (y + 1) ≡ beside_at t d c' (y + 1)
  put_beside_lem below c' y =
      rw put_is (last_other put d c x c' (y + 1) (entry_behind d c c' y below) ∙ found_beside t d c x p b small c' (y + 1))

  module _ (room : entry_of d c 0 + 4 ≤ length t) (few : x < 512) where
    put_room : entry_of d c 0 + 4 ≤ length put
    put_room = rw (found_size t d c x p b) room

    -- and beside the first rank only the last rank found
    pub put_kept : (c' : ℕ) → (beside_at (put_key t d c x key) d c' 0 % 512 ≡ beside_at t d c' 0 % 512)
        × (beside_at (put_key t d c x key) d c' 0 / 262144 ≡ beside_at t d c' 0 / 262144)
    put_kept c' =
        let (l, m) = last_kept put d c x put_room few c' in
        let e = found_beside t d c x p b small c' 0 in
        rw put_is (rw e at l, rw e at m)

    pub put_last : x ≤ last_rank (put_key t d c x key) d c
    put_last = rw put_is (last_new put d c x put_room few)

    pub put_last_grows : (c' : ℕ) → last_rank t d c' ≤ last_rank (put_key t d c x key) d c'
    unfolding last_rank
    put_last_grows c' = rw put_is (rw (same c') at (last_grows put d c x put_room few c'))
      where
        same : (c'' : ℕ) → last_rank put d c'' ≡ last_rank t d c''
        same c'' = rw (found_beside t d c x p b small c'' 0)
