-- Finding a rank writes into four entries at most: that of the first rank, that of the rank, and those beside which the queue's least and
-- the place behind its last stand. So these four put back leave the table as it was, whatever it held.
use mathlib.Core.Path.{◌≡◌, refl, sym, ◌∙◌}
use mathlib.Core.Logic.{◌⊎◌, inl, inr, ⊎_elim}
use mathlib.Core.Bool.{Bool, true, false}
use mathlib.Core.List.{List, [], ◌∷◌, map}
use Prim.Native.Nat.{ℕ, ◌+◌, ◌-◌, ◌*◌, ◌/◌, ◌%◌, ◌≤◌, ◌<◌}
use native.Mathlib.Nat.{eq-or-lt_of_le}
use native.Mathlib.Decide.{ℕ_discrete, dec_lt}
use native.Mathlib.Omega.{arith}
use lib.Dec.{ltb}
use lib.ListN.{length, get_or, set, length-set}
use lib.Seq.{get_or-set_same, get_or-set_other, ext_get_or}
use Rattle.bits.specs.Bits.{pick}
use Rattle.chart_keys.specs.Keys.{back_pointer, key_unit, no_key}
use Rattle.chart_table.specs.declared.Layout.{Layout}
use Rattle.chart_table.specs.Table.{entry_of, beside_at, last_rank, put_beside, put_found, put_last_rank, put_key}
use Rattle.chart_tags.specs.Tags.{is_initial}
use Rattle.chart_queue.specs.Queue.{queued_key, queue_length, least_place, keep_initial, put_queued, move_queued, put_queue_length, replace, push, extract_min}
use Rattle.chart_steps.proofs.Saved.{saved, restore, undo}

-- place z is in no entry that starts at one of these places
abbrev pub Off : ℕ → List ℕ → Type 0
Off z [] = Unit {0}
Off z (e ∷ es) = ((z < e) ⊎ (e + 4 ≤ z)) × Off z es

-- u is t but for those entries
pub record But (es t u : List ℕ) : Type 0 where
  pub size : length u ≡ length t
  pub same : (z : ℕ) → z < length t → Off z es → get_or u z 0 ≡ get_or t z 0

-- the entry that starts at e is one of them
abbrev pub Among : ℕ → List ℕ → Type 0
Among e es = (j : ℕ) → j < 4 → Off (e + j) es → ⊥

pub among_here : (e : ℕ) (es : List ℕ) → Among e (e ∷ es)
among_here e es j l (inl h, rest) = omega arith
among_here e es j l (inr h, rest) = omega arith

pub among_there : (e f : ℕ) (es : List ℕ) → Among e es → Among e (f ∷ es)
among_there e f es among j l (h, rest) = among j l rest

pub but_refl : (es t : List ℕ) → But es t t
but_refl es t = record { size = refl; same = λ z l off. refl }

module _ (es t : List ℕ) where
  -- a number of one of them is written
  but_set : (u : List ℕ) (e j v : ℕ) → j < 4 → Among e es → But es t u → But es t (set u (e + j) v)
  but_set u e j v l among but = record {
    size = length-set u (e + j) v ∙ but.size;
    same = λ z inside off. get_or-set_other u (e + j) z v 0 (λ h. among j l (rw h at off)) ∙ but.same z inside off;
  }

  module _ (d : Layout) (c rank : ℕ) (among : Among (entry_of d c rank) es) where
    pub but_beside : (u : List ℕ) (n : ℕ) → But es t u → But es t (put_beside u d c rank n)
    unfolding put_beside
    but_beside u n but = but_set _ (entry_of d c rank) 3 _ (omega arith) among (but_set u (entry_of d c rank) 1 _ (omega arith) among but)

    but_found : (u : List ℕ) (price back : ℕ) → But es t u → But es t (put_found u d c rank price back)
    unfolding put_found
    but_found u price back but =
        let at = entry_of d c rank in
        let zero_behind : at + 0 ≡ at = omega arith in
        but_set _ at 2 _ (omega arith) among
        (but_set _ at 1 _ (omega arith) among (rw zero_behind at (but_set u at 0 (price % 4294967296) (omega arith) among but)))

  module _ (d : Layout) (c : ℕ) (first : Among (entry_of d c 0) es) where
    but_last : (u : List ℕ) (rank : ℕ) → But es t u → But es t (put_last_rank u d c rank)
    unfolding put_last_rank
    but_last u rank but = go (ltb (last_rank u d c) rank)
      where
        go : (b : Bool) → But es t (pick b (put_beside u d c 0 ((beside_at u d c 0 / 262144 * 512 + rank) * 512 + beside_at u d c 0 % 512)) u)
        go true = but_beside d c 0 first u _ but
        go false = but

    but_key : (u : List ℕ) (rank key : ℕ) → Among (entry_of d c rank) es → But es t u → But es t (put_key u d c rank key)
    unfolding put_key
    but_key u rank key among but = go (ltb key no_key)
      where
        go : (b : Bool) → But es t (pick b (put_last_rank (put_found u d c rank (key / key_unit) (key % key_unit)) d c rank) u)
        go true = but_last _ rank (but_found d c rank among u _ _ but)
        go false = but

    but_initial : (u : List ℕ) (back : ℕ) → But es t u → But es t (keep_initial u d c back)
    unfolding keep_initial
    but_initial u back but = go (is_initial (back_pointer back))
      where
        go : (b : Bool) → But es t (pick b (put_beside u d c 0 (back * 262144 + beside_at u d c 0 % 262144)) u)
        go true = but_beside d c 0 first u _ but
        go false = but

    but_queued : (u : List ℕ) (rank y key : ℕ) → Among (entry_of d c (y + 1)) es → But es t u → But es t (put_queued u d c rank y key)
    unfolding put_queued
    but_queued u rank y key among but = but_beside d c (y + 1) among _ _ (but_initial u _ but)

    but_length : (u : List ℕ) (m : ℕ) → But es t u → But es t (put_queue_length u d c m)
    unfolding put_queue_length
    but_length u m but = but_beside d c 0 first u _ but

    but_replaced : (u : List ℕ) (rank m y key : ℕ) → Among (entry_of d c (y + 1)) es → But es t u → But es t (replace u d c rank m y key)
    unfolding replace move_queued
    but_replaced u rank m y key among but = go (ltb key no_key)
      where
        go : (b : Bool) → But es t (pick b (put_queued u d c rank y key) (put_queue_length (move_queued u d c (m - 1) y) d c (m - 1)))
        go true = but_queued u rank y key among but
        go false = but_length _ _ (but_beside d c (y + 1) among u _ but)

    but_pushed : (u : List ℕ) (rank m key : ℕ) → Among (entry_of d c (m + 1)) es → But es t u → But es t (push u d c rank m key)
    unfolding push
    but_pushed u rank m key among but = go (ltb key no_key)
      where
        go : (b : Bool) → But es t (pick b (put_queue_length (put_queued u d c rank m key) d c (m + 1)) u)
        go true = but_length _ _ (but_queued u rank m key among but)
        go false = but

-- the entries that finding a rank writes into, in the order in which they are put back
abbrev pub written_at : List ℕ → Layout → ℕ → ℕ → List ℕ
written_at t d c rank =
    let m = queue_length t d c in
    entry_of d c (m + 1) ∷ entry_of d c (least_place t d c m + 1) ∷ entry_of d c rank ∷ entry_of d c 0 ∷ []

pub extract_writes : (t : List ℕ) (d : Layout) (c rank lo hi : ℕ) → But (written_at t d c rank) t (extract_min t d c rank lo hi)
unfolding extract_min
extract_writes t d c rank lo hi = outer (ltb 0 m)
  where
    m : ℕ
    m = queue_length t d c

    y : ℕ
    y = least_place t d c m

    es : List ℕ
    es = written_at t d c rank

    e₁ : ℕ
    e₁ = entry_of d c (m + 1)

    e₂ : ℕ
    e₂ = entry_of d c (y + 1)

    e₃ : ℕ
    e₃ = entry_of d c rank

    e₄ : ℕ
    e₄ = entry_of d c 0

    behind : Among e₁ es
    behind = among_here e₁ (e₂ ∷ e₃ ∷ e₄ ∷ [])

    least : Among e₂ es
    least = among_there e₂ e₁ (e₂ ∷ e₃ ∷ e₄ ∷ []) (among_here e₂ (e₃ ∷ e₄ ∷ []))

    new : Among e₃ es
    new = among_there e₃ e₁ (e₂ ∷ e₃ ∷ e₄ ∷ []) (among_there e₃ e₂ (e₃ ∷ e₄ ∷ []) (among_here e₃ (e₄ ∷ [])))

    first : Among e₄ es
    first =
        among_there e₄ e₁ (e₂ ∷ e₃ ∷ e₄ ∷ [])
        (among_there e₄ e₂ (e₃ ∷ e₄ ∷ []) (among_there e₄ e₃ (e₄ ∷ []) (among_here e₄ [])))

    pushed : But es t (push (put_key t d c rank lo) d c rank m hi)
    pushed = but_pushed es t d c first _ rank m hi behind (but_key es t d c first t rank lo new (but_refl es t))

    replaced : But es t (push (replace (put_key t d c rank (queued_key t d c y)) d c rank m y lo) d c rank m hi)
    replaced =
        but_pushed es t d c first _ rank m hi behind
        (but_replaced es t d c first _ rank m y lo least (but_key es t d c first t rank (queued_key t d c y) new (but_refl es t)))

    inner : (b : Bool) → But es t (pick b (push (replace (put_key t d c rank (queued_key t d c y)) d c rank m y lo) d c rank m hi)
        (push (put_key t d c rank lo) d c rank m hi))
    inner true = replaced
    inner false = pushed

    outer : (b : Bool) → But es t (pick b (pick (ltb (queued_key t d c y) lo)
        (push (replace (put_key t d c rank (queued_key t d c y)) d c rank m y lo) d c rank m hi)
        (push (put_key t d c rank lo) d c rank m hi)) (push (put_key t d c rank lo) d c rank m hi))
    outer true = inner (ltb (queued_key t d c y) lo)
    outer false = pushed

-- what is put back
module _ (t : List ℕ) where
  -- t's number stored at a place: there it is t's, and elsewhere what was there
  stored : (w : List ℕ) (i z : ℕ) → length w ≡ length t → z < length t → ((z ≡ i → ⊥) → get_or w z 0 ≡ get_or t z 0)
      → get_or (set w i (get_or t i 0)) z 0 ≡ get_or t z 0
  stored w i z size l was = go (ℕ_discrete z i)
    where
      go : Dec (z ≡ i) → get_or (set w i (get_or t i 0)) z 0 ≡ get_or t z 0
      go (yes e) = rw (← e) (get_or-set_same w z (get_or t z 0) 0 (rw size l))
      go (no other) = get_or-set_other w i z (get_or t i 0) 0 other ∙ was other

  further : (a z : ℕ) → a ≤ z → (z ≡ a → ⊥) → a + 1 ≤ z
  further a z l other = ⊎_elim (λ e. absurd (other (sym e))) (λ less. omega arith) (eq-or-lt_of_le l)

  outside : (e z : ℕ) → (z ≡ e + 0 → ⊥) → (z ≡ e + 1 → ⊥) → (z ≡ e + 2 → ⊥) → (z ≡ e + 3 → ⊥) → (z < e) ⊎ (e + 4 ≤ z)
  outside e z n₀ n₁ n₂ n₃ = go (dec_lt z e)
    where
      go : Dec (z < e) → (z < e) ⊎ (e + 4 ≤ z)
      go (yes l) = inl l
      go (no l) =
          let b₁ = further (e + 0) z (omega arith) n₀ in
          let b₂ = further (e + 1) z (omega arith) n₁ in
          let b₃ = further (e + 2) z (omega arith) n₂ in
          inr (omega (arith, further (e + 3) z (omega arith) n₃))

  -- one entry put back is one fewer in which they differ
  restored : (e : ℕ) (es u : List ℕ) → But (e ∷ es) t u → But es t (restore (saved t e) u)
  restored e es u but =
      let at : e + 0 ≡ e = omega arith in
      let u₁ = set u (e + 0) (get_or t (e + 0) 0) in
      let u₂ = set u₁ (e + 1) (get_or t (e + 1) 0) in
      let u₃ = set u₂ (e + 2) (get_or t (e + 2) 0) in
      let done : But es t (set u₃ (e + 3) (get_or t (e + 3) 0)) = record {
        size = simp length-set but.size;
        same = λ z l off. stored u₃ (e + 3) z (simp length-set but.size) l (λ n₃.
            stored u₂ (e + 2) z (simp length-set but.size) l (λ n₂.
            stored u₁ (e + 1) z (simp length-set but.size) l (λ n₁.
            stored u (e + 0) z but.size l (λ n₀. but.same z l (outside e z n₀ n₁ n₂ n₃, off)))));
      } in
      rw at (rw at at done)

  pub all_undone : (es u : List ℕ) → But es t u → undo (map (saved t) es) u ≡ t
  all_undone [] u but = ext_get_or 0 u t but.size (λ i h. but.same i (rw but.size at h) tt)
  all_undone (e ∷ es) u but = all_undone es (restore (saved t e) u) (restored e es u but)
