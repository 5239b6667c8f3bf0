-- Extract-min writes the least of the queue and two more at its rank, and the others are the queue: nothing else changes in the
-- table. For the place with the least key is found by one loop, and each way out is one of those of Arranged. A key that is written
-- into the queue is read again, since its back pointer comes from the last found's in one of four ways, or follows none.
use mathlib.Core.Path.{◌≡◌, refl, sym, ◌∙◌}
use mathlib.Core.Logic.{◌⊎◌, inl, inr, ⊎_elim, ◌≢◌}
use mathlib.Core.Bool.{Bool, true, false, true≢false}
use mathlib.Core.List.{List}
use Prim.Native.Nat.{ℕ, zero, suc, ◌+◌, ◌-◌, ◌*◌, ◌/◌, ◌%◌, ◌≤◌, ◌<◌}
use native.Mathlib.Nat.{eq-or-lt_of_le, le_refl, le_trans}
use native.Mathlib.Numerals.{add-one}
use native.Mathlib.Decide.{dec_lt, ℕ_discrete}
use native.Mathlib.Omega.{arith}
use lib.Arith.{digits_div, digits_mod}
use lib.ListN.{length}
use lib.Dec.{ltb}
use borrow.Author.Tests.{ltb-true, ltb-false, lt-ltb, le-ltb}
use Rattle.bits.specs.Bits.{pick}
use Rattle.packing.specs.Loop.{iter}
use Rattle.chart_keys.specs.Keys.{back_pointer, key_unit, no_key}
use Rattle.chart_table.specs.declared.Layout.{Layout}
use Rattle.chart_table.specs.Table.{entry_of, back_at, beside_at, put_key}
use Rattle.chart_tags.specs.Tags.{is_initial, code_of}
use Rattle.chart_queue.specs.Queue.{
  tag_of,
  tagged_back,
  queued_key,
  queue_length,
  keep_initial,
  put_queued,
  move_queued,
  put_queue_length,
  lesser_place,
  least_place,
  replace,
  push,
  extract_min,
}
use Rattle.chart_theory.proofs.Table.Entries.{entry_within}
use Rattle.chart_passes.proofs.Fuel.{put_above}
use Rattle.chart_theory.proofs.Table.Numbers.{beside_size, beside_back, beside_same, put_back_other, put_beside_lem}
use Rattle.chart_theory.proofs.Queue.Numbers.{
  tag_at,
  TagBelow,
  TagInitial,
  put_queued_own,
  put_queue_length_lem,
  place_queued,
  place_tag,
  place_length,
  place_last,
  first_kept,
  tally_queued,
  tally_tag,
  length_same,
  length_last,
  length_queued,
  length_tag,
  initial_none,
  initial_kept,
  kept_back,
  kept_length,
  kept_last,
  Shift,
  code_shifted,
  code_below,
}
use Rattle.chart_theory.proofs.Queue.Pool.{Member, inside, low, high, Valid, key_in, Arranged, NewTag, Has}
use Rattle.chart_theory.proofs.Queue.Arranged.{pushed_arranged, replaced_arranged, moved_arranged}
use Rattle.chart_theory.proofs.Queue.Stored.{Stored, stored_key, stored_beside, apart_rank}

-- the least of some places is one of them, and has the least key
module _ (t : List ℕ) (d : Layout) (c : ℕ) where
  abbrev key : ℕ → ℕ
  key = queued_key t d c

  lesser_place_cases : (x y : ℕ) → ((lesser_place t d c x y ≡ y) × (key y < key x)) ⊎ ((lesser_place t d c x y ≡ x) × (key x ≤ key y))
  unfolding lesser_place
  lesser_place_cases x y = go (ltb (key y) (key x)) refl
    where
      go : (b : Bool) → ltb (key y) (key x) ≡ b → ((pick b y x ≡ y) × (key y < key x)) ⊎ ((pick b y x ≡ x) × (key x ≤ key y))
      go true e = inl (refl, ltb-true (key y) (key x) e)
      go false e = inr (refl, ltb-false (key y) (key x) e)

  least_place_suc : (m : ℕ) → (least_place t d c (suc m) < suc m) × ((y : ℕ) → y < suc m → key (least_place t d c (suc m)) ≤ key y)
  unfolding least_place iter
  least_place_suc zero =
      ⊎_elim (λ w. absurd (omega (arith, w.1)))
      (λ w. (omega (arith, w.0), λ y h. let z : y ≡ 0 = omega arith in rw (w.0, z) (le_refl (key 0)))) (lesser_place_cases 0 0)
  least_place_suc (suc m) =
      let (b, least) = least_place_suc m in
      let x = iter (lesser_place t d c) 0 (suc m) in
      ⊎_elim
      (λ w. (
        omega (arith, w.0),
        λ y h. rw w.0
            (⊎_elim (λ e. rw e (le_refl (key (suc m)))) (λ l. omega (arith, w.1, least y l)) (eq-or-lt_of_le {n = y} {m = suc m} (omega arith))),
      ))
      (λ w. (
        omega (arith, w.0, b),
        λ y h. rw w.0 (⊎_elim (λ e. rw e w.1) (λ l. least y l) (eq-or-lt_of_le {n = y} {m = suc m} (omega arith))),
      ))
      (lesser_place_cases x (suc m))

  least_place_least : (m : ℕ) → 0 < m → (least_place t d c m < m) × ((y : ℕ) → y < m → key (least_place t d c m) ≤ key y)
  least_place_least zero h = absurd (omega arith)
  least_place_least (suc m) h = least_place_suc m

-- the back pointer of a key, and whether it follows none
abbrev pub back_in : ℕ → ℕ
back_in key = key % key_unit % 4294967296

abbrev pub FollowsNone : ℕ → Bool → Type 0
FollowsNone key b = is_initial (back_pointer (back_in key)) ≡ b

-- a key that is met as a rank is looked for can be given by a tag
pub record Reached (t : List ℕ) (d : Layout) (c rank key : ℕ) : Type 0 where
  pub small : key % key_unit < 4294967296
  pub shift : FollowsNone key false → Shift (back_at t d c (rank - 1)) (back_in key)

-- the least of the pool was written at the rank, and the others are the queue
pub record Extracted (t : List ℕ) (d : Layout) (c rank lo hi : ℕ) (u : List ℕ) : Type 0 where
  pub member : Member
  pub valid : Valid (queue_length t d c) lo hi member
  pub least : (q : Member) → Valid (queue_length t d c) lo hi q → key_in lo hi (queued_key t d c) member ≤ key_in lo hi (queued_key t d c) q
  pub stored : Stored t d c rank (key_in lo hi (queued_key t d c) member) u
  pub arranged : Arranged rank (queue_length t d c) lo hi (queue_length u d c)
      (Has d.ranks rank lo hi (queued_key t d c) (tag_at t d c) (queued_key u d c) (tag_at u d c)) member

-- what extract-min comes to
pub data Extraction (t : List ℕ) (d : Layout) (c rank lo hi : ℕ) (u : List ℕ) : Type 0 where
  nothing : u ≡ t → queue_length t d c ≡ 0 → no_key ≤ lo → no_key ≤ hi → Extraction t d c rank lo hi u
  something : Extracted t d c rank lo hi u → Extraction t d c rank lo hi u

-- the tag of a key
data TagIs (t : List ℕ) (d : Layout) (c rank key : ℕ) : ℕ → Type 0 where
  tag_none : FollowsNone key true → TagIs t d c rank key 1023
  tag_rank : FollowsNone key false → TagIs t d c rank key ((rank - 1) * 4 + code_of (back_at t d c (rank - 1)) (back_in key))

tag_is : (t : List ℕ) (d : Layout) (c rank key : ℕ) → TagIs t d c rank key (tag_of t d c rank (back_in key))
unfolding tag_of
tag_is t d c rank key = go (is_initial (back_pointer (back_in key))) refl
  where
    go : (b : Bool) → FollowsNone key b
        → TagIs t d c rank key (pick b 1023 ((rank - 1) * 4 + code_of (back_at t d c (rank - 1)) (back_in key)))
    go true e = tag_none e
    go false e = tag_rank e

-- what it says: its rank is below the one looked for
tag_new : (t : List ℕ) (d : Layout) (c rank key : ℕ) → 0 < rank → rank < d.ranks → d.ranks ≤ 256 → {tag : ℕ} → TagIs t d c rank key tag
    → NewTag d.ranks rank key tag × (tag < 1024)
tag_new t d c rank key h l few (tag_none e) = ((λ less. absurd (omega arith), λ _. e), omega arith)
tag_new t d c rank key h l few (tag_rank e) =
    let b = code_below (back_at t d c (rank - 1)) (back_in key) in
    ((λ _. omega arith, λ more. absurd (omega arith)), omega arith)

-- the key of a place whose tag stands for its back pointer
tagged_key : (t : List ℕ) (d : Layout) (c y key tag : ℕ) → key < no_key → tag < 1024 → beside_at t d c (y + 1) ≡ key / key_unit * 1024 + tag
    → tagged_back t d c tag ≡ key % key_unit → queued_key t d c y ≡ key
unfolding queued_key
tagged_key t d c y key tag some h e f =
    rw (e, digits_div (key / key_unit) {m = 1024} {r = tag} h, digits_mod (key / key_unit) {m = 1024} {r = tag} h, f) (omega arith)

module _ (t : List ℕ) (d : Layout) (c rank lo hi : ℕ) (below : c < d.cells) (room : 4 * (d.cells * d.ranks) ≤ length t)
    (last : rank < d.ranks) (few_ranks : d.ranks ≤ 256) (few : queue_length t d c < rank) (order : lo ≤ hi)
    (real : (y : ℕ) → y < queue_length t d c → queued_key t d c y < no_key)
    (tags : (y : ℕ) → y < queue_length t d c → TagBelow d (tag_at t d c y) rank)
    (reach_lo : lo < no_key → Reached t d c rank lo) (reach-hi : hi < no_key → Reached t d c rank hi)
    (alone : (y : ℕ) → y < queue_length t d c → TagInitial d (tag_at t d c y) → (lo < no_key → FollowsNone lo false) × (hi < no_key → FollowsNone hi false))
    (one : lo < no_key → hi < no_key → FollowsNone lo true → FollowsNone hi false) where
  abbrev m : ℕ
  m = queue_length t d c

  abbrev queued : ℕ → ℕ
  queued = queued_key t d c

  abbrev HasIn : List ℕ → ℕ → Member → Type 0
  HasIn u = Has d.ranks rank lo hi queued (tag_at t d c) (queued_key u d c) (tag_at u d c)

  some_kept : 0 < d.ranks
  some_kept = omega arith

  entry_room : (v : List ℕ) (x : ℕ) → length v ≡ length t → x < d.ranks → entry_of d c x + 4 ≤ length v
  entry_room v x e l = omega (arith, entry_within d c x below l)

  far : (y z : ℕ) → y ≢ z → suc y < d.ranks → suc z < d.ranks → entry_of d c (y + 1) ≢ entry_of d c (z + 1)
  far y z other l l' = apart_rank d c below (y + 1) (z + 1) (λ e. other (omega arith)) (omega arith) (omega arith)

  -- a key that is met is written at place y of a table with the same back pointer at the rank before
  module _ (v : List ℕ) (size : length v ≡ length t) (same : back_at v d c (rank - 1) ≡ back_at t d c (rank - 1)) (y key : ℕ)
      (l : suc y < d.ranks) (some : key < no_key) (reach : Reached t d c rank key) where
    abbrev b : ℕ
    b = back_in key

    abbrev first : List ℕ
    first = keep_initial v d c b

    abbrev tag : ℕ
    tag = tag_of v d c rank b

    abbrev stub : ℕ
    stub = key / key_unit * 1024 + tag

    abbrev written : List ℕ
    written = put_queued v d c rank y key

    whole : b ≡ key % key_unit
    whole = omega (arith, reach.small)

    v_room : entry_of d c 0 + 4 ≤ length v
    v_room = entry_room v 0 size some_kept

    new_tag : NewTag d.ranks rank key tag × (tag < 1024)
    new_tag = tag_new v d c rank key (omega arith) last few_ranks (tag_is v d c rank key)

    first_size : length first ≡ length v
    first_size = go (is_initial (back_pointer b)) refl
      where
        go : (e : Bool) → FollowsNone key e → length first ≡ length v
        go true e = rw (initial_kept v d c b e) (beside_size v d c 0 (b * 262144 + beside_at v d c 0 % 262144))
        go false e = rw (initial_none v d c b e)

    first_back : (x : ℕ) → back_at first d c x ≡ back_at v d c x
    first_back x = go (is_initial (back_pointer b)) refl
      where
        go : (e : Bool) → FollowsNone key e → back_at first d c x ≡ back_at v d c x
        go true e = rw (initial_kept v d c b e) (beside_back v d c 0 (b * 262144 + beside_at v d c 0 % 262144) c x)
        go false e = rw (initial_none v d c b e)

    written_size : length written ≡ length t
    unfolding put_queued
    written_size = beside_size first d c (y + 1) stub ∙ first_size ∙ size

    written_stub : beside_at written d c (y + 1) ≡ stub
    unfolding put_queued
    written_stub = beside_same first d c (y + 1) stub (rw first_size (entry_room v (y + 1) size (omega arith)))

    written_tag : NewTag d.ranks rank key (tag_at written d c y)
    written_tag = rw (written_stub, digits_mod (key / key_unit) {m = 1024} {r = tag} new_tag.1) new_tag.0

    written_back : (x : ℕ) → back_at written d c x ≡ back_at v d c x
    unfolding put_queued
    written_back x = beside_back first d c (y + 1) stub c x ∙ first_back x

    tag_back : {τ : ℕ} → TagIs v d c rank key τ → tagged_back written d c τ ≡ key % key_unit
    unfolding tagged_back put_queued
    tag_back (tag_none e) =
        rw (le-ltb (1023 / 4 + 1) d.ranks (omega arith), first_kept first d c y stub below, initial_kept v d c b e)
        (kept_back v d c b v_room ∙ whole)
    tag_back (tag_rank e) =
        let code = code_of (back_at v d c (rank - 1)) b in
        let h = code_below (back_at v d c (rank - 1)) b in
        let four : ((rank - 1) * 4 + code) / 4 ≡ rank - 1 = digits_div (rank - 1) {m = 4} {r = code} h in
        let rest : ((rank - 1) * 4 + code) % 4 ≡ code = digits_mod (rank - 1) {m = 4} {r = code} h in
        rw (four, rest, lt-ltb (rank - 1 + 1) d.ranks (omega arith), beside_back first d c (y + 1) stub c (rank - 1), first_back (rank - 1), same)
        (code_shifted (reach.shift e) ∙ whole)

    written_here : queued_key written d c y ≡ key
    written_here = tagged_key written d c y key tag some new_tag.1 written_stub (tag_back (tag_is v d c rank key))

    written_other : (z : ℕ) → z ≢ y → suc z < d.ranks → (TagInitial d (tag_at v d c z) → FollowsNone key false)
        → (queued_key written d c z ≡ queued_key v d c z) × (tag_at written d c z ≡ tag_at v d c z)
    unfolding put_queued
    written_other z other l' none = go (is_initial (back_pointer b)) refl
      where
        apart : entry_of d c (z + 1) ≢ entry_of d c (y + 1)
        apart = far z y other l' l

        go : (e : Bool) → FollowsNone key e → (queued_key written d c z ≡ queued_key v d c z) × (tag_at written d c z ≡ tag_at v d c z)
        go true e = (
          place_queued first d c y stub below z apart
              ∙ rw (initial_kept v d c b e)
              (tally_queued v d c (b * 262144 + beside_at v d c 0 % 262144) below v_room z (λ h. absurd (true≢false (sym e ∙ none h)))),
          place_tag first d c y stub below z apart
              ∙ rw (initial_kept v d c b e) (tally_tag v d c (b * 262144 + beside_at v d c 0 % 262144) below v_room z),
        )
        go false e =
            rw (initial_none v d c b e) (place_queued v d c y stub below z apart, place_tag v d c y stub below z apart)

    written_length : queue_length written d c ≡ queue_length v d c
    unfolding put_queued
    written_length = place_length first d c y stub below ∙ go (is_initial (back_pointer b)) refl
      where
        go : (e : Bool) → FollowsNone key e → queue_length first d c ≡ queue_length v d c
        go true e = rw (initial_kept v d c b e) (kept_length v d c b v_room)
        go false e = rw (initial_none v d c b e)

    written_stored : {k : ℕ} → suc y ≤ rank → Stored t d c rank k v → Stored t d c rank k written
    unfolding put_queued
    written_stored {k} le st =
        stored_beside below some_kept (go (is_initial (back_pointer b)) refl) (y + 1) stub (omega arith) (omega arith) (place_last first d c y stub below)
      where
        go : (e : Bool) → FollowsNone key e → Stored t d c rank k first
        go true e =
            rw (initial_kept v d c b e)
            (stored_beside below some_kept st 0 (b * 262144 + beside_at v d c 0 % 262144) some_kept (omega arith) (kept_last v d c b v_room))
        go false e = rw (initial_none v d c b e) st

  -- the greater of the two was pushed behind m others, if there is one
  record Pushed (key : ℕ) (v u : List ℕ) : Type 0 where
    stored : Stored t d c rank key u
    at_end : ((queue_length u d c ≡ suc m) × (hi < no_key) × HasIn u m high) ⊎ ((queue_length u d c ≡ m) × (no_key ≤ hi))
    same : (y : ℕ) → y < m → (queued_key u d c y ≡ queued_key v d c y) × (tag_at u d c y ≡ tag_at v d c y)
    short : queue_length u d c ≤ rank

  pushed : (key : ℕ) (v : List ℕ) → Stored t d c rank key v → back_at v d c (rank - 1) ≡ back_at t d c (rank - 1) → queue_length v d c ≡ m
      → ((y : ℕ) → y < m → TagInitial d (tag_at v d c y) → hi < no_key → FollowsNone hi false) → Pushed key v (push v d c rank m hi)
  unfolding push put_queue_length
  pushed key v st back before none = go (ltb hi no_key) refl
    where
      w : List ℕ
      w = put_queued v d c rank m hi

      u : List ℕ
      u = put_queue_length w d c (m + 1)

      counted_stored : Stored t d c rank key w → entry_of d c 0 + 4 ≤ length w → Stored t d c rank key u
      counted_stored st' w_room =
          stored_beside below some_kept st' 0 (beside_at w d c 0 / 512 * 512 + (m + 1)) some_kept (omega arith)
          (length_last w d c (m + 1) below w_room (omega arith))

      go : (b : Bool) → ltb hi no_key ≡ b → Pushed key v (pick b u v)
      go true e =
          let some = ltb-true hi no_key e in
          let reach = reach-hi some in
          let size = written_size v st.size back m hi (omega arith) some reach in
          let w_room = entry_room (put_queued v d c rank m hi) 0 size some_kept in
          let counted : queue_length u d c ≡ suc m = length_same w d c (m + 1) below w_room (omega arith) (omega arith) ∙ add-one m in
          record {
            stored = counted_stored (written_stored v st.size back m hi (omega arith) some reach (omega arith) st) w_room;
            at_end = inl (
              counted,
              some,
              (
                length_queued w d c (m + 1) below w_room (omega arith) m ∙ written_here v st.size back m hi (omega arith) some reach,
                rw (length_tag w d c (m + 1) below w_room (omega arith) m) (written_tag v st.size back m hi (omega arith) some reach),
              ),
            );
            same = λ y h.
                let (k, τ) = written_other v st.size back m hi (omega arith) some reach y (λ e'. omega arith) (omega arith) (λ i. none y h i some) in
                (length_queued w d c (m + 1) below w_room (omega arith) y ∙ k, length_tag w d c (m + 1) below w_room (omega arith) y ∙ τ);
            short = omega (arith, counted);
          }
      go false e = record {
        stored = st;
        at_end = inr (before, ltb-false hi no_key e);
        same = λ y h. (refl, refl);
        short = omega (arith, before);
      }

  -- a key that is one was written at the rank: the queue is as it was
  module _ (key : ℕ) (some : key < no_key) where
    abbrev v : List ℕ
    v = put_key t d c rank key

    t_room : entry_of d c 0 + 4 ≤ length t
    t_room = entry_room t 0 refl some_kept

    stored : Stored t d c rank key v
    stored = stored_key t d c rank key below last few_ranks room some

    counted : queue_length v d c ≡ m
    counted = put_queue_length_lem t d c rank key some below last t_room (omega arith) c

    kept_tag : (y : ℕ) → tag_at v d c y ≡ tag_at t d c y
    kept_tag y = rw (put_beside_lem t d c rank key some below c y)

    kept : (y : ℕ) → y < m → (queued_key v d c y ≡ queued y) × (tag_at v d c y ≡ tag_at t d c y)
    kept y h = (put_queued_own t d c rank key some below last t_room (omega arith) y (tags y h), kept_tag y)

    before_back : back_at v d c (rank - 1) ≡ back_at t d c (rank - 1)
    before_back = put_back_other t d c rank key some c (rank - 1) (apart_rank d c below (rank - 1) rank (λ e. omega arith) (omega arith) last)

    none_hi : (y : ℕ) → y < m → TagInitial d (tag_at v d c y) → hi < no_key → FollowsNone hi false
    none_hi y h i = (alone y h (rw (kept_tag y) at i)).1

  -- none of the queue is lesser than the two more
  abbrev after_low : List ℕ
  after_low = push (put_key t d c rank lo) d c rank m hi

  push_none : (u : List ℕ) → no_key ≤ hi → push u d c rank m hi ≡ u
  unfolding push
  push_none u no-hi = rw (le-ltb hi no_key no-hi)

  low_outcome : ((y : ℕ) → y < m → lo ≤ queued y) → Extraction t d c rank lo hi after_low
  low_outcome first = go (dec_lt lo no_key) (dec_lt 0 m)
    where
      least : (q : Member) → Valid m lo hi q → lo ≤ key_in lo hi queued q
      least (inside y) h = first y h
      least low h = le_refl lo
      least high h = order

      go : Dec (lo < no_key) → Dec (0 < m) → Extraction t d c rank lo hi after_low
      go (yes some) _ =
          let grown = pushed lo (put_key t d c rank lo) (stored lo some) (before_back lo some) (counted lo some) (none_hi lo some) in
          something (record {
            member = low;
            valid = some;
            least = least;
            stored = grown.stored;
            arranged = pushed_arranged rank m lo hi (queue_length after_low d c) (HasIn after_low) grown.short grown.at_end (λ y h.
                let (k, τ) = grown.same y h in
                let (k', τ') = kept lo some y h in
                (k ∙ k', τ ∙ τ'));
          })
      go (no over) (yes h) = absurd (omega (arith, first 0 h, real 0 h))
      go (no over) (no h) =
          nothing (push_none (put_key t d c rank lo) (omega arith) ∙ put_above t d c rank lo (omega arith)) (omega arith) (omega arith)
          (omega arith)

  -- one of the queue is the least
  module _ (x : ℕ) (in-queue : x < m) (first : (y : ℕ) → y < m → queued x ≤ queued y) (lesser : queued x < lo) where
    inside_least : (q : Member) → Valid m lo hi q → queued x ≤ key_in lo hi queued q
    inside_least (inside y) h = first y h
    inside_least low h = omega arith
    inside_least high h = omega arith

    real_x : queued x < no_key
    real_x = real x in-queue

    abbrev at_rank : List ℕ
    at_rank = put_key t d c rank (queued x)

    st : Stored t d c rank (queued x) at_rank
    st = stored (queued x) real_x

    replaced_outcome : lo < no_key → Extraction t d c rank lo hi (push (put_queued at_rank d c rank x lo) d c rank m hi)
    replaced_outcome some =
        something (record {
          member = inside x;
          valid = in-queue;
          least = inside_least;
          stored = grown.stored;
          arranged = replaced_arranged rank m lo hi (queue_length after d c) (HasIn after) grown.short grown.at_end x in-queue some
              (let (k, τ) = grown.same x in-queue in (
                k ∙ written_here at_rank st.size back x lo far_enough some reach,
                rw τ (written_tag at_rank st.size back x lo far_enough some reach),
              ))
              (λ y h other.
              let (k, τ) = grown.same y h in
              let (k', τ') = unmoved y h other in
              let (k'', τ'') = kept (queued x) real_x y h in
              (k ∙ k' ∙ k'', τ ∙ τ' ∙ τ''));
        })
      where
        far_enough : suc x < d.ranks
        far_enough = omega arith

        reach : Reached t d c rank lo
        reach = reach_lo some

        back : back_at at_rank d c (rank - 1) ≡ back_at t d c (rank - 1)
        back = before_back (queued x) real_x

        w : List ℕ
        w = put_queued at_rank d c rank x lo

        after : List ℕ
        after = push (put_queued at_rank d c rank x lo) d c rank m hi

        unmoved : (y : ℕ) → y < m → y ≢ x → (queued_key w d c y ≡ queued_key at_rank d c y) × (tag_at w d c y ≡ tag_at at_rank d c y)
        unmoved y h other =
            written_other at_rank st.size back x lo far_enough some reach y other (omega arith) (λ i.
            (alone y h (rw (kept_tag (queued x) real_x y) at i)).0 some)

        none : (y : ℕ) → y < m → TagInitial d (tag_at w d c y) → hi < no_key → FollowsNone hi false
        none y h i some-hi = go (ℕ_discrete y x)
          where
            go : Dec (y ≡ x) → FollowsNone hi false
            go (yes e) = one some some-hi ((written_tag at_rank st.size back x lo far_enough some reach).1 (rw e at i))
            go (no other) = none_hi (queued x) real_x y h (rw (unmoved y h other).1 at i) some-hi

        grown : Pushed (queued x) w after
        grown =
            pushed (queued x) w (written_stored at_rank st.size back x lo far_enough some reach (omega arith) st)
            (written_back at_rank st.size back x lo far_enough some reach (rank - 1) ∙ back)
            (written_length at_rank st.size back x lo far_enough some reach ∙ counted (queued x) real_x) none

    -- and there are no more
    moved_outcome : no_key ≤ lo → Extraction t d c rank lo hi (put_queue_length (move_queued at_rank d c (m - 1) x) d c (m - 1))
    unfolding move_queued put_queue_length queued_key tagged_back
    moved_outcome no-lo =
        something (record {
          member = inside x;
          valid = in-queue;
          least = inside_least;
          stored = counted_stored;
          arranged = moved_arranged rank m lo hi (queue_length u d c) (HasIn u) (omega (arith, fewer)) x in-queue no-lo (omega arith) (omega (arith, fewer))
              (λ h. rw fewer (new_key, new_tag)) other;
        })
      where
        stub : ℕ
        stub = beside_at at_rank d c (m - 1 + 1)

        w : List ℕ
        w = move_queued at_rank d c (m - 1) x

        u : List ℕ
        u = put_queue_length (move_queued at_rank d c (m - 1) x) d c (m - 1)

        size : length w ≡ length t
        size = beside_size at_rank d c (x + 1) (beside_at at_rank d c (m - 1 + 1)) ∙ st.size

        w_room : entry_of d c 0 + 4 ≤ length w
        w_room = entry_room w 0 size some_kept

        moved_stored : Stored t d c rank (queued x) w
        moved_stored =
            stored_beside below some_kept st (x + 1) (beside_at at_rank d c (m - 1 + 1)) (omega arith) (omega arith)
            (place_last at_rank d c x (beside_at at_rank d c (m - 1 + 1)) below)

        counted_stored : Stored t d c rank (queued x) u
        counted_stored =
            stored_beside below some_kept moved_stored 0 (beside_at w d c 0 / 512 * 512 + (m - 1)) some_kept (omega arith)
            (length_last w d c (m - 1) below w_room (omega arith))

        fewer : queue_length u d c ≡ m - 1
        fewer = length_same w d c (m - 1) below w_room (omega arith) (omega arith)

        moved_stub : beside_at w d c (x + 1) ≡ beside_at at_rank d c (m - 1 + 1)
        moved_stub = beside_same at_rank d c (x + 1) (beside_at at_rank d c (m - 1 + 1)) (entry_room at_rank (x + 1) st.size (omega arith))

        new_key : queued_key u d c x ≡ queued (m - 1)
        new_key =
            length_queued w d c (m - 1) below w_room (omega arith) x ∙ moved_key ∙ (kept (queued x) real_x (m - 1) (omega arith)).0
          where
            moved_key : queued_key w d c x ≡ queued_key at_rank d c (m - 1)
            moved_key =
                rw (
                  moved_stub,
                  beside_back at_rank d c (x + 1) (beside_at at_rank d c (m - 1 + 1)) c (beside_at at_rank d c (m - 1 + 1) % 1024 / 4),
                  first_kept at_rank d c x (beside_at at_rank d c (m - 1 + 1)) below,
                )

        new_tag : tag_at u d c x ≡ tag_at t d c (m - 1)
        new_tag = length_tag w d c (m - 1) below w_room (omega arith) x ∙ rw moved_stub (kept_tag (queued x) real_x (m - 1))

        other : (y : ℕ) → y < queue_length u d c → y ≢ x → HasIn u y (inside y)
        other y h apart =
            let h' : y < m = omega (arith, fewer) in
            let far-y = far y x apart (omega arith) (omega arith) in
            let (k, τ) = kept (queued x) real_x y h' in (
              length_queued w d c (m - 1) below w_room (omega arith) y ∙ place_key y far-y ∙ k,
              length_tag w d c (m - 1) below w_room (omega arith) y
                  ∙ place_mark y far-y ∙ τ,
            )
          where
            place_key : (y : ℕ) → entry_of d c (y + 1) ≢ entry_of d c (x + 1) → queued_key w d c y ≡ queued_key at_rank d c y
            place_key y = place_queued at_rank d c x (beside_at at_rank d c (m - 1 + 1)) below y

            place_mark : (y : ℕ) → entry_of d c (y + 1) ≢ entry_of d c (x + 1) → tag_at w d c y ≡ tag_at at_rank d c y
            place_mark y = place_tag at_rank d c x (beside_at at_rank d c (m - 1 + 1)) below y

    inside_outcome : Extraction t d c rank lo hi (push (replace at_rank d c rank m x lo) d c rank m hi)
    unfolding replace
    inside_outcome = go (ltb lo no_key) refl
      where
        moved : List ℕ
        moved = put_queue_length (move_queued at_rank d c (m - 1) x) d c (m - 1)

        go : (b : Bool) → ltb lo no_key ≡ b → Extraction t d c rank lo hi (push (pick b (put_queued at_rank d c rank x lo) moved) d c rank m hi)
        go true e = replaced_outcome (ltb-true lo no_key e)
        go false e =
            let no-lo = ltb-false lo no_key e in
            rw (push_none moved (omega arith)) (moved_outcome no-lo)

  pub extract_min_outcome : Extraction t d c rank lo hi (extract_min t d c rank lo hi)
  unfolding extract_min
  extract_min_outcome = by_length (ltb 0 m) refl
    where
      x : ℕ
      x = least_place t d c m

      after_inside : List ℕ
      after_inside = push (replace (put_key t d c rank (queued x)) d c rank m x lo) d c rank m hi

      by_key : (b : Bool) → ltb (queued x) lo ≡ b → 0 < m → Extraction t d c rank lo hi (pick b after_inside after_low)
      by_key true e h =
          let (in-queue, first) = least_place_least t d c m h in
          inside_outcome x in-queue first (ltb-true (queued x) lo e)
      by_key false e h =
          let (in-queue, first) = least_place_least t d c m h in
          low_outcome (λ y l. le_trans (ltb-false (queued x) lo e) (first y l))

      by_length : (b : Bool) → ltb 0 m ≡ b
          → Extraction t d c rank lo hi (pick b (pick (ltb (queued x) lo) after_inside after_low) after_low)
      by_length true e = by_key (ltb (queued x) lo) refl (ltb-true 0 m e)
      by_length false e = low_outcome (λ y h. absurd (omega (arith, ltb-false 0 m e)))
