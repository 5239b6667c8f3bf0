-- The queue's keys stay where what they are read from stays: a key is read from what stands beside its own rank, and from the back
-- pointer of the rank of its tag, or, of a candidate that follows none, from what stands beside the first rank.
use mathlib.Core.Path.{◌≡◌, refl, sym}
use mathlib.Core.Logic.{◌≢◌}
use mathlib.Core.Bool.{Bool, true, false}
use mathlib.Core.List.{List}
use Prim.Native.Nat.{ℕ, suc, ◌+◌, ◌*◌, ◌/◌, ◌%◌, ◌≤◌, ◌<◌}
use native.Mathlib.Decide.{dec_lt, ℕ_discrete}
use native.Mathlib.Omega.{arith}
use lib.ListN.{length}
use lib.Dec.{eqb}
use borrow.Author.Tests.{lt-ltb, le-ltb, eq-eqb, ne_eqb}
use Rattle.bits.specs.Bits.{pick}
use Rattle.chart_keys.specs.Keys.{back_pointer, no_key}
use Rattle.chart_table.specs.declared.Layout.{Layout}
use Rattle.chart_table.specs.Table.{entry_of, back_at, beside_at, put_beside, last_rank, put_key}
use Rattle.chart_tags.specs.Tags.{is_initial, code_of, shifted}
use Rattle.chart_queue.specs.Queue.{tagged_back, queued_key, queue_length, keep_initial, put_queue_length}
use Rattle.chart_theory.proofs.Table.Entries.{entry_injective, entry_behind}
use Rattle.chart_theory.proofs.Table.Numbers.{beside_back, beside_other, beside_same, put_back_other, put_beside_lem, put_kept}

-- the tag at a place, and that its rank, where it has one, is below n
abbrev pub tag_at : List ℕ → Layout → ℕ → ℕ → ℕ
tag_at t d c y = beside_at t d c (y + 1) % 1024

abbrev pub TagBelow : Layout → ℕ → ℕ → Type 0
TagBelow d tag n = tag / 4 + 1 < d.ranks → tag / 4 < n

-- a tag of a candidate that follows none
abbrev pub TagInitial : Layout → ℕ → Type 0
TagInitial d tag = d.ranks ≤ tag / 4 + 1

module _ (t u : List ℕ) (d : Layout) (c : ℕ) where
  tagged_kept : (tag : ℕ) → (tag / 4 + 1 < d.ranks → back_at u d c (tag / 4) ≡ back_at t d c (tag / 4))
      → (TagInitial d tag → beside_at u d c 0 / 262144 ≡ beside_at t d c 0 / 262144) → tagged_back u d c tag ≡ tagged_back t d c tag
  unfolding tagged_back
  tagged_kept tag backs initial = go (dec_lt (tag / 4 + 1) d.ranks)
    where
      go : Dec (tag / 4 + 1 < d.ranks) → tagged_back u d c tag ≡ tagged_back t d c tag
      go (yes l) = rw (lt-ltb (tag / 4 + 1) d.ranks l, backs l)
      go (no l) = let h : TagInitial d tag = omega arith in rw (le-ltb (tag / 4 + 1) d.ranks h, initial h)

  pub queued_kept : (y : ℕ) → beside_at u d c (y + 1) ≡ beside_at t d c (y + 1)
      → (tag_at t d c y / 4 + 1 < d.ranks → back_at u d c (tag_at t d c y / 4) ≡ back_at t d c (tag_at t d c y / 4))
      → (TagInitial d (tag_at t d c y) → beside_at u d c 0 / 262144 ≡ beside_at t d c 0 / 262144)
      → queued_key u d c y ≡ queued_key t d c y
  unfolding queued_key
  queued_kept y e backs initial = rw (e, tagged_kept (tag_at t d c y) backs initial)

-- the store of a key
module _ (t : List ℕ) (d : Layout) (c x key : ℕ) (some : key < no_key) (below : c < d.cells) (kept : x < d.ranks)
    (room : entry_of d c 0 + 4 ≤ length t) (few : x < 512) where
  pub put_queued_other : (c' y : ℕ) → c' < d.cells → c' ≢ c → queued_key (put_key t d c x key) d c' y ≡ queued_key t d c' y
  put_queued_other c' y below' other =
      queued_kept t (put_key t d c x key) d c' y (put_beside_lem t d c x key some below c' y)
      (λ l. put_back_other t d c x key some c' (tag_at t d c' y / 4) (λ e.
      other (entry_injective d c' (tag_at t d c' y / 4) c x below' below (omega arith) kept e).0))
      (λ _. (put_kept t d c x key some room few c').1)

  pub put_queued_own : (y : ℕ) → TagBelow d (tag_at t d c y) x → queued_key (put_key t d c x key) d c y ≡ queued_key t d c y
  put_queued_own y tag =
      queued_kept t (put_key t d c x key) d c y (put_beside_lem t d c x key some below c y)
      (λ l. put_back_other t d c x key some c (tag_at t d c y / 4) (λ e.
      let same = (entry_injective d c (tag_at t d c y / 4) c x below below (omega arith) kept e).1 in
      absurd (omega (arith, tag l))))
      (λ _. (put_kept t d c x key some room few c).1)

  -- where the back pointer is written again
  pub put_queued_again : back_at (put_key t d c x key) d c x ≡ back_at t d c x → (y : ℕ)
      → (queued_key (put_key t d c x key) d c y ≡ queued_key t d c y) × (tag_at (put_key t d c x key) d c y ≡ tag_at t d c y)
  put_queued_again same y = (
    queued_kept t (put_key t d c x key) d c y (put_beside_lem t d c x key some below c y) (λ l. go l (ℕ_discrete (tag_at t d c y / 4) x))
        (λ _. (put_kept t d c x key some room few c).1),
    rw (put_beside_lem t d c x key some below c y),
  )
    where
      go : tag_at t d c y / 4 + 1 < d.ranks → Dec (tag_at t d c y / 4 ≡ x)
          → back_at (put_key t d c x key) d c (tag_at t d c y / 4) ≡ back_at t d c (tag_at t d c y / 4)
      go l (yes e) = rw e same
      go l (no other) =
          put_back_other t d c x key some c (tag_at t d c y / 4) (λ e.
          other (entry_injective d c (tag_at t d c y / 4) c x below below (omega arith) kept e).1)

  pub put_queue_length_lem : (c' : ℕ) → queue_length (put_key t d c x key) d c' ≡ queue_length t d c'
  unfolding queue_length
  put_queue_length_lem c' = rw (put_kept t d c x key some room few c').0

-- what is written beside a rank
module _ (t : List ℕ) (d : Layout) (c x n : ℕ) where
  abbrev u : List ℕ
  u = put_beside t d c x n

  -- the queue of a cell none of whose entries it is
  module _ (c' : ℕ) (apart : (x' : ℕ) → x' < d.ranks → entry_of d c' x' ≢ entry_of d c x) (kept : 0 < d.ranks) where
    pub apart_queued : (y : ℕ) → suc y < d.ranks → queued_key u d c' y ≡ queued_key t d c' y
    apart_queued y l =
        queued_kept t u d c' y (beside_other t d c x n c' (y + 1) (apart (y + 1) (omega arith)))
        (λ _. beside_back t d c x n c' (tag_at t d c' y / 4)) (λ _. rw (beside_other t d c x n c' 0 (apart 0 kept)))

    pub apart_tag : (y : ℕ) → suc y < d.ranks → tag_at u d c' y ≡ tag_at t d c' y
    apart_tag y l = rw (beside_other t d c x n c' (y + 1) (apart (y + 1) (omega arith)))

    pub apart_length : queue_length u d c' ≡ queue_length t d c'
    unfolding queue_length
    apart_length = rw (beside_other t d c x n c' 0 (apart 0 kept))

    pub apart_last : last_rank u d c' ≡ last_rank t d c'
    unfolding last_rank
    apart_last = rw (beside_other t d c x n c' 0 (apart 0 kept))

-- beside a further rank: the other places of the queue, its length, and the last rank found stay
module _ (t : List ℕ) (d : Layout) (c y n : ℕ) (below : c < d.cells) where
  abbrev w : List ℕ
  w = put_beside t d c (y + 1) n

  pub first_kept : beside_at w d c 0 ≡ beside_at t d c 0
  first_kept = beside_other t d c (y + 1) n c 0 (λ e. entry_behind d c c y below (sym e))

  pub place_queued : (z : ℕ) → entry_of d c (z + 1) ≢ entry_of d c (y + 1) → queued_key w d c z ≡ queued_key t d c z
  place_queued z other =
      queued_kept t w d c z (beside_other t d c (y + 1) n c (z + 1) other) (λ _. beside_back t d c (y + 1) n c (tag_at t d c z / 4))
      (λ _. rw first_kept)

  pub place_tag : (z : ℕ) → entry_of d c (z + 1) ≢ entry_of d c (y + 1) → tag_at w d c z ≡ tag_at t d c z
  place_tag z other = rw (beside_other t d c (y + 1) n c (z + 1) other)

  pub place_length : queue_length w d c ≡ queue_length t d c
  unfolding queue_length
  place_length = rw first_kept

  pub place_last : last_rank w d c ≡ last_rank t d c
  unfolding last_rank
  place_last = rw first_kept

-- beside the first rank: the keys stay where the back pointer of the candidate that follows none does
module _ (t : List ℕ) (d : Layout) (c n : ℕ) (below : c < d.cells) (room : entry_of d c 0 + 4 ≤ length t) where
  abbrev v : List ℕ
  v = put_beside t d c 0 n

  pub tally_queued : (z : ℕ) → (TagInitial d (tag_at t d c z) → n / 262144 ≡ beside_at t d c 0 / 262144)
      → queued_key v d c z ≡ queued_key t d c z
  tally_queued z same =
      queued_kept t v d c z (beside_other t d c 0 n c (z + 1) (entry_behind d c c z below)) (λ _. beside_back t d c 0 n c (tag_at t d c z / 4))
      (λ h. rw (beside_same t d c 0 n room) (same h))

  pub tally_tag : (z : ℕ) → tag_at v d c z ≡ tag_at t d c z
  tally_tag z = rw (beside_other t d c 0 n c (z + 1) (entry_behind d c c z below))

-- the length written beside the first rank
module _ (t : List ℕ) (d : Layout) (c m : ℕ) (below : c < d.cells) (room : entry_of d c 0 + 4 ≤ length t) (few : m < 512) where
  length_digit : (n : ℕ) → (n / 512 * 512 + m) % 512 ≡ m
  length_digit n = omega arith

  length_above : (n : ℕ) → (n / 512 * 512 + m) / 512 ≡ n / 512
  length_above n = omega arith

  length_back : (n : ℕ) → (n / 512 * 512 + m) / 262144 ≡ n / 262144
  length_back n = omega arith

  pub length_same : m < d.ranks → queue_length (put_queue_length t d c m) d c ≡ m
  unfolding put_queue_length queue_length
  length_same h = rw (beside_same t d c 0 (beside_at t d c 0 / 512 * 512 + m) room, length_digit (beside_at t d c 0), lt-ltb m d.ranks h)

  pub length_last : last_rank (put_queue_length t d c m) d c ≡ last_rank t d c
  unfolding put_queue_length last_rank
  length_last = rw (beside_same t d c 0 (beside_at t d c 0 / 512 * 512 + m) room, length_above (beside_at t d c 0))

  pub length_queued : (z : ℕ) → queued_key (put_queue_length t d c m) d c z ≡ queued_key t d c z
  unfolding put_queue_length
  length_queued z = tally_queued t d c (beside_at t d c 0 / 512 * 512 + m) below room z (λ _. length_back (beside_at t d c 0))

  pub length_tag : (z : ℕ) → tag_at (put_queue_length t d c m) d c z ≡ tag_at t d c z
  unfolding put_queue_length
  length_tag z = tally_tag t d c (beside_at t d c 0 / 512 * 512 + m) below room z

-- the back pointer of a candidate that follows none, kept beside the first rank
module _ (t : List ℕ) (d : Layout) (c back : ℕ) where
  abbrev kept : List ℕ
  kept = put_beside t d c 0 (back * 262144 + beside_at t d c 0 % 262144)

  pub initial_none : is_initial (back_pointer back) ≡ false → keep_initial t d c back ≡ t
  unfolding keep_initial
  initial_none e = rw e

  pub initial_kept : is_initial (back_pointer back) ≡ true → keep_initial t d c back ≡ kept
  unfolding keep_initial
  initial_kept e = rw e

  module _ (room : entry_of d c 0 + 4 ≤ length t) where
    pub kept_back : beside_at kept d c 0 / 262144 ≡ back
    kept_back = rw (beside_same t d c 0 (back * 262144 + beside_at t d c 0 % 262144) room) (omega arith)

    kept_digits : (n : ℕ) → ((back * 262144 + n % 262144) % 512 ≡ n % 512) × ((back * 262144 + n % 262144) / 512 % 512 ≡ n / 512 % 512)
    kept_digits n = (omega arith, omega arith)

    pub kept_length : queue_length kept d c ≡ queue_length t d c
    unfolding queue_length
    kept_length = rw (beside_same t d c 0 (back * 262144 + beside_at t d c 0 % 262144) room, (kept_digits (beside_at t d c 0)).0)

    pub kept_last : last_rank kept d c ≡ last_rank t d c
    unfolding last_rank
    kept_last = rw (beside_same t d c 0 (back * 262144 + beside_at t d c 0 % 262144) room, (kept_digits (beside_at t d c 0)).1)

-- a back pointer that comes from another in one of the four ways is found again by its code
pub data Shift (last : ℕ) : ℕ → Type 0 where
  next_right : Shift last (last + 1)
  next_left : Shift last (last + 256)
  to_left : Shift last (last + 255)
  to_right : (b : ℕ) → b + 255 ≡ last → Shift last b

pub code_shifted : {last b : ℕ} → Shift last b → shifted last (code_of last b) ≡ b
unfolding shifted code_of
code_shifted {last} next_right = rw (eq-eqb (last + 1) (last + 1) refl)
code_shifted {last} next_left = rw (ne_eqb (last + 256) (last + 1) (λ e. omega arith), eq-eqb (last + 256) (last + 256) refl)
code_shifted {last} to_left =
    rw (
      ne_eqb (last + 255) (last + 1) (λ e. omega arith),
      ne_eqb (last + 255) (last + 256) (λ e. omega arith),
      eq-eqb (last + 255) (last + 255) refl,
    )
code_shifted {last} (to_right b h) =
    rw (
      ne_eqb b (last + 1) (λ e. omega arith),
      ne_eqb b (last + 256) (λ e. omega arith),
      ne_eqb b (last + 255) (λ e. omega arith),
    ) (omega arith)

-- its code is below 4
pub code_below : (last b : ℕ) → code_of last b < 4
unfolding code_of
code_below last b = go (eqb b (last + 1)) (eqb b (last + 256)) (eqb b (last + 255))
  where
    go : (x y z : Bool) → pick x 0 (pick y 1 (pick z 2 3)) < 4
    go true y z = omega arith
    go false true z = omega arith
    go false false true = omega arith
    go false false false = omega arith
