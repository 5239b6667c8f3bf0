-- The queue of a cell: of the candidates that follow one rank, or none, the least above the last found is in the queue, each in
-- a place of its own; only what follows that which the last found followed is to be looked for.
-- So the least of the pool, that is of the queue, the last found's successors, and what replaces the last found, is the least of
-- all; and with that one found, the others are the queue.
use mathlib.Core.Path.{◌≡◌, refl, sym, ap, ◌∙◌, subst}
use mathlib.Core.Logic.{◌⊎◌, inl, inr, ⊎_elim, ◌≢◌}
use mathlib.Core.List.{List}
use mathlib.Core.Bool.{true}
use Prim.Native.Nat.{ℕ, suc, ◌+◌, ◌/◌, ◌%◌, ◌≤◌, ◌<◌}
use native.Mathlib.Decide.{dec_le, ℕ_discrete}
use native.Mathlib.Omega.{arith}
use Rattle.packing.specs.Meaning.{Grammar, Edge}
use Rattle.derivation.proofs.Rows.{Row}
use Rattle.chart_keys.specs.declared.BackPointer.{BackPointer}
use Rattle.chart_keys.specs.Keys.{back_number, back_pointer, key_unit, no_key}
use Rattle.chart_table.specs.declared.Cell.{Cell}
use Rattle.chart_tags.specs.Tags.{is_initial}
use Rattle.chart_theory.proofs.Table.Keys.{row_back, RowFits, row_key, decoded, key_back, key_injective}
use Rattle.chart_theory.proofs.Table.Cells.{FrontierIn}
use Rattle.chart_theory.proofs.Queue.Owners.{OwnerOf, owner_unique, initial_owner, frontier_more, frontier_less}

-- the pool: the queue, and two more
pub data Member : Type 0 where
  inside : ℕ → Member
  low : Member
  high : Member

abbrev pub Valid : (m lo hi : ℕ) → Member → Type 0
Valid m lo hi (inside y) = y < m
Valid m lo hi low = lo < no_key
Valid m lo hi high = hi < no_key

abbrev pub key_in : (lo hi : ℕ) → (ℕ → ℕ) → Member → ℕ
key_in lo hi key (inside y) = key y
key_in lo hi key low = lo
key_in lo hi key high = hi

-- after one of the pool was found, each of the others has a place of its own in the queue; Has says which has which
pub record Arranged (n m lo hi m' : ℕ) (Has : ℕ → Member → Type 0) (found : Member) : Type 0 where
  pub few : m' ≤ n
  pub source : ℕ → Member
  pub from : (y : ℕ) → y < m' → Valid m lo hi (source y) × (source y ≢ found) × Has y (source y)
  pub unique : (y z : ℕ) → y < m' → z < m' → source y ≡ source z → y ≡ z
  pub each : (p : Member) → Valid m lo hi p → p ≢ found → (y : ℕ) × (y < m') × (source y ≡ p)

-- the tag of a key that is met with rank n: its rank is n at most, and only what follows none has no rank
abbrev pub NewTag : (N n key tag : ℕ) → Type 0
NewTag N n key tag = (tag / 4 + 1 < N → tag / 4 < suc n) × (N ≤ tag / 4 + 1 → is_initial (back_pointer (key % key_unit % 4294967296)) ≡ true)

abbrev pub TagIn : (N n lo hi : ℕ) → (ℕ → ℕ) → Member → ℕ → Type 0
TagIn N n lo hi tag (inside y) τ = τ ≡ tag y
TagIn N n lo hi tag low τ = NewTag N n lo τ
TagIn N n lo hi tag high τ = NewTag N n hi τ

-- a place of the new queue has the key and the tag of a member
abbrev pub Has : (N n lo hi : ℕ) (key tag key' tag' : ℕ → ℕ) → ℕ → Member → Type 0
Has N n lo hi key tag key' tag' y p = (key' y ≡ key_in lo hi key p) × TagIn N n lo hi tag p (tag' y)

-- of a cell of which N ranks are kept; P says what else holds of the rows of its queue
module _ (g : Grammar) (es : List Edge) (N : ℕ) (c : Cell) (P : Row → Type 0) where
  -- the key is that of a candidate v above the row l, which follows o, one of the first ranks
  pub record Queued (n : ℕ) (l : Row) (b key : ℕ) (v : Row) (o : ℕ) : Type 0 where
    pub keyed : key ≡ row_key v
    pub fits : RowFits v
    pub on : FrontierIn g es c N n v
    pub owns : OwnerOf g es c v o
    pub below : o < b
    pub above : row_key l < row_key v
    pub more : P v

  -- a queue of m candidates where n ranks are found, of which l is the last, and `last` what that followed
  pub record Queue (n : ℕ) (l : Row) (m : ℕ) (key tag : ℕ → ℕ) : Type 0 where
    pub row_in : ℕ → Row
    pub owner_in : ℕ → ℕ
    pub last : ℕ
    pub few : m < n
    pub last_owned : OwnerOf g es c l last
    pub last_below : last < n
    pub place : (y : ℕ) → y < m → Queued n l n (key y) (row_in y) (owner_in y)
    pub unique : (y z : ℕ) → y < m → z < m → owner_in y ≡ owner_in z → y ≡ z
    pub gone : (y : ℕ) → y < m → owner_in y ≡ last → ⊥
    pub complete : (v : Row) (o : ℕ) → FrontierIn g es c N n v → OwnerOf g es c v o → o < n → row_key l < row_key v
        → (o ≡ last) ⊎ ((y : ℕ) × (y < m) × (owner_in y ≡ o) × (row_key (row_in y) ≤ row_key v))
    pub tag_below : (y : ℕ) → y < m → tag y / 4 + 1 < N → tag y / 4 < n
    pub tag_initial : (y : ℕ) → y < m → N ≤ tag y / 4 + 1 → owner_in y ≡ 0

  -- the least candidate above l that follows o, or none
  pub record Fresh (n : ℕ) (l : Row) (o key : ℕ) : Type 0 where
    pub candidate : Row
    pub some : key < no_key → Queued n l (suc n) key candidate o
    pub least : (v : Row) → FrontierIn g es c N n v → OwnerOf g es c v o → row_key l < row_key v → key ≤ row_key v

  -- the queue and two more: one follows the last found, one what that followed
  pub record Pool (n : ℕ) (l : Row) (m lo hi : ℕ) (key tag : ℕ → ℕ) : Type 0 where
    pub queue : Queue n l m key tag
    pub owner_lo : ℕ
    pub owner_hi : ℕ
    pub fresh_lo : Fresh n l owner_lo lo
    pub fresh_hi : Fresh n l owner_hi hi
    pub both : ((owner_lo ≡ n) × (owner_hi ≡ queue.last)) ⊎ ((owner_lo ≡ queue.last) × (owner_hi ≡ n))

  -- nothing is in the queue where the first rank was found, which follows none
  pub queue_first : {l : Row} {key tag : ℕ → ℕ} → OwnerOf g es c l 0 → Queue 1 l 0 key tag
  queue_first {l = l} owns = record {
    row_in = λ y. l;
    owner_in = λ y. 0;
    last = 0;
    few = omega arith;
    last_owned = owns;
    last_below = omega arith;
    place = λ y h. absurd (omega arith);
    unique = λ y z h. absurd (omega arith);
    gone = λ y h. absurd (omega arith);
    complete = λ v o on owns less above. inl (omega arith);
    tag_below = λ y h. absurd (omega arith);
    tag_initial = λ y h. absurd (omega arith);
  }

module _ {g : Grammar} {es : List Edge} {N : ℕ} {c : Cell} {P P' : Row → Type 0} (grows : (v : Row) → P v → P' v) {n : ℕ} where
  -- the queue stays as more is found elsewhere
  pub queue_kept : {m m' : ℕ} {l : Row} {key key' tag tag' : ℕ → ℕ} → m' ≡ m → ((y : ℕ) → y < m → (key' y ≡ key y) × (tag' y ≡ tag y))
      → Queue g es N c P n l m key tag → Queue g es N c P' n l m' key' tag'
  queue_kept {tag = tag} {tag' = tag'} e same queue = record {
    row_in = queue.row_in;
    owner_in = queue.owner_in;
    last = queue.last;
    few = omega (arith, queue.few);
    last_owned = queue.last_owned;
    last_below = queue.last_below;
    place = λ y h.
        let b = rw e at h in
        let w = queue.place y b in
        record {
          keyed = (same y b).0 ∙ w.keyed;
          fits = w.fits;
          on = w.on;
          owns = w.owns;
          below = w.below;
          above = w.above;
          more = grows (queue.row_in y) w.more;
        };
    unique = λ y z h h'. queue.unique y z (rw e at h) (rw e at h');
    gone = λ y h. queue.gone y (rw e at h);
    complete = λ v o on owns less above. ⊎_elim inl
        (λ w.
        let (y, b, owner, le) = w in
        inr (y, rw e b, owner, le))
        (queue.complete v o on owns less above);
    tag_below = λ y h l.
        let b = rw e at h in
        let t = (same y b).1 in
        rw t (queue.tag_below y b (rw t at l));
    tag_initial = λ y h l.
        let b = rw e at h in
        let t = (same y b).1 in
        queue.tag_initial y b (rw t at l);
  }

module _ {g : Grammar} {es : List Edge} {N : ℕ} {c : Cell} {P : Row → Type 0} {n m lo hi : ℕ} {l : Row} {key tag : ℕ → ℕ}
    (pool : Pool g es N c P n l m lo hi key tag) where
  abbrev queue : Queue g es N c P n l m key tag
  queue = pool.queue

  abbrev pub row_of : Member → Row
  row_of (inside y) = queue.row_in y
  row_of low = pool.fresh_lo.candidate
  row_of high = pool.fresh_hi.candidate

  abbrev pub owner_of : Member → ℕ
  owner_of (inside y) = queue.owner_in y
  owner_of low = pool.owner_lo
  owner_of high = pool.owner_hi

  abbrev In : Member → Type 0
  In = Valid m lo hi

  abbrev key_of : Member → ℕ
  key_of = key_in lo hi key

  pub pool_queued : (p : Member) → In p → Queued g es N c P n l (suc n) (key_of p) (row_of p) (owner_of p)
  pool_queued (inside y) h =
      let w = queue.place y h in
      record {
        keyed = w.keyed;
        fits = w.fits;
        on = w.on;
        owns = w.owns;
        below = omega (arith, w.below);
        above = w.above;
        more = w.more;
      }
  pool_queued low h = pool.fresh_lo.some h
  pool_queued high h = pool.fresh_hi.some h

  not_both : pool.owner_lo ≡ pool.owner_hi → ⊥
  not_both e =
      ⊎_elim (λ b. omega (arith, queue.last_below, b.0, b.1)) (λ b. omega (arith, queue.last_below, b.0, b.1)) pool.both

  not_inside : (y : ℕ) → y < m → (queue.owner_in y ≡ pool.owner_lo → ⊥) × (queue.owner_in y ≡ pool.owner_hi → ⊥)
  not_inside y h =
      ⊎_elim (λ b. ((λ e. omega (arith, (queue.place y h).below, b.0)), (λ e. queue.gone y h (e ∙ b.1))))
      (λ b. ((λ e. queue.gone y h (e ∙ b.0)), (λ e. omega (arith, (queue.place y h).below, b.1)))) pool.both

  pool_unique : (p q : Member) → In p → In q → owner_of p ≡ owner_of q → p ≡ q
  pool_unique (inside y) (inside z) h h' e = ap inside (queue.unique y z h h' e)
  pool_unique (inside y) low h h' e = absurd ((not_inside y h).0 e)
  pool_unique (inside y) high h h' e = absurd ((not_inside y h).1 e)
  pool_unique low (inside y) h h' e = absurd ((not_inside y h').0 (sym e))
  pool_unique low low h h' e = refl
  pool_unique low high h h' e = absurd (not_both e)
  pool_unique high (inside y) h h' e = absurd ((not_inside y h').1 (sym e))
  pool_unique high low h h' e = absurd (not_both (sym e))
  pool_unique high high h h' e = refl

  -- what a member's tag says
  tag_below_of : (p : Member) (τ : ℕ) → In p → TagIn N n lo hi tag p τ → τ / 4 + 1 < N → τ / 4 < suc n
  tag_below_of (inside y) τ h e l = rw e (let b = queue.tag_below y h (rw e at l) in omega arith)
  tag_below_of low τ h e l = e.0 l
  tag_below_of high τ h e l = e.0 l

  pub fresh_initial : (k : ℕ) (v : Row) (o : ℕ) → Queued g es N c P n l (suc n) k v o → is_initial (back_pointer (k % key_unit % 4294967296)) ≡ true
      → o ≡ 0
  fresh_initial k v o q e =
      let number : is_initial (back_pointer (back_number (row_back v))) ≡ true = rw (q.keyed, key_back v q.fits) at e in
      initial_owner g es c v (subst (λ (b : BackPointer). is_initial b ≡ true) (decoded (row_back v) q.fits.has_key) number) q.owns

  tag_initial_of : (p : Member) (τ : ℕ) → In p → TagIn N n lo hi tag p τ → N ≤ τ / 4 + 1 → owner_of p ≡ 0
  tag_initial_of (inside y) τ h e l = queue.tag_initial y h (rw e at l)
  tag_initial_of low τ h e l = fresh_initial lo (row_of low) (owner_of low) (pool_queued low h) (e.1 l)
  tag_initial_of high τ h e l = fresh_initial hi (row_of high) (owner_of high) (pool_queued high h) (e.1 l)

  -- at or below a candidate that follows o there is one in the pool that follows o
  abbrev Covered : Row → ℕ → Type 0
  Covered v o = (p : Member) × In p × (owner_of p ≡ o) × (key_of p ≤ row_key v)

  -- every candidate above l that follows one of the ranks found has one at or below it in the pool
  pub pool_complete : (v : Row) (o : ℕ) → row_key v < no_key → FrontierIn g es c N n v → OwnerOf g es c v o → o < suc n
      → row_key l < row_key v → Covered v o
  pool_complete v o some on owns h above = go pool.both (dec_le n o)
    where
      by_low : pool.owner_lo ≡ o → Covered v o
      by_low e = let b = pool.fresh_lo.least v on (rw e owns) above in (low, omega arith, e, b)

      by_high : pool.owner_hi ≡ o → Covered v o
      by_high e = let b = pool.fresh_hi.least v on (rw e owns) above in (high, omega arith, e, b)

      by_queue : o < n → (o ≡ queue.last → Covered v o) → Covered v o
      by_queue less otherwise =
          ⊎_elim otherwise
          (λ w.
          let (y, b, e, le) = w in
          (inside y, b, e, omega (arith, (queue.place y b).keyed)))
          (queue.complete v o on owns less above)

      go : ((pool.owner_lo ≡ n) × (pool.owner_hi ≡ queue.last)) ⊎ ((pool.owner_lo ≡ queue.last) × (pool.owner_hi ≡ n))
          → Dec (n ≤ o) → Covered v o
      go (inl b) (yes le) = by_low (omega (arith, b.0))
      go (inr b) (yes le) = by_high (omega (arith, b.1))
      go (inl b) (no less) = by_queue (omega arith) (λ e. by_high (b.1 ∙ sym e))
      go (inr b) (no less) = by_queue (omega arith) (λ e. by_low (b.0 ∙ sym e))

  -- the least of the pool is found, and the others are the queue
  module _ {P' : Row → Type 0} (grows : (v : Row) → P v → P' v) (some : (v : Row) → FrontierIn g es c N (suc n) v → row_key v < no_key)
      (ch : Member) (valid : In ch) (least : (p : Member) → In p → key_of ch ≤ key_of p) where
    strictly : (p : Member) → In p → p ≢ ch → row_key (row_of ch) < row_key (row_of p)
    strictly p h other = go (dec_le (row_key (row_of p)) (row_key (row_of ch)))
      where
        go : Dec (row_key (row_of p) ≤ row_key (row_of ch)) → row_key (row_of ch) < row_key (row_of p)
        go (no less) = omega arith
        go (yes le) =
            let b = least p h in
            let w = pool_queued p h in
            let w' = pool_queued ch valid in
            let same : row_of p ≡ row_of ch =
            key_injective (row_of p) (row_of ch) w.fits w'.fits (omega (arith, w.keyed, w'.keyed)) in
            absurd (other (pool_unique p ch h valid (owner_unique g es c (row_of ch) (rw same at w.owns) w'.owns)))

    module _ {m' : ℕ} {key' tag' : ℕ → ℕ} (arranged : Arranged n m lo hi m' (Has N n lo hi key tag key' tag') ch) where
      abbrev source : ℕ → Member
      source = arranged.source

      pub requeued : Queue g es N c P' (suc n) (row_of ch) m' key' tag'
      requeued = record {
        row_in = λ y. row_of (source y);
        owner_in = λ y. owner_of (source y);
        last = owner_of ch;
        few = omega (arith, arranged.few);
        last_owned = (pool_queued ch valid).owns;
        last_below = (pool_queued ch valid).below;
        place = λ y h.
            let (v, other, has) = arranged.from y h in
            let w = pool_queued (source y) v in
            record {
              keyed = has.0 ∙ w.keyed;
              fits = w.fits;
              on = frontier_more g es c N n (suc n) (omega arith) w.on;
              owns = w.owns;
              below = w.below;
              above = strictly (source y) v other;
              more = grows (row_of (source y)) w.more;
            };
        unique = λ y z h h' e. arranged.unique y z h h'
            (pool_unique (source y) (source z) (arranged.from y h).0 (arranged.from z h').0 e);
        gone = λ y h e. (arranged.from y h).1 (pool_unique (source y) ch (arranged.from y h).0 valid e);
        complete = λ v o on owns less above. held v o on owns less above (ℕ_discrete o (owner_of ch));
        tag_below = λ y h. let from = arranged.from y h in tag_below_of (source y) (tag' y) from.0 from.2.1;
        tag_initial = λ y h. let from = arranged.from y h in tag_initial_of (source y) (tag' y) from.0 from.2.1;
      }
        where
          held : (v : Row) (o : ℕ) → FrontierIn g es c N (suc n) v → OwnerOf g es c v o → o < suc n → row_key (row_of ch) < row_key v
              → Dec (o ≡ owner_of ch)
              → (o ≡ owner_of ch) ⊎ ((y : ℕ) × (y < m') × (owner_of (source y) ≡ o) × (row_key (row_of (source y)) ≤ row_key v))
          held v o on owns less above (yes e) = inl e
          held v o on owns less above (no other) =
              let (p, h, e, le) = pool_complete v o (some v on) (frontier_less g es c N (suc n) n owns (omega arith) on) owns less
              (omega (arith, (pool_queued ch valid).above)) in
              let (y, b, s) = arranged.each p h (λ same. other (sym e ∙ ap owner_of same)) in
              inr (y, b, rw s e, rw s (omega (arith, (pool_queued p h).keyed)))
