-- The next row of a cell written at its rank keeps the invariant: it changes no other entry's price and back pointer, and no
-- other cell's queue. So an entry is the written one, whose row is known, or holds what it held; and what was found stays found.
use mathlib.Core.Path.{◌≡◌, refl, sym, ◌∙◌}
use mathlib.Core.Logic.{◌⊎◌, inl, inr, ⊎_elim, ◌≢◌}
use mathlib.Core.List.{List}
use Prim.Native.Nat.{ℕ, zero, suc, ◌+◌, ◌≤◌, ◌<◌}
use native.Mathlib.Nat.{eq-or-lt_of_le, le_trans}
use native.Mathlib.Decide.{ℕ_discrete, dec_lt}
use native.Mathlib.Omega.{arith}
use lib.ListN.{length, get_or}
use Rattle.packing.specs.Meaning.{Grammar, Edge}
use Rattle.derivation.proofs.Rows.{Row}
use Rattle.chart_keys.specs.Keys.{no_key}
use Rattle.chart_table.specs.declared.Cell.{Cell}
use Rattle.chart_table.specs.declared.Layout.{Layout}
use Rattle.chart_table.specs.Table.{cell_number, entry_of, price_at, back_at, last_rank}
use Rattle.chart_queue.specs.Queue.{queue_length}
use Rattle.chart_theory.proofs.Table.Keys.{row_number, RowFits, row_key, key_price, key_back}
use Rattle.chart_theory.proofs.Table.Cells.{InChart, span, RowAtIn, FrontierIn}
use Rattle.chart_theory.proofs.Table.Entries.{cell_below, cell_injective, entry_injective, entry_within, InEntry, past_ranks, same_entry, found_kept}
use Rattle.chart_theory.proofs.Table.Numbers.{put_price, put_back_lem, put_price_other, put_back_other}
use Rattle.chart_theory.proofs.Queue.Pool.{queue_kept}
use Rattle.chart_theory.proofs.Queue.Stored.{Stored}
use Rattle.chart_theory.proofs.Invariant.{
  Setting,
  price_in,
  Found,
  Known,
  PartsFound,
  SuccessorsKnown,
  HoldsRow,
  QueueIn,
  Invariant,
  Grows,
  known_grows,
  parts_grow,
  successors_grow,
  Grown,
}
use Rattle.chart_theory.proofs.Candidates.Frontier.{Ready, frontier_fits, frontier_some}

module _ {g : Grammar} {es : List Edge} {rules edges index : List ℕ} {d : Layout} (s : Setting g es rules edges index d) where
  -- u has grown from t and knows rank n of a cell; over longer spans nothing new is found
  pub record Done (m : ℕ) (t u : List ℕ) (c : Cell) (n : ℕ) : Type 0 where
    pub grown : Grown g es d m t u
    pub here : Known g es d u c n
    pub longer_unchanged : {b : Cell} (x : ℕ) → InChart d b → span c < span b → price_in d u b x ≡ price_in d t b x

  -- the next row of a cell, and the table that it was written into
  pub record Written (m : ℕ) (t : List ℕ) (c : Cell) (n : ℕ) (v : Row) (u : List ℕ) : Type 0 where
    pub ready : Ready s m t c n
    pub place : RowAtIn g es c n v
    pub on : FrontierIn g es c d.ranks n v
    pub parts : PartsFound g es d t c v
    pub stored : Stored t d (cell_number d c) n (row_key v) u

module _ {g : Grammar} {es : List Edge} {rules edges index : List ℕ} {d : Layout} {s : Setting g es rules edges index d} {m : ℕ}
    {t : List ℕ} {c : Cell} {n : ℕ} {v : Row} {u : List ℕ} (new : Written s m t c n v u) where
  abbrev number : ℕ
  number = cell_number d c

  abbrev ready : Ready s m t c n
  ready = new.ready

  abbrev before : Invariant g es d m t
  before = new.ready.invariant

  abbrev stored : Stored t d (cell_number d c) n (row_key v) u
  stored = new.stored

  fits : RowFits v
  fits = frontier_fits s ready new.on

  some : row_key v < no_key
  some = frontier_some s ready new.on

  inside : {b : Cell} → InChart d b → cell_number d b < d.cells
  inside = cell_below s.planned

  room : entry_of d number n + 4 ≤ length t
  room = omega (arith, entry_within d number n (inside ready.in_chart) ready.kept, before.room)

  new_price : price_in d u c n ≡ row_number v + 1
  new_price = stored.prices number n ∙ put_price t d number n (row_key v) some room ready.kept ∙ key_price v fits

  pub new_found : Found d u c n
  new_found = omega (arith, new_price)

  -- an entry is the written one, or as it was
  abbrev Same : Cell → ℕ → Type 0
  Same b x = (price_in d u b x ≡ price_in d t b x) × (back_at u d (cell_number d b) x ≡ back_at t d (cell_number d b) x)

  pub look : {b : Cell} (x : ℕ) → InChart d b → x < d.ranks → ((b ≡ c) × (x ≡ n)) ⊎ Same b x
  look {b} x in_chart l = go (ℕ_discrete (entry_of d (cell_number d b) x) (entry_of d number n))
    where
      go : Dec (entry_of d (cell_number d b) x ≡ entry_of d number n) → ((b ≡ c) × (x ≡ n)) ⊎ Same b x
      go (yes e) =
          let (same, rank) = entry_injective d (cell_number d b) x number n (inside in_chart) (inside ready.in_chart) l ready.kept e in
          inl (cell_injective in_chart ready.in_chart same, rank)
      go (no e) =
          inr (
            stored.prices (cell_number d b) x ∙ put_price_other t d number n (row_key v) some (cell_number d b) x e,
            stored.backs (cell_number d b) x ∙ put_back_other t d number n (row_key v) some (cell_number d b) x e,
          )

  pub grows : Grows d t u
  grows = record { keeps = λ b x h. go b x h (ℕ_discrete (entry_of d b x) (entry_of d number n)) }
    where
      go : (b x : ℕ) → 0 < price_at t d b x → Dec (entry_of d b x ≡ entry_of d number n) → 0 < price_at u d b x
      go b x h (yes e) = rw (same_entry u d b x number n (found_kept t d b x h) ready.kept e) new_found
      go b x h (no e) = rw (stored.prices b x, put_price_other t d number n (row_key v) some b x e) h

  longer_unchanged : {b : Cell} (x : ℕ) → InChart d b → span c < span b → price_in d u b x ≡ price_in d t b x
  longer_unchanged {b} x in_chart longer = go (dec_lt x d.ranks)
    where
      go : Dec (x < d.ranks) → price_in d u b x ≡ price_in d t b x
      go (yes l) = ⊎_elim (λ e. absurd (omega (arith, rw e.0 at longer))) (λ e. e.0) (look x in_chart l)
      go (no l) = past_ranks u d (cell_number d b) x (omega arith) ∙ sym (past_ranks t d (cell_number d b) x (omega arith))

  new_held : HoldsRow g es d u c n v
  new_held = record {
    place = new.place;
    fits = fits;
    priced = new_price;
    points = stored.backs number n ∙ put_back_lem t d number n (row_key v) some room ∙ key_back v fits;
    parts = parts_grow g es grows c v new.parts;
  }

  still_held : (b : Cell) (x : ℕ) (v' : Row) → Same b x → HoldsRow g es d t b x v' → HoldsRow g es d u b x v'
  still_held b x v' same held = record {
    place = held.place;
    fits = held.fits;
    priced = same.0 ∙ held.priced;
    points = same.1 ∙ held.points;
    parts = parts_grow g es grows b v' held.parts;
  }

  holds : {b : Cell} (x : ℕ) → InChart d b → Found d u b x → (v' : Row) × HoldsRow g es d u b x v'
  holds {b} x in_chart h =
      ⊎_elim (λ e. rw (e.0, e.1) (v, new_held))
      (λ e. let (v', held) = before.holds x in_chart (rw e.0 at h) in (v', still_held b x v' e held))
      (look x in_chart (found_kept u d _ x h))

  prefix_closed : {b : Cell} (x : ℕ) → InChart d b → Found d u b (suc x) → Found d u b x
  prefix_closed x in_chart h =
      ⊎_elim (λ e. grows.keeps _ x (rw e.0 (ready.all x (omega (arith, e.1)))))
      (λ e. grows.keeps _ x (before.prefix_closed x in_chart (rw e.0 at h))) (look (suc x) in_chart (found_kept u d _ (suc x) h))

  successors_known : {b : Cell} {v' : Row} (x : ℕ) → InChart d b → Found d u b (suc x) → RowAtIn g es b x v'
      → SuccessorsKnown g es d u b v'
  successors_known {b} {v'} x in_chart h at =
      successors_grow g es grows b v'
      (⊎_elim (λ e. rw e.0 (ready.last x v' e.1 (rw e.0 at at)))
      (λ e. before.successors_known x in_chart (rw e.0 at h) at) (look (suc x) in_chart (found_kept u d _ (suc x) h)))

  -- what is not 0 stands in the entry of a found rank
  nonzero_found : (z : ℕ) → 0 < get_or u z 0
      → (b : Cell) × (x : ℕ) × InChart d b × Found d u b x × InEntry d (cell_number d b) x z
  nonzero_found z h =
      ⊎_elim
      (λ e.
      let (b, x, in_chart, found, in_entry) = before.nonzero_found z (rw e at h) in
      (b, x, in_chart, grows.keeps _ x found, in_entry))
      (λ w.
      let (x, le, in_entry) = w in
      let found : Found d u c x =
      ⊎_elim (λ e. rw e new_found) (λ less. grows.keeps _ x (ready.all x less)) (eq-or-lt_of_le {n = x} {m = n} le) in
      (c, x, ready.in_chart, found, in_entry))
      (stored.within z)

  -- no rank is found behind the last
  last : {b : Cell} (x : ℕ) → InChart d b → Found d u b x → x ≤ last_rank u d (cell_number d b)
  last x in_chart h =
      ⊎_elim (λ e. rw (e.0, e.1) stored.last)
      (λ e. le_trans (before.last x in_chart (rw e.0 at h)) (stored.lasts _ (inside in_chart)))
      (look x in_chart (found_kept u d _ x h))

  -- the queues
  other_queued : {b : Cell} {v' : Row} (x : ℕ) → InChart d b → cell_number d b ≢ number → Found d u b x → suc x < d.ranks
      → price_in d u b (suc x) ≡ 0 → RowAtIn g es b x v' → QueueIn g es d u b (suc x) v'
  other_queued {b} x in_chart other found kept absent at =
      let queue = before.queued x in_chart (rw (as_it_was x (omega arith)) at found) kept (sym (as_it_was (suc x) kept) ∙ absent) at in
      queue_kept (parts_grow g es grows b) (stored.lengths _ (inside in_chart) other)
      (λ y l. stored.others _ y (inside in_chart) other (omega (arith, queue.few))) queue
    where
      as_it_was : (y : ℕ) → y < d.ranks → price_in d u b y ≡ price_in d t b y
      as_it_was y l = ⊎_elim (λ e. absurd (other (rw e.0))) (λ e. e.0) (look y in_chart l)

  no_queue : {b : Cell} → InChart d b → price_in d u b 0 ≡ 0 → queue_length u d (cell_number d b) ≡ 0
  no_queue {b} in_chart absent = go (ℕ_discrete (cell_number d b) number)
    where
      first : (z : ℕ) → n ≡ z → price_in d u c 0 ≡ 0 → ⊥
      first zero e z = omega (arith, rw e at new_found)
      first (suc z) e absent = omega (arith, grows.keeps number 0 (ready.all 0 (omega arith)))

      go : Dec (cell_number d b ≡ number) → queue_length u d (cell_number d b) ≡ 0
      go (yes e) = absurd (first n refl (rw e at absent))
      go (no e) =
          ⊎_elim (λ same. absurd (e (rw same.0)))
          (λ same. stored.lengths _ (inside in_chart) e ∙ before.no_queue in_chart (sym same.0 ∙ absent))
          (look 0 in_chart s.kept)

  -- where the cell's own queue is as it should be, the invariant holds
  module _ (own : (x : ℕ) (v' : Row) → Found d u c x → suc x < d.ranks → price_in d u c (suc x) ≡ 0 → RowAtIn g es c x v'
      → QueueIn g es d u c (suc x) v') where
    queued : {b : Cell} {v' : Row} (x : ℕ) → InChart d b → Found d u b x → suc x < d.ranks → price_in d u b (suc x) ≡ 0
        → RowAtIn g es b x v' → QueueIn g es d u b (suc x) v'
    queued {b} {v'} x in_chart found kept absent at = go (ℕ_discrete (cell_number d b) number)
      where
        go : Dec (cell_number d b ≡ number) → QueueIn g es d u b (suc x) v'
        go (no other) = other_queued x in_chart other found kept absent at
        go (yes e) =
            let same : b ≡ c = cell_injective in_chart ready.in_chart e in
            rw same (own x v' (rw same at found) kept (rw same at absent) (rw same at at))

    invariant : Invariant g es d m u
    invariant = record {
      room = rw stored.size before.room;
      holds = holds;
      prefix_closed = prefix_closed;
      first_known = λ {c = b} in_chart l. known_grows g es grows b 0 (before.first_known in_chart l);
      successors_known = successors_known;
      nonzero_found = nonzero_found;
      last = last;
      no_queue = no_queue;
      queued = queued;
    }

    pub written_done : Done s m t u c n
    written_done = record {
      grown = record { invariant = invariant; grows = grows };
      here = λ _ _. new_found;
      longer_unchanged = longer_unchanged;
    }
