-- The least candidate of a cell is its next row, or there is no further row: the frontier theorem at work on a table. So
-- `firstRank` finds the first rank of a cell, and `nextRank` the next of one whose last rank's successors are known.
use mathlib.Core.Path.{◌≡◌, refl, sym, ◌∙◌, subst}
use mathlib.Core.Logic.{◌⊎◌, inl, inr, ⊎_elim}
use mathlib.Core.Bool.{Bool, true, false}
use mathlib.Core.List.{List}
use Prim.Native.Nat.{ℕ, suc, ◌+◌, ◌-◌, ◌≤◌, ◌<◌}
use native.Mathlib.Nat.{le_refl, eq-or-lt_of_le}
use native.Mathlib.Decide.{dec_lt}
use native.Mathlib.Omega.{arith}
use lib.ListN.{length}
use lib.Dec.{ltb}
use borrow.Author.Tests.{ltb-true, ltb-false}
use Rattle.bits.specs.Bits.{pick}
use Rattle.packing.specs.Meaning.{Grammar, Edge}
use Rattle.derivation.proofs.Rows.{Row}
use Rattle.derivation.proofs.Frontier.{step_row, stop_row}
use Rattle.chart_keys.specs.Keys.{no_key}
use Rattle.chart_table.specs.declared.Cell.{Cell}
use Rattle.chart_table.specs.declared.Layout.{Layout}
use Rattle.chart_table.specs.Table.{cell_number, entry_of, back_at, put_key}
use Rattle.chart_queue.specs.Queue.{queued_key, queue_length, extract_min}
use Rattle.chart_candidates.specs.Candidates.{leaves, seeds}
use Rattle.chart_successors.specs.Successors.{successors, least_initial, replacement}
use Rattle.chart_ranks.specs.Ranks.{first_rank, next_rank}
use Rattle.chart_theory.proofs.Table.Keys.{row_key, key_back, key_lt, order_key}
use Rattle.chart_theory.proofs.Table.Cells.{ranked_in, RowAtIn, row_unique, rank_below, FrontierIn, BeyondIn}
use Rattle.chart_theory.proofs.Table.Entries.{cell_below, entry_within}
use Rattle.chart_passes.proofs.Fuel.{put_above}
use Rattle.chart_theory.proofs.Table.Numbers.{put_back_lem}
use Rattle.chart_theory.proofs.Queue.Numbers.{tag_at, put_queued_again, put_queue_length_lem}
use Rattle.chart_theory.proofs.Queue.Owners.{owned}
use Rattle.chart_theory.proofs.Queue.Pool.{
  Pool,
  queue_kept,
  queue_first,
  Member,
  inside,
  low,
  high,
  Valid,
  key_in,
  Queued,
  row_of,
  owner_of,
  pool_queued,
  pool_complete,
  requeued,
}
use Rattle.chart_theory.proofs.Queue.Stored.{stored_key}
use Rattle.chart_theory.proofs.Queue.ExtractMin.{Extracted, Extraction, nothing, something, extract_min_outcome}
use Rattle.chart_theory.proofs.Invariant.{Setting, price_in, Found, PartsFound, HoldsRow, QueueIn, FreshIn, parts_grow, grown_refl, all_below}
use Rattle.chart_theory.proofs.Candidates.Select.{Selects}
use Rattle.chart_theory.proofs.Candidates.Keys.{Candidate, initial_selects, row_found, found_row, successors_select}
use Rattle.chart_theory.proofs.Candidates.Frontier.{Ready, held, candidate_complete, candidate_sound, frontier_fits, frontier_some, fresh}
use Rattle.chart_theory.proofs.Candidates.Replacement.{replaced}
use Rattle.chart_theory.proofs.Search.Tags.{reach_low, reach_high, alone, one}
use Rattle.chart_theory.proofs.Search.NewRow.{Done, Written, look, grows, new_found, written_done}

module _ {g : Grammar} {es : List Edge} {rules edges index : List ℕ} {d : Layout} (s : Setting g es rules edges index d) {m : ℕ}
    {t : List ℕ} {c : Cell} {n : ℕ} (ready : Ready s m t c n) where
  -- there is no further row
  ended : length (ranked_in g es c) ≡ n → Done s m t t c n
  ended e = record {
    grown = grown_refl ready.invariant;
    here = λ _ l. absurd (omega arith);
    longer_unchanged = λ x in_chart longer. refl;
  }

  -- what no row of the frontier beyond the last found comes before is the next row, and where there is none the list ends
  module _ (found : n ≤ length (ranked_in g es c)) where
    is_next : {v : Row} → FrontierIn g es c d.ranks n v → BeyondIn g es c n v
        → ((v' : Row) → FrontierIn g es c d.ranks n v' → BeyondIn g es c n v' → row_key v ≤ row_key v') → RowAtIn g es c n v
    is_next {v} on beyond least =
        step_row g es c.head c.from c.to d.ranks n ready.kept found on beyond (λ v' on' beyond' before.
        omega (arith, least v' on' beyond', order_key v' v (frontier_fits s ready on') (frontier_fits s ready on) before))

    none_next : ((v : Row) → FrontierIn g es c d.ranks n v → BeyondIn g es c n v → ⊥) → Done s m t t c n
    none_next empty = ended (stop_row g es c.head c.from c.to d.ranks n ready.kept found empty)

-- the first rank
module _ {g : Grammar} {es : List Edge} {rules edges index : List ℕ} {d : Layout} (s : Setting g es rules edges index d) {m : ℕ}
    {t : List ℕ} {c : Cell} (ready : Ready s m t c 0) where
  abbrev key : ℕ
  key = least_initial t d rules edges index c 0

  picks : Selects 0 (Candidate g es c d t 0) (λ b. seeds t d rules index c 0 (leaves rules edges index c 0 b))
  picks = initial_selects s t ready.in_chart 0

  bound : (v : Row) → FrontierIn g es c d.ranks 0 v → key ≤ row_key v
  unfolding least_initial
  bound v on =
      let (o, owns, h) = owned g es c d.ranks 0 on in
      let e : (owned g es c d.ranks 0 on).0 ≡ 0 = omega arith in
      picks.least no_key (row_key v) (subst (λ (x : ℕ). Candidate g es c d t x (row_key v)) e (candidate_complete s ready on))
      (omega arith)

  -- the row of the first rank is written
  module _ (v : Row) (at : RowAtIn g es c 0 v) (on : FrontierIn g es c d.ranks 0 v) (parts : PartsFound g es d t c v) where
    abbrev u : List ℕ
    u = put_key t d (cell_number d c) 0 (row_key v)

    some : row_key v < no_key
    some = frontier_some s ready on

    first_new : Written s m t c 0 v u
    first_new = record {
      ready = ready;
      place = at;
      on = on;
      parts = parts;
      stored = stored_key t d (cell_number d c) 0 (row_key v) (cell_below s.planned ready.in_chart) s.kept s.few_ranks ready.invariant.room some;
    }

    seen : (x : ℕ) → x < d.ranks → (x ≡ 0) ⊎ (price_in d u c x ≡ price_in d t c x)
    seen x l = ⊎_elim (λ e. inl e.1) (λ e. inr e.0) (look first_new x ready.in_chart l)

    absent_before : (x : ℕ) → suc x < d.ranks → price_in d u c (suc x) ≡ 0 → price_in d t c (suc x) ≡ 0
    absent_before x l absent = ⊎_elim (λ e. absurd (omega arith)) (λ e. sym e ∙ absent) (seen (suc x) l)

    below : cell_number d c < d.cells
    below = cell_below s.planned ready.in_chart

    first_room : entry_of d (cell_number d c) 0 + 4 ≤ length t
    first_room = omega (arith, entry_within d (cell_number d c) 0 below s.kept, ready.invariant.room)

    same_length : (c' : ℕ) → queue_length u d c' ≡ queue_length t d c'
    same_length c' = put_queue_length_lem t d (cell_number d c) 0 (row_key v) some below s.kept first_room (omega arith) c'

    -- where the first rank was found before, the same back pointer is written again
    same_back : (x : ℕ) → 0 < price_in d t c x → back_at u d (cell_number d c) 0 ≡ back_at t d (cell_number d c) 0
    same_back x before =
        let (v', held) = ready.invariant.holds 0 ready.in_chart (all_below ready.invariant ready.in_chart x 0 (omega arith) before) in
        let same : v' ≡ v = row_unique g es c 0 held.place at in
        put_back_lem t d (cell_number d c) 0 (row_key v) some first_room ∙ key_back v (frontier_fits s ready on)
        ∙ rw same at (sym held.points)

    first_queued : (x : ℕ) (v' : Row) → Found d u c x → suc x < d.ranks → price_in d u c (suc x) ≡ 0 → RowAtIn g es c x v'
        → QueueIn g es d u c (suc x) v'
    first_queued x v' found l absent at' = go (dec_lt 0 (price_in d t c x))
      where
        go : Dec (0 < price_in d t c x) → QueueIn g es d u c (suc x) v'
        go (yes before) =
            queue_kept (parts_grow g es (grows first_new) c) (same_length (cell_number d c))
            (λ y h. put_queued_again t d (cell_number d c) 0 (row_key v) some below s.kept first_room (omega arith) (same_back x before) y)
            (ready.invariant.queued x ready.in_chart before l (absent_before x l absent) at')
        go (no before) =
            let e : x ≡ 0 = ⊎_elim (λ e. e) (λ e. absurd (before (rw e at found))) (seen x (omega arith)) in
            let same : v' ≡ v = row_unique g es c 0 (rw e at at') at in
            let (o, owns, h) = owned g es c d.ranks 0 on in
            let empty : queue_length u d (cell_number d c) ≡ 0 =
            same_length (cell_number d c)
            ∙ ready.invariant.no_queue ready.in_chart (let b = rw e at before in omega arith) in
            rw (e, same, empty)
            (queue_first g es d.ranks c (PartsFound g es d u c) (let z : o ≡ 0 = omega arith in rw z at owns))

    first_found : Done s m t u c 0
    first_found = written_done first_new first_queued

  pub first_rank_done : Done s m t (first_rank rules edges index d c t) c 0
  unfolding first_rank least_initial
  first_rank_done = go (dec_lt key no_key) (picks.from no_key)
    where
      go : Dec (key < no_key) → (key ≡ no_key) ⊎ ((0 < key) × Candidate g es c d t 0 key) → Done s m t (put_key t d (cell_number d c) 0 key) c 0
      go (yes some) (inl e) = absurd (omega arith)
      go (yes some) (inr (above, candidate)) =
          let (v, st) = candidate_sound s ready candidate (omega arith) some in
          let at = is_next s ready (omega arith) st.on (λ x l e. absurd (omega arith)) (λ v' on' above'.
          omega (arith, bound v' on', st.keyed)) in
          rw st.keyed (first_found v at st.on st.parts)
      go (no over) _ =
          rw (put_above t d (cell_number d c) 0 key (omega arith))
          (none_next s ready (omega arith) (λ v on above. omega (arith, bound v on, frontier_some s ready on)))

-- a further rank
module _ {g : Grammar} {es : List Edge} {rules edges index : List ℕ} {d : Layout} (s : Setting g es rules edges index d) {m : ℕ}
    {t : List ℕ} {c : Cell} (x : ℕ) (ready : Ready s m t c (suc x)) where
  last_row : (l : Row) × HoldsRow g es d t c x l
  last_row = held s ready x (omega arith)

  abbrev l : Row
  l = last_row.0

  abbrev last : HoldsRow g es d t c x l
  last = last_row.1

  queue : QueueIn g es d t c (suc x) l
  queue = ready.invariant.queued x ready.in_chart (ready.all x (omega arith)) ready.kept (ready.new (omega arith)) last.place

  list_found : suc x ≤ length (ranked_in g es c)
  list_found = rank_below g es c x last.place

  abbrev w : ℕ
  w = queue_length t d (cell_number d c)

  module _ {lo hi : ℕ} (pool : Pool g es d.ranks c (PartsFound g es d t c) (suc x) l w lo hi (queued_key t d (cell_number d c))
      (tag_at t d (cell_number d c))) (order : lo ≤ hi) where
    abbrev key_at : Member → ℕ
    key_at = key_in lo hi (queued_key t d (cell_number d c))

    -- what is on the frontier and beyond is not below the pool's least
    covered : (v : Row) → FrontierIn g es c d.ranks (suc x) v → BeyondIn g es c (suc x) v → (p : Member) × Valid w lo hi p × (key_at p ≤ row_key v)
    covered v on beyond =
        let (o, owns, h) = owned g es c d.ranks (suc x) on in
        let above = order_key l v last.fits (frontier_fits s ready on) (beyond x l refl last.place) in
        let (p, valid, e, le) = pool_complete pool v o (frontier_some s ready on) on owns (omega arith) above in
        (p, valid, le)

    none_found : w ≡ 0 → no_key ≤ lo → no_key ≤ hi → Done s m t t c (suc x)
    none_found e no-lo no-hi =
        none_next s ready list_found (λ v on beyond. let (p, valid, le) = covered v on beyond in not_valid p valid)
      where
        not_valid : (p : Member) → Valid w lo hi p → ⊥
        not_valid (inside y) h = omega arith
        not_valid low h = omega arith
        not_valid high h = omega arith

    module _ (u : List ℕ) (extracted : Extracted t d (cell_number d c) (suc x) lo hi u) where
      abbrev p : Member
      p = extracted.member

      abbrev v : Row
      v = row_of pool p

      from_pool : Queued g es d.ranks c (PartsFound g es d t c) (suc x) l (suc (suc x)) (key_at p) v (owner_of pool p)
      from_pool = pool_queued pool p extracted.valid

      next_new : Written s m t c (suc x) v u
      next_new = record {
        ready = ready;
        place = is_next s ready list_found from_pool.on beyond (λ v' on' beyond'.
            let (q, valid', le) = covered v' on' beyond' in
            omega (arith, extracted.least q valid', le, from_pool.keyed));
        on = from_pool.on;
        parts = from_pool.more;
        stored = rw from_pool.keyed at extracted.stored;
      }
        where
          beyond : BeyondIn g es c (suc x) v
          beyond y l' e at' =
              let same : y ≡ x = omega arith in
              let row : l' ≡ l = row_unique g es c x (rw same at at') last.place in
              rw row (key_lt l v last.fits from_pool.fits from_pool.above)

      -- rank x + 1 is the last that is found
      last_found : (y : ℕ) → Found d u c y → suc y < d.ranks → price_in d u c (suc y) ≡ 0 → y ≡ suc x
      last_found y found h absent = go (dec_lt y (suc x)) (dec_lt (suc x) y)
        where
          below : suc y ≤ suc x → ⊥
          below le =
              ⊎_elim (λ e. omega (arith, rw (← e) at (new_found next_new)))
              (λ less. omega (arith, (grows next_new).keeps (cell_number d c) (suc y) (ready.all (suc y) less)))
              (eq-or-lt_of_le {n = suc y} {m = suc x} le)

          beyond : suc x < y → ⊥
          beyond less =
              ⊎_elim (λ e. omega (arith, e.1))
              (λ e.
              omega
              (arith, ready.new (omega arith), all_below ready.invariant ready.in_chart y (suc x) (omega arith) (rw e.0 at found)))
              (look next_new y ready.in_chart (omega arith))

          go : Dec (y < suc x) → Dec (suc x < y) → y ≡ suc x
          go (yes less) _ = absurd (below less)
          go (no more) (yes over) = absurd (beyond over)
          go (no more) (no over) = omega arith

      last_queued : (y : ℕ) (v' : Row) → Found d u c y → suc y < d.ranks → price_in d u c (suc y) ≡ 0 → RowAtIn g es c y v'
          → QueueIn g es d u c (suc y) v'
      last_queued y v' found h absent at' =
          let e = last_found y found h absent in
          let same : v' ≡ v = row_unique g es c (suc x) (rw e at at') next_new.place in
          rw (e, same)
          (requeued pool (parts_grow g es (grows next_new) c) (λ b on. frontier_some s ready on) p extracted.valid extracted.least
          extracted.arranged)

      one_found : Done s m t u c (suc x)
      one_found = written_done next_new last_queued

    extract_min_done : Done s m t (extract_min t d (cell_number d c) (suc x) lo hi) c (suc x)
    extract_min_done =
        go _ (extract_min_outcome t d (cell_number d c) (suc x) lo hi (cell_below s.planned ready.in_chart) ready.invariant.room
        ready.kept s.few_ranks pool.queue.few order real pool.queue.tag_below (reach_low pool last.place t d last.points)
        (reach_high pool last.place t d last.points) (alone pool last.place t d last.points) (one pool last.place t d last.points))
      where
        real : (y : ℕ) → y < w → queued_key t d (cell_number d c) y < no_key
        real y h = let q = pool.queue.place y h in rw q.keyed (frontier_some s ready q.on)

        go : (u : List ℕ) → Extraction t d (cell_number d c) (suc x) lo hi u → Done s m t u c (suc x)
        go u (nothing e empty no-lo no-hi) = rw e (none_found empty no-lo no-hi)
        go u (something extracted) = one_found u extracted

  pub next_rank_done : Done s m t (next_rank rules edges index d c (suc x) t) c (suc x)
  unfolding next_rank
  next_rank_done =
      let before : suc x - 1 ≡ x = omega arith in
      rw (before, found_row last) (by_order (ltb other least) refl)
    where
      least : ℕ
      least = successors t d rules c (row_found l) no_key

      other : ℕ
      other = replacement t d rules edges index c (row_found l)

      fresh_least : FreshIn g es d t c (suc x) l (suc x) least
      fresh_least = fresh s ready l (suc x) (le_refl (suc x)) (successors_select s t x last.place)

      fresh_other : FreshIn g es d t c (suc x) l queue.last other
      fresh_other = replaced s ready last.place.2 last.parts queue.last_owned (omega (arith, queue.last_below))

      by_order : (b : Bool) → ltb other least ≡ b
          → Done s m t (extract_min t d (cell_number d c) (suc x) (pick b other least) (pick b least other)) c (suc x)
      by_order true e =
          extract_min_done
          (record { queue = queue; owner_lo = _; owner_hi = _; fresh_lo = fresh_other; fresh_hi = fresh_least; both = inr (refl, refl) })
          (omega (arith, ltb-true other least e))
      by_order false e =
          extract_min_done
          (record { queue = queue; owner_lo = _; owner_hi = _; fresh_lo = fresh_least; fresh_hi = fresh_other; both = inl (refl, refl) })
          (ltb-false other least e)
