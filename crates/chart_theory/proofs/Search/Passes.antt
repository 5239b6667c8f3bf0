-- From a table of zeros the first pass knows the first rank of every cell, for it goes by the length of spans; after it each
-- further rank of the root is found, or there is none, and so all that are kept are known.
use mathlib.Core.Path.{◌≡◌, refl, ap, subst}
use mathlib.Core.Logic.{⊎_elim, ◌↔◌}
use mathlib.Core.Bool.{Bool, true, false}
use mathlib.Core.List.{List}
use Prim.Native.Nat.{ℕ, zero, suc, ◌+◌, ◌-◌, ◌*◌, ◌≤◌, ◌<◌, min}
use native.Mathlib.Nat.{le_refl, eq-or-lt_of_le, add-zero, zero-add}
use native.Mathlib.Numerals.{add-one}
use native.Mathlib.Decide.{dec_le, dec_lt}
use native.Mathlib.Omega.{arith}
use lib.ListN.{length, get_or}
use lib.Dec.{ltb, eqb}
use borrow.Author.Tests.{eqb-true, ltb-false}
use Rattle.bits.specs.Bits.{pick}
use Rattle.packing.specs.Meaning.{symbol_of, Grammar, Edge}
use Rattle.packing.proofs.Loop.{iter_keeps}
use Rattle.chart_table.specs.declared.Cell.{Cell}
use Rattle.chart_table.specs.declared.Layout.{Layout}
use Rattle.chart_table.specs.Table.{cell, root, entry_of, price_at, missing_from, first_missing, price_of, beside_at}
use Rattle.chart_queue.specs.Queue.{queue_length}
use Rattle.chart_search.specs.Search.{extend, next_of_span, first_of_heads, first_of_length, first_pass, next_of_root, further_from, search}
use Rattle.chart_theory.proofs.Table.Cells.{InChart, span, ranked_in, rank_below}
use Rattle.chart_theory.proofs.Table.Entries.{found_test}
use Rattle.chart_theory.proofs.Invariant.{Setting, price_in, Found, Known, Invariant, known_grows, Grown, grown_refl, grown_trans}
use Rattle.chart_theory.proofs.Search.NextOfSpan.{Wanted, next_finds, extend_done}

abbrev pub Zeros : List ℕ → Type 0
Zeros t = (y : ℕ) → get_or t y 0 ≡ 0

module _ (d : Layout) (t : List ℕ) (zeros : Zeros t) where
  none_found : (c x : ℕ) → 0 < price_at t d c x → ⊥
  unfolding price_at
  none_found c x = go (ltb x d.ranks)
    where
      go : (b : Bool) → 0 < pick b (price_of (get_or t (entry_of d c x) 0) (get_or t (entry_of d c x + 1) 0)) 0 → ⊥
      go true h = omega (arith, rw (zeros (entry_of d c x), zeros (entry_of d c x + 1)) at h)
      go false h = omega arith

  none_queued : (c : ℕ) → queue_length t d c ≡ 0
  unfolding queue_length beside_at
  none_queued c = rw (zeros (entry_of d c 0 + 1), zeros (entry_of d c 0 + 3)) (go (ltb 0 d.ranks) refl)
    where
      go : (b : Bool) → ltb 0 d.ranks ≡ b → pick b 0 d.ranks ≡ 0
      go true e = refl
      go false e = omega (arith, ltb-false 0 d.ranks e)

  pub zeros_invariant : (g : Grammar) (es : List Edge) → 4 * (d.cells * d.ranks) ≤ length t → Invariant g es d 1 t
  zeros_invariant g es room = record {
    room = room;
    holds = λ x in_chart h. absurd (none_found _ x h);
    prefix_closed = λ x in_chart h. absurd (none_found _ (suc x) h);
    first_known = λ in_chart l. absurd (omega (arith, in_chart.order));
    successors_known = λ x in_chart h. absurd (none_found _ (suc x) h);
    nonzero_found = λ z h. absurd (omega (arith, zeros z));
    last = λ x in_chart h. absurd (none_found _ x h);
    no_queue = λ in_chart e. none_queued _;
    queued = λ x in_chart h. absurd (none_found _ x h);
  }

-- the ranks of the root are known up to x
pub record Listed (g : Grammar) (es : List Edge) (d : Layout) (x : ℕ) (u : List ℕ) : Type 0 where
  pub invariant : Invariant g es d (suc d.last) u
  pub known : (y : ℕ) → y ≤ x → Known g es d u (root d) y

module _ {g : Grammar} {es : List Edge} {rules edges index : List ℕ} {d : Layout} (s : Setting g es rules edges index d) where
  -- the first rank of each head below x is known over a span
  record Heads (m : ℕ) (t : List ℕ) (i k x : ℕ) (u : List ℕ) : Type 0 where
    grown : Grown g es d m t u
    known : (a : ℕ) → a < x → Known g es d u (cell (symbol_of a) i k) 0

  heads_known : (m : ℕ) (t : List ℕ) (i k : ℕ) → Invariant g es d m t → i < k → k ≤ d.last → k - i ≤ m
      → Heads m t i k d.symbols (first_of_heads rules edges index d t i k)
  unfolding first_of_heads
  heads_known m t i k invariant order within due =
      iter_keeps (Heads m t i k) _ t d.symbols (record { grown = grown_refl invariant; known = λ a l. absurd (omega arith) }) step
    where
      step : (x : ℕ) (u : List ℕ) → x < d.symbols → Heads m t i k x u
          → Heads m t i k (suc x) (next_of_span rules edges index d (k - i) u (cell (symbol_of x) i k) 0)
      step x u l heads =
          let wanted : Wanted s m u (cell (symbol_of x) i k) 0 = record {
            invariant = heads.grown.invariant;
            in_chart = record { symbol = l; order = order; within = within };
            due = due;
            kept = s.kept;
            all = λ y h. absurd (omega arith);
            new = λ h. absurd (omega arith);
          } in
          let done = (next_finds s m (k - i)).finds wanted (omega arith) in
          record {
            grown = grown_trans heads.grown done.grown;
            known = λ a h. ⊎_elim (λ e. rw e done.here)
                (λ less. known_grows g es done.grown.grows (cell (symbol_of a) i k) 0 (heads.known a less))
                (eq-or-lt_of_le {n = a} {m = x} (omega arith));
          }

  -- the first rank of each head is known over the first x spans of a length
  record Lengths (len x : ℕ) (u : List ℕ) : Type 0 where
    invariant : Invariant g es d len u
    known : (i a : ℕ) → i < x → a < d.symbols → Known g es d u (cell (symbol_of a) i (i + len)) 0

  length_known : (t : List ℕ) (len : ℕ) → Invariant g es d len t → 0 < len → len ≤ d.last
      → Invariant g es d (suc len) (first_of_length rules edges index d t len)
  unfolding first_of_length
  length_known t len invariant positive within =
      longer _
      (iter_keeps (Lengths len) _ t (d.last + 1 - len) (record { invariant = invariant; known = λ i a l. absurd (omega arith) }) step)
    where
      step : (x : ℕ) (u : List ℕ) → x < d.last + 1 - len → Lengths len x u
          → Lengths len (suc x) (first_of_heads rules edges index d u x (x + len))
      step x u l lengths =
          let heads = heads_known len u x (x + len) lengths.invariant (omega arith) (omega arith) (omega arith) in
          record {
            invariant = heads.grown.invariant;
            known = λ i a h below. ⊎_elim (λ e. rw e (heads.known a below))
                (λ less. known_grows g es heads.grown.grows (cell (symbol_of a) i (i + len)) 0 (lengths.known i a less below))
                (eq-or-lt_of_le {n = i} {m = x} (omega arith));
          }

      first : (u : List ℕ) → Lengths len (d.last + 1 - len) u → (c : Cell) → InChart d c → span c ≡ len → Known g es d u c 0
      first u lengths c in_chart e =
          let last : c.from + len ≡ c.to = omega (arith, in_chart.order) in
          subst (λ b. Known g es d u b 0) (ap (cell c.head c.from) last)
          (lengths.known c.from c.head.0 (omega (arith, in_chart.order, in_chart.within)) in_chart.symbol)

      longer : (u : List ℕ) → Lengths len (d.last + 1 - len) u → Invariant g es d (suc len) u
      longer u lengths = record {
        room = lengths.invariant.room;
        holds = lengths.invariant.holds;
        prefix_closed = lengths.invariant.prefix_closed;
        first_known = λ {c} in_chart h. ⊎_elim (λ e. first u lengths c in_chart e)
            (λ less. lengths.invariant.first_known in_chart less) (eq-or-lt_of_le {n = span c} {m = len} (omega arith));
        successors_known = lengths.invariant.successors_known;
        nonzero_found = lengths.invariant.nonzero_found;
        last = lengths.invariant.last;
        no_queue = lengths.invariant.no_queue;
        queued = lengths.invariant.queued;
      }

  first_pass_known : (t : List ℕ) → Invariant g es d 1 t → Invariant g es d (suc d.last) (first_pass rules edges index d t)
  unfolding first_pass
  first_pass_known t invariant =
      iter_keeps (λ x u. Invariant g es d (suc x) u) _ t d.last invariant (λ x u l before.
      rw (add-one x) (length_known u (suc x) before (omega arith) l))

  module _ (in_root : InChart d (root d)) where
    -- behind a rank of the root that is not found there is none
    none_behind : (x : ℕ) (u : List ℕ) → x < d.ranks → Listed g es d x u → price_in d u (root d) x ≡ 0 → (z : ℕ) → Listed g es d z u
    none_behind x u kept listed absent z = record { invariant = listed.invariant; known = λ y h. go y (dec_le y x) }
      where
        go : (y : ℕ) → Dec (y ≤ x) → Known g es d u (root d) y
        go y (yes below) = listed.known y below
        go y (no above) = λ _ more. absurd (omega (arith, listed.known x (le_refl x) kept (omega arith)))

    pub next_known : (x : ℕ) (u : List ℕ) → x < d.ranks - 1 → Listed g es d x u → Listed g es d (suc x) (next_of_root rules edges index d u x)
    unfolding next_of_root
    next_known x u l listed = rw (add-one x) (go (eqb weight 0) refl)
      where
        weight : ℕ
        weight = price_in d u (root d) x

        go : (b : Bool) → eqb weight 0 ≡ b
            → Listed g es d (suc x) (pick b u (extend d (next_of_span rules edges index d d.last) u (root d) (suc x)))
        go true e = none_behind x u (omega arith) listed (eqb-true weight 0 e) (suc x)
        go false e =
            let done = extend_done s (suc d.last) (next_finds s (suc d.last) d.last) x listed.invariant in_root
            (omega arith) (omega arith) (found_test weight e) in
            record {
              invariant = done.grown.invariant;
              known = λ y h. ⊎_elim (λ same. rw same done.here)
                  (λ less. known_grows g es done.grown.grows (root d) y (listed.known y (omega arith))) (eq-or-lt_of_le h);
            }

    pub pass_listed : (t : List ℕ) → Invariant g es d 1 t → Listed g es d 0 (first_pass rules edges index d t)
    pass_listed t invariant =
        let after = first_pass_known t invariant in
        record { invariant = after; known = λ y h. let same : y ≡ 0 = omega arith in rw same (after.first_known in_root (omega arith)) }

    -- n ranks behind rank x, up to one that is not found
    further_known : (n x : ℕ) (u : List ℕ) → x + n ≤ d.ranks - 1 → Listed g es d x u → Listed g es d (x + n) (further_from rules edges index d n u x)
    unfolding further_from
    further_known zero x u few listed = rw (add-zero x) listed
    further_known (suc n) x u few listed =
        go (eqb (price_in d u (root d) x) 0) refl
        (further_known n (suc x) (next_of_root rules edges index d u x) (omega arith) (next_known x u (omega arith) listed))
      where
        go : (b : Bool) → eqb (price_in d u (root d) x) 0 ≡ b
            → Listed g es d (suc x + n) (further_from rules edges index d n (next_of_root rules edges index d u x) (suc x))
            → Listed g es d (x + suc n) (pick b u (further_from rules edges index d n (next_of_root rules edges index d u x) (x + 1)))
        go true e later = none_behind x u (omega arith) listed (eqb-true (price_in d u (root d) x) 0 e) (x + suc n)
        go false e later = let same : x + suc n ≡ suc x + n = omega arith in rw (same, add-one x) later

    pub search_known : (t : List ℕ) → Invariant g es d 1 t → Listed g es d (d.ranks - 1) (search rules edges index d t)
    unfolding search
    search_known t invariant =
        rw (zero-add (d.ranks - 1)) at (further_known (d.ranks - 1) 0 (first_pass rules edges index d t) (omega arith) (pass_listed t invariant))

    -- so a rank that is kept, of those known, is found exactly if there is one
    pub found_exactly : (x : ℕ) (u : List ℕ) → Listed g es d x u → (y : ℕ) → y ≤ x → y < d.ranks
        → Found d u (root d) y ↔ (y < length (ranked_in g es (root d)))
    found_exactly x u listed y below kept = (
      (λ h. let (v, held) = listed.invariant.holds y in_root h in rank_below g es (root d) y held.place),
      listed.known y below kept,
    )

-- where the found ranks are those below a number, the first that is not is that number, or all that are kept are found
module _ (t : List ℕ) (d : Layout) (c total : ℕ) (exactly : (x : ℕ) → x < d.ranks → (0 < price_at t d c x) ↔ (x < total)) where
  missing_from_lem : (n x : ℕ) → x + n ≡ d.ranks → x ≤ total → missing_from t d c n x ≡ min d.ranks total
  unfolding missing_from
  missing_from_lem zero x all below = omega arith
  missing_from_lem (suc n) x all below = go (eqb (price_at t d c x) 0) refl (dec_lt x total) (missing_from_lem n (x + 1) (omega arith))
    where
      go : (b : Bool) → eqb (price_at t d c x) 0 ≡ b → Dec (x < total) → (x + 1 ≤ total → missing_from t d c n (x + 1) ≡ min d.ranks total)
          → pick b x (missing_from t d c n (x + 1)) ≡ min d.ranks total
      go true h (yes less) later = absurd (omega (arith, (exactly x (omega arith)).1 less, eqb-true (price_at t d c x) 0 h))
      go true h (no over) later = omega arith
      go false h less later = later (omega (arith, (exactly x (omega arith)).0 (found_test (price_at t d c x) h)))

  pub first_missing_lem : first_missing t d c ≡ min d.ranks total
  unfolding first_missing
  first_missing_lem = missing_from_lem d.ranks 0 (omega arith) (omega arith)
