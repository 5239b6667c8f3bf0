-- The candidates' keys are those of the frontier's rows, whose parts are found, and keys compare as rows do. So what the code
-- takes the least of is the least row of the frontier above the last found that follows a rank, or none.
use mathlib.Core.Path.{◌≡◌, refl, ap, subst}
use mathlib.Core.Logic.{◌⊎◌, inl, inr, ⊎_elim}
use mathlib.Core.List.{List}
use Prim.Native.Nat.{ℕ, zero, suc, ◌+◌, ◌*◌, ◌≤◌, ◌<◌}
use native.Mathlib.Nat.{eq-or-lt_of_le}
use native.Mathlib.Numerals.{add-one}
use native.Mathlib.Decide.{dec_lt}
use native.Mathlib.Omega.{arith}
use lib.Dec.{eqb-suc-zero}
use Rattle.packing.specs.declared.Sym.{Sym}
use Rattle.packing.specs.Meaning.{Grammar, Edge}
use Rattle.derivation.proofs.Lists.{at_length}
use Rattle.derivation.proofs.Rows.{Price, price, weight_in, costs_in, joined, Row, row, row_price, row_price_lem, row_derives}
use Rattle.derivation.proofs.Frontier.{a_leaf, a_seed, right_follower, left_follower, frontier_row}
use Rattle.chart_keys.specs.Keys.{weight_unit, back, back_number, prices, key_unit, key_of, no_key, part_price, join_price}
use Rattle.chart_keys.proofs.Numbers.{digits_under}
use Rattle.chart_table.specs.declared.Cell.{Cell}
use Rattle.chart_table.specs.declared.Layout.{Layout}
use Rattle.chart_table.specs.Table.{left_part, right_part}
use Rattle.chart_candidates.specs.Candidates.{pair_key}
use Rattle.chart_theory.proofs.Table.Keys.{price_number, row_number, row_back, HasKey, RowFits, row_key, key_some}
use Rattle.chart_theory.proofs.Table.Cells.{InChart, span, RowAtIn, row_unique, rank_below, FrontierIn}
use Rattle.chart_theory.proofs.Table.Entries.{found_kept}
use Rattle.chart_theory.proofs.Queue.Owners.{Owner, OwnerOf, owner_unique, owned, seed_owner, right_owner, left_owner}
use Rattle.chart_theory.proofs.Invariant.{Setting, price_in, Found, PartsFound, SuccessorsKnown, HoldsRow, FreshIn, Invariant}
use Rattle.chart_theory.proofs.Candidates.Select.{Selects}
use Rattle.chart_theory.proofs.Candidates.Keys.{joined_key, Splits, Reached, first, right, left, Candidate, leaf_key, pair_key_lem}

part_price_lem : (x : ℕ) → part_price (x + 1) ≡ x
unfolding part_price
part_price_lem x = rw (add-one x, eqb-suc-zero x) (omega arith)

zero_or_more : (x : ℕ) → (x ≡ 0) ⊎ (0 < x)
zero_or_more zero = inl refl
zero_or_more (suc x) = inr (omega arith)

module _ (t : List ℕ) (d : Layout) (c : Cell) (B C : Sym) (w r j p q : ℕ) where
  -- the key of a pairing whose parts are found
  pub pair_value : (vl vr : Row) → price_in d t (left_part c B j) p ≡ row_number vl + 1
      → price_in d t (right_part c C j) q ≡ row_number vr + 1
      → joined_key t d c B C w (back r j p q) ≡ row_key (row (joined w (row_price vl) (row_price vr)) r j p q)
  unfolding pair_key join_price
  pair_value vl vr e e' =
      rw (e, e', part_price_lem (row_number vl), part_price_lem (row_number vr))
      (ap (λ (n : ℕ). key_of n (back_number (back r j p q))) (sum (row_price vl) (row_price vr)))
    where
      sum : (a b : Price) → w * weight_unit + price_number a + price_number b + 1 ≡ price_number (joined w a b) + 1
      sum (price u s) (price u' s') = omega arith

  -- a key that is one is of a pairing whose parts are found
  pair_found : joined_key t d c B C w (back r j p q) < no_key → Found d t (left_part c B j) p × Found d t (right_part c C j) q
  unfolding pair_key join_price part_price
  pair_found h =
      let less = digits_under key_unit _ prices (back_number (back r j p q)) h in (
        ⊎_elim (λ e. absurd (omega (arith, rw e at less))) (λ l. l) (zero_or_more _),
        ⊎_elim (λ e. absurd (omega (arith, rw e at less))) (λ l. l) (zero_or_more _),
      )

module _ {g : Grammar} {es : List Edge} {rules edges index : List ℕ} {d : Layout} (s : Setting g es rules edges index d) where
  pub part_cells : {c : Cell} {B C : Sym} {r w j : ℕ} → InChart d c → Splits g c B C r w j
      → InChart d (left_part c B j) × InChart d (right_part c C j)
  part_cells {c} {B} {C} {r} {w} {j} in_chart splits =
      let (hb, hc) = s.parts c.head B C r w splits.rule in
      let in_left : InChart d (left_part c B j) =
      record { symbol = hb; order = splits.after; within = omega (arith, splits.before, in_chart.within) } in
      (in_left, record { symbol = hc; order = splits.before; within = in_chart.within })

  -- the first n ranks of a cell are found, and the last one's successors are known
  pub record Ready (m : ℕ) (t : List ℕ) (c : Cell) (n : ℕ) : Type 0 where
    pub invariant : Invariant g es d m t
    pub in_chart : InChart d c
    pub due : span c ≤ m
    pub kept : n < d.ranks
    pub all : (x : ℕ) → x < n → Found d t c x
    pub last : (x : ℕ) (v : Row) → suc x ≡ n → RowAtIn g es c x v → SuccessorsKnown g es d t c v
    pub new : 0 < n → price_in d t c n ≡ 0

  module _ {m : ℕ} {t : List ℕ} {c : Cell} {n : ℕ} (ready : Ready m t c n) where
    pub held : (x : ℕ) → x < n → (v : Row) × HoldsRow g es d t c x v
    held x h = ready.invariant.holds x ready.in_chart (ready.all x h)

    holds_row : (x : ℕ) {v : Row} → x < n → RowAtIn g es c x v → HoldsRow g es d t c x v
    holds_row x h at = let (v, holds) = held x h in rw (row_unique g es c x holds.place at) at holds

    successors : (x : ℕ) (v : Row) → x < n → RowAtIn g es c x v → SuccessorsKnown g es d t c v
    successors x v h at =
        ⊎_elim (λ e. ready.last x v e at) (λ l. ready.invariant.successors_known x ready.in_chart (ready.all (suc x) l) at)
        (eq-or-lt_of_le h)

    pub found_price : {b : Cell} {v : Row} (x : ℕ) → InChart d b → Found d t b x → RowAtIn g es b x v
        → price_in d t b x ≡ row_number v + 1
    found_price {b} x in_chart h at =
        let (v, holds) = ready.invariant.holds x in_chart h in rw (row_unique g es b x holds.place at) at holds.priced

    -- a pairing of the frontier whose parts are found is a candidate
    pairing : {B C : Sym} {r w j o p q : ℕ} {vl vr : Row} → Splits g c B C r w j → Reached g es c r j o p q
        → Found d t (left_part c B j) p → Found d t (right_part c C j) q → RowAtIn g es (left_part c B j) p vl
        → RowAtIn g es (right_part c C j) q vr → Candidate g es c d t o (row_key (row (joined w (row_price vl) (row_price vr)) r j p q))
    pairing {B} {C} {r} {w} {j} {o} {p} {q} {vl} {vr} splits reached fl fr l m =
        let (cl, cr) = part_cells ready.in_chart splits in
        subst (Candidate g es c d t o)
        (pair_value t d c B C w r j p q vl vr (found_price p cl fl l) (found_price q cr fr m))
        (pair_key_lem splits reached)

    pub candidate_complete : {v : Row} (on : FrontierIn g es c d.ranks n v)
        → Candidate g es c d t (owned g es c d.ranks n on).0 (row_key v)
    unfolding owned
    candidate_complete (a_leaf {r = r} {e = e} p q) = leaf_key r e p q
    candidate_complete (a_seed {B} {C} {r} {w} {j} rule h₁ h₂ l m) =
        let splits : Splits g c B C r w j = record { rule = rule; after = h₁; before = h₂ } in
        let (cl, cr) = part_cells ready.in_chart splits in
        pairing splits first
        (ready.invariant.first_known cl (omega (arith, ready.due)) s.kept (rank_below g es (left_part c B j) 0 l))
        (ready.invariant.first_known cr (omega (arith, ready.due)) s.kept (rank_below g es (right_part c C j) 0 m)) l m
    candidate_complete (right_follower {B} {C} {r} {w} {j} {p} {q} {x} rule h₁ h₂ h at hp hq l m) =
        pairing (record { rule = rule; after = h₁; before = h₂ }) (right at) ((holds_row x h at).parts B C w rule).0
        ((successors x _ h at B C w rule).0 hq (rank_below g es (right_part c C j) (suc q) m)) l m
    candidate_complete (left_follower {B} {C} {r} {w} {j} {p} {x} rule h₁ h₂ h at hp l m) =
        pairing (record { rule = rule; after = h₁; before = h₂ }) (left at)
        ((successors x _ h at B C w rule).1 refl hp (rank_below g es (left_part c B j) (suc p) l))
        ((holds_row x h at).parts B C w rule).1 l m

    -- a candidate whose key is one is of the frontier
    pub record OnFrontier (o key : ℕ) (v : Row) : Type 0 where
      pub keyed : key ≡ row_key v
      pub on : FrontierIn g es c d.ranks n v
      pub owns : OwnerOf g es c v o
      pub parts : PartsFound g es d t c v

    reached_frontier : {B C : Sym} {r w j o p q : ℕ} {vl vr : Row} → Splits g c B C r w j → Reached g es c r j o p q → o ≤ n
        → p < d.ranks → q < d.ranks → RowAtIn g es (left_part c B j) p vl → RowAtIn g es (right_part c C j) q vr
        → FrontierIn g es c d.ranks n (row (joined w (row_price vl) (row_price vr)) r j p q)
    reached_frontier splits first h hp hq l m = a_seed splits.rule splits.after splits.before l m
    reached_frontier splits (right at) h hp hq l m = right_follower splits.rule splits.after splits.before h at hp hq l m
    reached_frontier splits (left at) h hp hq l m = left_follower splits.rule splits.after splits.before h at hp l m

    reached_owner : {r j o p q : ℕ} → 0 < j → Reached g es c r j o p q → Owner g es c r j q p o
    reached_owner {r = r} {j = j} h first = seed_owner g es c r j h
    reached_owner {r = r} {j = j} h (right {w} {p} {q} {x} at) = right_owner g es c r j p q x w h at
    reached_owner {r = r} {j = j} h (left {w} {p} {x} at) = left_owner g es c r j p x w h at

    pub candidate_sound : {o key : ℕ} → Candidate g es c d t o key → o ≤ n → key < no_key → (v : Row) × OnFrontier o key v
    candidate_sound (leaf_key {x} {w} {cost} r e p q) h some = (
      row (price (w + cost) cost) r 0 e 0,
      record {
        keyed = refl;
        on = a_leaf p q;
        owns = refl;
        parts = λ B C v rule. let z : ◌≡◌ {A = ℕ} 0 1 = cc in absurd (omega arith);
      },
    )
    candidate_sound (pair_key_lem {B} {C} {r} {w} {j} {o} {p} {q} splits reached) h some =
        let (cl, cr) = part_cells ready.in_chart splits in
        let (fl, fr) = pair_found t d c B C w r j p q some in
        let (vl, hl) = ready.invariant.holds p cl fl in
        let (vr, hr) = ready.invariant.holds q cr fr in (
          row (joined w (row_price vl) (row_price vr)) r j p q,
          record {
            keyed = pair_value t d c B C w r j p q vl vr hl.priced hr.priced;
            on = reached_frontier splits reached h (found_kept t d _ p fl) (found_kept t d _ q fr) hl.place hr.place;
            owns = reached_owner (omega (arith, splits.after)) reached;
            parts = λ B' C' w' rule'.
                let rule = splits.rule in
                let b : B' ≡ B = cc in
                let c' : C' ≡ C = cc in
                rw (b, c') (fl, fr);
          },
        )

    -- the frontier's rows have keys
    frontier_key : {b : ℕ} {v : Row} → FrontierIn g es c d.ranks b v → HasKey (row_back v)
    frontier_key (a_leaf {r = r} {e = e} p q) = record {
      rule = omega (arith, at_length g.rules r p, s.few_rules);
      split = omega arith;
      left = omega (arith, at_length es e q.0, s.few_edges);
      right = omega arith;
    }
    frontier_key (a_seed {r = r} p h₁ h₂ l m) = record {
      rule = omega (arith, at_length g.rules r p, s.few_rules);
      split = omega (arith, ready.in_chart.within, s.few_places);
      left = omega arith;
      right = omega arith;
    }
    frontier_key (right_follower {r = r} p h₁ h₂ h at hp hq l m) = record {
      rule = omega (arith, at_length g.rules r p, s.few_rules);
      split = omega (arith, ready.in_chart.within, s.few_places);
      left = omega (arith, s.few_ranks);
      right = omega (arith, s.few_ranks);
    }
    frontier_key (left_follower {r = r} p h₁ h₂ h at hp l m) = record {
      rule = omega (arith, at_length g.rules r p, s.few_rules);
      split = omega (arith, ready.in_chart.within, s.few_places);
      left = omega (arith, s.few_ranks);
      right = omega arith;
    }

    frontier_bound : {b : ℕ} {v : Row} → FrontierIn g es c d.ranks b v → (weight_in (row_price v) < 5592405) × (costs_in (row_price v) < weight_unit)
    frontier_bound {b} {v} on =
        let (z, o) = frontier_row g es c.head c.from c.to d.ranks b on in
        rw (row_price_lem g es o) (s.price_bound c z ready.in_chart.within (row_derives g es o))

    pub frontier_fits : {b : ℕ} {v : Row} → FrontierIn g es c d.ranks b v → RowFits v
    frontier_fits on = record { has_key = frontier_key on; cheap = (frontier_bound on).1 }

    pub frontier_some : {b : ℕ} {v : Row} → FrontierIn g es c d.ranks b v → row_key v < no_key
    frontier_some {b} {v} on = key_some v (frontier_fits on) (frontier_bound on).0

    -- the least key of the candidates that follow o is the least candidate's
    pub fresh : (l : Row) (o : ℕ) {f : ℕ → ℕ} → o ≤ n → Selects (row_key l) (Candidate g es c d t o) f
        → FreshIn g es d t c n l o (f no_key)
    fresh l o {f} h picks = go (dec_lt (f no_key) no_key) (picks.from no_key)
      where
        least : (v : Row) → FrontierIn g es c d.ranks n v → OwnerOf g es c v o → row_key l < row_key v → f no_key ≤ row_key v
        least v on owns above =
            let e = owner_unique g es c v (owned g es c d.ranks n on).1 owns in
            picks.least no_key (row_key v)
            (subst (λ (x : ℕ). Candidate g es c d t x (row_key v)) e (candidate_complete on)) above

        go : Dec (f no_key < no_key) → (f no_key ≡ no_key) ⊎ ((row_key l < f no_key) × Candidate g es c d t o (f no_key))
            → FreshIn g es d t c n l o (f no_key)
        go (no over) _ = record { candidate = l; some = λ some. absurd (over some); least = least }
        go (yes some) (inl e) = absurd (omega arith)
        go (yes some) (inr (above, key)) =
            let (v, st) = candidate_sound key h some in
            record {
              candidate = v;
              some = λ _. record {
                keyed = st.keyed;
                fits = frontier_fits st.on;
                on = st.on;
                owns = st.owns;
                below = omega arith;
                above = omega (arith, st.keyed);
                more = st.parts;
              };
              least = least;
            }
