-- The tables that a first call and a later one search: what stays and what they gain, and that the ranks of the root are known in them where they were
-- left so.
use mathlib.Core.Path.{◌≡◌, refl, ap, ◌∙◌}
use mathlib.Core.Bool.{true}
use mathlib.Core.List.{List}
use Prim.Native.Nat.{ℕ, zero, suc, ◌+◌, ◌-◌, ◌*◌, ◌≤◌, ◌<◌}
use native.Mathlib.Omega.{arith}
use lib.Dec.{eqb-suc-zero}
use lib.ListN.{length, take, drop, replicate, length-replicate}
use Rattle.packing.specs.Meaning.{Grammar, Heard, last_place, heard_edges}
use Rattle.packing.specs.Flat.{Begins, rule_numbers, edge_numbers}
use Rattle.packing.specs.Valid.{ValidGrammar, ValidHeard}
use Rattle.packing.specs.declared.Sym.{Sym}
use Rattle.chart_table.specs.declared.Layout.{Layout}
use Rattle.chart_steps.proofs.Added.{search_adds}
use Rattle.chart_steps.proofs.Kept.{search_keeps}
use Rattle.chart.specs.Chart.{lay_out, enumerate}
use Rattle.chart.proofs.Front.{take_zeros}
use Rattle.chart_theory.proofs.Accepted.{layout, heard_sizes, first_reached, next_reached, front_filled}
use Rattle.chart_theory.proofs.Search.Passes.{Listed}
use Rattle.chart_theory.proofs.Table.Entries.{cell_below}
use Rattle.chart.specs.WorkTable.{table_size}
use Rattle.open_listing.specs.Open as S
use Rattle.open_listing.specs.Stands.{Over}
use Rattle.open_search.specs.Model.{zeros, first_table, next_table, seeks, table_by}
use Rattle.open_search.specs.declared.Place.{Place}
use Rattle.open_listing.proofs.Plans.{plan}
use Rattle.open_listing.proofs.Counted as counted
use Rattle.open_listing.proofs.Stands.{number_of, entry_found, entry_stays}
use Rattle.open_listing.proofs.Sums.{over_is, ranks_are}
use Rattle.open_listing.proofs.Standing.{in_chart}
use Rattle.open_search.proofs.Zeros.{zeros_all, drop_zeros}

module _ (g : Grammar) (h : Heard) (okg : ValidGrammar g) (okh : ValidHeard g.words h) (rules edges : List ℕ) (begun : Begins (rule_numbers g) rules)
    (begun' : Begins (edge_numbers (heard_edges h)) edges) (work : List ℕ) where
  abbrev d : Layout
  d = layout g h 256

  below : {A : Sym} {i k : ℕ} → Over g h A i k → number_of g h A i k < d.cells
  unfolding lay_out
  below over = cell_below refl (in_chart over)

  -- a first call that looks for a rank
  module _ (p : Place) (sought : S.LooksFor g h p work) (none : p.handed ≡ 0) where
    pub first_looked : S.Looked g h p work (first_table rules edges (plan g h) work)
    unfolding first_table lay_out
    first_looked =
        let e = enumerate rules (length g.rules) edges (length (heard_edges h)) (lay_out g.symbols (last_place h) 1) (4 * d.cells) in
        let size = front_filled g h 256 okg okh (omega arith) (omega arith) rules edges begun begun' in
        record {
          stays = λ A i k x over y is.
              let found = (entry_found g h work A i k x is).0 in
              let (price, back) = counted.first_stays d e work size (sought.front_zero none) (number_of g h A i k) x (below over) found in
              entry_stays g h work _ A i k x price back ∙ is;
          first_adds = λ z A i k over. rw (over_is g h _ A i k, over_is g h work A i k) (counted.first_adds d e work size (number_of g h A i k));
          later_adds = λ some. absurd (omega arith);
          as_it_stands = λ unsought. absurd (unsought sought);
        }

  -- a call that looks for none
  pub same_looked : (p : Place) → S.Looked g h p work work
  same_looked p = record {
    stays = λ A i k x over y is. is;
    first_adds = λ z A i k over. omega arith;
    later_adds = λ some. omega arith;
    as_it_stands = λ unsought. refl;
  }

  -- a later call
  pub later_looked : (p : Place) → S.LooksFor g h p work → 1 ≤ p.handed → S.Looked g h p work (next_table rules edges (plan g h) (p.handed - 1) work)
  unfolding next_table lay_out
  later_looked p sought some = record {
    stays = λ A i k x over y is.
        let found = (entry_found g h work A i k x is).0 in
        let (price, back) = search_keeps rules edges _ d work (p.handed - 1) (number_of g h A i k) x found in
        entry_stays g h work _ A i k x price back ∙ is;
    first_adds = λ z. absurd (omega arith);
    later_adds = λ z.
        rw (ranks_are g h _, ranks_are g h work)
        (search_adds (d.cells * d.ranks) rules edges _ d work (p.handed - 1) (heard_sizes g.words h okh).0);
    as_it_stands = λ unsought. absurd (unsought sought);
  }

  -- from zeros
  module _ (room : table_size g.symbols (last_place h) 256 ≤ length work) (is : work ≡ replicate (length work) 0) where
    pub front_zero : S.FrontZero g h work
    unfolding table_size lay_out
    front_zero = ap (take (4 * d.cells)) is ∙ take_zeros (length work) (4 * d.cells) (omega (arith, room))

    pub first_known : Listed g (heard_edges h) d 0 (first_table rules edges (plan g h) work)
    unfolding first_table table_size lay_out
    first_known =
        let rest : drop (4 * d.cells) work ≡ replicate (length work - 4 * d.cells) 0 = ap (drop (4 * d.cells)) is
        ∙ drop_zeros (length work) (4 * d.cells) in
        rw rest (first_reached g h 256 okg okh (omega arith) (omega arith) rules edges begun begun' (length work - 4 * d.cells) (omega (arith, room)))

  pub later_known : (x : ℕ) → x + 1 < 256 → Listed g (heard_edges h) d x work → Listed g (heard_edges h) d (suc x) (next_table rules edges (plan g h) x work)
  unfolding next_table lay_out
  later_known x more known = next_reached g h 256 okg okh (omega arith) (omega arith) rules edges begun begun' x work more known

-- the tables that calls leave, one after another
module _ (g : Grammar) (h : Heard) (okg : ValidGrammar g) (okh : ValidHeard g.words h) (rules edges : List ℕ) (begun : Begins (rule_numbers g) rules)
    (begun' : Begins (edge_numbers (heard_edges h)) edges) (search : S.Search)
    (makes : (p : Place) (work : List ℕ) → search g h p work ≡ table_by rules edges (plan g h) p work) (size : ℕ)
    (enough : table_size g.symbols (last_place h) 256 ≤ size) where
  first_left : Listed g (heard_edges h) (layout g h 256) 0 (search g h (S.place_of 0) (replicate size 0))
  unfolding table_by seeks lay_out
  first_left =
      let work = replicate {A = ℕ} size 0 in
      let long : length work ≡ size = length-replicate size 0 in
      let room : table_size g.symbols (last_place h) 256 ≤ length work = rw long enough in
      let is : work ≡ replicate (length work) 0 = rw long in
      let front = front_zero g h okg okh rules edges begun begun' work room is in
      let clear : zeros (take (4 * (layout g h 256).cells) work) ≡ true = ap zeros front ∙ zeros_all (4 * (layout g h 256).cells) in
      rw (makes (S.place_of 0) work, clear) (first_known g h okg okh rules edges begun begun' work room is)

  next_left : (x : ℕ) → x + 1 < 256 → (work : List ℕ) → Listed g (heard_edges h) (layout g h 256) x work
      → Listed g (heard_edges h) (layout g h 256) (suc x) (search g h (S.place_of (suc x)) work)
  unfolding table_by seeks
  next_left x few work listed =
      let last : suc x - 1 ≡ x = omega arith in
      rw (makes (S.place_of (suc x)) work, eqb-suc-zero x, last) (later_known g h okg okh rules edges begun begun' work x few listed)

  pub left_listed : (k : ℕ) → k < 256 → Listed g (heard_edges h) (layout g h 256) k (S.table_after search g h size (suc k))
  left_listed zero few = first_left
  left_listed (suc k) few = next_left k (omega arith) (S.table_after search g h size (suc k)) (left_listed k (omega arith))
