-- The chart's theorem: from a table of zeros the search finds the ranked derivations of the root, the least first, each at its
-- rank, as many as are kept or as there are; a found rank has the weight of its derivation, its back trace has the nodes of the derivation, and
-- clearing the entries found leaves zeros. For the search keeps the invariant, and in the end knows every rank that is kept, and the first of
-- every cell.
use mathlib.Core.Path.{◌≡◌, refl, sym, ap, ◌∙◌}
use mathlib.Core.Bool.{Bool, true, false, false≢true}
use mathlib.Core.Option.{Option, none, some}
use mathlib.Core.List.{List, [], ◌++◌, map}
use Prim.Native.Nat.{ℕ, zero, suc, ◌+◌, ◌-◌, ◌*◌, ◌/◌, ◌≤◌, ◌<◌, min}
use native.Mathlib.Nat.{le_refl}
use native.Mathlib.Decide.{dec_lt}
use native.Mathlib.Omega.{arith}
use lib.ListN.{length, get_elem?, replicate, length-replicate, replicate-append-replicate}
use borrow.Author.Tests.{eqb-true, eq-eqb}
use Rattle.packing.specs.Meaning.{Grammar, Edge}
use Rattle.packing.specs.Flat.{node_rule, nodes_in}
use Rattle.derivation.specs.Derivation.{At, Tree, weight}
use Rattle.derivation.specs.Heard.{trace}
use Rattle.derivation.proofs.Lists.{none≢some, at_length}
use Rattle.derivation.proofs.Rows.{Price, price, weight_in, costs_in, row_price, row_price_lem, row_derives}
use Rattle.chart_keys.specs.Keys.{weight_unit}
use Rattle.chart_table.specs.declared.Cell.{Cell}
use Rattle.chart_table.specs.declared.Layout.{Layout}
use Rattle.chart_table.specs.Table.{root, cell_number, clear}
use Rattle.chart_search.specs.Search.{further_from, search}
use Rattle.chart_trace.specs.Checked.{spelled_weight}
use Rattle.chart.specs.Chart.{roots_found, root_weight, root_trace, weighs, root_spelled}
use Rattle.chart_theory.specs.Spelled.{Spelled}
use Rattle.chart_theory.proofs.Table.Keys.{price_number}
use Rattle.chart_theory.proofs.Table.Cells.{InChart, ranked_in, DerivesIn}
use Rattle.chart_theory.proofs.Table.Entries.{cell_below, found_kept}
use Rattle.chart_theory.proofs.Table.Cleared.{clear_zeros}
use Rattle.chart_theory.proofs.Invariant.{Setting, price_in, Found, Invariant}
use Rattle.chart_theory.proofs.Search.Passes.{Zeros, zeros_invariant, Listed, pass_listed, search_known, found_exactly, first_missing_lem}
use Rattle.chart_theory.proofs.Search.Trace.{SameNodes, traced, found_spelled}
use Rattle.chart_theory.proofs.Search.Checked.{scope, weighed, spelled_sound}
use Rattle.chart_theory.proofs.Plane.{single, pass_plane, pass_size}

-- rank x of the root has the weight of the tree z, and its back trace has the nodes
pub record RootHas (g : Grammar) (es : List Edge) (rules : List ℕ) (d : Layout) (t : List ℕ) (x : ℕ) (z : Tree) : Type 0 where
  pub weighs : root_weight t d x ≡ weight g es z
  pub nodes : nodes_in rules (root_trace t rules d x) ≡ trace z

-- or, where leaves do not name their edges, the rules of the nodes
pub record RootSpells (named : Bool) (g : Grammar) (es : List Edge) (rules : List ℕ) (d : Layout) (t : List ℕ) (x : ℕ) (z : Tree) : Type 0 where
  pub weighs : root_weight t d x ≡ weight g es z
  pub nodes : SameNodes named (nodes_in rules (root_trace t rules d x)) (trace z)

pub has_spells : (named : Bool) {g : Grammar} {es : List Edge} {rules : List ℕ} {d : Layout} {t : List ℕ} {x : ℕ} {z : Tree} → RootHas g es rules d t x z
    → RootSpells named g es rules d t x z
has_spells true has = record { weighs = has.weighs; nodes = has.nodes }
has_spells false has = record { weighs = has.weighs; nodes = ap (map node_rule) has.nodes }

-- and it is the tree of that place
pub record RankIs (g : Grammar) (es : List Edge) (rules : List ℕ) (d : Layout) (t : List ℕ) (x : ℕ) (z : Tree) : Type 0 where
  pub place : At (ranked_in g es (root d)) x z
  pub has : RootHas g es rules d t x z

-- as many ranks of the root are found as are kept, or as there are, and each is the tree of its place; clearing leaves zeros
pub record Lists (g : Grammar) (es : List Edge) (rules : List ℕ) (d : Layout) (t : List ℕ) : Type 0 where
  pub number : roots_found t d ≡ min d.ranks (length (ranked_in g es (root d)))
  pub each : (x : ℕ) → x < roots_found t d → (z : Tree) × RankIs g es rules d t x z
  pub clears : clear t d ≡ replicate (length t) 0

-- rank 0 of a cell is its first tree, by its weight
pub record FirstIs (g : Grammar) (es : List Edge) (d : Layout) (t : List ℕ) (c : Cell) : Type 0 where
  pub some : (z : Tree) → At (ranked_in g es c) 0 z → Found d t c 0 × ((price_in d t c 0 - 1) / weight_unit ≡ weight g es z)
  pub none : get_elem? (ranked_in g es c) 0 ≡ none → price_in d t c 0 ≡ 0

-- the weight of a price
weight_of : {n : ℕ} (a : Price) → n ≡ price_number a + 1 → costs_in a < weight_unit → (n - 1) / weight_unit ≡ weight_in a
weight_of (price w s) e cheap = rw e (omega arith)

replicate_zeros : (len : ℕ) → Zeros (replicate len 0)
replicate_zeros zero y = refl
replicate_zeros (suc len) zero = refl
replicate_zeros (suc len) (suc y) = replicate_zeros len y

module _ {g : Grammar} {es : List Edge} {rules edges index : List ℕ} {d : Layout} (s : Setting g es rules edges index d) where
  invariant_clears : {m : ℕ} {t : List ℕ} → Invariant g es d m t → clear t d ≡ replicate (length t) 0
  invariant_clears {t = t} invariant =
      clear_zeros d t invariant.room s.kept (λ z h.
      let (c, x, in_chart, found, in_entry) = invariant.nonzero_found z h in (
        cell_number d c,
        x,
        cell_below s.planned in_chart,
        found_kept t d _ x found,
        invariant.last x in_chart found,
        in_entry,
      ))

  first_is : {t : List ℕ} → Invariant g es d (suc d.last) t → (c : Cell) → InChart d c → FirstIs g es d t c
  first_is {t} invariant c in_chart = record {
    some = λ z e.
        let found = invariant.first_known in_chart (omega (arith, in_chart.within)) s.kept (at_length (ranked_in g es c) 0 e) in
        let (v, held) = invariant.holds 0 in_chart found in
        let (z', place, o) = held.place in
        let same : z' ≡ z = cc in
        (found, weight_of (row_price v) held.priced held.fits.cheap ∙ ap weight_in (row_price_lem g es o) ∙ ap (weight g es) same);
    none = λ e. go e (dec_lt 0 (price_in d t c 0));
  }
    where
      go : get_elem? (ranked_in g es c) 0 ≡ none → Dec (0 < price_in d t c 0) → price_in d t c 0 ≡ 0
      go e (yes found) =
          let (v, held) = invariant.holds 0 in_chart found in
          let (z, place, o) = held.place in absurd (none≢some (sym e ∙ place))
      go e (no absent) = omega arith

  module _ (in_root : InChart d (root d)) where
    -- a rank of the root that is found spells the tree of that place
    pub rank_found : {k : ℕ} (t : List ℕ) → Listed g es d k t → (x : ℕ) → Found d t (root d) x
        → (z : Tree) × RankIs g es rules d t x z × DerivesIn g es (root d) z × ((named : Bool) → Spelled g named d t z (root d) x)
    unfolding root_weight root_trace
    rank_found t listed x found =
        let (v, held) = listed.invariant.holds x in_root found in
        let (z, place, o) = held.place in
        let derives = row_derives g es o in
        let spelled : (named : Bool) → Spelled g named d t z (root d) x =
        λ named. found_spelled s t listed.invariant named d.last (root d) x z in_root (omega arith) found place in (
          z,
          record {
            place = place;
            has = record {
              weighs = weight_of (row_price v) held.priced held.fits.cheap ∙ ap weight_in (row_price_lem g es o);
              nodes = traced s t true d.last (root d) x z (spelled true) derives in_root.order (omega arith);
            };
          },
          derives,
          spelled,
        )

    -- in any table, what passes the checked back trace spells a tree
    pub root_sound : (named : Bool) (t : List ℕ) (x : ℕ) → root_spelled t rules edges (scope s named) d x ≡ true
        → (z : Tree) × DerivesIn g es (root d) z × RootSpells named g es rules d t x z × Spelled g named d t z (root d) x
    unfolding root_spelled root_trace
    root_sound named t x e = go (spelled_weight t rules edges (scope s named) d d.last (root d) x) refl e
      where
        go : (o : Option ℕ) → spelled_weight t rules edges (scope s named) d d.last (root d) x ≡ o → weighs o (root_weight t d x) ≡ true
            → (z : Tree) × DerivesIn g es (root d) z × RootSpells named g es rules d t x z × Spelled g named d t z (root d) x
        go none h e = absurd (false≢true e)
        go (some w) h e =
            let (z, derives, spelled) = spelled_sound s named t d.last (root d) x w h in
            let sum = weighed s named t d.last (root d) x spelled derives in_root.order (omega arith) in
            let same : w ≡ weight g es z = cc in (
              z,
              derives,
              record {
                weighs = sym (eqb-true _ _ e) ∙ same;
                nodes = traced s t named d.last (root d) x z spelled derives in_root.order (omega arith);
              },
              spelled,
            )

    -- and what spells a tree of the weight that its price says passes
    pub root_complete : (named : Bool) (t : List ℕ) (x : ℕ) {z : Tree} → DerivesIn g es (root d) z → Spelled g named d t z (root d) x
        → root_weight t d x ≡ weight g es z → root_spelled t rules edges (scope s named) d x ≡ true
    unfolding root_spelled
    root_complete named t x derives spelled weighs =
        rw (weighed s named t d.last (root d) x spelled derives in_root.order (omega arith)) (eq-eqb _ _ (sym weighs))

    module _ (t : List ℕ) (listed : Listed g es d (d.ranks - 1) t) where
      number : roots_found t d ≡ min d.ranks (length (ranked_in g es (root d)))
      unfolding roots_found
      number = first_missing_lem t d (cell_number d (root d)) _ (λ x kept. found_exactly s in_root (d.ranks - 1) t listed x (omega arith) kept)

      each : (x : ℕ) → x < roots_found t d → (z : Tree) × RankIs g es rules d t x z
      each x h =
          let found = (found_exactly s in_root (d.ranks - 1) t listed x (omega (arith, number)) (omega (arith, number))).1 (omega (arith, number)) in
          let (z, rank, derives, spelled) = rank_found t listed x found in
          (z, rank)

    -- the first rank of every cell is found, with the weight of the cell's first tree, or the cell has none
    pub search_firsts : (size : ℕ) → 4 * (d.cells * d.ranks) ≤ size → (c : Cell) → InChart d c
        → FirstIs g es d (search rules edges index d (replicate size 0)) c
    search_firsts size room c in_chart =
        let zeros = zeros_invariant d (replicate size 0) (replicate_zeros size) g es (rw length-replicate room) in
        let listed = search_known s in_root (replicate size 0) zeros in
        first_is listed.invariant c in_chart

    pub search_lists : (size : ℕ) → 4 * (d.cells * d.ranks) ≤ size
        → Lists g es rules d (search rules edges index d (replicate size 0))
    search_lists size room =
        let zeros = zeros_invariant d (replicate size 0) (replicate_zeros size) g es (rw length-replicate room) in
        let listed = search_known s in_root (replicate size 0) zeros in
        record { number = number _ listed; each = each _ listed; clears = invariant_clears listed.invariant }

    -- the ranks of the root one by one. Rank x, known, is the tree of that place, and it passes the checked back trace, or there is none
    pub record Step (t : List ℕ) (x : ℕ) : Type 0 where
      pub some : x < length (ranked_in g es (root d))
          → Found d t (root d) x × ((named : Bool) → root_spelled t rules edges (scope s named) d x ≡ true) × ((z : Tree) × RankIs g es rules d t x z)
      pub none : length (ranked_in g es (root d)) ≤ x → price_in d t (root d) x ≡ 0

    pub known_step : (t : List ℕ) (x : ℕ) → Listed g es d x t → x < d.ranks → Step t x
    known_step t x listed kept =
        let exactly = found_exactly s in_root x t listed x (le_refl x) kept in
        record {
          some = λ h.
              let found = exactly.1 h in
              let (z, rank, derives, spelled) = rank_found t listed x found in (
                found,
                λ named. root_complete named t x derives (spelled named) rank.has.weighs,
                (z, rank),
              );
          none = λ h. go (dec_lt 0 (price_in d t (root d) x)) exactly.0 h;
        }
      where
        go : Dec (0 < price_in d t (root d) x) → (Found d t (root d) x → x < length (ranked_in g es (root d)))
            → length (ranked_in g es (root d)) ≤ x → price_in d t (root d) x ≡ 0
        go (yes found) known h = absurd (omega (arith, known found))
        go (no absent) known h = omega arith

    -- the first is known after a first pass in a table that keeps one rank of each cell, with what else was lent behind it
    pub first_listed : (rest : ℕ) → 4 * (d.cells * d.ranks) ≤ 4 * d.cells + rest
        → Listed g es d 0 (search rules edges index (single d) (replicate (4 * d.cells) 0) ++ replicate rest 0)
    unfolding search further_from
    first_listed rest room =
        let size = 4 * d.cells + rest in
        let zeros = zeros_invariant d (replicate size 0) (replicate_zeros size) g es (rw length-replicate room) in
        let plane = pass_plane s (replicate rest 0) (replicate (4 * d.cells) 0) (rw length-replicate refl) in
        rw (← plane, replicate-append-replicate {A = ℕ} (4 * d.cells) rest 0) (pass_listed s in_root (replicate size 0) zeros)

    pub front_size : length (search rules edges index (single d) (replicate (4 * d.cells) 0)) ≡ 4 * d.cells
    unfolding search further_from
    front_size = pass_size s [] (replicate (4 * d.cells) 0) (rw length-replicate refl)
