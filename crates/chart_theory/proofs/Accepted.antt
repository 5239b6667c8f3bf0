-- What the chart's callers need: with an accepted grammar and what was heard, slots or a graph, in flat arrays, enumerating finds
-- derivation's least derivations. For the index that it makes is one, and the ranges of accepted meanings meet all that the theory
-- assumes.
use mathlib.Core.Path.{◌≡◌, refl, sym, ap, ◌∙◌}
use mathlib.Core.Bool.{true, false}
use mathlib.Core.List.{List, ◌++◌}
use Prim.Native.Nat.{ℕ, suc, ◌+◌, ◌-◌, ◌*◌, ◌/◌, ◌%◌, ◌≤◌, ◌<◌}
use native.Mathlib.Nat.{le_refl}
use native.Mathlib.Decide.{dec_lt}
use native.Mathlib.Omega.{arith}
use lib.ListN.{length, get_or, replicate, length-take, length-replicate}
use borrow.Author.Tests.{eq-eqb, ne_eqb}
use Rattle.packing.specs.Meaning.{Grammar, Heard, slots, graph, last_place, heard_edges}
use Rattle.packing.specs.Utterance.{utterance_entries}
use Rattle.packing.specs.Valid.{ValidGrammar, ValidHeard}
use Rattle.packing.specs.Flat.{Begins, rule_numbers, edge_numbers}
use Rattle.packing.proofs.Flat.{rule_at_lem, edge_at_lem}
use Rattle.packing.proofs.Graph.{valid_places, valid_edge_count}
use Rattle.packing.proofs.Redrawn.{slots_edges}
use Rattle.derivation.specs.Derivation.{At, Tree, Derivation, weight}
use Rattle.derivation.specs.Order.{cost_sum}
use Rattle.derivation.specs.HeardList.{derivations, least_derivations}
use Rattle.derivation.proofs.Lists.{at_take}
use Rattle.derivation.proofs.Rows.{Price, price, weight_in, costs_in, row_price, row_price_lem}
use Rattle.derivation.proofs.Ranges.{all_at, Within, valid_rules, valid_sizes, valid_within, valid_light}
use Rattle.derivation.proofs.Paths.{forward_weight, forward_costs}
use Rattle.derivation.proofs.HeardReadings.{heard_forward, heard_cheap, heard_last, heard_one_edge}
use Rattle.chart_table.specs.declared.Cell.{Cell}
use Rattle.chart_table.specs.declared.Layout.{Layout}
use Rattle.chart_keys.specs.Keys.{weight_unit}
use Rattle.chart_table.specs.Table.{root, cell_number, entry_of, price_at, clear}
use Rattle.chart_classes.specs.Classes.{index_numbers}
use Rattle.chart_index.specs.Build.{make_index}
use Rattle.chart_index.proofs.Index.{indexed}
use Rattle.chart_search.specs.Search.{next_of_root}
use Rattle.chart_trace.specs.declared.checked.Scope.{Scope}
use Rattle.chart.specs.Chart.{lay_out, enumerate, roots_found, root_weight, root_found, root_spelled}
use Rattle.chart_theory.specs.Spelled.{names_edges, Spelled, SpelledReading}
use Rattle.chart_theory.proofs.Table.Keys.{price_number}
use Rattle.chart_theory.proofs.Table.Cells.{InChart, ranked_in}
use Rattle.chart_theory.proofs.Table.Entries.{entry_four, found_kept, same_entry}
use Rattle.chart_theory.proofs.Invariant.{Setting, Found}
use Rattle.chart_theory.proofs.Search.Trace.{found_spelled}
use Rattle.chart_theory.proofs.Search.Passes.{Listed, next_known}
use Rattle.chart_theory.proofs.Chart.{
  RootHas,
  RootSpells,
  Lists,
  search_lists,
  FirstIs,
  search_firsts,
  root_sound,
  root_complete,
  known_step,
  first_listed,
  front_size,
}

-- there is a place behind the first, and at most 7 edges for each slot, or 96
pub heard_sizes : (W : ℕ) (h : Heard) → ValidHeard W h → (1 ≤ last_place h) × (length (heard_edges h) ≤ 168)
unfolding utterance_entries
heard_sizes W (slots u) ((some, few), f) = (some, omega (arith, slots_edges W 0 u f))
heard_sizes W (graph h) v = (omega (arith, valid_places W h v), omega (arith, valid_edge_count W h v))

-- what a trace is checked against
abbrev pub scope : Grammar → Heard → Scope
scope g h = record { rules = length g.rules; edges = length (heard_edges h); named = names_edges h }

-- weight and costs of a price plus 1
price_parts : {n : ℕ} (a : Price) → n ≡ price_number a + 1 → costs_in a < weight_unit → ((n - 1) / weight_unit ≡ weight_in a)
    × ((n - 1) % weight_unit ≡ costs_in a)
price_parts (price w s) e cheap = rw e (omega arith, omega arith)

module _ (g : Grammar) (h : Heard) (N : ℕ) where
  -- the layout of a table for N readings
  abbrev pub layout : Layout
  layout = lay_out g.symbols (last_place h) N

  -- rank x, from 0, as a table has it, is the derivation z
  pub record HoldsRank (rules t : List ℕ) (x : ℕ) (z : Tree) : Type 0 where
    pub place : At (least_derivations g h N) x z
    pub has : RootHas g (heard_edges h) rules layout t x z

  -- a table holds the list of the N least derivations, of which there are m, and is zeros once it is cleared
  pub record Holds (rules t : List ℕ) (m : ℕ) : Type 0 where
    pub number : length (least_derivations g h N) ≡ m
    pub each : (x : ℕ) → x < m → (z : Tree) × HoldsRank rules t x z
    pub clears : clear t layout ≡ replicate (length t) 0

  -- ranked trees are the least derivations
  holds : (rules t : List ℕ) → Lists g (heard_edges h) rules layout t → Holds rules t (roots_found t layout)
  unfolding lay_out
  holds rules t lists = record { number = number; each = each; clears = lists.clears }
    where
      number : length (least_derivations g h N) ≡ roots_found t layout
      number = length-take N (derivations g h) ∙ sym lists.number

      each : (x : ℕ) → x < roots_found t layout → (z : Tree) × HoldsRank rules t x z
      each x l =
          let (z, rank) = lists.each x l in
          let kept : x < N = omega (arith, lists.number) in
          (z, record { place = (at_take N (derivations g h) x z).1 (rank.place, kept); has = rank.has })

  module _ (okg : ValidGrammar g) (okh : ValidHeard g.words h) (least : 1 ≤ N) (most : N ≤ 256) (rules edge-array : List ℕ)
      (has_rules : Begins (rule_numbers g) rules) (has-edges : Begins (edge_numbers (heard_edges h)) edge-array) where
    abbrev index : List ℕ
    index = make_index rules (length g.rules) g.symbols edge-array (length (heard_edges h)) (last_place h) (replicate index_numbers 0)

    few_places : last_place h ≤ 31
    few_places = omega (arith, heard_last g.words h okh)

    few_edges : length (heard_edges h) ≤ 256
    few_edges = omega (arith, heard_sizes g.words h okh)

    setting : Setting g (heard_edges h) rules edge-array index layout
    unfolding lay_out
    setting = record {
      kept = least;
      few_ranks = most;
      planned = refl;
      few_places = few_places;
      few_rules = valid_rules g okg;
      few_edges = few_edges;
      rule_at_lem = λ r. rule_at_lem g rules r has_rules;
      edge_at_lem = λ e. edge_at_lem (heard_edges h) edge-array e has-edges;
      indexed = indexed rules (length g.rules) g.symbols edge-array (length (heard_edges h)) (last_place h) (replicate index_numbers 0)
          (valid_rules g okg) (valid_sizes g okg).1 few_edges few_places (rw length-replicate (le_refl index_numbers));
      parts = λ A B C r w p.
          let (a, b, c) = all_at (Within g.symbols g.words) g.rules r (valid_within g okg) p in (b, c);
      price_bound = λ c z within p.
          let forward = heard_forward g.words h okh in
          let weight = forward_weight g (heard_edges h) forward (valid_light g okg) (heard_cheap g.words h okh) p in
          let costs = forward_costs g (heard_edges h) forward p in
          let n = heard_last g.words h okh in
          (omega arith, omega arith);
      one_edge = λ c r e f p q. heard_one_edge g.words h okh p q;
    }

    in_root : InChart layout (root layout)
    unfolding lay_out
    in_root = record { symbol = (valid_sizes g okg).0; order = (heard_sizes g.words h okh).0; within = le_refl _ }

    -- the table that the chart makes of enough zeros holds the N least derivations
    pub chart_holds : (size : ℕ) → 4 * g.symbols * (last_place h * (last_place h + 1) / 2) * N ≤ size
        → Holds rules (enumerate rules (length g.rules) edge-array (length (heard_edges h)) layout size)
        (roots_found (enumerate rules (length g.rules) edge-array (length (heard_edges h)) layout size) layout)
    unfolding enumerate lay_out
    chart_holds size room = holds rules _ (search_lists setting in_root size (omega arith))

    -- and the first tree of every cell
    pub chart_firsts : (size : ℕ) → 4 * g.symbols * (last_place h * (last_place h + 1) / 2) * N ≤ size → (c : Cell) → InChart layout c
        → FirstIs g (heard_edges h) layout (enumerate rules (length g.rules) edge-array (length (heard_edges h)) layout size) c
    unfolding enumerate lay_out
    chart_firsts size room = search_firsts setting in_root size (omega arith)

    -- one by one: where the ranks of the root are known up to x, the next is known after a further step
    pub next_reached : (x : ℕ) (t : List ℕ) → x + 1 < N → Listed g (heard_edges h) layout x t
        → Listed g (heard_edges h) layout (suc x) (next_of_root rules edge-array index layout t x)
    unfolding lay_out
    next_reached x t more listed = next_known setting in_root x t (omega arith) listed

    -- the first is, where the chart has filled the front of enough zeros, in a layout of one rank
    pub first_reached : (rest : ℕ) → 4 * (layout.cells * N) ≤ 4 * layout.cells + rest
        → Listed g (heard_edges h) layout 0
        (enumerate rules (length g.rules) edge-array (length (heard_edges h)) (lay_out g.symbols (last_place h) 1) (4 * layout.cells) ++ replicate rest 0)
    unfolding enumerate lay_out
    first_reached rest room = first_listed setting in_root rest room

    pub front_filled : length (enumerate rules (length g.rules) edge-array (length (heard_edges h)) (lay_out g.symbols (last_place h) 1) (4 * layout.cells))
        ≡ 4 * layout.cells
    unfolding enumerate lay_out
    front_filled = front_size setting in_root

    -- in any table, what passes the checked back trace is a derivation whose reading is spelled, and a derivation whose reading is spelled passes
    pub passed_spelled : (t : List ℕ) (x : ℕ) → root_spelled t rules edge-array (scope g h) layout x ≡ true
        → (z : Tree) × Derivation g h z × RootSpells (names_edges h) g (heard_edges h) rules layout t x z × SpelledReading g h layout t x z
    unfolding lay_out root_weight
    passed_spelled t x e =
        let (z, derived, has, spelled) = root_sound setting in_root (names_edges h) t x e in
        (z, derived, has, record { tree = spelled; weighs = has.weighs })

    pub spelled_passed : (t : List ℕ) (x : ℕ) (z : Tree) → Derivation g h z → SpelledReading g h layout t x z
        → root_spelled t rules edge-array (scope g h) layout x ≡ true
    unfolding lay_out root_weight
    spelled_passed t x z derived reading = root_complete setting in_root (names_edges h) t x derived reading.tree reading.weighs

    -- where the ranks of the root are known up to x, rank x is the derivation of that place, or there is none
    pub record Reached (t : List ℕ) (x : ℕ) : Type 0 where
      pub some : x < length (derivations g h)
          → (root_found t layout x ≡ true) × (root_spelled t rules edge-array (scope g h) layout x ≡ true) × ((z : Tree) × HoldsRank rules t x z)
      pub none : length (derivations g h) ≤ x → root_found t layout x ≡ false

    pub rank_reached : (t : List ℕ) (x : ℕ) → Listed g (heard_edges h) layout x t → x < N → Reached t x
    unfolding lay_out root_found
    rank_reached t x listed kept =
        let step = known_step setting in_root t x listed kept in
        record {
          some = λ below.
              let (found, passes, (z, rank)) = step.some below in (
                rw (ne_eqb (price_at t layout (cell_number layout (root layout)) x) 0 (λ e. omega (arith, e, found))),
                passes (names_edges h),
                (z, record { place = (at_take N (derivations g h) x z).1 (rank.place, kept); has = rank.has }),
              );
          none = λ beyond. rw (eq-eqb (price_at t layout (cell_number layout (root layout)) x) 0 (step.none beyond));
        }

    -- what stands at a rank of a cell: the tree of that place, spelled, with its weight and its costs
    pub record Stands (t : List ℕ) (c : Cell) (x : ℕ) : Type 0 where
      pub tree : Tree
      pub place : At (ranked_in g (heard_edges h) c) x tree
      pub spelled : Spelled g (names_edges h) layout t tree c x
      pub weighs : (price_at t layout (cell_number layout c) x - 1) / weight_unit ≡ weight g (heard_edges h) tree
      pub costs : (price_at t layout (cell_number layout c) x - 1) % weight_unit ≡ cost_sum (heard_edges h) tree

    module _ (k : ℕ) (t : List ℕ) (listed : Listed g (heard_edges h) layout k t) {c : Cell} (in_chart : InChart layout c) (x : ℕ) where
      pub found_stands : Found layout t c x → Stands t c x
      unfolding lay_out
      found_stands found =
          let (v, held) = listed.invariant.holds x in_chart found in
          let (z, place, o) = held.place in
          let (w, s) = price_parts (row_price v) held.priced held.fits.cheap in
          let priced = row_price_lem g (heard_edges h) o in
          record {
            tree = z;
            place = place;
            spelled = found_spelled setting t listed.invariant (names_edges h) (last_place h) c x z in_chart (omega (arith, in_chart.within)) found place;
            weighs = w ∙ ap weight_in priced;
            costs = s ∙ ap costs_in priced;
          }

      -- and where none is found, each of the entry's four numbers is 0
      pub nothing_stands : x < N → price_at t layout (cell_number layout c) x ≡ 0 → (y : ℕ) → y < 4
          → get_or t (entry_of layout (cell_number layout c) x + y) 0 ≡ 0
      unfolding lay_out
      nothing_stands kept none y few = go (dec_lt 0 (get_or t (entry_of layout (cell_number layout c) x + y) 0))
        where
          go : Dec (0 < get_or t (entry_of layout (cell_number layout c) x + y) 0) → get_or t (entry_of layout (cell_number layout c) x + y) 0 ≡ 0
          go (yes some) =
              let (c', x', in-chart', found, (low, high)) = listed.invariant.nonzero_found _ some in
              let e : entry_of layout (cell_number layout c) x ≡ entry_of layout (cell_number layout c') x' =
              omega (arith, entry_four layout (cell_number layout c) x, entry_four layout (cell_number layout c') x', low, high, few) in
              let same = same_entry t layout (cell_number layout c) x (cell_number layout c') x' kept (found_kept t layout (cell_number layout c') x' found)
              e in
              absurd (omega (arith, same, none, found))
          go (no nothing) = omega (arith, nothing)
