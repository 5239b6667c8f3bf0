-- The list from a pass over an utterance is N12's list: the pass leaves the first tree of every cell in the table (chart_theory), from these the
-- array of outside weights is filled, and the nodes of the first reading mark the edges that it uses.
use mathlib.Core.Path.{◌≡◌, refl, sym, ap, ◌∙◌}
use mathlib.Core.Bool.{Bool, true, false}
use mathlib.Core.List.{List, [], ◌∷◌, ◌++◌}
use Prim.Native.Nat.{ℕ, ◌+◌, ◌*◌, ◌/◌, ◌≤◌, ◌<◌}
use native.Mathlib.Nat.{le_refl, mul_assoc}
use native.Mathlib.Omega.{arith}
use native.Mathlib.Decide.{ℕ_discrete}
use lib.Dec.{eqb}
use lib.ListN.{length, get_or, set, length-set, replicate, length-replicate}
use lib.Seq.{get_or-set_same, get_or-set_other}
use borrow.Author.Tests.{eq-eqb, ne_eqb}
use Rattle.bits.specs.Bits.{pick}
use Rattle.packing.specs.Meaning.{symbol_of, Grammar, Utterance, edges, slots, Node, by_pair, by_word}
use Rattle.packing.specs.Flat.{Begins, rule_numbers, edge_numbers}
use Rattle.packing.specs.Utterance.{utterance_entries}
use Rattle.packing.specs.Valid.{ValidGrammar, ValidUtterance}
use Rattle.packing.proofs.Flat.{rule_at_lem, edge_at_lem}
use Rattle.packing.proofs.Redrawn.{slots_edges}
use Rattle.derivation.specs.Derivation.{Tree, leaf, node, weight}
use Rattle.derivation.specs.Heard.{trace}
use Rattle.derivation.proofs.Ranges.{valid_rules, valid_sizes, valid_within, valid_light, valid_ascending, valid_cheap, valid_slots}
use Rattle.derivation.proofs.Slots.{edges_short, edges_cheap}
use Rattle.cost_changes.specs.Costs.{edges_of, First}
use Rattle.cost_changes.specs.Listed.{has, listed_for, margins_of}
use Rattle.cost_changes.proofs.First.{first_place}
use Rattle.cost_changes.proofs.Inside.{inside_first}
use Rattle.chart_table.specs.Table.{cell, cell_number}
use Rattle.chart.specs.Chart.{lay_out, roots_found, root_weight}
use Rattle.chart_theory.proofs.Accepted.{layout, chart_firsts}
use Rattle.chart.specs.WorkTable.{table_size}
use Rattle.one_best.specs.declared.Pass.{Pass}
use Rattle.one_best.specs.Model.{table_by}
use Rattle.one_best.proofs.Found.{pass_of, pass_none, pass_some}
use Rattle.outside_entries.specs.Entries.{plain}
use Rattle.outside_theory.specs.Model.{fill}
use Rattle.outside_theory.proofs.Decoded.{read, inside_read}
use Rattle.outside_entries.proofs.Views.{inside_plain, zeros_read}
use Rattle.outside_theory.proofs.Source.{Source}
use Rattle.outside_theory.proofs.Filled.{fill_is}
use Rattle.margin_entries.proofs.Insertion.{upto_length}
use Rattle.word_margins.specs.Model.{use_node, use_nodes, first_used, table_list, pass_list}
use Rattle.word_margins.proofs.Collected.{entries_are}

-- the edges of a tree, marked
nodes_append : (used : List ℕ) (l m : List Node) → use_nodes used (l ++ m) ≡ use_nodes (use_nodes used l) m
unfolding use_nodes
nodes_append used [] m = refl
nodes_append used (x ∷ l) m = nodes_append (use_node used x) l m

has_append : (e : ℕ) (l m : List ℕ) → has e (l ++ m) ≡ pick (has e l) true (has e m)
unfolding has
has_append e [] m = refl
has_append e (x ∷ l) m = rw (has_append e l m) (go (eqb x e))
  where
    go : (b : Bool) → pick b true (pick (has e l) true (has e m)) ≡ pick (pick b true (has e l)) true (has e m)
    go true = refl
    go false = refl

nodes_length : (used : List ℕ) (l : List Node) → length (use_nodes used l) ≡ length used
unfolding use_nodes
nodes_length used [] = refl
nodes_length used (by_pair r ∷ l) = nodes_length used l
nodes_length used (by_word r e ∷ l) = nodes_length (set used e 1) l ∙ length-set used e 1

marked : (z : Tree) (used : List ℕ) (e : ℕ) → e < length used → get_or (use_nodes used (trace z)) e 0 ≡ pick (has e (edges_of z)) 1 (get_or used e 0)
unfolding trace edges_of has use_nodes
marked (leaf r f) used e l = go (ℕ_discrete f e)
  where
    go : Dec (f ≡ e) → get_or (set used f 1) e 0 ≡ pick (pick (eqb f e) true false) 1 (get_or used e 0)
    go (yes p) = rw (eq-eqb f e p, p) (get_or-set_same used e 1 0 l)
    go (no p) = rw (ne_eqb f e p) (get_or-set_other used f e 1 0 (λ q. p (sym q)))
marked (node r j a b) used e l =
    rw (nodes_append used (trace a) (trace b), has_append e (edges_of a) (edges_of b))
    (marked b (use_nodes used (trace a)) e (rw (nodes_length used (trace a)) l) ∙ rw (marked a used e l) (go (has e (edges_of a)) (has e (edges_of b))))
  where
    go : (p q : Bool) → pick q 1 (pick p 1 (get_or used e 0)) ≡ pick (pick p true q) 1 (get_or used e 0)
    go true true = refl
    go true false = refl
    go false q = refl

pub few_edges : (W : ℕ) (u : Utterance) → ValidUtterance W u → length (edges u) ≤ 168
unfolding utterance_entries
few_edges W u oku = omega (arith, slots_edges W 0 u oku.1, valid_slots W u oku)

module _ (g : Grammar) (okg : ValidGrammar g) (rules : List ℕ) (has_rules : Begins (rule_numbers g) rules) (size : ℕ) (u : Utterance)
    (oku : ValidUtterance g.words u) (array : List ℕ) (has-edges : Begins (edge_numbers (edges u)) array)
    (room : table_size g.symbols (length u) 1 ≤ size) (kept : length (table_by rules array (pass_of g u) size) ≡ size) where
  abbrev table : List ℕ
  table = table_by rules array (pass_of g u) size

  abbrev free : List ℕ
  free = replicate (length table / 4) 0

  few_cells : g.symbols * (length u * (length u + 1) / 2) ≤ length table / 4
  unfolding table_size
  few_cells = omega (arith, room, kept, mul_assoc 4 g.symbols (length u * (length u + 1) / 2))

  source : (z : Tree) → First g u z → Source g (edges u) rules (plain table) (layout g (slots u) 1)
  unfolding lay_out utterance_entries table_size
  source z first = record {
    planned = refl;
    few_rules = valid_rules g okg;
    few_symbols = (valid_sizes g okg).1;
    few_places = valid_slots g.words u oku;
    some_place = oku.0.0;
    some_symbol = (valid_sizes g okg).0;
    symbols = refl;
    within = valid_within g okg;
    light = valid_light g okg;
    short = edges_short u;
    cheap = edges_cheap u (valid_cheap g.words u oku);
    rule_at_lem = λ r. rule_at_lem g rules r has_rules;
    inner = λ A i k in_chart.
        ap read (inside_plain table (layout g (slots u) 1) (cell_number (layout g (slots u) 1) (cell A i k)))
        ∙ inside_read g (edges u) (layout g (slots u) 1) table A i k
        (chart_firsts g (slots u) 1 okg oku (le_refl 1) (omega arith) rules array has_rules has-edges size room (cell A i k) in_chart);
    whole = weight g (edges u) z;
    whole_is = inside_first g (edges u) (symbol_of 0) 0 (length u) z (first_place g u first);
  }

  some_list : ¬ (roots_found table (layout g (slots u) 1) ≡ 0)
      → table_list rules array (first_used rules table (layout g (slots u) 1) (replicate 168 0)) (pass_of g u) (root_weight table (layout g (slots u) 1) 0)
      table
      ≡ margins_of g u
  unfolding lay_out margins_of listed_for
  some_list n =
      let (z, first, rank) = pass_some g okg rules has_rules size u oku array has-edges room n in
      rw (rank.has.weighs, rank.has.nodes, first_place g u first)
      (entries_are u (source z first) refl (valid_ascending g.words u oku) z first array (λ e. edge_at_lem (edges u) array e has-edges)
      (fill free (plain table) rules (length g.rules) (layout g (slots u) 1))
      (λ A i k in_chart. fill_is (source z first) free (rw length-replicate few_cells) (zeros_read (length table / 4)) A i k in_chart)
      (use_nodes (replicate 168 0) (trace z)) (λ e. has e (edges_of z)) (λ e l. used_is z e l) (length (edges u)) (length (edges u)) (le_refl _))
    where
      used_is : (z : Tree) (e : ℕ) → e < length (edges u)
          → has e (edges_of z) ≡ pick (eqb (get_or (use_nodes (replicate 168 0) (trace z)) e 0) 0) false true
      used_is z e l =
          let flag = marked z (replicate 168 0) e (rw length-replicate (omega (arith, few_edges g.words u oku))) in
          rw (flag, zeros_read 168 e) (go (has e (edges_of z)))
        where
          go : (b : Bool) → b ≡ pick (eqb (pick b 1 0) 0) false true
          go true = refl
          go false = refl

  -- the list from the pass
  pub pass_list_lem : pass_list rules array (pass_of g u) size ≡ margins_of g u
  unfolding margins_of listed_for
  pass_list_lem = go (ℕ_discrete (roots_found table (layout g (slots u) 1)) 0)
    where
      go : Dec (roots_found table (layout g (slots u) 1) ≡ 0) → pass_list rules array (pass_of g u) size ≡ margins_of g u
      go (yes e) =
          rw (eq-eqb (roots_found table (layout g (slots u) 1)) 0 e, pass_none g okg rules has_rules size u oku array has-edges room e)
      go (no n) = rw (ne_eqb (roots_found table (layout g (slots u) 1)) 0 n) (some_list n)

-- the list by a pass has no more entries than there are edges
pub table_length : (rules edges : List ℕ) (p : Pass) (size : ℕ) → length (pass_list rules edges p size) ≤ p.edges
table_length rules edges p size = go (eqb (roots_found table p.table) 0)
  where
    table : List ℕ
    table = table_by rules edges p size

    go : (b : Bool) → length (pick b [] (table_list rules edges (first_used rules table p.table (replicate 168 0)) p (root_weight table p.table 0) table))
        ≤ p.edges
    go true = omega arith
    go false = upto_length _ rules edges _ p _ p.edges
