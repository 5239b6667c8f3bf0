-- A table that calls left stands as the page to believe says: by the invariant, at every head and span.
use mathlib.Core.Path.{ap, ◌∙◌}
use mathlib.Core.List.{List}
use Prim.Native.Nat.{ℕ, suc, ◌+◌}
use native.Mathlib.Omega.{arith}
use lib.ListN.{get_or}
use Rattle.packing.specs.Meaning.{Grammar, Heard, heard_edges}
use Rattle.packing.specs.Flat.{Begins, rule_numbers, edge_numbers}
use Rattle.packing.specs.Valid.{ValidGrammar, ValidHeard}
use Rattle.packing.specs.declared.Sym.{Sym}
use Rattle.derivation.proofs.Ranks.{place_number}
use Rattle.chart_table.specs.Table.{cell}
use Rattle.chart.specs.Chart.{lay_out}
use Rattle.chart_theory.proofs.Table.Cells.{InChart}
use Rattle.chart_theory.proofs.Accepted.{layout, found_stands, nothing_stands}
use Rattle.chart_theory.proofs.Search.Passes.{Listed}
use Rattle.open_listing.specs.Stands.{Over, Standing}
use Rattle.open_listing.proofs.Stands.{d, first_is, found_entry, entry_found, entry_none, entry_weight, entry_costs, spelled_from}

pub in_chart : {g : Grammar} {h : Heard} {A : Sym} {i k : ℕ} → Over g h A i k → InChart (d g h) (cell A i k)
unfolding lay_out
in_chart over = record { symbol = over.symbol; order = over.order; within = over.within }

pub standing : (g : Grammar) (h : Heard) → ValidGrammar g → ValidHeard g.words h → (rules edges : List ℕ) → Begins (rule_numbers g) rules
    → Begins (edge_numbers (heard_edges h)) edges → (n : ℕ) (t : List ℕ) → Listed g (heard_edges h) (layout g h 256) n t → Standing g h t
standing g h okg okh rules edges begun begun' n t listed = record {
  right = λ A i k x over e is.
      let found = (entry_found g h t A i k x is).0 in
      let s = found_stands g h 256 okg okh (omega arith) (omega arith) rules edges begun begun' n t listed (in_chart over) x found in
      let (derives, before) = (place_number g (heard_edges h) A i k s.tree x).0 s.place in
      record {
        tree = s.tree;
        derives = derives;
        before = before;
        spelled = spelled_from g h t s.spelled derives;
        weighs = entry_weight g h t A i k x is ∙ s.weighs;
        costs = entry_costs g h t A i k x is ∙ s.costs;
      };
  no_gaps = λ A i k x over f.
      let next = (entry_found g h t A i k (suc x) f.1).0 in
      (_, found_entry g h t A i k x (listed.invariant.prefix_closed x (in_chart over) next));
  nothing = λ A i k x over few is y small.
      ap (λ (z : ℕ). get_or t (z + y) 0) (first_is g h A i k x)
      ∙ nothing_stands g h 256 okg okh (omega arith) (omega arith) rules edges begun begun' n t listed (in_chart over) x few (entry_none g h t A i k x is) y
      small;
}
