-- What stands in a table by the page to believe is what the chart's models read from it.
use mathlib.Core.Path.{◌≡◌, refl, sym, ap, ◌∙◌}
use mathlib.Core.Bool.{Bool, true, false}
use mathlib.Core.Option.{Option, none, some}
use mathlib.Core.List.{List}
use Prim.Native.Nat.{ℕ, ◌-◌, ◌/◌, ◌%◌, ◌<◌}
use native.Mathlib.Omega.{arith}
use borrow.Author.Tests.{ne_eqb, eq-eqb, eqb-true, eqb-false}
use lib.Dec.{eqb}
use lib.ListN.{get_elem?}
use Rattle.bits.specs.Bits.{pick}
use Rattle.packing.specs.Meaning.{symbol_of, Grammar, Heard, slots, graph, last_place, heard_edges}
use Rattle.packing.specs.declared.Sym.{Sym}
use Rattle.packing.specs.declared.Word as W
use Rattle.packing.specs.declared.Rule as R
use Rattle.packing.specs.declared.Rule.TheVariants.{Pair, Word}
use Rattle.derivation.specs.Derivation.{At, Tree, leaf, node, Derives, by_word_rule, by_pair_rule, Derivation}
use Rattle.derivation.proofs.Lists.{none≢some}
use Rattle.chart_keys.specs.declared.BackPointer.{BackPointer}
use Rattle.chart_keys.specs.Keys.{back_pointer}
use Rattle.chart_table.specs.declared.Layout.{Layout}
use Rattle.chart_table.specs.declared.Cell.{Cell}
use Rattle.chart_table.specs.Table.{cell, cell_number, entry_of, price_at, back_at}
use Rattle.chart.specs.Chart.{lay_out}
use Rattle.chart_theory.specs.Spelled as chart
use Rattle.chart_theory.specs.Spelled.{names_edges, EdgeNamed, FoundWith}
use Rattle.open_listing.specs.Stands.{TableEntry, by_word, by_pair, weight_in, costs_in, made_by, first_number}
use Rattle.open_listing.specs.Stands.{price_number, number, entry, SameEdge, Spelled, leaf_spelled, node_spelled, SpelledReading}

module _ (g : Grammar) (h : Heard) where
  abbrev pub d : Layout
  d = lay_out g.symbols (last_place h) 256

  abbrev pub number_of : Sym → ℕ → ℕ → ℕ
  number_of A i k = cell_number d (cell A i k)

  pub first_is : (A : Sym) (i k x : ℕ) → first_number g h A i k x ≡ entry_of d (number_of A i k) x
  unfolding first_number entry_of cell_number lay_out
  first_is A i k x = refl

  module _ (table : List ℕ) (A : Sym) (i k x : ℕ) where
    pub price_is : price_number g h table A i k x ≡ price_at table d (number_of A i k) x
    unfolding price_number price_at first_number entry_of cell_number lay_out
    price_is = refl

    pub back_is : number g h table A i k x 2 ≡ back_at table d (number_of A i k) x
    unfolding back_at first_number entry_of cell_number lay_out
    back_is = refl

    abbrev price : ℕ
    price = price_at table d (number_of A i k) x

    abbrev back : ℕ
    back = back_at table d (number_of A i k) x

    -- the entry of a price plus 1 and a back pointer
    abbrev pub made : ℕ → ℕ → TableEntry
    made p b = made_by (get_elem? g.rules (b / 2097152)) (b / 2097152) (b / 65536 % 32) (b / 256 % 256) (b % 256) ((p - 1) / 1572864) ((p - 1) % 1572864)

    pub entry_is : entry g h table A i k x ≡ pick (eqb price 0) none (some (made price back))
    unfolding entry
    entry_is = rw (price_is, back_is)

    pub found_entry : 0 < price → entry g h table A i k x ≡ some (made price back)
    found_entry found = entry_is ∙ rw (ne_eqb price 0 (λ z. omega (arith, z, found)))

    pub no_entry : price ≡ 0 → entry g h table A i k x ≡ none
    no_entry z = entry_is ∙ rw (eq-eqb price 0 z)

    pub entry_found : {e : TableEntry} → entry g h table A i k x ≡ some e → (0 < price) × (e ≡ made price back)
    entry_found {e} is = go (eqb price 0) refl (sym entry_is ∙ is)
      where
        go : (b : Bool) → eqb price 0 ≡ b → pick b none (some (made price back)) ≡ some e → (0 < price) × (e ≡ made price back)
        go true z f = absurd (none≢some f)
        go false z f = (omega (arith, eqb-false price 0 z), cc)

    pub entry_none : entry g h table A i k x ≡ none → price ≡ 0
    entry_none is = go (eqb price 0) refl (sym entry_is ∙ is)
      where
        go : (b : Bool) → eqb price 0 ≡ b → pick b none (some (made price back)) ≡ none → price ≡ 0
        go true z f = eqb-true price 0 z
        go false z f = absurd (none≢some (sym f))

    weight_by : (o : Option R.Rule) (r j p q w s : ℕ) → weight_in (made_by o r j p q w s) ≡ w
    weight_by (some (Pair A B C v)) r j p q w s = refl
    weight_by (some (Word A x v)) r j p q w s = refl
    weight_by none r j p q w s = refl

    costs_by : (o : Option R.Rule) (r j p q w s : ℕ) → costs_in (made_by o r j p q w s) ≡ s
    costs_by (some (Pair A B C v)) r j p q w s = refl
    costs_by (some (Word A x v)) r j p q w s = refl
    costs_by none r j p q w s = refl

    pub entry_weight : {e : TableEntry} → entry g h table A i k x ≡ some e → weight_in e ≡ (price - 1) / 1572864
    entry_weight is = rw (entry_found is).1 (weight_by (get_elem? g.rules (back / 2097152)) _ _ _ _ _ _)

    pub entry_costs : {e : TableEntry} → entry g h table A i k x ≡ some e → costs_in e ≡ (price - 1) % 1572864
    entry_costs is = rw (entry_found is).1 (costs_by (get_elem? g.rules (back / 2097152)) _ _ _ _ _ _)

  -- a table that has the tree of a rank as another has it
  pub entry_stays : (t u : List ℕ) (A : Sym) (i k x : ℕ) → price_at u d (number_of A i k) x ≡ price_at t d (number_of A i k) x
      → back_at u d (number_of A i k) x ≡ back_at t d (number_of A i k) x → entry g h u A i k x ≡ entry g h t A i k x
  entry_stays t u A i k x p b = entry_is u A i k x ∙ rw (p, b) (sym (entry_is t A i k x))

-- what a rank spells: by the page is by the chart, and of a tree of its head and span by the chart is by the page
module _ (g : Grammar) (h : Heard) (table : List ℕ) where
  abbrev ChartSpelled : Tree → Sym → ℕ → ℕ → ℕ → Type 0
  ChartSpelled z A i k x = chart.Spelled g (names_edges h) (d g h) table z (cell A i k) x

  -- the edge
  edge_to : (v : Heard) (b : ℕ) (e : ℕ) → SameEdge v (b / 256 % 256) e → EdgeNamed (names_edges v) (back_pointer b) e
  edge_to (slots u) b e same = tt
  edge_to (graph w) b e same = same

  edge_from : (v : Heard) (b : ℕ) (e : ℕ) → EdgeNamed (names_edges v) (back_pointer b) e → SameEdge v (b / 256 % 256) e
  edge_from (slots u) b e same = tt
  edge_from (graph w) b e same = same

  -- the numbers of an entry are those of its back pointer
  word_back : (o : Option R.Rule) (b w s : ℕ) {r f w' s' : ℕ}
      → by_word r f w' s' ≡ made_by o (b / 2097152) (b / 65536 % 32) (b / 256 % 256) (b % 256) w s → (b / 2097152 ≡ r) × (b / 256 % 256 ≡ f)
  word_back (some (Pair A B C v)) b w s e = let z : ◌≡◌ {A = ℕ} 0 1 = cc in absurd (omega arith)
  word_back (some (Word A x v)) b w s e = (cc, cc)
  word_back none b w s e = (cc, cc)

  pair_back : (o : Option R.Rule) (b w s : ℕ) {r j p q w' s' : ℕ}
      → by_pair r j p q w' s' ≡ made_by o (b / 2097152) (b / 65536 % 32) (b / 256 % 256) (b % 256) w s
      → (b / 2097152 ≡ r) × (b / 65536 % 32 ≡ j) × (b / 256 % 256 ≡ p) × (b % 256 ≡ q)
  pair_back (some (Pair A B C v)) b w s e = (cc, cc, cc, cc)
  pair_back (some (Word A x v)) b w s e = let z : ◌≡◌ {A = ℕ} 0 1 = cc in absurd (omega arith)
  pair_back none b w s e = let z : ◌≡◌ {A = ℕ} 0 1 = cc in absurd (omega arith)

  pub spelled_to : {z : Tree} {A : Sym} {i k x : ℕ} → Spelled g h table z A i k x → ChartSpelled z A i k x
  spelled_to {A = A} {i} {k} {x} (leaf_spelled {r = r} {e = e} {f = f} is same) =
      let b = back_at table (d g h) (number_of g h A i k) x in
      let (found, made-is) = entry_found g h table A i k x is in
      let (er, ef) = word_back (get_elem? g.rules (b / 2097152)) b _ _ made-is in
      rw (← er) (chart.leaf_spelled (record { found = found; points = refl }) (edge_to h b e (rw (← ef) at same)))
  spelled_to {A = A} {i} {k} {x} (node_spelled {B = B} {C} {j = j} {v = v} {y = y} {z} is at left right) =
      let b = back_at table (d g h) (number_of g h A i k) x in
      let (found, made-is) = entry_found g h table A i k x is in
      let (er, ej, ep, eq) = pair_back (get_elem? g.rules (b / 2097152)) b _ _ made-is in
      let l : ChartSpelled y B i (b / 65536 % 32) (b / 256 % 256) = rw (ej, ep) (spelled_to left) in
      let m : ChartSpelled z C (b / 65536 % 32) k (b % 256) = rw (ej, eq) (spelled_to right) in
      let rule : At g.rules (b / 2097152) (Pair A B C v) = rw er at in
      rw (← er, ← ej) (chart.node_spelled (record { found = found; points = refl }) rule l m)

  leaf_from : {A : Sym} {i k x r e : ℕ} {y : W.Word} {v : ℕ} → (b : BackPointer) → b.rule ≡ r → FoundWith (d g h) table (cell A i k) x b
      → EdgeNamed (names_edges h) b e
      → At g.rules r (Word A y v) → Spelled g h table (leaf r e) A i k x
  leaf_from {A} {i} {k} {x} {r} {e} b is found by at =
      let n = back_at table (d g h) (number_of g h A i k) x in
      let rule : n / 2097152 ≡ r = ap (λ (c : BackPointer). c.rule) found.points ∙ is in
      let by' : EdgeNamed (names_edges h) (back_pointer n) e = rw found.points by in
      let w = price_at table (d g h) (number_of g h A i k) x - 1 in
      let one : made_by (get_elem? g.rules (n / 2097152)) (n / 2097152) (n / 65536 % 32) (n / 256 % 256) (n % 256) (w / 1572864) (w % 1572864)
      ≡ by_word r (n / 256 % 256) (w / 1572864) (w % 1572864) = rw (rule, at) refl in
      leaf_spelled (found_entry g h table A i k x found.found ∙ ap some one) (edge_from h n e by')

  node_from : {A B C : Sym} {i k x r j v : ℕ} {y z : Tree} → (b : BackPointer) → b.rule ≡ r → b.split ≡ j → FoundWith (d g h) table (cell A i k) x b
      → At g.rules r (Pair A B C v) → Spelled g h table y B i j b.left → Spelled g h table z C j k b.right → Spelled g h table (node r j y z) A i k x
  node_from {A} {B} {C} {i} {k} {x} {r} {j} b is is' found at left right =
      let n = back_at table (d g h) (number_of g h A i k) x in
      let rule : n / 2097152 ≡ r = ap (λ (c : BackPointer). c.rule) found.points ∙ is in
      let split : n / 65536 % 32 ≡ j = ap (λ (c : BackPointer). c.split) found.points ∙ is' in
      let p : n / 256 % 256 ≡ b.left = ap (λ (c : BackPointer). c.left) found.points in
      let q : n % 256 ≡ b.right = ap (λ (c : BackPointer). c.right) found.points in
      let w = price_at table (d g h) (number_of g h A i k) x - 1 in
      let one : made_by (get_elem? g.rules (n / 2097152)) (n / 2097152) (n / 65536 % 32) (n / 256 % 256) (n % 256) (w / 1572864) (w % 1572864)
      ≡ by_pair r j b.left b.right (w / 1572864) (w % 1572864) = rw (rule, split, p, q, at) refl in
      node_spelled (found_entry g h table A i k x found.found ∙ ap some one) at left right

  pub spelled_from : {z : Tree} {A : Sym} {i k x : ℕ} → ChartSpelled z A i k x → Derives g (heard_edges h) A i k z → Spelled g h table z A i k x
  spelled_from (chart.leaf_spelled {b = b} found by) (by_word_rule at offered) = leaf_from b refl found by at
  spelled_from (chart.node_spelled {b = b} {B} {C} found at left right) (by_pair_rule {B = B'} {C = C'} at' l m dl dr) =
      let e_b : B' ≡ B = cc in
      let e_c : C' ≡ C = cc in
      node_from b refl refl found at (spelled_from left (rw e_b at dl)) (spelled_from right (rw e_c at dr))

  -- a reading likewise
  spelled_found : {z : Tree} {c : Cell} {x : ℕ} → chart.Spelled g (names_edges h) (d g h) table z c x → 0 < price_at table (d g h) (cell_number (d g h) c) x
  spelled_found (chart.leaf_spelled found by) = found.found
  spelled_found (chart.node_spelled found at l m) = found.found

  pub reading_to : {x : ℕ} {z : Tree} → SpelledReading g h table x z → chart.SpelledReading g h (d g h) table x z
  unfolding lay_out
  reading_to {x} s = record {
    tree = spelled_to s.tree;
    weighs = sym (entry_weight g h table (symbol_of 0) 0 (last_place h) x s.found) ∙ s.weighs;
  }

  pub reading_from : {x : ℕ} {z : Tree} → chart.SpelledReading g h (d g h) table x z → Derivation g h z → SpelledReading g h table x z
  unfolding lay_out
  reading_from {x} {z} s derives =
      let tree = spelled_from s.tree derives in
      let found = spelled_found s.tree in
      record {
        stands = _;
        found = found_entry g h table (symbol_of 0) 0 (last_place h) x found;
        tree = tree;
        weighs = entry_weight g h table (symbol_of 0) 0 (last_place h) x (found_entry g h table (symbol_of 0) 0 (last_place h) x found) ∙ s.weighs;
      }
