-- The back trace of a rank that spells a tree has the nodes of that tree, whatever else the table holds; where leaves do not name their edges,
-- their rules. Where the invariant holds a found rank
-- spells the tree of that rank: by recursion on the fuel, for the parts of a found pairing are found, over shorter spans, and a leaf's back
-- pointer has its edge's number.
use mathlib.Core.Path.{◌≡◌, refl, ap, ◌∙◌}
use mathlib.Core.Bool.{Bool, true, false}
use mathlib.Core.List.{List, [], ◌∷◌, ◌++◌, map, map-append, map-id, append-nil, append_assoc}
use Prim.Native.Nat.{ℕ, zero, suc, ◌≤◌, ◌<◌}
use native.Mathlib.Omega.{arith}
use lib.Dec.{ltb}
use borrow.Author.Tests.{lt-ltb}
use Rattle.bits.specs.Bits.{pick}
use Rattle.packing.specs.Meaning.{Grammar, Edge, Node, by_word}
use Rattle.packing.specs.Flat.{rule_at, node_rule, nodes_in}
use Rattle.derivation.specs.Derivation.{At, Tree, by_word_rule, by_pair_rule}
use Rattle.derivation.specs.Heard.{trace}
use Rattle.derivation.proofs.Rows.{Row, leaf_row, node_row}
use Rattle.chart_keys.specs.declared.BackPointer.{BackPointer}
use Rattle.chart_table.specs.declared.Cell.{Cell}
use Rattle.chart_table.specs.declared.Layout.{Layout}
use Rattle.chart_table.specs.Table.{left_part, right_part}
use Rattle.chart_trace.specs.Trace.{trace_parts, trace_back}
use Rattle.chart_theory.specs.Spelled.{FoundWith, EdgeNamed, Spelled, leaf_spelled, node_spelled}
use Rattle.chart_theory.proofs.Table.Keys.{row_back}
use Rattle.chart_theory.proofs.Table.Cells.{InChart, span, ranked_in, DerivesIn, RowOfIn}
use Rattle.chart_theory.proofs.Invariant.{Setting, Found, PartsFound, row_back_lem, Invariant}
use Rattle.chart_theory.proofs.Search.Checked.{own_edge}
use Rattle.chart_theory.proofs.Candidates.Keys.{Splits, rule_is}
use Rattle.chart_theory.proofs.Candidates.Frontier.{part_cells}

-- a leaf has no parts to trace, whatever its split
no_parts : (a b : Bool) → ◌≡◌ {A = List ℕ} (pick a (pick b [] []) []) []
no_parts true true = refl
no_parts true false = refl
no_parts false b = refl

-- the same nodes, where leaves name their edges; else nodes of the same rules
abbrev pub SameNodes : Bool → List Node → List Node → Type 0
SameNodes true l m = l ≡ m
SameNodes false l m = map node_rule l ≡ map node_rule m

module _ {g : Grammar} {es : List Edge} {rules edges index : List ℕ} {d : Layout} (s : Setting g es rules edges index d) (t : List ℕ) where
  -- one step of the back trace, from a back pointer
  abbrev step : ℕ → Cell → BackPointer → List ℕ
  step fuel c b =
      b.rule
      ∷ b.left
      ∷ pick (ltb c.from b.split)
      (pick (ltb b.split c.to) (trace_parts (trace_back t rules d fuel) c b (rule_at rules b.rule)) [])
      []

  -- what is seen of a node, where the edges that back pointers need not name are not seen
  module _ {A : Type 0} (sees : Node → A) (named : Bool)
      (same : (b : BackPointer) (e : ℕ) → EdgeNamed named b e → sees (by_word b.rule b.left) ≡ sees (by_word b.rule e)) where
    abbrev seen : List Node → List A
    seen = map sees

    -- in front of whatever numbers
    traces : (fuel : ℕ) (c : Cell) (x : ℕ) {z : Tree} → Spelled g named d t z c x → DerivesIn g es c z → c.from < c.to → span c ≤ fuel
        → (rest : List ℕ) → seen (nodes_in rules (trace_back t rules d fuel c x ++ rest)) ≡ seen (trace z) ++ seen (nodes_in rules rest)
    unfolding trace_back nodes_in trace
    traces zero c x spelled derives order short rest = absurd (omega arith)
    traces (suc fuel) c x (leaf_spelled {e = e} {b = b} found by) (by_word_rule p q) order short rest =
        ap (λ b. seen (nodes_in rules (step fuel c b ++ rest))) found.points
        ∙ rw (rule_is s b.rule p, no_parts (ltb c.from b.split) (ltb b.split c.to), same b e by)
    traces (suc fuel) c x (node_spelled {b = b} {B} {C} {s = y} {t = z} found rule l m) (by_pair_rule {B = B'} {C = C'} rule' h₁ h₂ dl dr) order short rest =
        let left : B' ≡ B = cc in
        let right : C' ≡ C = cc in
        let j = b.split in
        ap (λ b. seen (nodes_in rules (step fuel c b ++ rest))) found.points
        ∙ rw (
          rule_is s b.rule rule,
          lt-ltb c.from j h₁,
          lt-ltb j c.to h₂,
          append_assoc (trace_back t rules d fuel (left_part c B j) b.left) (trace_back t rules d fuel (right_part c C j) b.right) rest,
          map-append sees (trace y) (trace z),
          append_assoc (seen (trace y)) (seen (trace z)) (seen (nodes_in rules rest)),
          traces fuel (left_part c B j) b.left l (rw left at dl) h₁ (omega arith) (trace_back t rules d fuel (right_part c C j) b.right ++ rest),
          traces fuel (right_part c C j) b.right m (rw right at dr) h₂ (omega arith) rest,
        )

    seen_traced : (fuel : ℕ) (c : Cell) (x : ℕ) (z : Tree) → Spelled g named d t z c x → DerivesIn g es c z → c.from < c.to → span c ≤ fuel
        → seen (nodes_in rules (trace_back t rules d fuel c x)) ≡ seen (trace z)
    unfolding nodes_in
    seen_traced fuel c x z spelled derives order short =
        let all : seen (nodes_in rules (trace_back t rules d fuel c x ++ [])) ≡ seen (trace z) ++ [] = traces fuel c x spelled derives order short [] in
        rw (append-nil (trace_back t rules d fuel c x), append-nil (seen (trace z))) at all

  pub traced : (named : Bool) (fuel : ℕ) (c : Cell) (x : ℕ) (z : Tree) → Spelled g named d t z c x → DerivesIn g es c z → c.from < c.to → span c ≤ fuel
      → SameNodes named (nodes_in rules (trace_back t rules d fuel c x)) (trace z)
  traced true fuel c x z spelled derives order short =
      rw (map-id (nodes_in rules (trace_back t rules d fuel c x)), map-id (trace z))
      at (seen_traced (λ n. n) true (λ b e by. rw by) fuel c x z spelled derives order short)
  traced false fuel c x z spelled derives order short = seen_traced node_rule false (λ b e by. refl) fuel c x z spelled derives order short

  -- each found rank over at most `fuel` places spells the tree of that rank
  module _ {m : ℕ} (invariant : Invariant g es d m t) (named : Bool) where
    abbrev Spells : ℕ → Type 0
    Spells fuel = (c : Cell) (x : ℕ) (z : Tree) → InChart d c → span c ≤ fuel → Found d t c x → At (ranked_in g es c) x z
        → Spelled g named d t z c x

    spells_row : (fuel : ℕ) → Spells fuel → (c : Cell) {x : ℕ} {v : Row} {z : Tree} → InChart d c → span c ≤ suc fuel → RowOfIn g es c v z
        → PartsFound g es d t c v → FoundWith d t c x (row_back v) → Spelled g named d t z c x
    spells_row fuel below c in_chart short (leaf_row p q) parts found = leaf_spelled found (own_edge named _)
    spells_row fuel below c in_chart short (node_row {B} {C} {r} {w} {j} {p} {q} {s = y} {t = z} rule h₁ h₂ l m) parts found =
        let (left, right) = parts B C w rule in
        let splits : Splits g c B C r w j = record { rule = rule; after = h₁; before = h₂ } in
        let (cl, cr) = part_cells s in_chart splits in
        node_spelled found rule (below (left_part c B j) p y cl (omega arith) left l) (below (right_part c C j) q z cr (omega arith) right m)

    pub found_spelled : (fuel : ℕ) → Spells fuel
    found_spelled zero c x z in_chart short found at = absurd (omega (arith, in_chart.order))
    found_spelled (suc fuel) c x z in_chart short found at =
        let (v, held) = invariant.holds x in_chart found in
        let (y, at', o) = held.place in
        let same : y ≡ z = cc in
        rw (← same)
        (spells_row fuel (found_spelled fuel) c in_chart short o held.parts (record { found = found; points = row_back_lem g es d t c x held }))
