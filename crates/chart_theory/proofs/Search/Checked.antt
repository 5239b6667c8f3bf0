-- The back trace that checks. Of a rank that spells a tree over its cell it sums the weight of that tree; and in any table, what it gives a
-- weight spells a tree over its cell. For a node passes exactly if its rule is of the cell's head, with parts inside the span or with an edge
-- over it that was heard. Where leaves do not name their edges any such edge serves, and there is only one.
use mathlib.Core.Path.{◌≡◌, refl, sym, ap, ◌∙◌}
use mathlib.Core.Logic.{◌⊎◌, inl, inr}
use mathlib.Core.Bool.{Bool, true, false, false≢true}
use mathlib.Core.Option.{Option, none, some}
use mathlib.Core.List.{List}
use Prim.Native.Nat.{ℕ, zero, suc, ◌+◌, ◌*◌, ◌≤◌, ◌<◌}
use native.Mathlib.Decide.{ℕ_discrete}
use native.Mathlib.Omega.{arith}
use lib.Dec.{ltb, eqb}
use lib.ListN.{length, get_or}
use borrow.Author.Tests.{lt-ltb, ltb-true, eqb-true, eq-eqb, ne_eqb}
use Rattle.std.specs.Prelude.{Some, None}
use Rattle.std.specs.Prelude as P
use Rattle.bits.specs.Bits.{pick}
use Rattle.packing.specs.Meaning.{word, Grammar, Edge, edge}
use Rattle.packing.specs.Flat.{rule_at}
use Rattle.packing.specs.declared.Sym.{Sym}
use Rattle.packing.specs.declared.Word as W
use Rattle.packing.specs.declared.Rule.{Rule}
use Rattle.packing.specs.declared.Rule.TheVariants.{Pair, Word}
use Rattle.derivation.specs.Derivation.{At, Offered, Tree, by_word_rule, by_pair_rule, weight}
use Rattle.derivation.proofs.Lists.{none≢some, at_length}
use Rattle.derivation.proofs.Trees.{same_sym}
use Rattle.derivation.proofs.Rows.{leaf_weight, node_weight_lem}
use Rattle.chart_keys.specs.declared.BackPointer.{BackPointer}
use Rattle.chart_keys.specs.Keys.{back_pointer}
use Rattle.chart_table.specs.declared.Cell.{Cell}
use Rattle.chart_table.specs.declared.Layout.{Layout}
use Rattle.chart_table.specs.Table.{left_part, right_part, cell_number, price_at, back_at}
use Rattle.chart_trace.specs.Checked.{edge_fits, leaf_of, any_leaf, leaf_in, node_in, checked_node, with_parts, node_weight, spelled_weight}
use Rattle.chart_trace.specs.declared.checked.Scope.{Scope}
use Rattle.chart_trace.specs.declared.checked.CheckedNode.{CheckedNode}
use Rattle.chart_trace.specs.declared.checked.CheckedNode.TheVariants.{Leaf, Pairing}
use Rattle.chart_theory.specs.Spelled.{FoundWith, EdgeNamed, Spelled, leaf_spelled, node_spelled}
use Rattle.chart_theory.proofs.Table.Cells.{span, DerivesIn}
use Rattle.chart_theory.proofs.Table.Entries.{found_test}
use Rattle.chart_theory.proofs.Invariant.{Setting}
use Rattle.chart_theory.proofs.Candidates.Keys.{Splits, rule_is, edge_is}

-- two tests of which both hold
both : (a : Bool) {b : Bool} → pick a b false ≡ true → (a ≡ true) × (b ≡ true)
both true e = (refl, e)
both false e = absurd (false≢true e)

-- a leaf's own edge, and any where edges are not named
pub own_edge : (named : Bool) (b : BackPointer) → EdgeNamed named b b.left
own_edge true b = refl
own_edge false b = tt

unnamed : (named : Bool) (b : BackPointer) (e : ℕ) → named ≡ false → EdgeNamed named b e
unnamed true b e free = absurd (false≢true (sym free))
unnamed false b e free = tt

module _ {g : Grammar} {es : List Edge} {rules edges index : List ℕ} {d : Layout} (s : Setting g es rules edges index d) where
  abbrev pub scope : Bool → Scope
  scope named = record { rules = length g.rules; edges = length es; named = named }

  -- an edge that fits is one over the span that was heard
  edge_sound : (c : Cell) (e : ℕ) (x : W.Word) → edge_fits edges (length es) c e x ≡ true
      → Offered es e (edge c.from c.to x (get_or edges (4 * e + 3) 0))
  unfolding edge_fits
  edge_sound c e x h =
      let (below, h₁) = both (ltb e (length es)) h in
      let (from, h₂) = both (eqb (get_or edges (4 * e) 0) c.from) h₁ in
      let (to, h₃) = both (eqb (get_or edges (4 * e + 1) 0) c.to) h₂ in
      let (carries, heard) = both (eqb (get_or edges (4 * e + 2) 0) x.0) h₃ in
      let x_is : word (get_or edges (4 * e + 2) 0) ≡ x = ap word (eqb-true _ _ carries) in (
        rw (eqb-true (get_or edges (4 * e) 0) _ from, eqb-true (get_or edges (4 * e + 1) 0) _ to, x_is) at (s.edge_at_lem e (ltb-true _ _ below)),
        ltb-true _
            _ heard,
      )

  edge_complete : (c : Cell) (e : ℕ) {x : W.Word} {cost : ℕ} → Offered es e (edge c.from c.to x cost) → edge_fits edges (length es) c e x ≡ true
  unfolding edge_fits
  edge_complete c e (at, heard) =
      let is = edge_is s e at in
      rw (
        lt-ltb e (length es) (at_length es e at),
        eq-eqb _ _ is.from,
        eq-eqb _ _ is.to,
        eq-eqb _ _ is.carries,
        is.costs,
        lt-ltb _ _ heard,
      )

  -- what a node is that passes, in its cell and by its back pointer
  data Passes (named : Bool) (c : Cell) (b : BackPointer) : P.Option CheckedNode → Type 0 where
    a_leaf : {x : W.Word} {w cost : ℕ} (e : ℕ) → At g.rules b.rule (Word c.head x w) → Offered es e (edge c.from c.to x cost)
        → EdgeNamed named b e → Passes named c b (Some (Leaf (w + cost)))
    a_pairing : {B C : Sym} {w : ℕ} → Splits g c B C b.rule w b.split → Passes named c b (Some (Pairing B C w))
    wrong : Passes named c b None

  -- the leaf of an edge, if it fits, and else whatever passes
  module _ (named : Bool) (c : Cell) (b : BackPointer) {x : W.Word} {w : ℕ} (at : At g.rules b.rule (Word c.head x w)) where
    edge_passes : (e : ℕ) → EdgeNamed named b e → {n : P.Option CheckedNode} → Passes named c b n
        → Passes named c b (pick (edge_fits edges (length es) c e x) (Some (leaf_of edges e w)) n)
    edge_passes e by {n} other = go (edge_fits edges (length es) c e x) refl
      where
        go : (q : Bool) → edge_fits edges (length es) c e x ≡ q → Passes named c b (pick q (Some (leaf_of edges e w)) n)
        go true fits = a_leaf e at (edge_sound c e x fits) by
        go false fits = other

    any_passes : named ≡ false → (n : ℕ) → Passes named c b (any_leaf edges (length es) c x w n)
    unfolding any_leaf
    any_passes free zero = wrong
    any_passes free (suc e) = edge_passes e (unnamed named b e free) (any_passes free e)

    leaf_in_passes : Passes named c b (leaf_in edges (scope named) c b.left x w)
    leaf_in_passes = edge_passes b.left (own_edge named b) (go named refl)
      where
        go : (q : Bool) → named ≡ q → Passes named c b (pick q None (any_leaf edges (length es) c x w (length es)))
        go true e = wrong
        go false e = any_passes e (length es)

  rule_passes : (named : Bool) (c : Cell) (b : BackPointer) (rule : Rule) → At g.rules b.rule rule
      → Passes named c b (node_in edges (scope named) c b rule)
  rule_passes named c b (Pair h B C w) at = go (eqb h.0 c.head.0) (ltb c.from b.split) (ltb b.split c.to) refl refl refl
    where
      go : (p q r : Bool) → eqb h.0 c.head.0 ≡ p → ltb c.from b.split ≡ q → ltb b.split c.to ≡ r
          → Passes named c b (pick p (pick q (pick r (Some (Pairing B C w)) None) None) None)
      go false q r e₁ e₂ e₃ = wrong
      go true false r e₁ e₂ e₃ = wrong
      go true true false e₁ e₂ e₃ = wrong
      go true true true e₁ e₂ e₃ =
          let head = same_sym h c.head (eqb-true _ _ e₁) in
          a_pairing (record { rule = rw head at at; after = ltb-true _ _ e₂; before = ltb-true _ _ e₃ })
  rule_passes named c b (Word h x w) at = go (eqb h.0 c.head.0) refl
    where
      go : (p : Bool) → eqb h.0 c.head.0 ≡ p → Passes named c b (pick p (leaf_in edges (scope named) c b.left x w) None)
      go false e = wrong
      go true e =
          let head = same_sym h c.head (eqb-true _ _ e) in
          leaf_in_passes named c b (rw head at at)

  node_passes : (named : Bool) (c : Cell) (b : BackPointer) → Passes named c b (checked_node rules edges (scope named) c b)
  unfolding checked_node
  node_passes named c b = go (ltb b.rule (length g.rules)) refl
    where
      go : (p : Bool) → ltb b.rule (length g.rules) ≡ p
          → Passes named c b (pick p (node_in edges (scope named) c b (rule_at rules b.rule)) None)
      go false e = wrong
      go true e = rule_passes named c b (rule_at rules b.rule) (s.rule_at_lem b.rule (ltb-true _ _ e))

  -- an edge over the span with the rule's word makes the leaf, by whatever number it is looked for
  module _ (c : Cell) (r e : ℕ) {x : W.Word} {w cost : ℕ} (p : At g.rules r (Word c.head x w)) (q : Offered es e (edge c.from c.to x cost)) where
    edge_leaf : (f : ℕ) {n : P.Option CheckedNode} → (f ≡ e) ⊎ (n ≡ Some (Leaf (w + cost)))
        → pick (edge_fits edges (length es) c f x) (Some (leaf_of edges f w)) n ≡ Some (Leaf (w + cost))
    edge_leaf f {n} other = go (edge_fits edges (length es) c f x) refl other
      where
        here : f ≡ e → ◌≡◌ {A = P.Option CheckedNode} (Some (leaf_of edges f w)) (Some (Leaf (w + cost)))
        here same = rw (same, (edge_is s e q.0).costs)

        go : (a : Bool) → edge_fits edges (length es) c f x ≡ a → (f ≡ e) ⊎ (n ≡ Some (Leaf (w + cost)))
            → pick a (Some (leaf_of edges f w)) n ≡ Some (Leaf (w + cost))
        go true fits o = here (s.one_edge c r f e (by_word_rule p (edge_sound c f x fits)) (by_word_rule p q))
        go false fits (inl same) = absurd (false≢true (sym fits ∙ rw same (edge_complete c e q)))
        go false fits (inr is) = is

    any_complete : (n : ℕ) → e < n → any_leaf edges (length es) c x w n ≡ Some (Leaf (w + cost))
    unfolding any_leaf
    any_complete zero l = absurd (omega arith)
    any_complete (suc n) l = edge_leaf n (go (ℕ_discrete n e) (any_complete n))
      where
        go : Dec (n ≡ e) → (e < n → any_leaf edges (length es) c x w n ≡ Some (Leaf (w + cost)))
            → (n ≡ e) ⊎ (any_leaf edges (length es) c x w n ≡ Some (Leaf (w + cost)))
        go (yes same) below = inl same
        go (no other) below = inr (below (omega arith))

    leaf_in_complete : (named : Bool) (b : BackPointer) → EdgeNamed named b e → leaf_in edges (scope named) c b.left x w ≡ Some (Leaf (w + cost))
    leaf_in_complete true b same = edge_leaf b.left (inl same)
    leaf_in_complete false b free = edge_leaf b.left (inr (any_complete (length es) (at_length es e q.0)))

  leaf_passes : (named : Bool) (c : Cell) (b : BackPointer) (e : ℕ) {x : W.Word} {w cost : ℕ} → At g.rules b.rule (Word c.head x w)
      → Offered es e (edge c.from c.to x cost) → EdgeNamed named b e → checked_node rules edges (scope named) c b ≡ Some (Leaf (w + cost))
  unfolding checked_node
  leaf_passes named c b e p q by =
      rw (
        lt-ltb b.rule (length g.rules) (at_length g.rules b.rule p),
        rule_is s b.rule p,
        eq-eqb c.head.0 c.head.0 refl,
      )
      (leaf_in_complete c b.rule e p q named b by)

  pairing_passes : (named : Bool) (c : Cell) (b : BackPointer) {B C : Sym} {w : ℕ} → Splits g c B C b.rule w b.split
      → checked_node rules edges (scope named) c b ≡ Some (Pairing B C w)
  unfolding checked_node
  pairing_passes named c b splits =
      rw (
        lt-ltb b.rule (length g.rules) (at_length g.rules b.rule splits.rule),
        rule_is s b.rule splits.rule,
        eq-eqb c.head.0 c.head.0 refl,
        lt-ltb c.from b.split splits.after,
        lt-ltb b.split c.to splits.before,
      )

  module _ (named : Bool) (t : List ℕ) where
    -- one step, from a back pointer
    abbrev step : ℕ → Cell → BackPointer → Option ℕ
    step fuel c b = node_weight (spelled_weight t rules edges (scope named) d fuel) c b (checked_node rules edges (scope named) c b)

    pub weighed : (fuel : ℕ) (c : Cell) (x : ℕ) {z : Tree} → Spelled g named d t z c x → DerivesIn g es c z → c.from < c.to → span c ≤ fuel
        → spelled_weight t rules edges (scope named) d fuel c x ≡ some (weight g es z)
    unfolding spelled_weight
    weighed zero c x spelled derives order short = absurd (omega arith)
    weighed (suc fuel) c x (leaf_spelled {e = e} {b = b} found by) (by_word_rule p q) order short =
        rw (ne_eqb (price_at t d (cell_number d c) x) 0 (λ e. omega (arith, e, found.found)))
        (ap (step fuel c) found.points ∙ rw (leaf_passes named c b e p q by, leaf_weight g es b.rule e p q))
    weighed (suc fuel) c x (node_spelled {b = b} {B} {C} {s = y} {t = z} found rule l m) (by_pair_rule {B = B'} {C = C'} rule' h₁ h₂ dl dr) order short =
        let left : B' ≡ B = cc in
        let right : C' ≡ C = cc in
        let j = b.split in
        rw (ne_eqb (price_at t d (cell_number d c) x) 0 (λ e. omega (arith, e, found.found)))
        (ap (step fuel c) found.points
        ∙ rw (
          pairing_passes named c b (record { rule = rule; after = h₁; before = h₂ }),
          weighed fuel (left_part c B j) b.left l (rw left at dl) h₁ (omega arith),
          weighed fuel (right_part c C j) b.right m (rw right at dr) h₂ (omega arith),
          node_weight_lem g es b.rule j y z rule,
        ))

    -- what is given a weight spells a tree
    abbrev Spells : Cell → ℕ → Type 0
    Spells c x = (z : Tree) × DerivesIn g es c z × Spelled g named d t z c x

    abbrev Sound : ℕ → Type 0
    Sound fuel = (c : Cell) (x w : ℕ) → spelled_weight t rules edges (scope named) d fuel c x ≡ some w → Spells c x

    parts_sound : (v : ℕ) (l m : Option ℕ) {w : ℕ} → with_parts v l m ≡ some w → ((n : ℕ) × (l ≡ some n)) × ((n : ℕ) × (m ≡ some n))
    parts_sound v none m e = absurd (none≢some e)
    parts_sound v (some x) none e = absurd (none≢some e)
    parts_sound v (some x) (some y) e = ((x, refl), (y, refl))

    node_sound : (fuel : ℕ) → Sound fuel → (c : Cell) (x w : ℕ) (b : BackPointer) {n : P.Option CheckedNode} → FoundWith d t c x b → Passes named c b n
        → node_weight (spelled_weight t rules edges (scope named) d fuel) c b n ≡ some w → Spells c x
    node_sound fuel below c x w b found (a_leaf f p q by) e = (_, by_word_rule p q, leaf_spelled found by)
    node_sound fuel below c x w b found (a_pairing {B} {C} {w = v} splits) e =
        let j = b.split in
        let ((n, l), (m, r)) = parts_sound v (spelled_weight t rules edges (scope named) d fuel (left_part c B j) b.left)
        (spelled_weight t rules edges (scope named) d fuel (right_part c C j) b.right) e in
        let (y, dl, sl) = below (left_part c B j) b.left n l in
        let (z, dr, sr) = below (right_part c C j) b.right m r in
        (_, by_pair_rule splits.rule splits.after splits.before dl dr, node_spelled found splits.rule sl sr)
    node_sound fuel below c x w b found wrong e = absurd (none≢some e)

    pub spelled_sound : (fuel : ℕ) → Sound fuel
    unfolding spelled_weight
    spelled_sound zero c x w e = absurd (none≢some e)
    spelled_sound (suc fuel) c x w e = go (eqb (price_at t d (cell_number d c) x) 0) refl (spelled_sound fuel) e
      where
        go : (p : Bool) → eqb (price_at t d (cell_number d c) x) 0 ≡ p → Sound fuel
            → pick p none (step fuel c (back_pointer (back_at t d (cell_number d c) x))) ≡ some w → Spells c x
        go true h below e = absurd (none≢some e)
        go false h below e =
            node_sound fuel below c x w (back_pointer (back_at t d (cell_number d c) x))
            (record { found = found_test (price_at t d (cell_number d c) x) h; points = refl }) (node_passes named c _) e
