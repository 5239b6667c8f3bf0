-- What a rank of a cell spells, one node at a time: nothing where the rank is not found or its back pointer is wrong there; else the weight
-- of its node, with those of two parts or of none. A node that is checked has two parts where the back trace has.
use mathlib.Core.Path.{◌≡◌, refl, sym, ap, subst, ◌∙◌}
use mathlib.Core.Bool.{Bool, true, false}
use mathlib.Core.Option.{Option, none, some}
use mathlib.Core.List.{List}
use Prim.Native.Nat.{ℕ, zero, suc, ◌+◌, ◌-◌, ◌≤◌, ◌<◌}
use native.Mathlib.Omega.{arith}
use lib.Dec.{ltb, eqb}
use lib.ListN.{length}
use borrow.Author.Tests.{lt-ltb, ltb-true, eq-eqb, ne_eqb}
use Rattle.std.specs.Prelude.{Some, None}
use Rattle.std.specs.Prelude as P
use Rattle.bits.specs.Bits.{pick}
use Rattle.packing.specs.Flat.{rule_at}
use Rattle.packing.specs.Store.{store_all}
use Rattle.packing.specs.declared.Sym.{Sym}
use Rattle.packing.specs.declared.Word as W
use Rattle.packing.specs.declared.Rule.{Rule}
use Rattle.packing.specs.declared.Rule.TheVariants.{Pair, Word}
use Rattle.chart_keys.specs.declared.BackPointer.{BackPointer}
use Rattle.chart_table.specs.declared.Cell.{Cell}
use Rattle.chart_table.specs.declared.Layout.{Layout}
use Rattle.chart_table.specs.Table.{left_part, right_part, cell_number, price_at}
use Rattle.chart_trace.specs.declared.checked.Scope.{Scope}
use Rattle.chart_trace.specs.declared.checked.CheckedNode.{CheckedNode}
use Rattle.chart_trace.specs.declared.checked.CheckedNode.TheVariants.{Leaf, Pairing}
use Rattle.chart_trace.specs.declared.checked.Traced.{Traced}
use Rattle.chart_trace.specs.Trace.{trace_back}
use Rattle.chart_trace.specs.Checked.{edge_fits, any_leaf, node_in, checked_node, with_parts, node_weight, spelled_weight, traced_of}
use Rattle.chart_trace.proofs.Trace.{no_parts, rule_within, back_of, fuel_enough, trace_of}

-- a node by its rule
pub by_rule : (rules edges : List ℕ) (k : Scope) (c : Cell) (b : BackPointer) {z y : Rule} → b.rule < k.rules → z ≡ rule_at rules b.rule → z ≡ y
    → checked_node rules edges k c b ≡ node_in edges k c b y
unfolding checked_node
by_rule rules edges k c b l e f = rw (lt-ltb _ _ l, ← e, f)

-- a checked node as the back trace sees it
abbrev pub Seen : List ℕ → Cell → BackPointer → P.Option CheckedNode → Type 0
Seen rules c b (Some (Leaf w)) = (h : Sym) × (y : W.Word) × (v : ℕ) × (rule_within rules c b ≡ Word h y v)
Seen rules c b (Some (Pairing y z w)) = (c.from < b.split) × (b.split < c.to) × ((h : Sym) × (rule_within rules c b ≡ Pair h y z w))
Seen rules c b None = Unit {0}

word_within : (s s' : Bool) (r : Rule) {h : Sym} {y : W.Word} {w : ℕ} → r ≡ Word h y w
    → (h' : Sym) × (y' : W.Word) × (v : ℕ) × (pick s (pick s' r no_parts) no_parts ≡ Word h' y' v)
word_within true true r e = (_, _, _, e)
word_within true false r e = (_, _, _, refl)
word_within false s' r e = (_, _, _, refl)

module _ (rules edges : List ℕ) (E : ℕ) (c : Cell) (b : BackPointer) {h : Sym} {x : W.Word} {w : ℕ} (e : rule_at rules b.rule ≡ Word h x w) where
  leaf_seen : (s : Bool) (v : ℕ) (n : P.Option CheckedNode) → Seen rules c b n → Seen rules c b (pick s (Some (Leaf v)) n)
  leaf_seen true v n other = word_within (ltb c.from b.split) (ltb b.split c.to) (rule_at rules b.rule) e
  leaf_seen false v n other = other

  any_seen : (v n : ℕ) → Seen rules c b (any_leaf edges E c x v n)
  unfolding any_leaf
  any_seen v zero = tt
  any_seen v (suc n) = leaf_seen (edge_fits edges E c n x) _ (any_leaf edges E c x v n) (any_seen v n)

  word_seen : (a s named : Bool) (v v' : ℕ) → Seen rules c b (pick a (pick s (Some (Leaf v)) (pick named None (any_leaf edges E c x v' E))) None)
  word_seen true s true v v' = leaf_seen s v None tt
  word_seen true s false v v' = leaf_seen s v (any_leaf edges E c x v' E) (any_seen v' E)
  word_seen false s named v v' = tt

pub seen : (rules edges : List ℕ) (k : Scope) (c : Cell) (b : BackPointer) → Seen rules c b (checked_node rules edges k c b)
unfolding checked_node
seen rules edges k c b = go (ltb b.rule k.rules) (rule_at rules b.rule) refl
  where
    on_pair : (a s s' : Bool) → ltb c.from b.split ≡ s → ltb b.split c.to ≡ s' → (h x y : Sym) (w : ℕ) → rule_at rules b.rule ≡ Pair h x y w
        → Seen rules c b (pick a (pick s (pick s' (Some (Pairing x y w)) None) None) None)
    on_pair true true true f g h x y w e = (ltb-true _ _ f, ltb-true _ _ g, (h, rw (f, g) e))
    on_pair true true false f g h x y w e = tt
    on_pair true false s' f g h x y w e = tt
    on_pair false s s' f g h x y w e = tt

    go : (q : Bool) (r : Rule) → rule_at rules b.rule ≡ r → Seen rules c b (pick q (node_in edges k c b r) None)
    go true (Pair h x y w) e = on_pair (eqb h.0 c.head.0) (ltb c.from b.split) (ltb b.split c.to) refl refl h x y w e
    go true (Word h x w) e = word_seen rules edges k.edges c b e (eqb h.0 c.head.0) (edge_fits edges k.edges c b.left x) k.named _ w
    go false r e = tt

pub seen_as : (rules edges : List ℕ) (k : Scope) (c : Cell) (b : BackPointer) {n m : P.Option CheckedNode} → n ≡ checked_node rules edges k c b → n ≡ m
    → Seen rules c b m
seen_as rules edges k c b e is = subst (Seen rules c b) (sym e ∙ is) (seen rules edges k c b)

-- fuel: parts are over shorter spans
parts_same : (rules : List ℕ) (spelled spelled' : Cell → ℕ → Option ℕ) (c : Cell) (b : BackPointer) (n : P.Option CheckedNode) → Seen rules c b n
    → ((c' : Cell) (x : ℕ) → c'.from < c'.to → c'.to - c'.from < c.to - c.from → spelled c' x ≡ spelled' c' x)
    → node_weight spelled c b n ≡ node_weight spelled' c b n
parts_same rules spelled spelled' c b (Some (Leaf w)) s same = refl
parts_same rules spelled spelled' c b (Some (Pairing x y w)) s same =
    let (l, m, rest) = s in
    rw (same (left_part c x b.split) b.left l (omega arith), same (right_part c y b.split) b.right m (omega arith))
parts_same rules spelled spelled' c b None s same = refl

module _ (t rules edges : List ℕ) (k : Scope) (d : Layout) where
  spelled_enough : (f g : ℕ) (c : Cell) (x : ℕ) → c.from < c.to → c.to - c.from ≤ f → c.to - c.from ≤ g
      → spelled_weight t rules edges k d f c x ≡ spelled_weight t rules edges k d g c x
  unfolding spelled_weight
  spelled_enough zero g c x h l m = absurd (omega arith)
  spelled_enough (suc f) zero c x h l m = absurd (omega arith)
  spelled_enough (suc f) (suc g) c x h l m =
      let b = back_of t d c x in
      ap (pick (eqb (price_at t d (cell_number d c) x) 0) none) (parts_same rules (spelled_weight t rules edges k d f) (spelled_weight t rules edges k d g) c b
      (checked_node rules edges k c b) (seen rules edges k c b) (λ c' y h s. spelled_enough f g c' y h (omega arith) (omega arith)))

  -- the weight that a rank of a cell spells
  abbrev pub spelled_of : Cell → ℕ → Option ℕ
  spelled_of c x = spelled_weight t rules edges k d (c.to - c.from) c x

  module _ (c : Cell) (x : ℕ) (order : c.from < c.to) where
    one_more : c.to - c.from ≡ suc (c.to - (c.from + 1))
    one_more = omega arith

    pub not_found : {p : ℕ} → p ≡ price_at t d (cell_number d c) x → p ≡ 0 → spelled_of c x ≡ none
    unfolding spelled_weight
    not_found e z = rw (one_more, ← e, eq-eqb _ 0 z)

    module _ {p : ℕ} (price : p ≡ price_at t d (cell_number d c) x) (found : p ≡ 0 → ⊥) {b : BackPointer} (e : b ≡ back_of t d c x)
        {n : P.Option CheckedNode} (checked : n ≡ checked_node rules edges k c b) where
      by_node : {m : P.Option CheckedNode} → n ≡ m → spelled_of c x ≡ node_weight (spelled_weight t rules edges k d (c.to - (c.from + 1))) c b m
      unfolding spelled_weight
      by_node is = rw (one_more, ← price, ne_eqb _ 0 found, ← e, ← checked, is)

      pub wrong_node : n ≡ None → spelled_of c x ≡ none
      wrong_node is = by_node is

      pub leaf_node : {w : ℕ} → n ≡ Some (Leaf w) → spelled_of c x ≡ some w
      leaf_node is = by_node is

      pub pairing_node : {y z : Sym} {w : ℕ} → n ≡ Some (Pairing y z w)
          → spelled_of c x ≡ with_parts w (spelled_of (left_part c y b.split) b.left) (spelled_of (right_part c z b.split) b.right)
      pairing_node {y} {z} is =
          let (l, m, rest) = seen_as rules edges k c b checked is in
          by_node is ∙ rw (
            spelled_enough (c.to - (c.from + 1)) (b.split - c.from) (left_part c y b.split) b.left l (omega arith) (omega arith),
            spelled_enough (c.to - (c.from + 1)) (c.to - b.split) (right_part c z b.split) b.right m (omega arith) (omega arith),
          )

    -- the answer, for any fuel that suffices
    pub answers : {r : P.Option Traced} {trace : List ℕ} (trace₀ : List ℕ) → r ≡ traced_of (spelled_of c x) (length (trace_of t rules d c x))
        → ((w : ℕ) → spelled_of c x ≡ some w → trace ≡ store_all trace₀ 0 (trace_of t rules d c x))
        → (f : ℕ) → c.to - c.from ≤ f
        → (r ≡ traced_of (spelled_weight t rules edges k d f c x) (length (trace_back t rules d f c x)))
        × ((w : ℕ) → spelled_weight t rules edges k d f c x ≡ some w → trace ≡ store_all trace₀ 0 (trace_back t rules d f c x))
    answers trace₀ e stored f h =
        rw (spelled_enough f (c.to - c.from) c x order h (omega arith), fuel_enough t rules d f (c.to - c.from) c x order h (omega arith)) (e, stored)

    pub no_tree : {trace : List ℕ} (trace₀ : List ℕ) → spelled_of c x ≡ none → (f : ℕ) → c.to - c.from ≤ f
        → (None ≡ traced_of (spelled_weight t rules edges k d f c x) (length (trace_back t rules d f c x)))
        × ((w : ℕ) → spelled_weight t rules edges k d f c x ≡ some w → trace ≡ store_all trace₀ 0 (trace_back t rules d f c x))
    no_tree trace₀ e = answers trace₀ (rw e) (λ w g. let z : ◌≡◌ {A = ℕ} 0 1 = cc in absurd (omega arith))

    pub one_tree : {trace : List ℕ} {n w : ℕ} (trace₀ : List ℕ) → spelled_of c x ≡ some w
        → (trace ≡ store_all trace₀ 0 (trace_of t rules d c x)) × (n ≡ length (trace_of t rules d c x)) → (f : ℕ) → c.to - c.from ≤ f
        → (Some (record { numbers = n; weight = w }) ≡ traced_of (spelled_weight t rules edges k d f c x) (length (trace_back t rules d f c x)))
        × ((v : ℕ) → spelled_weight t rules edges k d f c x ≡ some v → trace ≡ store_all trace₀ 0 (trace_back t rules d f c x))
    one_tree trace₀ e g = answers trace₀ (rw (e, g.1)) (λ w f. g.0)
