-- The trace of a rank of a cell: any fuel of at least the span's length serves; its node's two numbers stand first, and by its
-- rule the traces of two parts follow, or none.
use mathlib.Core.Path.{◌≡◌, refl, sym, ◌∙◌}
use mathlib.Core.Bool.{Bool, true, false}
use mathlib.Core.List.{List, [], ◌∷◌, ◌++◌}
use Prim.Native.Nat.{ℕ, zero, suc, ◌+◌, ◌-◌, ◌≤◌, ◌<◌}
use native.Mathlib.Omega.{arith}
use lib.Dec.{ltb}
use borrow.Author.Tests.{ltb-true}
use Rattle.bits.specs.Bits.{pick}
use Rattle.packing.specs.Meaning.{symbol_of, word}
use Rattle.packing.specs.Flat.{rule_at}
use Rattle.packing.specs.declared.Sym.{Sym}
use Rattle.packing.specs.declared.Word as W
use Rattle.packing.specs.declared.Rule.{Rule}
use Rattle.packing.specs.declared.Rule.TheVariants.{Pair, Word}
use Rattle.chart_keys.specs.declared.BackPointer.{BackPointer}
use Rattle.chart_keys.specs.Keys.{back_pointer}
use Rattle.chart_table.specs.declared.Cell.{Cell}
use Rattle.chart_table.specs.declared.Layout.{Layout}
use Rattle.chart_table.specs.Table.{left_part, right_part, cell_number, back_at}
use Rattle.chart_trace.specs.Trace.{trace_parts, trace_back}

-- the rule of a node whose split is within, and else one that has no parts
abbrev pub no_parts : Rule
no_parts = Word (symbol_of 0) (word 0) 0

abbrev pub rule_within : List ℕ → Cell → BackPointer → Rule
rule_within rules c b = pick (ltb c.from b.split) (pick (ltb b.split c.to) (rule_at rules b.rule) no_parts) no_parts

-- parts are traced only where the split is within
parts_within : (s s' : Bool) (trace : Cell → ℕ → List ℕ) (c : Cell) (b : BackPointer) (r : Rule)
    → pick s (pick s' (trace_parts trace c b r) []) [] ≡ trace_parts trace c b (pick s (pick s' r no_parts) no_parts)
parts_within true true trace c b r = refl
parts_within true false trace c b r = refl
parts_within false s' trace c b r = refl

pub pair_within : (rules : List ℕ) (c : Cell) (b : BackPointer) {h x y : Sym} {w : ℕ} → Pair h x y w ≡ rule_within rules c b
    → (c.from < b.split) × (b.split < c.to)
pair_within rules c b {h} {x} {y} {w} = go (ltb c.from b.split) (ltb b.split c.to) refl refl
  where
    go : (s s' : Bool) → ltb c.from b.split ≡ s → ltb b.split c.to ≡ s'
        → Pair h x y w ≡ pick s (pick s' (rule_at rules b.rule) no_parts) no_parts → (c.from < b.split) × (b.split < c.to)
    go true true e f g = (ltb-true _ _ e, ltb-true _ _ f)
    go true false e f g = let z : ◌≡◌ {A = ℕ} 0 1 = cc in absurd (omega arith)
    go false s' e f g = let z : ◌≡◌ {A = ℕ} 0 1 = cc in absurd (omega arith)

-- the back pointer of a rank of a cell
abbrev pub back_of : List ℕ → Layout → Cell → ℕ → BackPointer
back_of t d c x = back_pointer (back_at t d (cell_number d c) x)

module _ (t rules : List ℕ) (d : Layout) where
  pub trace_suc : (f : ℕ) (c : Cell) (x : ℕ) → let b = back_of t d c x in
      trace_back t rules d (suc f) c x ≡ b.rule ∷ b.left ∷ trace_parts (trace_back t rules d f) c b (rule_within rules c b)
  unfolding trace_back
  trace_suc f c x =
      let b = back_of t d c x in
      rw (parts_within (ltb c.from b.split) (ltb b.split c.to) (trace_back t rules d f) c b (rule_at rules b.rule))

  -- fuel
  parts_same : (trace trace' : Cell → ℕ → List ℕ) (c : Cell) (b : BackPointer) (r : Rule)
      → ((h x y : Sym) (w : ℕ) → Pair h x y w ≡ r → (c.from < b.split) × (b.split < c.to))
      → ((c' : Cell) (x : ℕ) → c'.from < c'.to → c'.to - c'.from < c.to - c.from → trace c' x ≡ trace' c' x)
      → trace_parts trace c b r ≡ trace_parts trace' c b r
  parts_same trace trace' c b (Pair h x y w) within same =
      let (l, m) = within h x y w refl in
      rw (same (left_part c x b.split) b.left l (omega arith), same (right_part c y b.split) b.right m (omega arith))
  parts_same trace trace' c b (Word h x w) within same = refl

  pub fuel_enough : (f g : ℕ) (c : Cell) (x : ℕ) → c.from < c.to → c.to - c.from ≤ f → c.to - c.from ≤ g
      → trace_back t rules d f c x ≡ trace_back t rules d g c x
  fuel_enough zero g c x h l m = absurd (omega arith)
  fuel_enough (suc f) zero c x h l m = absurd (omega arith)
  fuel_enough (suc f) (suc g) c x h l m =
      let b = back_of t d c x in
      trace_suc f c x
      ∙ rw (parts_same (trace_back t rules d f) (trace_back t rules d g) c b (rule_within rules c b)
      (λ h y z w e. pair_within rules c b e) (λ c' y h s. fuel_enough f g c' y h (omega arith) (omega arith)))
      (sym (trace_suc g c x))

  -- the trace of a rank of a cell, and what stands in it where it has two parts or none
  abbrev pub trace_of : Cell → ℕ → List ℕ
  trace_of c x = trace_back t rules d (c.to - c.from) c x

  module _ (c : Cell) (x : ℕ) {b : BackPointer} (order : c.from < c.to) (e : b ≡ back_of t d c x) where
    by_node : trace_of c x ≡ b.rule ∷ b.left ∷ trace_parts (trace_back t rules d (c.to - (c.from + 1))) c b (rule_within rules c b)
    by_node =
        let s : c.to - c.from ≡ suc (c.to - (c.from + 1)) = omega arith in
        rw (e, s) (trace_suc (c.to - (c.from + 1)) c x)

    pub trace_pair : {h y z : Sym} {w : ℕ} → Pair h y z w ≡ rule_within rules c b
        → trace_of c x ≡ b.rule ∷ b.left ∷ (trace_of (left_part c y b.split) b.left ++ trace_of (right_part c z b.split) b.right)
    trace_pair {y = y} {z} f =
        let (l, m) = pair_within rules c b f in
        by_node ∙ rw (
          ← f,
          fuel_enough (c.to - (c.from + 1)) (b.split - c.from) (left_part c y b.split) b.left l (omega arith) (omega arith),
          fuel_enough (c.to - (c.from + 1)) (c.to - b.split) (right_part c z b.split) b.right m (omega arith) (omega arith),
        )

    pub trace_leaf : {h : Sym} {y : W.Word} {w : ℕ} → Word h y w ≡ rule_within rules c b → trace_of c x ≡ b.rule ∷ b.left ∷ []
    trace_leaf f = by_node ∙ rw (← f)
