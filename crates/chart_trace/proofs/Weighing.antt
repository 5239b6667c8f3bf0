-- A tree weighed by the loop that traces it: the weight so far, with what the part at hand and the pending ones spell, is what the whole
-- spells. The weight stays small: each node has two numbers of 32 bits at most.
use mathlib.Core.Path.{◌≡◌, refl, sym, ap, ◌∙◌}
use mathlib.Core.Option.{Option, none, some}
use mathlib.Core.List.{List, [], ◌∷◌}
use Prim.Native.Nat.{ℕ, zero, suc, ◌+◌, ◌*◌, ◌≤◌, ◌<◌}
use native.Mathlib.Numerals.{add-one}
use native.Mathlib.Omega.{arith}
use lib.ListN.{length, get_or, set}
use lib.Seq.{get_or-set_same, get_or-set_other}
use Rattle.std.specs.Prelude.{Some, None}
use Rattle.std.specs.Prelude as P
use Rattle.packing.specs.declared.Sym.{Sym}
use Rattle.chart_keys.specs.declared.BackPointer.{BackPointer}
use Rattle.chart_keys.specs.Keys.{Digits}
use Rattle.chart_table.specs.declared.Layout.{Layout}
use Rattle.chart_table.specs.declared.Part.{Part}
use Rattle.chart_table.specs.Table.{last_place, left_part, right_part}
use Rattle.chart_trace.specs.declared.checked.Scope.{Scope}
use Rattle.chart_trace.specs.Checked.{with_parts}
use Rattle.chart_trace.specs.declared.right_parts.RightPart.{RightPart}
use Rattle.chart_trace.specs.RightParts.{right_part_of, part_from, popped, left_pending}
use Rattle.chart_trace.proofs.Pending.{part}
use Rattle.chart_trace.proofs.Spelled.{spelled_of}

-- sums where each part may be missing
nothing_else : (x : Option ℕ) → with_parts 0 x (some 0) ≡ x
nothing_else none = refl
nothing_else (some x) = ap some (omega arith)

nested : (v w : ℕ) (x y z : Option ℕ) → with_parts v (with_parts w x y) z ≡ with_parts (v + w) x (with_parts 0 y z)
nested v w none y z = refl
nested v w (some x) none z = refl
nested v w (some x) (some y) none = refl
nested v w (some x) (some y) (some z) = ap some (omega arith)

leaf_first : (v w : ℕ) (y z : Option ℕ) → with_parts v (some w) (with_parts 0 y z) ≡ with_parts (v + w) y z
leaf_first v w none z = refl
leaf_first v w (some y) none = refl
leaf_first v w (some y) (some z) = ap some (omega arith)

leaf_last : (v w : ℕ) → with_parts v (some w) (some 0) ≡ some (v + w)
leaf_last v w = ap some (omega arith)

heavier : (v w next : ℕ) → v ≤ next * 4294967296 → w < 8589934592 → v + w ≤ (next + 2) * 4294967296
heavier v w next h l = omega arith

module _ (t rules edges : List ℕ) (k : Scope) (d : Layout) where
  -- what a part spells, and the pending parts together
  abbrev pub spelled_part : Part → Option ℕ
  spelled_part p = spelled_of t rules edges k d p.cell p.rank

  abbrev pub pending_weight : List RightPart → ℕ → Option ℕ
  pending_weight [] from = some 0
  pending_weight (q ∷ qs) from = with_parts 0 (spelled_part (part_from from q)) (pending_weight qs q.to)

  -- the loop's state, of all that is to be weighed
  pub record Weighing (all : Option ℕ) (qs : List RightPart) (p : Part) (next weight : ℕ) : Type 0 where
    pub total : with_parts weight (spelled_part p) (pending_weight qs p.cell.to) ≡ all
    pub light : weight ≤ next * 4294967296

  pub unweighed : (p : Part) {qs : List RightPart} → qs ≡ [] → Weighing (spelled_part p) qs p 0 0
  unweighed p e = rw e (record { total = nothing_else (spelled_part p); light = omega arith })

  module _ {all : Option ℕ} {qs : List RightPart} {p : Part} {next weight : ℕ} (s : Weighing all qs p next weight) where
    -- a part that spells nothing: neither does the whole
    pub spells_nothing : spelled_part p ≡ none → all ≡ none
    spells_nothing e = sym s.total ∙ ap (λ x. with_parts weight x (pending_weight qs p.cell.to)) e

    -- a node with two parts
    pub weighs_pair : (b : BackPointer) (y z : Sym) {w : ℕ} {qs' : List RightPart}
        → spelled_part p ≡ with_parts w (spelled_of t rules edges k d (left_part p.cell y b.split) b.left)
        (spelled_of t rules edges k d (right_part p.cell z b.split) b.right)
        → w < 8589934592 → qs' ≡ right_part_of z p.cell.to b.right ∷ qs
        → Weighing all qs' (part (left_part p.cell y b.split) b.left) (next + 2) (weight + w)
    weighs_pair b y z {w} e low g =
        let c = p.cell in
        let j = b.split in
        rw g (record {
          total = sym (nested weight w (spelled_of t rules edges k d (left_part c y j) b.left) (spelled_of t rules edges k d (right_part c z j) b.right)
              (pending_weight qs c.to))
              ∙ ap (λ q. with_parts weight q (pending_weight qs c.to)) (sym e) ∙ s.total;
          light = heavier weight w next s.light low;
        })

    module _ {w : ℕ} (e : spelled_part p ≡ some w) {o : P.Option Part} (pop : o ≡ popped p.cell.to qs) where
      -- a leaf, and a part is pending
      pub weighs_leaf : {q : Part} {qs' : List RightPart} → o ≡ Some q → qs' ≡ left_pending qs → w < 8589934592
          → Weighing all qs' q (next + 2) (weight + w)
      weighs_leaf {q} one g low =
          rw g (record {
            total = go qs (sym one ∙ pop) (rw e at s.total);
            light = heavier weight w next s.light low;
          })
        where
          go : (ps : List RightPart) → Some q ≡ popped p.cell.to ps → with_parts weight (some w) (pending_weight ps p.cell.to) ≡ all
              → with_parts (weight + w) (spelled_part q) (pending_weight (left_pending ps) q.cell.to) ≡ all
          go [] f h = let z : ◌≡◌ {A = ℕ} 0 1 = cc in absurd (omega arith)
          go (x ∷ ps) f h =
              let top : q ≡ part_from p.cell.to x = cc in
              rw top (sym (leaf_first weight w (spelled_part (part_from p.cell.to x)) (pending_weight ps x.to)) ∙ h)

      -- a leaf, and nothing is pending
      pub weighs_last : o ≡ None → all ≡ some (weight + w)
      weighs_last nothing = go qs (sym nothing ∙ pop) (rw e at s.total)
        where
          go : (ps : List RightPart) → None ≡ popped p.cell.to ps → with_parts weight (some w) (pending_weight ps p.cell.to) ≡ all
              → all ≡ some (weight + w)
          go [] f h = sym h ∙ leaf_last weight w
          go (x ∷ ps) f h = let z : ◌≡◌ {A = ℕ} 0 1 = cc in absurd (omega arith)
