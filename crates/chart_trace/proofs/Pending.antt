-- A tree traced by a loop: after a node comes its left part, and its right part is pending. The pending parts join end to end from where the
-- part at hand ends, so there are fewer of them than there is room for, and the trace of the part at hand, then theirs, is all that is left to
-- write.
use mathlib.Core.Path.{◌≡◌, refl, sym, ap, ◌∙◌}
use mathlib.Core.List.{List, [], ◌∷◌, ◌++◌, append-nil, append_assoc}
use Prim.Native.Nat.{ℕ, suc, ◌+◌, ◌-◌, ◌*◌, ◌≤◌, ◌<◌}
use native.Mathlib.Omega.{arith}
use lib.ListN.{length, set}
use Rattle.std.specs.Prelude.{Option, Some, None}
use Rattle.packing.specs.Store.{store_all}
use Rattle.packing.specs.declared.Sym.{Sym}
use Rattle.packing.specs.declared.Word as W
use Rattle.packing.specs.declared.Rule.{Rule}
use Rattle.packing.specs.declared.Rule.TheVariants.{Pair, Word}
use Rattle.chart_keys.specs.declared.BackPointer.{BackPointer}
use Rattle.chart_keys.specs.Keys.{Digits}
use Rattle.chart_table.specs.declared.Cell.{Cell}
use Rattle.chart_table.specs.declared.Layout.{Layout}
use Rattle.chart_table.specs.Table.{last_place, most_ranks, left_part, right_part}
use Rattle.chart_table.specs.declared.Part.{Part}
use Rattle.chart_trace.specs.declared.right_parts.RightPart.{RightPart}
use Rattle.chart_trace.specs.RightParts.{right_part_of, part_from, popped, left_pending}
use Rattle.chart_trace.proofs.Trace.{rule_within, pair_within, back_of, trace_of, trace_pair, trace_leaf}

-- a part
abbrev pub part : Cell → ℕ → Part
part c x = record { cell = c; rank = x }

-- parts that join end to end from one place on, at most to another
unfoldable pub Joined : List RightPart → ℕ → ℕ → Type 0
Joined [] from last = from ≤ last
Joined (q ∷ qs) from last = (from < q.to) × (q.rank < 256) × Joined qs q.to last

few_lem : (qs : List RightPart) (from last : ℕ) → Joined qs from last → length qs + from ≤ last
unfolding Joined
few_lem [] from last k = omega arith
few_lem (q ∷ qs) from last k =
    let h = few_lem qs q.to last k.2 in
    omega (arith, k.0)

module _ (t rules : List ℕ) (d : Layout) where
  -- the trace of a part, and those of the pending parts, one behind another
  abbrev pub trace_part : Part → List ℕ
  trace_part p = trace_of t rules d p.cell p.rank

  abbrev pub rest : List RightPart → ℕ → List ℕ
  rest [] from = []
  rest (q ∷ qs) from = trace_part (part_from from q) ++ rest qs q.to

  -- the loop's state: the trace so far, the pending parts and the part at hand, of all that is to be written into `trace₀`
  pub record Tracing (first last : ℕ) (trace₀ all trace : List ℕ) (qs : List RightPart) (p : Part) (next : ℕ) : Type 0 where
    pub order : p.cell.from < p.cell.to
    pub within : p.cell.to ≤ last_place
    pub rank : p.rank ≤ most_ranks
    pub joined : Joined qs p.cell.to last
    pub few : length qs + p.cell.to ≤ last
    pub numbers : next + 4 * (last - p.cell.from) ≤ 4 * (last - first) + 2 * length qs
    pub counted : next + length (trace_part p ++ rest qs p.cell.to) ≡ length all
    pub stored : store_all trace next (trace_part p ++ rest qs p.cell.to) ≡ store_all trace₀ 0 all

  pub starts : (trace : List ℕ) (p : Part) {qs : List RightPart} → qs ≡ [] → p.cell.from < p.cell.to → p.cell.to ≤ last_place → p.rank ≤ most_ranks
      → Tracing p.cell.from p.cell.to trace (trace_part p) trace qs p 0
  unfolding Joined
  starts trace p e h w r =
      rw e (record {
        order = h;
        within = w;
        rank = r;
        joined = omega arith;
        few = omega arith;
        numbers = omega arith;
        counted =
            rw append-nil (omega arith);
        stored = rw append-nil;
      })

  module _ {first last : ℕ} {trace₀ all trace : List ℕ} {qs : List RightPart} {p : Part} {next : ℕ}
      (s : Tracing first last trace₀ all trace qs p next) {b : BackPointer} (e : b ≡ back_of t d p.cell p.rank) where
    -- the node's numbers are written, and `more` is left
    written : (more : List ℕ) → trace_part p ++ rest qs p.cell.to ≡ b.rule ∷ b.left ∷ more
        → (store_all (set (set trace next b.rule) (next + 1) b.left) (next + 2) more ≡ store_all trace₀ 0 all) × (next + 2 + length more ≡ length all)
    unfolding store_all
    written more f =
        let two : next + 2 ≡ next + 1 + 1 = omega arith in
        let counted : next + suc (suc (length more)) ≡ length all = rw f at s.counted in
        (rw two (rw f at s.stored), omega arith)

    -- a node with two parts
    pub descends : {r : Rule} {h y z : Sym} {w : ℕ} {qs' : List RightPart} → Digits b → last ≤ last_place → r ≡ Pair h y z w
        → r ≡ rule_within rules p.cell b → qs' ≡ right_part_of z p.cell.to b.right ∷ qs
        → Tracing first last trace₀ all (set (set trace next b.rule) (next + 1) b.left) qs' (part (left_part p.cell y b.split) b.left) (next + 2)
    unfolding Joined
    descends {y = y} {z} digits small is by g =
        let c = p.cell in
        let j = b.split in
        let f = sym is ∙ by in
        let (l, m) = pair_within rules c b f in
        let more : trace_part p ++ rest qs c.to
        ≡ b.rule ∷ b.left ∷ (trace_of t rules d (left_part c y j) b.left ++ rest (right_part_of z c.to b.right ∷ qs) j) =
        rw (trace_pair t rules d c p.rank s.order e f, append_assoc) in
        rw g (record {
          order = l;
          within = omega arith;
          rank = omega arith;
          joined = (m, digits.right, s.joined);
          few = omega arith;
          numbers = omega (arith, s.numbers);
          counted = (written _ more).1;
          stored = (written _ more).0;
        })

    -- a node with none: a part is pending, or nothing is
    leaf_written : {h : Sym} {y : W.Word} {w : ℕ} {r : Rule} → r ≡ Word h y w → r ≡ rule_within rules p.cell b
        → trace_part p ++ rest qs p.cell.to ≡ b.rule ∷ b.left ∷ rest qs p.cell.to
    leaf_written is by = rw (trace_leaf t rules d p.cell p.rank s.order e (sym is ∙ by))

    pub resumes : {h : Sym} {y : W.Word} {w : ℕ} {r : Rule} {o : Option Part} {q : Part} {qs' : List RightPart} → r ≡ Word h y w
        → r ≡ rule_within rules p.cell b → last ≤ last_place → o ≡ popped p.cell.to qs → o ≡ Some q → qs' ≡ left_pending qs
        → Tracing first last trace₀ all (set (set trace next b.rule) (next + 1) b.left) qs' q (next + 2)
    unfolding Joined
    resumes {q = q} is by small pop one g =
        rw g (go qs (sym one ∙ pop) s.joined s.few s.numbers (written _ (leaf_written is by)))
      where
        go : (ps : List RightPart) → Some q ≡ popped p.cell.to ps → Joined ps p.cell.to last → length ps + p.cell.to ≤ last
            → next + 4 * (last - p.cell.from) ≤ 4 * (last - first) + 2 * length ps
            → (store_all (set (set trace next b.rule) (next + 1) b.left) (next + 2) (rest ps p.cell.to) ≡ store_all trace₀ 0 all)
            × (next + 2 + length (rest ps p.cell.to) ≡ length all)
            → Tracing first last trace₀ all (set (set trace next b.rule) (next + 1) b.left) (left_pending ps) q (next + 2)
        go [] f k l m n = let z : ◌≡◌ {A = ℕ} 0 1 = cc in absurd (omega arith)
        go (x ∷ ps) f k l m n =
            let top : q ≡ part_from p.cell.to x = cc in
            rw top (record {
              order = k.0;
              within = let h = few_lem ps x.to last k.2 in omega arith;
              rank = omega (arith, k.1);
              joined = k.2;
              few = few_lem ps x.to last k.2;
              numbers = let o = s.order in omega (arith, k.0);
              counted = n.1;
              stored = n.0;
            })

    pub ends : {h : Sym} {y : W.Word} {w : ℕ} {r : Rule} {o : Option Part} {trace' : List ℕ} → r ≡ Word h y w → r ≡ rule_within rules p.cell b
        → o ≡ popped p.cell.to qs → o ≡ None
        → trace' ≡ set (set trace next b.rule) (next + 1) b.left → (trace' ≡ store_all trace₀ 0 all) × (next + 2 ≡ length all)
    unfolding store_all
    ends {trace' = trace'} is by pop none g = go qs (sym none ∙ pop) (written _ (leaf_written is by))
      where
        go : (ps : List RightPart) → None ≡ popped p.cell.to ps
            → (store_all (set (set trace next b.rule) (next + 1) b.left) (next + 2) (rest ps p.cell.to) ≡ store_all trace₀ 0 all)
            × (next + 2 + length (rest ps p.cell.to) ≡ length all)
            → (trace' ≡ store_all trace₀ 0 all) × (next + 2 ≡ length all)
        go [] f n = (g ∙ n.0, omega (arith, n.1))
        go (x ∷ ps) f n = let z : ◌≡◌ {A = ℕ} 0 1 = cc in absurd (omega arith)
