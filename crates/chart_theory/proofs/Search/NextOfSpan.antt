-- Next of span keeps the invariant and finds a cell's next rank, or there is none: by recursion on the fuel, which the spans of
-- the parts fall below. First the ranks that the last found pairing's successors are made of are looked for, which are over
-- shorter spans and so leave the cell as it is, then the least candidate is written.
use mathlib.Core.Path.{◌≡◌, refl, ◌∙◌}
use mathlib.Core.Bool.{Bool, true, false}
use mathlib.Core.List.{List}
use Prim.Native.Nat.{ℕ, zero, suc, ◌-◌, ◌≤◌, ◌<◌}
use native.Mathlib.Nat.{le_refl}
use native.Mathlib.Numerals.{add-one}
use native.Mathlib.Omega.{arith}
use lib.Dec.{ltb, eqb, eqb-suc-zero}
use borrow.Author.Tests.{eqb-true, ltb-true, ltb-false, lt-ltb, le-ltb}
use Rattle.bits.specs.Bits.{pick}
use Rattle.packing.specs.declared.Sym.{Sym}
use Rattle.packing.specs.declared.Rule.TheVariants.{Pair}
use Rattle.packing.specs.Meaning.{Grammar, Edge}
use Rattle.derivation.specs.Derivation.{At, Tree}
use Rattle.derivation.proofs.Rows.{Row, leaf_row, node_row}
use Rattle.chart_keys.specs.Keys.{back, back_pointer}
use Rattle.chart_table.specs.declared.Cell.{Cell}
use Rattle.chart_table.specs.declared.Layout.{Layout}
use Rattle.chart_table.specs.Table.{left_part, right_part, cell_number, back_at}
use Rattle.chart_ranks.specs.Ranks.{first_rank, next_rank}
use Rattle.chart_search.specs.Search.{Finder, extend, extend_parts, advance_pairing, back_before, next_of_span}
use Rattle.chart_theory.proofs.Table.Keys.{row_back}
use Rattle.chart_theory.proofs.Table.Cells.{InChart, span, ranked_in, RowOfIn, RowAtIn, row_unique}
use Rattle.chart_theory.proofs.Table.Entries.{found_test}
use Rattle.chart_theory.proofs.Invariant.{
  Setting,
  price_in,
  Found,
  Known,
  PartsFound,
  SuccessorsKnown,
  row_back_lem,
  Invariant,
  known_grows,
  Grown,
  grown_refl,
  grown_trans,
  all_below,
}
use Rattle.chart_theory.proofs.Candidates.Keys.{Splits, rule_is}
use Rattle.chart_theory.proofs.Candidates.Frontier.{part_cells}
use Rattle.chart_theory.proofs.Search.NewRow.{Done}
use Rattle.chart_theory.proofs.Search.Ranks.{first_rank_done, next_rank_done}

module _ {g : Grammar} {es : List Edge} {rules edges index : List ℕ} {d : Layout} (s : Setting g es rules edges index d) (m : ℕ) where
  -- rank n of a cell is wanted: those below it are found
  pub record Wanted (t : List ℕ) (c : Cell) (n : ℕ) : Type 0 where
    pub invariant : Invariant g es d m t
    pub in_chart : InChart d c
    pub due : span c ≤ m
    pub kept : n < d.ranks
    pub all : (x : ℕ) → x < n → Found d t c x
    pub new : 0 < n → price_in d t c n ≡ 0

  -- `find` finds the wanted rank of a cell over fewer than `size` places
  pub record Finds (find : Finder) (size : ℕ) : Type 0 where
    pub finds : {t : List ℕ} {c : Cell} {n : ℕ} → Wanted t c n → span c < size → Done s m t (find t c n) c n

  -- the rank that follows a found one
  module _ {find : Finder} {size : ℕ} (by-find : Finds find size) {t : List ℕ} {c : Cell} (x : ℕ) (invariant : Invariant g es d m t)
      (in_chart : InChart d c) (short : span c < size) (due : span c ≤ m) (found : Found d t c x) where
    pub extend_done : Done s m t (extend d find t c (suc x)) c (suc x)
    unfolding extend
    extend_done = by_kept (ltb (suc x) d.ranks) refl
      where
        weight : ℕ
        weight = price_in d t c (suc x)

        by_found : (b : Bool) → eqb weight 0 ≡ b → suc x < d.ranks → Done s m t (pick b (find t c (suc x)) t) c (suc x)
        by_found true e l =
            by-find.finds
            (record {
              invariant = invariant;
              in_chart = in_chart;
              due = due;
              kept = l;
              all = λ y h. all_below invariant in_chart x y (omega arith) found;
              new = λ _. eqb-true weight 0 e;
            })
            short
        by_found false e l = record {
          grown = grown_refl invariant;
          here = λ _ _. found_test weight e;
          longer_unchanged = λ y in_chart h. refl;
        }

        by_kept : (b : Bool) → ltb (suc x) d.ranks ≡ b
            → Done s m t (pick b (pick (eqb weight 0) (find t c (suc x)) t) t) c (suc x)
        by_kept true e = by_found (eqb weight 0) refl (ltb-true _ _ e)
        by_kept false e = record {
          grown = grown_refl invariant;
          here = λ l _. absurd (omega (arith, ltb-false (suc x) d.ranks e));
          longer_unchanged = λ y in_chart h. refl;
        }

  -- u has grown from t; over the cell's span, and over longer ones, nothing new is found
  record Beside (t u : List ℕ) (c : Cell) : Type 0 where
    grown : Grown g es d m t u
    unchanged : {b : Cell} (x : ℕ) → InChart d b → span c ≤ span b → price_in d u b x ≡ price_in d t b x

  -- and u knows what the successors of ranks p and q of the parts of a pairing are made of
  record PartsAdvanced (t u : List ℕ) (c : Cell) (B C : Sym) (j p q : ℕ) : Type 0 where
    beside : Beside t u c
    on_right_lem : Known g es d u (right_part c C j) (suc q)
    on_left : q ≡ 0 → Known g es d u (left_part c B j) (suc p)

  -- or of rank x of a cell
  record Advanced (t u : List ℕ) (c : Cell) (x : ℕ) : Type 0 where
    beside : Beside t u c
    successors : (v : Row) → RowAtIn g es c x v → SuccessorsKnown g es d u c v

  module _ {find : Finder} {t : List ℕ} {c : Cell} (by-find : Finds find (span c)) (invariant : Invariant g es d m t)
      (in_chart : InChart d c) (due : span c ≤ m) where
    module _ {B C : Sym} {r w j : ℕ} (splits : Splits g c B C r w j) (p : ℕ) (left : Found d t (left_part c B j) p) where
      abbrev on_right : ℕ → List ℕ
      on_right q = extend d find t (right_part c C j) (suc q)

      right_done : (q : ℕ) → Found d t (right_part c C j) q → Done s m t (on_right q) (right_part c C j) (suc q)
      right_done q right =
          extend_done by-find q invariant (part_cells s in_chart splits).1 (omega (arith, splits.after, splits.before))
          (omega (arith, splits.after)) right

      parts_advanced : (q : ℕ) → Found d t (right_part c C j) q
          → PartsAdvanced t (extend_parts d find t c (back r j p q) (Pair c.head B C w)) c B C j p q
      unfolding extend_parts
      parts_advanced zero right =
          let one = right_done zero right in
          let two = extend_done by-find p one.grown.invariant (part_cells s in_chart splits).0
          (omega (arith, splits.after, splits.before)) (omega (arith, splits.before)) (one.grown.grows.keeps _ p left) in
          rw (add-one p)
          (record {
            beside = record {
              grown = grown_trans one.grown two.grown;
              unchanged = λ x in_chart h. two.longer_unchanged x in_chart (omega (arith, splits.after, splits.before))
                  ∙ one.longer_unchanged x in_chart (omega (arith, splits.after, splits.before));
            };
            on_right_lem = known_grows g es two.grown.grows (right_part c C j) 1 one.here;
            on_left = λ _. two.here;
          })
      parts_advanced (suc q) right =
          let one = right_done (suc q) right in
          rw (eqb-suc-zero q, add-one (suc q))
          (record {
            beside = record {
              grown = one.grown;
              unchanged = λ x in_chart h. one.longer_unchanged x in_chart (omega (arith, splits.after, splits.before));
            };
            on_right_lem = one.here;
            on_left = λ z. absurd (omega arith);
          })

    advance_row : (x : ℕ) {v : Row} {z : Tree} → At (ranked_in g es c) x z → RowOfIn g es c v z → PartsFound g es d t c v
        → Advanced t (advance_pairing rules d find t c (row_back v)) c x
    unfolding advance_pairing
    advance_row x l (leaf_row p q) parts =
        rw (le-ltb c.from 0 (omega arith))
        (record {
          beside = record { grown = grown_refl invariant; unchanged = λ x in_chart h. refl };
          successors = λ v at. rw (row_unique g es c x at (_, l, leaf_row p q)) (λ B C w rule.
              let z : ◌≡◌ {A = ℕ} 0 1 = cc in absurd (omega arith));
        })
    advance_row x l (node_row {B} {C} {r} {w} {j} {p} {q} rule h₁ h₂ m₁ m₂) parts =
        let (left, right) = parts B C w rule in
        let splits : Splits g c B C r w j = record { rule = rule; after = h₁; before = h₂ } in
        let f = parts_advanced splits p left q right in
        rw (rule_is s r rule, lt-ltb c.from j h₁, lt-ltb j c.to h₂)
        (record {
          beside = f.beside;
          successors = λ v at. rw (row_unique g es c x at (_, l, node_row rule h₁ h₂ m₁ m₂)) (λ B' C' w' rule'.
              let b : B' ≡ B = cc in let e : C' ≡ C = cc in rw (b, e) (f.on_right_lem, f.on_left));
        })

    advance_done : (x : ℕ) → Found d t c x
        → Advanced t (advance_pairing rules d find t c (back_pointer (back_at t d (cell_number d c) x))) c x
    advance_done x found =
        let (v, held) = invariant.holds x in_chart found in
        rw (row_back_lem g es d t c x held) (advance_row x held.place.1 held.place.2 held.parts)

  -- one step of next of span
  module _ {find : Finder} (t : List ℕ) (c : Cell) (by-find : Finds find (span c)) where
    abbrev advanced : ℕ → List ℕ
    advanced n = advance_pairing rules d find t c (back_pointer (back_at t d (cell_number d c) (n - 1)))

    next_by : (n : ℕ) → Wanted t c n
        → Done s m t (pick (eqb n 0) (first_rank rules edges index d c t) (next_rank rules edges index d c n (advanced n))) c n
    next_by zero wanted = first_rank_done s (record {
      invariant = wanted.invariant;
      in_chart = wanted.in_chart;
      due = wanted.due;
      kept = wanted.kept;
      all = wanted.all;
      last = λ x v e. absurd (omega arith);
      new = wanted.new;
    })
    next_by (suc n) wanted =
        let last : suc n - 1 ≡ n = omega arith in
        let f = advance_done by-find wanted.invariant wanted.in_chart wanted.due n (wanted.all n (omega arith)) in
        let done = next_rank_done s n (record {
          invariant = f.beside.grown.invariant;
          in_chart = wanted.in_chart;
          due = wanted.due;
          kept = wanted.kept;
          all = λ x l. f.beside.grown.grows.keeps _ x (wanted.all x l);
          last = λ x v e at. f.successors v (rw (let same : x ≡ n = omega arith in same) at at);
          new = λ h. f.beside.unchanged (suc n) wanted.in_chart (le_refl (span c)) ∙ wanted.new h;
        }) in
        rw (eqb-suc-zero n, last)
        (record {
          grown = grown_trans f.beside.grown done.grown;
          here = done.here;
          longer_unchanged = λ x in_chart h. done.longer_unchanged x in_chart h ∙ f.beside.unchanged x in_chart (omega arith);
        })

  pub next_finds : (fuel : ℕ) → Finds (next_of_span rules edges index d fuel) (suc fuel)
  unfolding next_of_span back_before
  next_finds zero = record { finds = λ wanted short. absurd (omega (arith, wanted.in_chart.order)) }
  next_finds (suc fuel) = record {
    finds = λ {t} {c} {n} wanted short.
        let parts : Finds (next_of_span rules edges index d fuel) (span c) =
        record { finds = λ part less. (next_finds fuel).finds part (omega arith) } in
        next_by t c parts n wanted;
  }
