-- The keys that the code takes the least of are those of the cell's candidates: leaves and seeds, which follow none, and the
-- successors of a found rank. For the index lists the cell's rules and edges, and a found entry's back pointer is its row's.
use mathlib.Core.Path.{◌≡◌, refl, sym, ap}
use mathlib.Core.Logic.{◌⊎◌, inl, inr, ⊎_elim}
use mathlib.Core.Bool.{true, false}
use mathlib.Core.List.{List}
use Prim.Native.Nat.{ℕ, zero, suc, ◌+◌, ◌*◌, ◌<◌}
use native.Mathlib.Numerals.{add-one}
use native.Mathlib.Omega.{arith}
use lib.ListN.{length, get_or}
use lib.Dec.{eqb, eqb-suc-zero}
use borrow.Author.Tests.{eqb-true, eqb-false, eq-eqb, ne_eqb}
use Rattle.packing.specs.declared.Sym.{Sym}
use Rattle.packing.specs.declared.Word as W
use Rattle.packing.specs.declared.Rule.{Rule}
use Rattle.packing.specs.declared.Rule.TheVariants.{Pair, Word}
use Rattle.packing.specs.Meaning.{word, Grammar, Edge, edge}
use Rattle.packing.specs.Flat.{rule_at}
use Rattle.derivation.specs.Derivation.{At, Offered, Tree}
use Rattle.derivation.proofs.Lists.{at_length}
use Rattle.derivation.proofs.Rows.{Price, Row, row, leaf_row, node_row}
use Rattle.chart_keys.specs.declared.BackPointer.{BackPointer}
use Rattle.chart_keys.specs.Keys.{back, back_number, leaf_price, key_of, key_number}
use Rattle.chart_table.specs.declared.Cell.{Cell}
use Rattle.chart_table.specs.declared.Layout.{Layout}
use Rattle.chart_table.specs.Table.{left_part, right_part, cell_number}
use Rattle.chart_classes.specs.Classes.{word_base, pair_base, edge_base}
use Rattle.chart_index.specs.Index.{WordWith, PairWith, Leaves}
use Rattle.chart_candidates.specs.Candidates.{pair_key, word_leaf, edge_leaves, leaves, split_seeds, rule_seeds, seeds}
use Rattle.chart_successors.specs.declared.Found.{Found}
use Rattle.chart_successors.specs.Successors.{pair_successors, successors}
use Rattle.chart_ranks.specs.Ranks.{found_at}
use Rattle.chart_theory.proofs.Table.Keys.{row_number, row_back, row_key}
use Rattle.chart_theory.proofs.Table.Cells.{InChart, ranked_in, RowOfIn, RowAtIn, row_unique}
use Rattle.chart_theory.proofs.Invariant.{Setting, HoldsRow, row_back_lem}
use Rattle.chart_theory.proofs.Candidates.Select.{
  Selects,
  Between,
  Among,
  selects_one,
  selects_none,
  selects_same,
  selects_then,
  selects_when,
  selects_unless,
  selects_over,
  selects_members,
}

-- the key of a pairing by a rule with these parts' heads and this weight
abbrev pub joined_key : List ℕ → Layout → Cell → (B C : Sym) → ℕ → BackPointer → ℕ
joined_key t d c B C w b = pair_key t d (left_part c B b.split) (right_part c C b.split) w b

-- rule r of weight w joins B and C into the head of a cell that is split at place j
pub record Splits (g : Grammar) (c : Cell) (B C : Sym) (r w j : ℕ) : Type 0 where
  pub rule : At g.rules r (Pair c.head B C w)
  pub after : c.from < j
  pub before : j < c.to

module _ (g : Grammar) (es : List Edge) (c : Cell) where
  -- ranks of the parts of rule r at place j that come into question: the first with the first, which follow none, or a
  -- successor of a rank of the cell
  pub data Reached (r j : ℕ) : (o p q : ℕ) → Type 0 where
    first : Reached r j 0 0 0
    right : {w : Price} {p q x : ℕ} → RowAtIn g es c x (row w r j p q) → Reached r j (suc x) p (suc q)
    left : {w : Price} {p x : ℕ} → RowAtIn g es c x (row w r j p 0) → Reached r j (suc x) (suc p) 0

  module _ (d : Layout) (t : List ℕ) where
    pub data Candidate : (o key : ℕ) → Type 0 where
      leaf_key : {x : W.Word} {w cost : ℕ} (r e : ℕ) → At g.rules r (Word c.head x w) → Offered es e (edge c.from c.to x cost)
          → Candidate 0 (key_of (leaf_price w cost) (back_number (back r 0 e 0)))
      pair_key_lem : {B C : Sym} {r w j o p q : ℕ} → Splits g c B C r w j → Reached r j o p q
          → Candidate o (joined_key t d c B C w (back r j p q))

-- the keys of each loop of the model
abbrev LeafKey : List ℕ → ℕ → ℕ → Rule → ℕ → Type 0
LeafKey edges e r (Pair h b c w) key = ⊥
LeafKey edges e r (Word h x w) key =
    (eqb x.0 (get_or edges (4 * e + 2) 0) ≡ true) × (key ≡ key_of (leaf_price w (get_or edges (4 * e + 3) 0)) (back_number (back r 0 e 0)))

word_selects : (edges : List ℕ) (e floor r : ℕ) (rule : Rule)
    → Selects floor (LeafKey edges e r rule) (λ b. word_leaf edges e floor b r rule)
unfolding word_leaf
word_selects edges e floor r (Pair h b c w) = selects_none floor (λ key z. z)
word_selects edges e floor r (Word h x w) = selects_when floor (eqb x.0 (get_or edges (4 * e + 2) 0)) (selects_one floor _)

module _ (t : List ℕ) (d : Layout) (c : Cell) where
  abbrev SeedKey : ℕ → Rule → ℕ → Type 0
  SeedKey r (Pair h B C w) key = Between (c.from + 1) c.to (λ j key. key ≡ joined_key t d c B C w (back r j 0 0)) key
  SeedKey r (Word h x w) key = ⊥

  seed_selects : (floor r : ℕ) (rule : Rule) → Selects floor (SeedKey r rule) (λ b. rule_seeds t d c floor b r rule)
  unfolding rule_seeds split_seeds
  seed_selects floor r (Pair h B C w) =
      selects_over floor (λ j. selects_one floor (joined_key t d c B C w (back r j 0 0))) (c.from + 1) c.to
  seed_selects floor r (Word h x w) = selects_none floor (λ key z. z)

  abbrev PairSuccessor : ℕ → ℕ → ℕ → ℕ → Rule → ℕ → Type 0
  PairSuccessor r j p q (Pair h B C w) key =
      (key ≡ joined_key t d c B C w (back r j p (q + 1))) ⊎ ((q ≡ 0) × (key ≡ joined_key t d c B C w (back r j (p + 1) 0)))
  PairSuccessor r j p q (Word h x w) key = ⊥

  pair_selects : (floor r j p q : ℕ) (rule : Rule)
      → Selects floor (PairSuccessor r j p q rule) (λ best. pair_successors t d c floor (back r j p q) best rule)
  unfolding pair_successors
  pair_selects floor r j p zero (Pair h B C w) =
      selects_same floor (λ key. (⊎_elim inl (λ e. inr (refl, e)), ⊎_elim inl (λ e. inr e.1)))
      (selects_then floor (selects_one floor (joined_key t d c B C w (back r j p (0 + 1))))
      (selects_one floor (joined_key t d c B C w (back r j (p + 1) 0))))
  pair_selects floor r j p (suc q) (Pair h B C w) =
      rw (eqb-suc-zero q)
      (selects_same floor (λ key. (inl, ⊎_elim (λ e. e) (λ e. absurd (omega (arith, e.0)))))
      (selects_one floor (joined_key t d c B C w (back r j p (suc q + 1)))))
  pair_selects floor r j p q (Word h x w) = selects_none floor (λ key z. z)

  abbrev Successor : List ℕ → BackPointer → ℕ → Type 0
  Successor rules b key =
      (eqb b.split 0 ≡ false) × PairSuccessor b.rule b.split b.left b.right (rule_at rules b.rule) key

  successor_selects : (rules : List ℕ) (last : Found)
      → Selects (key_number last.key) (Successor rules last.back) (successors t d rules c last)
  unfolding successors
  successor_selects rules last =
      let b = last.back in
      selects_unless (key_number last.key) (eqb b.split 0)
      (pair_selects (key_number last.key) b.rule b.split b.left b.right (rule_at rules b.rule))

module _ {g : Grammar} {es : List Edge} {rules edges index : List ℕ} {d : Layout} (s : Setting g es rules edges index d) where
  -- the array's rule is the grammar's, and the array's edge is the list's
  pub rule_is : (r : ℕ) {rule : Rule} → At g.rules r rule → rule_at rules r ≡ rule
  rule_is r e = let h = s.rule_at_lem r (at_length g.rules r e) in cc

  pub record EdgeIs (e i k : ℕ) (x : W.Word) (cost : ℕ) : Type 0 where
    pub from : get_or edges (4 * e) 0 ≡ i
    pub to : get_or edges (4 * e + 1) 0 ≡ k
    pub carries : get_or edges (4 * e + 2) 0 ≡ x.0
    pub costs : get_or edges (4 * e + 3) 0 ≡ cost

  pub edge_is : (e : ℕ) {i k cost : ℕ} {x : W.Word} → At es e (edge i k x cost) → EdgeIs e i k x cost
  edge_is e {x = x} p =
      let h = s.edge_at_lem e (at_length es e p) in
      let same : word (get_or edges (4 * e + 2) 0) ≡ x = cc in
      record { from = cc; to = cc; carries = ap (λ (y : W.Word). y.0) same; costs = cc }

  module _ (t : List ℕ) {c : Cell} (in_chart : InChart d c) where
    abbrev Key : (o key : ℕ) → Type 0
    Key = Candidate g es c d t

    -- leaves
    abbrev Leaving : ℕ → Type 0
    Leaving e = (e < length es) × Leaves edges e c.from

    abbrev Words : ℕ → Type 0
    Words r = (r < length g.rules) × WordWith c.head (rule_at rules r)

    abbrev Leaf : ℕ → Type 0
    Leaf =
        Among Leaving (λ e key.
        (eqb (get_or edges (4 * e + 1) 0) c.to ≡ true) × Among Words (λ r. LeafKey edges e r (rule_at rules r)) key)

    leaf_sound : (e r key : ℕ) (rule : Rule) → Leaving e → get_or edges (4 * e + 1) 0 ≡ c.to → At g.rules r rule
        → WordWith c.head rule → LeafKey edges e r rule key → Key 0 key
    leaf_sound e r key (Pair h B C w) leaving u p z l = absurd z
    leaf_sound e r key (Word h x w) (le, (f, heard)) u p z (l, is) =
        let x_is : word (get_or edges (4 * e + 2) 0) ≡ x = ap word (sym (eqb-true _ _ l)) in
        rw is (leaf_key r e (rw z at p) (rw (f, u, x_is) at (s.edge_at_lem e le), heard))

    leaf_complete : (r e : ℕ) {x : W.Word} {w cost : ℕ} → At g.rules r (Word c.head x w)
        → Offered es e (edge c.from c.to x cost) → Leaf (key_of (leaf_price w cost) (back_number (back r 0 e 0)))
    leaf_complete r e p q =
        let is = edge_is e q.0 in
        let has_word : Words r = (at_length g.rules r p, rw (rule_is r p) refl) in (
          e,
          (at_length es e q.0, (is.from, rw is.costs q.1)),
          (
            eq-eqb _ _ is.to,
            (r, has_word, rw (rule_is r p) (eq-eqb _ _ (sym is.carries), rw is.costs refl)),
          ),
        )

    -- seeds
    abbrev Pairs : ℕ → Type 0
    Pairs r = (r < length g.rules) × PairWith c.head (rule_at rules r)

    abbrev Seed : ℕ → Type 0
    Seed = Among Pairs (λ r. SeedKey t d c r (rule_at rules r))

    seed_sound : (r key : ℕ) (rule : Rule) → At g.rules r rule → PairWith c.head rule → SeedKey t d c r rule key → Key 0 key
    seed_sound r key (Pair h B C w) p z (j, l, m, is) = rw is (pair_key_lem {j = j} (record { rule = rw z at p; after = omega arith; before = m }) first)
    seed_sound r key (Word h x w) p z l = absurd z

    seed_complete : {B C : Sym} {r w j : ℕ} → Splits g c B C r w j → Seed (joined_key t d c B C w (back r j 0 0))
    seed_complete {r = r} {j = j} splits =
        let is = rule_is r splits.rule in
        (r, (at_length g.rules r splits.rule, rw is refl), rw is (j, omega (arith, splits.after), splits.before, refl))

    -- what follows none
    initial_sound : (key : ℕ) → Leaf key ⊎ Seed key → Key 0 key
    initial_sound key =
        ⊎_elim
        (λ l.
        let (e, leaving, (u, (r, (lr, z), m))) = l in
        leaf_sound e r key (rule_at rules r) leaving (eqb-true _ _ u) (s.rule_at_lem r lr) z m)
        (λ l. let (r, (lr, z), m) = l in seed_sound r key (rule_at rules r) (s.rule_at_lem r lr) z m)

    initial_complete : (key : ℕ) → Key 0 key → Leaf key ⊎ Seed key
    initial_complete key (leaf_key r e p q) = inl (leaf_complete r e p q)
    initial_complete key (pair_key_lem splits first) = inr (seed_complete splits)

    -- the loops
    leaves_select : (floor : ℕ) → Selects floor Leaf (leaves rules edges index c floor)
    unfolding leaves edge_leaves
    leaves_select floor =
        selects_members floor
        (λ e. selects_when floor (eqb (get_or edges (4 * e + 1) 0) c.to)
        (selects_members floor (λ r. word_selects edges e floor r (rule_at rules r)) index word_base c.head.0
        (s.indexed.words c.head in_chart.symbol)))
        index edge_base c.from (s.indexed.leaving c.from (omega (arith, in_chart.order, in_chart.within)))

    seeds_select : (floor : ℕ) → Selects floor Seed (seeds t d rules index c floor)
    unfolding seeds
    seeds_select floor =
        selects_members floor (λ r. seed_selects t d c floor r (rule_at rules r)) index pair_base c.head.0
        (s.indexed.pairs c.head in_chart.symbol)

    pub initial_selects : (floor : ℕ) → Selects floor (Candidate g es c d t 0)
        (λ b. seeds t d rules index c floor (leaves rules edges index c floor b))
    initial_selects floor =
        selects_same floor (λ key. (initial_sound key, initial_complete key))
        (selects_then floor (leaves_select floor) (seeds_select floor))

-- a row as the code has it of a rank that is found
abbrev pub row_found : Row → Found
row_found v = record { key = record { price = row_number v + 1; back = back_number (row_back v) }; back = row_back v }

pub found_row : {g : Grammar} {es : List Edge} {d : Layout} {t : List ℕ} {c : Cell} {x : ℕ} {v : Row} → HoldsRow g es d t c x v
    → found_at t d (cell_number d c) x ≡ row_found v
unfolding found_at
found_row {g} {es} {d} {t} {c} {x} holds = rw (row_back_lem g es d t c x holds, holds.priced, holds.points)

-- the successors of a rank whose row the table holds
module _ {g : Grammar} {es : List Edge} {rules edges index : List ℕ} {d : Layout} (s : Setting g es rules edges index d) (t : List ℕ)
    {c : Cell} (x : ℕ) {v : Row} (at : RowAtIn g es c x v) where
  successor_sound : (key : ℕ) {u : Row} {z : Tree} → At (ranked_in g es c) x z → RowOfIn g es c u z
      → Successor t d c rules (row_back u) key → Candidate g es c d t (suc x) key
  successor_sound key l (leaf_row p q) (inner, f) = absurd (eqb-false 0 0 inner refl)
  successor_sound key l (node_row {B} {C} {r} {w} {j} {p} {q} rule h₁ h₂ m m') (inner, f) =
      let here : RowAtIn g es c x (row _ r j p q) = (_, l, node_row rule h₁ h₂ m m') in
      let splits : Splits g c B C r w j = record { rule = rule; after = h₁; before = h₂ } in
      let plain : PairSuccessor t d c r j p q (Pair c.head B C w) key = rw (rule_is s r rule) at f in
      ⊎_elim (λ e. rw (rw (add-one q) at e) (pair_key_lem splits (right here)))
      (λ e. rw (rw (add-one p) at e.1) (pair_key_lem splits (left (rw e.0 at here)))) plain

  pairing_complete : {B C : Sym} {r w j : ℕ} (p q key : ℕ) {w' : Price} → RowAtIn g es c x (row w' r j p q) → Splits g c B C r w j
      → PairSuccessor t d c r j p q (Pair c.head B C w) key → Successor t d c rules (row_back v) key
  pairing_complete {r = r} {j = j} p q key here splits f =
      let same : v ≡ row _ r j p q = row_unique g es c x at here in
      rw (same, rule_is s r splits.rule) (ne_eqb j 0 (λ e. omega (arith, splits.after)), f)

  successor_complete : (key : ℕ) → Candidate g es c d t (suc x) key → Successor t d c rules (row_back v) key
  successor_complete key (pair_key_lem {p = p} splits (right {q = q} here)) =
      pairing_complete p q key here splits (inl (rw (add-one q)))
  successor_complete key (pair_key_lem splits (left {p = p} here)) = pairing_complete p 0 key here splits (inr (refl, rw (add-one p)))

  pub successors_select : Selects (row_key v) (Candidate g es c d t (suc x)) (successors t d rules c (row_found v))
  successors_select =
      selects_same (row_key v) (λ key. (successor_sound key at.1 at.2, successor_complete key))
      (successor_selects t d c rules (row_found v))
