-- Cells are marked one after another: what is marked stays so.
use mathlib.Core.Path.{◌≡◌, refl, sym, ◌∙◌}
use mathlib.Core.Logic.{◌⊎◌, inl, inr, ⊎_elim}
use mathlib.Core.List.{List}
use Prim.Native.Nat.{ℕ, ◌+◌}
use native.Mathlib.Omega.{arith}
use native.Mathlib.Decide.{ℕ_discrete}
use lib.ListN.{get_or}
use Rattle.packing.specs.Meaning.{symbol_of}
use Rattle.derivation.proofs.Trees.{same_sym}
use Rattle.masks.specs.Digits.{digit}
use Rattle.chart_masks.specs.Masks.{Marked}
use Rattle.chart_table.specs.declared.Cell.{Cell}
use Rattle.chart_table.specs.declared.Layout.{Layout}
use Rattle.chart_table.specs.Table.{cell, cell_number, price_at}
use Rattle.found_masks.specs.Marks.{InMasks, MarkedAll, JustThis, OfSpan, EndingAt, UpTo}

module _ {t : List ℕ} {d : Layout} where
  -- nothing to mark
  pub marked_none : {P : Cell → Type 0} {m : List ℕ} → ((c : Cell) → P c → ⊥) → MarkedAll t d P m m
  marked_none empty = record { size = refl; kept = λ y j e. e; all = λ c p. absurd (empty c p) }

  in_more : {m m' : List ℕ} {c : Cell} → ((y j : ℕ) → digit (get_or m' y 0) j ≡ 0 → digit (get_or m y 0) j ≡ 0) → InMasks t d m c → InMasks t d m' c
  in_more kept q = record { ends = λ e. q.ends (kept _ _ e); starts = λ e. q.starts (kept _ _ e) }

  -- some cells, and then others
  pub marked_more : {P Q R : Cell → Type 0} {m m' m'' : List ℕ} → MarkedAll t d P m m' → MarkedAll t d Q m' m'' → ((c : Cell) → R c → P c ⊎ Q c)
      → MarkedAll t d R m m''
  marked_more p q which = record {
    size = q.size ∙ p.size;
    kept = λ y j e. p.kept y j (q.kept y j e);
    all = λ c r. ⊎_elim (λ a. in_more q.kept (p.all c a)) (q.all c) (which c r);
  }

  pub marked_fewer : {P Q : Cell → Type 0} {m m' : List ℕ} → MarkedAll t d P m m' → ((c : Cell) → Q c → P c) → MarkedAll t d Q m m'
  marked_fewer p which = record { size = p.size; kept = p.kept; all = λ c q. p.all c (which c q) }

  -- a cell that is marked
  pub cell_marked : {c : Cell} {m m' : List ℕ} → Marked m c m' → MarkedAll t d (JustThis c) m m'
  cell_marked q = record {
    size = q.size;
    kept = q.kept;
    all = λ x e. rw e (record { ends = λ z. absurd (q.end z); starts = λ z. absurd (q.start z) });
  }

-- and one that holds no tree
pub cell_passed : (t : List ℕ) (d : Layout) (c : Cell) {m : List ℕ} {n p : ℕ} → n ≡ cell_number d c → p ≡ price_at t d n 0 → p ≡ 0
    → MarkedAll t d (JustThis c) m m
cell_passed t d c en ep z = record {
  size = refl;
  kept = λ y j e. e;
  all = λ x e. rw e (record { ends = λ q. nothing; starts = λ q. nothing });
}
  where
    nothing : price_at t d (cell_number d c) 0 ≡ 0
    nothing = rw (← en) (sym ep ∙ z)

-- the cells of one head more, from one place more on, and up to one place more
pub next_head : (i k a : ℕ) (c : Cell) → OfSpan i k (a + 1) c → OfSpan i k a c ⊎ JustThis (cell (symbol_of a) i k) c
next_head i k a c (h, p, q) = go (ℕ_discrete c.head.0 a)
  where
    go : Dec (c.head.0 ≡ a) → OfSpan i k a c ⊎ JustThis (cell (symbol_of a) i k) c
    go (yes e) = inr (rw (← same_sym c.head (symbol_of a) e, ← p, ← q))
    go (no e) = inl (omega arith, p, q)

pub next_start : (S k i : ℕ) (c : Cell) → EndingAt S k (i + 1) c → EndingAt S k i c ⊎ OfSpan i k S c
next_start S k i c (h, p, q) = go (ℕ_discrete c.from i)
  where
    go : Dec (c.from ≡ i) → EndingAt S k i c ⊎ OfSpan i k S c
    go (yes e) = inr (h, e, q)
    go (no e) = inl (h, omega arith, q)

pub next_end : (S k : ℕ) (c : Cell) → UpTo S (k + 1) c → UpTo S k c ⊎ EndingAt S (k + 1) (k + 1) c
next_end S k c (h, p, q) = go (ℕ_discrete c.to (k + 1))
  where
    go : Dec (c.to ≡ k + 1) → UpTo S k c ⊎ EndingAt S (k + 1) (k + 1) c
    go (yes e) = inr (h, omega arith, e)
    go (no e) = inl (h, p, omega arith)
