-- The table's cells are right: a part's cell of a symbol holds what the rules gone through so far make of shorter parts' cells; so when all
-- are gone through, what the symbol derives. Assumes nothing.
use mathlib.Core.Path.{◌≡◌, refl, sym, ap, ◌∙◌}
use mathlib.Core.Logic.{◌⊎◌, inl, inr, ⊎_elim}
use mathlib.Core.Bool.{Bool, true, false}
use mathlib.Core.List.{List, [], ◌∷◌, ◌++◌}
use Prim.Native.Nat.{ℕ, suc, ◌+◌, ◌-◌, ◌*◌, ◌/◌, ◌%◌, ◌≤◌, ◌<◌}
use native.Mathlib.Decide.{ℕ_discrete}
use native.Mathlib.Nat.{mod-eq_of_lt}
use native.Mathlib.Omega.{arith}
use borrow.Author.Tests.{ltb-true, ltb-false}
use lib.Dec.{ltb}
use lib.ListN.{length, get_or, take, drop, length-drop}
use lib.Seq.{take-add, drop-drop, drop-cons, take-length, length-take-le}
use Rattle.bits.specs.Bits.{pick}
use Rattle.packing.specs.Flat.{Begins, rule_numbers}
use Rattle.packing.specs.Meaning.{Grammar, symbol_of}
use Rattle.packing.specs.Valid.{ValidGrammar}
use Rattle.packing.specs.declared.Sym.{Sym}
use Rattle.packing.specs.declared.Rule.{Rule}
use Rattle.packing.specs.declared.Rule.TheVariants.{Pair, Word}
use Rattle.packing.proofs.Loop.{iter_keeps}
use Rattle.derivation.proofs.Ranges.{Within, all_at, valid_sizes, valid_within}
use Rattle.phrases.specs.Recursion.{head_of}
use Rattle.phrases.specs.Numbers.{scale}
use Rattle.phrases.proofs.Least.{Property, Joined}
use Rattle.phrases.proofs.Cell.{Of, Adds, Made, By, by_yields, yields_by, adds_made}
use Rattle.specimen.specs.Table.{fitted_at}
use Rattle.specimen.proofs.Said.{stored}
use Rattle.next_phrase.specs.Table.{cell_over, no_cell, cell_at, head_cell, with_word, with_split, with_rule, add_rule, fill_part, part_step, fill_table}
use Rattle.next_phrase.specs.declared.Cell.{Cell}
use Rattle.next_phrase.proofs.Cells.{Holds, holds_same, holds_at, holds_none, adds_word, adds_joined}
use Rattle.next_phrase.proofs.Parts.{head_is, put_length, put_same, put_other}

part_join : (s : List ℕ) (i j m : ℕ) → j < m → take m (drop i s) ≡ take j (drop i s) ++ take (m - j) (drop (i + j) s)
part_join s i j m h =
    let n : j + (m - j) ≡ m = omega arith in
    ap (λ (k : ℕ). take k (drop i s)) (sym n) ∙ take-add j (m - j) (drop i s) ∙ rw (drop-drop j i s)

head_within : (S W : ℕ) (r : Rule) → Within S W r → (head_of r).0 < S
head_within S W (Pair h b c w) (p, q, z) = p
head_within S W (Word h x w) (p, q) = p

module _ (g : Grammar) (v : ValidGrammar g) (rules : List ℕ) (begins : Begins (rule_numbers g) rules) (s : List ℕ) (most : length s ≤ 6) where
  -- what the first k rules make for symbol A, m words long; all of them make what it derives
  abbrev First : ℕ → Sym → ℕ → Property
  First k A m u = (y : ℕ) × (y < k) × By g m A (fitted_at rules y) u

  first_all : (A : Sym) (m : ℕ) (u : List ℕ) → First (length g.rules) A m u → Of g A m u
  first_all A m u (y, l, z) = by_yields g m A y (fitted_at rules y) (stored g v rules begins y l) u z

  all_first : (A : Sym) (m : ℕ) (u : List ℕ) → Of g A m u → First (length g.rules) A m u
  all_first A m u o = yields_by g m A (fitted_at rules) (stored g v rules begins) u o

  first_more : (k : ℕ) (A : Sym) (m : ℕ) (u : List ℕ) → First (suc k) A m u → First k A m u ⊎ By g m A (fitted_at rules k) u
  first_more k A m u (y, l, z) = go (ℕ_discrete y k)
    where
      go : Dec (y ≡ k) → First k A m u ⊎ By g m A (fitted_at rules k) u
      go (yes e) = inr (rw e at z)
      go (no e) = inl (y, omega arith, z)

  more_first : (k : ℕ) (A : Sym) (m : ℕ) (u : List ℕ) → First k A m u → First (suc k) A m u
  more_first k A m u (y, l, z) = (y, omega arith, z)

  -- a cell over the part of m words from place i on
  abbrev Over : ℕ → ℕ → Property → Cell → Type 0
  Over i m P c = Holds (6 - i) (take m (drop i s)) P c

  over_same : (i m : ℕ) (P Q : Property) (c : Cell) → ((t : List ℕ) → P t → Q t) → ((t : List ℕ) → Q t → P t) → Over i m P c → Over i m Q c
  over_same i m = holds_same (6 - i) (take m (drop i s))

  over_at : (i m : ℕ) (P : Property) {c d : Cell} → d ≡ c → Over i m P c → Over i m P d
  over_at i m = holds_at (6 - i) (take m (drop i s))

  -- part p begins at place p % 6, and its length is p / 6 + 1: the first k rules gone through for symbol a
  abbrev Right : ℕ → ℕ → ℕ → Cell → Type 0
  Right k p a c = p % 6 + (p / 6 + 1) ≤ length s → Over (p % 6) (p / 6 + 1) (First k (symbol_of a) (p / 6 + 1)) c

  -- all rules for parts before p, the first x for p, and none for those behind it
  abbrev Inv : ℕ → ℕ → List Cell → Type 0
  Inv p x t =
      (length t ≡ 1152)
      × ((q a : ℕ) → q < 36 → a < 32 → (q < p → Right (length g.rules) q a (cell_at t (q * 32 + a))) × (q ≡ p → Right x q a (cell_at t (q * 32 + a)))
      × (p < q → Right 0 q a (cell_at t (q * 32 + a))))

  shorter : (p x : ℕ) (t : List Cell) → Inv p x t → (A : Sym) (i j : ℕ) → A.0 < 32 → 0 < j → i + j ≤ length s → (j - 1) * 6 + i < p
      → Over i j (Of g A j) (cell_at t (cell_over A i j))
  shorter p x t inv A i j a h k l =
      let e₁ : ((j - 1) * 6 + i) % 6 ≡ i = omega arith in
      let e₂ : ((j - 1) * 6 + i) / 6 + 1 ≡ j = omega arith in
      let r = (inv.1 ((j - 1) * 6 + i) A.0 (omega arith) a).0 l in
      over_same i j (First (length g.rules) A j) (Of g A j) _ (first_all A j) (all_first A j) ((rw (e₁, e₂) at r) k)

  -- one rule more
  module _ (p i m : ℕ) (ei : p % 6 ≡ i) (em : p / 6 + 1 ≡ m) (fits : i + m ≤ length s) (x : ℕ) (t : List Cell) (inv : Inv p x t) (h : x < length g.rules) where
    splits : (B C : Sym) (j : ℕ) → B.0 < g.symbols → C.0 < g.symbols → 0 < j → j < m
        → Adds (Over i m) (Joined (Of g B j) (Of g C (m - j))) (with_split t i m B C j)
    unfolding with_split
    splits B C j b c q r =
        let few = (valid_sizes g v).1 in
        let z : 6 - i - j ≡ 6 - (i + j) = omega arith in
        let left = shorter p x t inv B i j (omega arith) q (omega arith) (omega arith) in
        let right : Holds (6 - i - j) (take (m - j) (drop (i + j) s)) (Of g C (m - j)) (cell_at t (cell_over C (i + j) (m - j))) =
        rw z (shorter p x t inv C (i + j) (m - j) (omega arith) (omega arith) (omega arith) (omega arith)) in
        rw (part_join s i j m r)
        (adds_joined (6 - i) j (omega arith) (take j (drop i s)) (take (m - j) (drop (i + j) s)) (length-take-le j (drop i s) (simp length-drop (omega arith)))
        (λ t o. o.0) (cell_at t (cell_over B i j)) (cell_at t (cell_over C (i + j) (m - j))) left right)

    words : (y : ℕ) → y < g.words → m ≡ 1 → Adds (Over i m) (λ u. u ≡ y ∷ []) (with_word (y * scale (5 - i)) (get_or s i 0) y)
    words y b e =
        let n : 6 - i ≡ suc (5 - i) = omega arith in
        let w : take m (drop i s) ≡ get_or s i 0 ∷ [] = rw (e, drop-cons s i 0 (omega arith)) in
        rw (n, w) (adds_word (5 - i) (get_or s i 0) y)

    within : Within g.symbols g.words (fitted_at rules x)
    within = all_at (Within g.symbols g.words) g.rules x (valid_within g v) (stored g v rules begins x h)

    added : (best : Cell) (P : Property) → Over i m P best
        → Over i m (λ u. P u ⊎ Made g m (fitted_at rules x) u) (with_rule t s i m best (fitted_at rules x))
    unfolding with_rule
    added best P k =
        adds_made (Over i m) (over_same i m) g (with_split t i m) (λ x. with_word (x * scale (5 - i)) (get_or s i 0) x) m
        splits words (fitted_at rules x) within P best k

    head : (head_of (fitted_at rules x)).0 ≡ get_or rules (5 * x + 1) 0 % 32
    head =
        let few = (valid_sizes g v).1 in
        let l = head_within g.symbols g.words (fitted_at rules x) within in
        let e = head_is rules x in
        e ∙ sym (mod-eq_of_lt (omega arith))

    small : head_cell rules x i m < 1152
    small = omega arith

    own : cell_at (add_rule rules s i m t x) (head_cell rules x i m) ≡ with_rule t s i m (cell_at t (head_cell rules x i m)) (fitted_at rules x)
    unfolding add_rule
    own = put_same t (head_cell rules x i m) (with_rule t s i m (cell_at t (head_cell rules x i m)) (fitted_at rules x)) inv.0 small

    other : (d : ℕ) → (d ≡ head_cell rules x i m → ⊥) → cell_at (add_rule rules s i m t x) d ≡ cell_at t d
    unfolding add_rule
    other d n = put_other t (head_cell rules x i m) (with_rule t s i m (cell_at t (head_cell rules x i m)) (fitted_at rules x)) inv.0 small d n

    size : length (add_rule rules s i m t x) ≡ 1152
    unfolding add_rule
    size = put_length t (head_cell rules x i m) (with_rule t s i m (cell_at t (head_cell rules x i m)) (fitted_at rules x)) inv.0 small

    -- the cells of the part itself: that of the head, and the others
    here_head : Over i m (First x (symbol_of (get_or rules (5 * x + 1) 0 % 32)) m) (cell_at t (head_cell rules x i m))
        → Over i m (First (suc x) (symbol_of (get_or rules (5 * x + 1) 0 % 32)) m) (cell_at (add_rule rules s i m t x) (head_cell rules x i m))
    here_head k =
        let A = symbol_of (get_or rules (5 * x + 1) 0 % 32) in
        over_at i m (First (suc x) A m) own
        (over_same i m (λ u. First x A m u ⊎ Made g m (fitted_at rules x) u) (First (suc x) A m)
        (with_rule t s i m (cell_at t (head_cell rules x i m)) (fitted_at rules x))
        (λ u. ⊎_elim (more_first x A m u) (λ z. (x, omega arith, (head, z)))) (λ u z. ⊎_elim inl (λ y. inr y.1) (first_more x A m u z))
        (added (cell_at t (head_cell rules x i m)) (First x A m) k))

    here : (a : ℕ) → Dec (a ≡ get_or rules (5 * x + 1) 0 % 32) → Over i m (First x (symbol_of a) m) (cell_at t (((m - 1) * 6 + i) * 32 + a))
        → Over i m (First (suc x) (symbol_of a) m) (cell_at (add_rule rules s i m t x) (((m - 1) * 6 + i) * 32 + a))
    here a (yes e) k = rw e (here_head (rw e at k))
    here a (no e) k =
        over_at i m (First (suc x) (symbol_of a) m) (other (((m - 1) * 6 + i) * 32 + a) (λ y. e (omega arith)))
        (over_same i m (First x (symbol_of a) m) (First (suc x) (symbol_of a) m) (cell_at t (((m - 1) * 6 + i) * 32 + a)) (more_first x (symbol_of a) m)
        (λ u z. ⊎_elim (λ y. y) (λ y. absurd (e (sym y.0 ∙ head))) (first_more x (symbol_of a) m u z)) k)

    step : Inv p (suc x) (add_rule rules s i m t x)
    step = (
      size,
      λ q a l b. (
        (λ z f. over_at (q % 6) (q / 6 + 1) (First (length g.rules) (symbol_of a) (q / 6 + 1)) (other (q * 32 + a) (λ y. omega arith))
            ((inv.1 q a l b).0 z f)),
        (λ e. same q a l b e),
        (λ z f. over_at (q % 6) (q / 6 + 1) (First 0 (symbol_of a) (q / 6 + 1)) (other (q * 32 + a) (λ y. omega arith)) ((inv.1 q a l b).2 z f)),
      ),
    )
      where
        same : (q a : ℕ) → q < 36 → a < 32 → q ≡ p → Right (suc x) q a (cell_at (add_rule rules s i m t x) (q * 32 + a))
        same q a l b e =
            let n : p ≡ (m - 1) * 6 + i = omega arith in
            let k : i + m ≤ length s → Over i m (First x (symbol_of a) m) (cell_at t (p * 32 + a)) = rw (e, ei, em) at ((inv.1 q a l b).1 e) in
            rw (e, ei, em) (λ f. rw n (here a (ℕ_discrete a (get_or rules (5 * x + 1) 0 % 32)) (rw n at (k f))))

  -- the next part, and one that is left out
  next_part : (p : ℕ) (t : List Cell) → Inv p (length g.rules) t → Inv (suc p) 0 t
  next_part p t inv = (
    inv.0,
    λ q a l b. (
      (λ z. ⊎_elim (λ y. (inv.1 q a l b).0 y) (λ y. (inv.1 q a l b).1 y) (below q z)),
      (λ e. (inv.1 q a l b).2 (omega arith)),
      (λ z. (inv.1 q a l b).2 (omega arith)),
    ),
  )
    where
      below : (q : ℕ) → q < suc p → (q < p) ⊎ (q ≡ p)
      below q z = go (ℕ_discrete q p)
        where
          go : Dec (q ≡ p) → (q < p) ⊎ (q ≡ p)
          go (yes e) = inr e
          go (no e) = inl (omega arith)

  left_out : (p : ℕ) (t : List Cell) → length s < p % 6 + (p / 6 + 1) → Inv p 0 t → Inv (suc p) 0 t
  left_out p t h inv =
      next_part p t (
        inv.0,
        λ q a l b. (
          (inv.1 q a l b).0,
          (λ e f. absurd (let k : p % 6 + (p / 6 + 1) ≤ length s = rw e at f in omega arith)),
          (inv.1 q a l
              b).2,
        ),
      )

  part_kept : (p : ℕ) (t : List Cell) → Inv p 0 t → Inv (suc p) 0 (part_step rules (length g.rules) s t p)
  unfolding part_step fill_part
  part_kept p t inv = go (ltb (length s) (p % 6 + (p / 6 + 1))) refl
    where
      go : (x : Bool) → ltb (length s) (p % 6 + (p / 6 + 1)) ≡ x → Inv (suc p) 0 (pick x t (fill_part rules (length g.rules) s (p % 6) (p / 6 + 1) t))
      go true e = left_out p t (ltb-true (length s) (p % 6 + (p / 6 + 1)) e) inv
      go false e =
          next_part p (fill_part rules (length g.rules) s (p % 6) (p / 6 + 1) t)
          (iter_keeps (Inv p) (add_rule rules s (p % 6) (p / 6 + 1)) t (length g.rules) inv
          (λ x u l k. step p (p % 6) (p / 6 + 1) refl refl (ltb-false (length s) (p % 6 + (p / 6 + 1)) e) x u k l))

  -- a table of which each cell stands for none
  module _ (t : List Cell) (room : length t ≡ 1152) (fresh : (y : ℕ) → y < 1152 → cell_at t y ≡ no_cell) where
    empty : Inv 0 0 t
    empty = (room, λ q a l b. ((λ z. absurd (omega arith)), (λ e. nothing_yet q a l b), (λ z. nothing_yet q a l b)))
      where
        nothing_yet : (q a : ℕ) → q < 36 → a < 32 → Right 0 q a (cell_at t (q * 32 + a))
        nothing_yet q a l b f =
            holds_none (6 - q % 6) (take (q / 6 + 1) (drop (q % 6) s)) (First 0 (symbol_of a) (q / 6 + 1)) _ (λ u z. absurd (let k = z.1 in omega arith))
            (rw (fresh (q * 32 + a) (omega arith)) (omega arith)) (rw (fresh (q * 32 + a) (omega arith)) (omega arith))
            (rw (fresh (q * 32 + a) (omega arith)) (omega arith))

    pub start_holds : 0 < length s → Holds 6 s (Of g (symbol_of 0) (length s))
        (cell_at (fill_table rules (length g.rules) s t) (cell_over (symbol_of 0) 0 (length s)))
    unfolding fill_table
    start_holds pos =
        let inv = iter_keeps (λ p u. Inv p 0 u) (part_step rules (length g.rules) s) t (6 * length s) empty (λ p u l k. part_kept p u k) in
        rw (take-length s) at (shorter (6 * length s) 0 (fill_table rules (length g.rules) s t) inv (symbol_of 0) 0 (length s) (omega arith) pos (omega arith)
        (omega arith))
