-- A case for each two kinds: items of one kind are alike if their numbers are, and of two kinds never.
use mathlib.Core.Path.{◌≡◌, refl}
use mathlib.Core.Bool.{true, false, ◌&&◌, beq, and-true, and-false}
use Prim.Native.Nat.{ℕ}
use native.Mathlib.Decide.{ℕ_discrete}
use borrow.Author.Tests.{eq-eqb, ne_eqb}
use lib.Dec.{eqb}
use Rattle.office.specs.Sheet.{item_of, item_alike}
use Rattle.office_reader.proofs.Likeness.{symbols_alike, symbol_word, word_symbol, words_alike}
use Rattle.office_reader.proofs.same_item.Goals as goal

module _ (k v m w : ℕ) where
  by_kind : (eqb v w && beq (eqb k 0) (eqb m 0)) ≡ item_alike (item_of k v) (item_of m w)
  by_kind = go (ℕ_discrete k 0) (ℕ_discrete m 0)
    where
      go : Dec (k ≡ 0) → Dec (m ≡ 0) → (eqb v w && beq (eqb k 0) (eqb m 0)) ≡ item_alike (item_of k v) (item_of m w)
      go (yes p) (yes q) =
          let same : beq (eqb k 0) (eqb m 0) ≡ true = rw (eq-eqb k 0 p, eq-eqb m 0 q) refl in rw (same, and-true) (symbols_alike k v m w p q)
      go (yes p) (no q) =
          let other : beq (eqb k 0) (eqb m 0) ≡ false = rw (eq-eqb k 0 p, ne_eqb m 0 q) refl in rw (other, and-false) (symbol_word k v m w p q)
      go (no p) (yes q) =
          let other : beq (eqb k 0) (eqb m 0) ≡ false = rw (ne_eqb k 0 p, eq-eqb m 0 q) refl in rw (other, and-false) (word_symbol k v m w p q)
      go (no p) (no q) =
          let same : beq (eqb k 0) (eqb m 0) ≡ true = rw (ne_eqb k 0 p, ne_eqb m 0 q) refl in rw (same, and-true) (words_alike k v m w p q)

pub returns-then-same_number : goal.returns-then-same_number
returns-then-same_number c =
    let same = eq-eqb _ _ (rw (c.narrow_at.ensures, c.narrow_at-2.ensures) at c.if-same_number.true) in
    rw (← by_kind _ _ _ _, same, c.is_symbol.ensures, c.is_symbol-then-same_number.ensures) refl

pub returns-else-same_number : goal.returns-else-same_number
returns-else-same_number c =
    let other = ne_eqb _ _ (rw (c.narrow_at.ensures, c.narrow_at-2.ensures) at c.if-same_number.false) in
    rw (← by_kind _ _ _ _, c.narrow_at.ensures, c.narrow_at-2.ensures, other) refl
