-- A rule of an accepted grammar is read as it is, and one of another head makes nothing. Assumes nothing.
use mathlib.Core.Path.{◌≡◌, sym, ◌∙◌}
use mathlib.Core.List.{List}
use mathlib.Core.Bool.{Bool, true, false}
use Prim.Native.Nat.{ℕ, ◌+◌, ◌-◌, ◌*◌, ◌%◌, ◌≤◌}
use native.Mathlib.Nat.{add-zero, mod-eq_of_lt}
use native.Mathlib.Omega.{arith}
use borrow.Author.Tests.{ne_eqb}
use lib.Dec.{eqb}
use lib.ListN.{get_or, take, drop}
use lib.Seq.{slice, get_or-drop, get_or-take}
use Rattle.bits.specs.Bits.{pick}
use Rattle.packing.specs.Meaning.{symbol_of}
use Rattle.packing.specs.declared.Word as Word
use Rattle.packing.specs.declared.Sym.{Sym}
use Rattle.packing.specs.declared.Rule.{Rule}
use Rattle.packing.specs.declared.Rule.TheVariants.{Pair, Word}
use Rattle.derivation.proofs.Ranges.{Within}
use Rattle.phrases.specs.Recursion.{by_rule, cell_of}
use Rattle.phrases.specs.Padded.{lesser_word, lesser_join}
use Rattle.specimen.specs.Table.{fitted, fitted_at, lesser_split, lesser_rule}

pub fitted_is : (S W : ℕ) → S ≤ 32 → W ≤ 200 → (r : Rule) → Within S W r → fitted r ≡ r
fitted_is S W s w (Pair h b c k) (p, q, z) =
    let e : b.0 % 32 ≡ b.0 = mod-eq_of_lt (omega arith) in
    let f : c.0 % 32 ≡ c.0 = mod-eq_of_lt (omega arith) in
    rw (e, f)
fitted_is S W s w (Word h x k) (p, q) = let e : x.0 % 256 ≡ x.0 = mod-eq_of_lt (omega arith) in rw e

-- a rule of another head makes nothing
module _ {O : Type 0} (addSplit : Sym → Sym → ℕ → O → O) (add_word : ℕ → O → O) (A : Sym) (m : ℕ) (o : O) where
  other_rule : (b : Bool) (H B C : Sym) (x : Word.Word) (w w' : ℕ) → (H.0 ≡ A.0 → ⊥)
      → by_rule addSplit add_word A m o (fitted (pick b (Pair H B C w) (Word H x w'))) ≡ o
  unfolding by_rule
  other_rule true H B C x w w' h = rw (ne_eqb H.0 A.0 h)
  other_rule false H B C x w w' h = rw (ne_eqb H.0 A.0 h)

  other_head : (rules : List ℕ) (r : ℕ) → (get_or rules (5 * r + 1) 0 ≡ A.0 → ⊥) → by_rule addSplit add_word A m o (fitted_at rules r) ≡ o
  other_head rules r h = other_rule (eqb (get_or rules (5 * r) 0) 0) (symbol_of (get_or rules (5 * r + 1) 0)) _ _ _ _ _ h

pub passed_over : (t : List (List ℕ)) (a : Sym) (m : ℕ) (best rules : List ℕ) (r : ℕ) → (get_or rules (5 * r + 1) 0 ≡ a.0 → ⊥) → best
    ≡ lesser_rule t a m best (fitted_at rules r)
unfolding lesser_rule
passed_over t a m best rules r h = sym (other_head (lesser_split t m) (λ x best. lesser_word best x) a m best rules r h)
