-- The least string of a symbol and a length, from those of shorter lengths, and a table filled with them. Nobody need believe this
-- page: proofs/ says that what is found so is what Phrases defines. Assumes nothing.
use Rattle.std.proofs.Math.Option.{Option, none, some}
use Rattle.std.specs.Prelude.{List, ◌++◌, ℕ, ◌+◌, ◌-◌, ◌*◌, ◌/◌, ◌%◌, eqb}
use Rattle.bits.specs.Bits.{pick}
use Rattle.packing.specs.Loop.{iter}
use Rattle.packing.specs.Meaning.{symbol_of}
use Rattle.packing.specs.declared.Sym.{Sym}
use Rattle.packing.specs.declared.Rule.{Rule}
use Rattle.packing.specs.declared.Rule.TheVariants.{Pair, Word}
use Rattle.phrases.specs.Phrases.{word_order}
use Rattle.phrases.specs.Enumeration.{is_less}

-- the lesser of two strings, and two joined, where there are two
unfoldable pub lesser_of : Option (List ℕ) → Option (List ℕ) → Option (List ℕ)
lesser_of none b = b
lesser_of (some s) none = some s
lesser_of (some s) (some t) = pick (is_less (word_order t s)) (some t) (some s)

abbrev pub join_of : Option (List ℕ) → Option (List ℕ) → Option (List ℕ)
join_of none b = none
join_of (some us) none = none
join_of (some us) (some vs) = some (us ++ vs)

-- how the least string found so far is kept, or that none was found: what stands for none; the lesser of it and of a word alone; the
-- lesser of it and of two joined, of lengths i and j
pub record Keeping (K : Type 0) : Type 0 where
  pub missing : K
  pub add_word : ℕ → K → K
  pub add_join : ℕ → ℕ → K → K → K → K

abbrev pub head_of : Rule → Sym
head_of (Pair H B C w) = H
head_of (Word H x w) = H

-- what is found so far goes through what a rule makes of m words, for a pair rule through all lengths of the left part; and so through all
-- rules with head A
module _ {O : Type 0} (addSplit : Sym → Sym → ℕ → O → O) (add_word : ℕ → O → O) where
  unfoldable pub made : ℕ → O → Rule → O
  unfolding iter
  made m o (Pair H B C w) = iter (λ x y. addSplit B C (y + 1) x) o (m - 1)
  made m o (Word H x w) = pick (eqb m 1) (add_word x.0 o) o

  unfoldable pub by_rule : Sym → ℕ → O → Rule → O
  unfolding made
  by_rule A m o rule = pick (eqb (head_of rule).0 A.0) (made m o rule) o

  unfoldable pub by_rules : (ℕ → Rule) → ℕ → Sym → ℕ → O → O
  unfolding iter by_rule
  by_rules rule R A m o = iter (λ x r. by_rule A m x (rule r)) o R

-- the least string of symbol A and length m, where `l B j` is that of B and length j
unfoldable pub least_of : {K : Type 0} → Keeping K → (ℕ → Rule) → ℕ → (Sym → ℕ → K) → Sym → ℕ → K
unfolding by_rules
least_of keeping rule R l A m =
    by_rules (λ B C j best. keeping.add_join j (m - j) (l B j) (l C (m - j)) best) (λ x best. keeping.add_word x best) rule R A m keeping.missing

-- a table filled cell after cell, each computed from those before it
unfoldable pub fill : {T K : Type 0} → (T → ℕ → K → T) → (T → ℕ → K) → T → ℕ → T
unfolding iter
fill store cell t n = iter (λ t c. store t c (cell t c)) t n

-- cell (m - 1) * 32 + A holds the least string of symbol A and length m, so that shorter strings come first
abbrev pub cell_of : Sym → ℕ → ℕ
cell_of A m = (m - 1) * 32 + A.0

unfoldable pub least_at : {T K : Type 0} → Keeping K → (ℕ → Rule) → ℕ → (T → ℕ → K) → T → ℕ → K
unfolding least_of
least_at keeping rule R read t c = least_of keeping rule R (λ B j. read t (cell_of B j)) (symbol_of (c % 32)) (c / 32 + 1)
