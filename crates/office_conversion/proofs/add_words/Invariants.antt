-- `office_conversion::add_words` meets its contract: the words that are left, added, give what all give.
use mathlib.Core.Path.{◌≡◌}
use mathlib.Core.List.{List}
use Prim.Native.Nat.{ℕ, ◌+◌, ◌≤◌}
use Rattle.packing.specs.declared.Rule as K
use Rattle.office.specs.Flat.{items_at}
use Rattle.office.specs.Conversion.{Helper, with_words}
use Rattle.office_conversion.specs.Pass.{Holds, WordsBelow}
use Rattle.office_conversion.proofs.Words.{Rest}
use Rattle.office_conversion.proofs.add_words.Given as goal

abbrev pub invariant-loop-j : goal.invariant-loop-j
invariant-loop-j l =
    (l.first ≤ l.k) × (l.k ≤ l.first + l.j)
    × WordsBelow (Rest l.sheet l.p l.n l.j)
    × ((a : List ℕ) (hs : List Helper) (rs : List K.Rule) → Holds l.base.symbols l.base.rules a hs rs l.initial.places l.initial.rules l.first
    → (gs : List Helper) × Holds l.base.symbols l.base.rules a gs rs l.places l.rules l.k
    × (with_words (Rest l.sheet l.p l.n l.j) gs ≡ with_words (items_at l.sheet l.p l.n) hs))
