-- Whether a call looks for a rank: the tests one behind the other, and what they say of a first call's table.
use mathlib.Core.Path.{◌≡◌, refl}
use mathlib.Core.Bool.{Bool, true, false, false≢true}
use mathlib.Core.List.{List}
use Prim.Native.Nat.{ℕ, ◌*◌}
use borrow.Author.Tests.{eq-eqb, ne_eqb}
use lib.Dec.{eqb}
use lib.ListN.{take}
use Rattle.bits.specs.Bits.{pick}
use Rattle.open_answer.specs.declared.Plan.{Plan}
use Rattle.open_search.specs.Model.{zeros, seeks}
use Rattle.open_search.specs.declared.Place.{Place}

module _ (q : Plan) (p : Place) (work : List ℕ) where
  pub unopened : (p.opened ≡ 1 → ⊥) → false ≡ seeks q p work
  unfolding seeks
  unopened other = rw (ne_eqb p.opened 1 other)

  module _ (opened : p.opened ≡ 1) where
    pub at_first : p.handed ≡ 0 → {b : Bool} → b ≡ zeros (take (4 * q.layout.cells) work) → b ≡ seeks q p work
    unfolding seeks
    at_first none e = rw (eq-eqb p.opened 1 opened, eq-eqb p.handed 0 none) e

    pub at_later : (p.handed ≡ 0 → ⊥) → true ≡ seeks q p work
    unfolding seeks
    at_later some = rw (eq-eqb p.opened 1 opened, ne_eqb p.handed 0 some)

  -- a first call that looks for a rank has a front of zeros
  pub first_clear : seeks q p work ≡ true → p.handed ≡ 0 → zeros (take (4 * q.layout.cells) work) ≡ true
  unfolding seeks
  first_clear sought none = go (eqb p.opened 1) (rw (eq-eqb p.handed 0 none) at sought)
    where
      go : (b : Bool) {c : Bool} → pick b c false ≡ true → c ≡ true
      go true e = e
      go false e = absurd (false≢true e)
