-- The ways out of a call are those of its model.
use mathlib.Core.Path.{◌≡◌, refl}
use mathlib.Core.Bool.{Bool, true, false}
use mathlib.Core.List.{List}
use Prim.Native.Nat.{ℕ, ◌-◌, ◌*◌, ◌≤◌, ◌<◌}
use native.Mathlib.Omega.{arith}
use borrow.Author.Tests.{lt-ltb, le-ltb, ne_eqb}
use lib.Dec.{ltb}
use lib.ListN.{length}
use Rattle.open_search.specs.Model.{first_table, next_table, Answered, Searched, answered_by, seeks, table_by, sought_by, call_by, As}
use Rattle.open_search.specs.declared.Place.{Place}
use Rattle.open_answer.specs.declared.Plan.{Plan}
use Rattle.open_answer.specs.Answer as A
use Rattle.open_answer.specs.Answer.{Full, Refused}

answered_as : {found : Bool} {table rules edges : List ℕ} {q : Plan} {x : ℕ} {work out : List ℕ} {r : A.CallAnswer} {work' out' : List ℕ}
    → Answered found table rules edges q x work out r work' out' → As (answered_by found table rules edges q x work out) r work' out'
answered_as s = record { answer = s.answer; table = rw s.answer at s.left; output = rw s.answer at s.output }

-- the tests, one behind the other
module _ (rules edges : List ℕ) (q : Plan) (p : Place) (work out : List ℕ) {n : ℕ} (e : n ≡ 4 * q.layout.cells * q.layout.ranks) where
  abbrev numbers : ℕ
  numbers = 4 * q.layout.cells * q.layout.ranks

  abbrev Calls : A.CallAnswer → List ℕ → List ℕ → Type 0
  Calls r work' out' = As (call_by rules edges q p work out) r work' out'

  pub short_table : length work < n → Calls (Refused 22) work out
  unfolding call_by
  short_table short = rw (lt-ltb (length work) numbers (omega (arith, e, short))) (record { answer = refl; table = refl; output = refl })

  module _ (room : n ≤ length work) where
    fits : ltb (length work) numbers ≡ false
    fits = le-ltb (length work) numbers (omega (arith, e, room))

    pub short_output : length out < q.form.size → Calls (Refused 23) work out
    unfolding call_by
    short_output short = rw (fits, lt-ltb (length out) q.form.size short) (record { answer = refl; table = refl; output = refl })

    module _ (enough : q.form.size ≤ length out) where
      fits' : ltb (length out) q.form.size ≡ false
      fits' = le-ltb (length out) q.form.size enough

      pub full : 256 ≤ p.handed → Calls Full work out
      unfolding call_by
      full many = rw (fits, fits', le-ltb p.handed 256 many) (record { answer = refl; table = refl; output = refl })

      more : p.handed < 256 → ltb p.handed 256 ≡ true
      more below = lt-ltb p.handed 256 below

      module _ (below : p.handed < 256) {r : A.CallAnswer} {work' out' : List ℕ} where
        pub unsought_call : seeks q p work ≡ false → Answered true work rules edges q p.handed work out r work' out' → Calls r work' out'
        unfolding call_by sought_by table_by
        unsought_call other s = rw (fits, fits', more below, other) (answered_as s)

        module _ (sought : seeks q p work ≡ true) where
          pub first_call : p.handed ≡ 0 → Searched (first_table rules edges q work) rules edges q 0 work out r work' out' → Calls r work' out'
          unfolding call_by sought_by table_by
          first_call none s = rw (fits, fits', more below, sought, none) (answered_as s)

          pub later_call : 1 ≤ p.handed → Searched (next_table rules edges q (p.handed - 1) work) rules edges q p.handed work out r work' out'
              → Calls r work' out'
          unfolding call_by sought_by table_by
          later_call some s =
              let other : p.handed ≡ 0 → ⊥ = λ z. omega arith in
              rw (fits, fits', more below, sought, ne_eqb p.handed 0 other) (answered_as s)
