-- What the calls of an open listing answer and leave, as functions that can be run. Nobody need believe this page: the exported functions' contracts have the
-- equations with what is computed beside the records of OneByOne, which say what it means.
use Rattle.std.specs.Prelude.{◌≡◌, List, ℕ, ℤ}
use Rattle.packing.specs.Parse.{Verdict, accepted, refused}
use Rattle.open_listing.specs.Open.{Blocks, table_opened, place_after, Left}
use Rattle.open_search.specs.declared.Place.{Place}
use Rattle.codes.specs.Code.{code_of}
use Rattle.open_calls.specs.OneByOne.{place_at, next_code, Returned}

-- Opening answers 0, with the place of no readings handed out and the table zeroed, or changes nothing; a call answers and leaves what
-- open_listing's model says, with the place after that answer
abbrev pub open_code : Verdict Blocks → ℤ
open_code v = code_of (λ b. 0) v

abbrev pub place_opened : Verdict Blocks → Place → Place
place_opened (accepted b) before = place_at 0 1
place_opened (refused n) before = before

pub record OpenedAs (due : Verdict Blocks) (p : Place) (work : List ℕ) (r : Returned) : Type 0 where
  pub code : r.code ≡ open_code due
  pub place : r.place ≡ place_opened due p
  pub table : r.work ≡ table_opened due work

pub record CalledAs (due : Left) (p : Place) (r : Returned) (out' : List ℕ) : Type 0 where
  pub code : r.code ≡ next_code due.answer
  pub place : r.place ≡ place_after due.answer p
  pub table : r.work ≡ due.table
  pub output : out' ≡ due.output
