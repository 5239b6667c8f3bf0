-- `office_reader::items_place` meets its contract: what is left of the items leads to the place of all. Assumes nothing.
use mathlib.Core.Path.{◌≡◌}
use Prim.Native.Nat.{◌<◌}
use Rattle.office.specs.Flat.{items_at}
use Rattle.office_reader.specs.Filter.{items_place}
use Rattle.office_reader.proofs.Places.{Placed}
use Rattle.office_reader.proofs.items_place.Given as goal

abbrev pub invariant-loop-i : goal.invariant-loop-i
invariant-loop-i l = record { small : l.place < 4093; left : Placed l.sheet l.p l.n l.i l.place ≡ items_place (items_at l.sheet l.p l.n) l.start }
