-- `office_reader::same_items` meets its contract: items that are left are alike where all are.
use mathlib.Core.Path.{◌≡◌}
use Rattle.office.specs.Sheet.{items_alike}
use Rattle.office.specs.Flat.{items_at}
use Rattle.office_reader.proofs.Likeness.{Left}
use Rattle.office_reader.proofs.same_items.Given as goal

abbrev pub invariant-loop-i : goal.invariant-loop-i
invariant-loop-i l = Left l.sheet l.p l.q l.n l.i ≡ items_alike (items_at l.sheet l.p l.n) (items_at l.sheet l.q l.n)
