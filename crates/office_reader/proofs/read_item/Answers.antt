-- `office_reader::read_item` meets its contract: its two fields are taken as the definition takes them.
use mathlib.Core.Path.{sym}
use native.Mathlib.Omega.{arith}
use Rattle.office.specs.Sheet.{item_kind}
use Rattle.rules_reader.proofs.Taken.{taken}
use Rattle.office_reader.proofs.read_item.Goals as goal

pub field_at-read-requires-2 : goal.field_at-read-requires-2
field_at-read-requires-2 c =
    let kind = taken (item_kind c.args.count) 1 _ _ (omega arith) (omega arith) (sym (rw c.kind_field.ensures.0 at c.in-Ok.ensures)) in
    (omega (arith, kind), omega (arith, c.first.ensures.1))
