-- `office_reader::read_rule` meets its contract: head, weight and count are taken as the definition takes them, then the items.
use mathlib.Core.Path.{sym}
use native.Mathlib.Omega.{arith}
use Rattle.rules_reader.proofs.Fields.{symbol_taken, weight_taken}
use Rattle.rules_reader.proofs.Taken.{taken}
use Rattle.office.specs.Sheet.{item_count}
use Rattle.office_reader.proofs.read_rule.Goals as goal

pub field_at-read-requires-2 : goal.field_at-read-requires-2
field_at-read-requires-2 c = omega (arith, symbol_taken c.args.v.ranges _ _ c.in-Ok.ensures c.symbol.ensures.0)

pub field_at-read-requires-3 : goal.field_at-read-requires-3
field_at-read-requires-3 c =
    let head = symbol_taken c.args.v.ranges _ _ c.in-Ok.ensures c.symbol.ensures.0 in
    omega (arith, head, weight_taken _ _ c.in-Ok-read.ensures)

pub read_items-requires : goal.read_items-requires
read_items-requires c =
    let head = symbol_taken c.args.v.ranges _ _ c.in-Ok.ensures c.symbol.ensures.0 in
    let count = taken item_count 1 _ _ (omega arith) (omega arith) (sym c.in-Ok-read-2.ensures) in
    omega (arith, head, weight_taken _ _ c.in-Ok-read.ensures, count)
