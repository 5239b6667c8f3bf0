-- A rule that the filter does not have is like none of those read.
use Rattle.office.specs.Sheet.{rule_alike}
use Rattle.office_reader.specs.Filter.{rule_place}
use Rattle.rules_reader.proofs.Filter.{filters_miss}
use Rattle.office_reader.proofs.repeated.Goals as goal

pub returns-else-filter-place-ne0 : goal.returns-else-filter-place-ne0
returns-else-filter-place-ne0 c =
    let missed = c.if-filter-place-ne0.false in
    rw missed (filters_miss rule_alike rule_place _ _ c.args.filter.now c.requires.4 (rw c.requires.3 at missed))
