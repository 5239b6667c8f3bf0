-- A key that the filter does not have is none of those read.
use lib.Dec.{eqb}
use Rattle.rules_reader.specs.Rules.{filter_place}
use Rattle.rules_reader.proofs.Filter.{filters_miss}
use Rattle.rules_reader.proofs.repeated.Goals as goal

pub returns-else-filter-filter_place-ne0 : goal.returns-else-filter-filter_place-ne0
returns-else-filter-filter_place-ne0 c =
    let a = c.args in
    let missed = c.if-filter-filter_place-ne0.false in
    rw missed (filters_miss eqb filter_place a.key a.keys.now a.filter.now c.requires.1 (rw c.filter_place.ensures.0 at missed))
