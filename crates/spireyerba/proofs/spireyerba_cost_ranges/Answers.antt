-- Each arm is the definition's code of that answer, and what it writes; so the demands are met. Assumes nothing.
use Rattle.spireyerba.proofs.CostRanges.{ranged_code, ranged_refusal, ranges_told}
use Rattle.spireyerba.proofs.spireyerba_cost_ranges.Goals as goal

pub returns-in-Nothing : goal.returns-in-Nothing
returns-in-Nothing c =
    let a = c.args in
    let e = c.in-Ok.ensures.promised in
    let told = rw c.in-Nothing.is at e.0 in
    let code = ranged_code a.grammar.now a.low.now a.high.now a.work.now told in
    let both = ranges_told a.grammar.now a.low.now a.high.now a.work.now told a.least.now a.greatest.now code e.1 in
    record { ranged_as = both.0; cost_ranges = both.1 }

pub returns-in-Outweighed : goal.returns-in-Outweighed
returns-in-Outweighed c =
    let a = c.args in
    let e = c.in-Ok.ensures.promised in
    let told = rw c.in-Outweighed.is at e.0 in
    let code = ranged_code a.grammar.now a.low.now a.high.now a.work.now told in
    let both = ranges_told a.grammar.now a.low.now a.high.now a.work.now told a.least.now a.greatest.now code e.1 in
    record { ranged_as = both.0; cost_ranges = both.1 }

pub returns-in-Stands : goal.returns-in-Stands
returns-in-Stands c =
    let a = c.args in
    let e = c.in-Ok.ensures.promised in
    let told = rw c.in-Stands.is at e.0 in
    let code = ranged_code a.grammar.now a.low.now a.high.now a.work.now told in
    let both = ranges_told a.grammar.now a.low.now a.high.now a.work.now told a.least.now a.greatest.now code e.1 in
    record { ranged_as = both.0; cost_ranges = both.1 }

pub returns-in-Err : goal.returns-in-Err
returns-in-Err c =
    let a = c.args in
    let e = c.in-Err.ensures.promised in
    let code = ranged_refusal a.grammar.now a.low.now a.high.now a.work.now e.0 (rw c.number.ensures.0 at c.refusal.ensures) in
    let both = ranges_told a.grammar.now a.low.now a.high.now a.work.now e.0 a.least.now a.greatest.now code e.1 in
    record { ranged_as = both.0; cost_ranges = both.1 }
