-- A word that is not in the filter of the head's words is in none of its rules.
use mathlib.Core.Path.{sym}
use Rattle.chart_keys.specs.Keys.{key_number}
use Rattle.chart_candidates.proofs.PassedOver.{filter_passed}
use Rattle.chart_leaves.proofs.filtered_leaves.Goals as goal

pub returns-then-filter-word_bit-eq0 : goal.returns-then-filter-word_bit-eq0
returns-then-filter-word_bit-eq0 c =
    let a = c.args in
    let lacks = rw (c.word_bit.ensures, c.narrow_at-word.ensures) at c.if-filter-word_bit-eq0.true in
    sym (filter_passed a.rules.now a.edges.now a.index.now a.c (key_number a.range.floor) (key_number a.range.best)
    a.e a.filter c.requires.1 lacks)
