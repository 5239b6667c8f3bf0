-- The rule's kind decides whether there are parts.
use mathlib.Core.Path.{refl}
use Rattle.outside_entries.specs.Entries.{fourths, plain}
use Rattle.outside_weights.proofs.Steps.{pair_pushed, word_pushed}
use Rattle.outside_weights.proofs.push_rule.Goals as goal

pub returns-in-Pair : goal.returns-in-Pair
returns-in-Pair c = (
  pair_pushed (fourths c.args.t.now) (plain c.args.t.now) c.args.rules.now c.args.d c.args.node
      c.args.outer c.args.r c.rule_at-rule.ensures c.in-Pair.is c.wide.ensures.0
      c.push_parts.ensures.0,
  c.push_parts.ensures.1,
)

pub returns-in-Word : goal.returns-in-Word
returns-in-Word c = (
  word_pushed (fourths c.args.t.now) (plain c.args.t.now) c.args.rules.now c.args.d c.args.node
      c.args.outer c.args.r c.rule_at-rule.ensures c.in-Word.is,
  refl,
)
