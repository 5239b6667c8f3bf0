-- The rule's kind decides whether the node is a leaf.
use Rattle.word_margins.proofs.Steps.{pair_unused, word_used}
use borrow.Author.Rules.{rules}
use Rattle.word_margins.proofs.use_node.Goals as goal

pub returns-in-Word : goal.returns-in-Word
returns-in-Word c =
    word_used c.args.rules.now c.args.used.now c.args.rule c.args.edge c.rule_at.ensures
    c.wide.ensures.0 c.in-Word.is c.wide-in-Word.ensures.0 c.store.ensures
