-- The kind is the definition's.
use Rattle.grammar_writer.proofs.kind_of.Goals as goal

pub returns-then-marked : goal.returns-then-marked
returns-then-marked c = rw c.if-marked.true

pub returns : goal.returns
returns c = rw c.if-marked.false
