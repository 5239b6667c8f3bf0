-- Each test of the code is one of the model's.
use Rattle.outside_entries.proofs.Steps.{lesser_no_first, lesser_no_second, lesser_second, lesser_first}
use Rattle.outside_entries.proofs.lesser.Goals as goal

pub returns-then-a-eq0 : goal.returns-then-a-eq0
returns-then-a-eq0 c = (lesser_no_first c.args.a c.args.b c.if-a-eq0.true, c.requires.1)

pub returns-then-b-eq0 : goal.returns-then-b-eq0
returns-then-b-eq0 c = (lesser_no_second c.args.a c.args.b c.if-a-eq0.false c.if-b-eq0.true, c.requires.0)

pub returns-then-b-a : goal.returns-then-b-a
returns-then-b-a c =
    (lesser_second c.args.a c.args.b c.if-a-eq0.false c.if-b-eq0.false c.if-b-a.true, c.requires.1)

pub returns : goal.returns
returns c =
    (lesser_first c.args.a c.args.b c.if-a-eq0.false c.if-b-eq0.false c.if-b-a.false, c.requires.0)
