-- What both readers say of the blocks.
use borrow.Author.Rules.{rules}
use Rattle.packing.specs.Grammar.{marked_block}
use Rattle.packing.specs.Heard.{heard_block}
use Rattle.packing.proofs.Told.{accepted_told, refused_told}
use Rattle.grammar_reader.proofs.BlockInversion.{marked_told, marked_refused}
use Rattle.heard_reader.specs.Answer.{heard_size}
use Rattle.lines.proofs.Shapes.{no_grammar, no_heard, both_accepted}
use Rattle.lines.proofs.shape_of.Goals as goal

pub returns-in_default : goal.returns-in_default
returns-in_default c =
    let a = c.args in
    let r = c.read_marked_block.new in
    no_grammar a.grammar.now a.utterance.now r.rules r.marks
    (marked_refused (marked_block a.grammar.now) (rw c.in_default.is at c.read_marked_block.ensures.answer))

pub read_heard-requires : goal.read_heard-requires
read_heard-requires c =
    let b = (rw c.in-Ok.is at c.read_marked_block.ensures).bounds in
    (b.some_word, b.words, search rules)

pub returns-in_default-read_heard : goal.returns-in_default-read_heard
returns-in_default-read_heard c =
    let a = c.args in
    let r = c.read_marked_block.new in
    let W = c.in-Ok.sizes.words in
    let told = rw c.in-Ok.is at c.read_marked_block.ensures in
    let (m, is, ez, _) = marked_told (marked_block a.grammar.now) told.answer in
    no_heard a.grammar.now a.utterance.now r.rules r.marks m is ez
    (refused_told (heard_block W a.utterance.now) heard_size (rw c.in_default-read_heard.is at c.read_heard.ensures.answer))

pub returns : goal.returns
returns c =
    let a = c.args in
    let r = c.read_marked_block.new in
    let W = c.in-Ok.sizes.words in
    let told = rw c.in-Ok.is at c.read_marked_block.ensures in
    let heard = rw c.in-Ok-read_heard.is at c.read_heard.ensures in
    let (m, is, ez, _) = marked_told (marked_block a.grammar.now) told.answer in
    let (h, v, y) = accepted_told (heard_block W a.utterance.now) heard_size heard.answer in
    both_accepted a.grammar.now a.utterance.now r.rules r.marks m is ez h v y heard.sized.0 heard.sized.1
    told.bounds.some_rule told.bounds.rules told.stands
