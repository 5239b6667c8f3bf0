-- What the conversion answers tells what is to be written.
use native.Mathlib.Omega.{arith}
use borrow.Author.Rules.{rules}
use Rattle.packing.specs.Conversion.{fitting}
use Rattle.office_block.proofs.Blocks.{not_converted, marks_room, in_ranges, block_told}
use Rattle.office_block.proofs.office_to_block.Goals as goal

pub returns-in_err-z : goal.returns-in_err-z
unfolding fitting
returns-in_err-z c = rw (not_converted c.args.sheet.now c.in_err-z.ensures.0) (search rules)

pub mark_helpers-requires : goal.mark_helpers-requires
mark_helpers-requires c =
    let m = marks_room c.args.sheet.now c.in_ok-z.ensures.0 in
    omega (arith, m, c.wide-count.ensures.0, c.wide.ensures.0)

pub write_grammar-requires : goal.write_grammar-requires
write_grammar-requires c =
    let m = marks_room c.args.sheet.now c.in_ok-z.ensures.0 in
    (omega (arith, m, c.wide-count.ensures.0), in_ranges c.args.sheet.now c.in_ok-z.ensures.0)

pub returns : goal.returns
returns c =
    let r = c.in_ok-z.ensures in
    let w = rw (c.wide-count.ensures.0, c.wide.ensures.0) at c.mark_helpers.ensures in
    let e = block_told c.args.sheet.now r.0 256 (omega arith) c.read_grammar.new.rules c.mark_helpers.new.marks r.1 w in
    rw e (rw c.wide-count.ensures.0 at c.write_grammar.ensures)
