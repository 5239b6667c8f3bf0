-- What the whole line says, without the marked rules, in an array of zeros.
use mathlib.Core.Path.{ap, ◌∙◌}
use Prim.Native.Nat.{ℕ}
use native.Mathlib.Omega.{arith}
use lib.ListN.{take, length-take}
use borrow.Author.Rules.{rules}
use Rattle.packing.specs.Meaning.{grammar_of, heard_edges}
use Rattle.derivation.specs.Derivation.{weight}
use Rattle.office_theory.specs.Matching.{without_marked}
use Rattle.reading_rows.specs.Rows.{row}
use Rattle.reading_rows.proofs.Unmarked.{shown_of_lem}
use Rattle.reading_rows.proofs.Rows.{row_written}
use Rattle.reading_rows.proofs.write_row.Goals as goal

pub returns : goal.returns
returns c =
    let a = c.args in
    let line = c.line_of-line.result in
    let walked = c.line_of-line.new.walk in
    let n = c.leave_out-count.result in
    let (few, (number, part)) = c.leave_out-count.ensures in
    let written = row_written a.rank line.weight n a.row.now (without_marked a.marks.now (take line.nodes walked)) c.zero.new.t
    c.leave_out-count.new.shown c.store.new.t c.store-2.new.t c.store-3.new.t
    c.requires.1 c.zero.ensures number
    (omega (arith, few, length-take line.nodes walked, c.line_of-line.ensures.0)) part
    c.store.ensures c.store-2.ensures c.store-3.ensures in
    λ m h t ok valid stand marked shape d is.
    let (weighs, shows) = shown_of_lem a.rules.now a.marks.now a.s a.block.now line walked c.line_of-line.ensures.1 m h t ok valid stand
    marked shape d is in
    written ∙ ap (λ (w : ℕ). row a.rank w (without_marked a.marks.now (take line.nodes walked))) weighs
    ∙ ap (row a.rank (weight (grammar_of m) (heard_edges h) t)) shows
