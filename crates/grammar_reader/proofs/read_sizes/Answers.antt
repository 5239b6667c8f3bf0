-- `grammar_reader::read_sizes` meets its contract: each field is taken as the definition takes it. Assumes nothing.
use mathlib.Core.Path.{sym}
use native.Mathlib.Omega.{arith}
use borrow.Author.Rules.{rules}
use Rattle.packing.specs.Grammar.{size_field}
use Rattle.grammar_reader.specs.Parts.{sizes_from}
use Rattle.rules_reader.proofs.Taken.{taken}
use Rattle.grammar_reader.proofs.read_sizes.Goals as goal

pub field_at-read-requires-2 : goal.field_at-read-requires-2
field_at-read-requires-2 c = omega (arith, taken (size_field 6 32) 6 _ _ (omega arith) (omega arith) (sym c.in-Ok.ensures))

pub field_at-read-requires-3 : goal.field_at-read-requires-3
field_at-read-requires-3 c =
    let symbols = taken (size_field 6 32) 6 _ _ (omega arith) (omega arith) (sym c.in-Ok.ensures) in
    omega (arith, symbols, taken (size_field 8 200) 8 _ _ (omega arith) (omega arith) (sym c.in-Ok-read.ensures))

pub returns : goal.returns
unfolding sizes_from
returns c =
    let symbols = taken (size_field 6 32) 6 _ _ (omega arith) (omega arith) (sym c.in-Ok.ensures) in
    let words = taken (size_field 8 200) 8 _ _ (omega arith) (omega arith) (sym c.in-Ok-read.ensures) in
    let rules' = taken (size_field 9 256) 9 _ _ (omega arith) (omega arith) (sym c.in-Ok-read-2.ensures) in
    (search rules, omega (arith, symbols, words, rules'))
