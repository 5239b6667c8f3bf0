-- `rules_reader::read_numbers` meets its contract: each field is taken as the definition takes it, in its range. Assumes nothing.
use mathlib.Core.Path.{refl}
use native.Mathlib.Omega.{arith}
use borrow.Author.Rules.{rules}
use Rattle.packing.specs.Grammar.{rule_from}
use Rattle.rules_reader.proofs.Fields.{kind_taken, weight_taken, symbol_taken, first_taken, second_taken}
use Rattle.rules_reader.proofs.read_numbers.Goals as goal

pub field_at-read-requires-2 : goal.field_at-read-requires-2
field_at-read-requires-2 c = omega (arith, kind_taken _ _ c.in-Ok.ensures)

pub field_at-read-requires-3 : goal.field_at-read-requires-3
field_at-read-requires-3 c =
    let h = symbol_taken c.args.v.ranges _ _ c.in-Ok-read.ensures c.symbol.ensures.0 in
    omega (arith, kind_taken _ _ c.in-Ok.ensures, h)

pub field_at-read-requires-4 : goal.field_at-read-requires-4
field_at-read-requires-4 c =
    let h = symbol_taken c.args.v.ranges _ _ c.in-Ok-read.ensures c.symbol.ensures.0 in
    omega (arith, kind_taken _ _ c.in-Ok.ensures, h, weight_taken _ _ c.in-Ok-read-2.ensures)

pub field_at-read-requires-5 : goal.field_at-read-requires-5
field_at-read-requires-5 c =
    let h = symbol_taken c.args.v.ranges _ _ c.in-Ok-read.ensures c.symbol.ensures.0 in
    let f = first_taken c.args.v.ranges _ _ c.in-Ok-read-3.ensures _ c.first.ensures.0 in
    omega (arith, kind_taken _ _ c.in-Ok.ensures, h, weight_taken _ _ c.in-Ok-read-2.ensures, f)

pub invariant_of-rule : goal.invariant_of-rule
invariant_of-rule c =
    let k = kind_taken _ _ c.in-Ok.ensures in
    let h = symbol_taken c.args.v.ranges _ _ c.in-Ok-read.ensures c.symbol.ensures.0 in
    let f = first_taken c.args.v.ranges _ _ c.in-Ok-read-3.ensures _ c.first.ensures.0 in
    let s = second_taken c.args.v.ranges _ _ c.in-Ok-read-4.ensures _ k.0 c.second.ensures.0 in
    record { sound = (k.0, h.0, f.0, s.0) }

pub returns : goal.returns
unfolding rule_from
returns c =
    let k = kind_taken _ _ c.in-Ok.ensures in
    let h = symbol_taken c.args.v.ranges _ _ c.in-Ok-read.ensures c.symbol.ensures.0 in
    let f = first_taken c.args.v.ranges _ _ c.in-Ok-read-3.ensures _ c.first.ensures.0 in
    let s = second_taken c.args.v.ranges _ _ c.in-Ok-read-4.ensures _ k.0 c.second.ensures.0 in
    (search rules, omega (arith, k, h, weight_taken _ _ c.in-Ok-read-2.ensures, f, s), refl)
