-- The rule, and then its mark.
use native.Mathlib.Omega.{arith}
use Rattle.grammar_writer.proofs.Marks.{rule_room, mark_room, mark_stands, unmarked_stands}
use Rattle.grammar_writer.proofs.write_marked.Goals as goal

pub write_rule-next-requires : goal.write_rule-next-requires
write_rule-next-requires c =
    let a = c.args in
    let f = a.form in (
      c.requires.0,
      c.requires.1,
      omega (arith, c.requires.2, rule_room f.symbols f.words a.rule a.mark f.marked),
    )

pub write_field-requires : goal.write_field-requires
write_field-requires c =
    let a = c.args in
    let f = a.form in
    let room = mark_room f.symbols f.words a.rule a.mark f.marked c.if-form.true in (
      omega (arith, c.requires.0, c.write_rule-next.ensures.1),
      omega arith,
      omega (arith, c.requires.2, room, c.write_rule-next.ensures.0, c.write_rule-next.auto.out),
    )

pub overflow_add-result : goal.overflow_add-result
overflow_add-result c =
    omega (arith, c.requires.0, c.write_rule-next.ensures.1)

pub returns-then-form : goal.returns-then-form
returns-then-form c =
    mark_stands c.args.form.symbols c.args.form.words c.args.rule c.args.mark c.args.form.marked
    c.args.out.now c.args.at c.write_rule-next.ensures c.if-form.true c.write_field.ensures

pub returns : goal.returns
returns c =
    unmarked_stands c.args.form.symbols c.args.form.words c.args.rule c.args.mark c.args.form.marked
    c.args.out.now c.args.at c.write_rule-next.ensures c.if-form.false
