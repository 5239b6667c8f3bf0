-- A mark takes one bit, where rules bear marks.
use native.Mathlib.Omega.{arith}
use Rattle.grammar_writer.proofs.Marks.{bits_marked, bits_unmarked}
use Rattle.grammar_writer.proofs.marked_bits.Goals as goal

pub overflow_add-result : goal.overflow_add-result
overflow_add-result c = omega (arith, c.rule_bits-bits.ensures.1)

pub returns-then-form : goal.returns-then-form
returns-then-form c = (
  λ m. bits_marked c.args.form.symbols c.args.form.words c.args.rule m
      c.args.form.marked c.rule_bits-bits.ensures.0 c.if-form.true,
  omega (arith, c.rule_bits-bits.ensures.1),
)

pub returns : goal.returns
returns c = (
  λ m. bits_unmarked c.args.form.symbols c.args.form.words c.args.rule m
      c.args.form.marked c.rule_bits-bits.ensures.0 c.if-form.false,
  omega (arith, c.rule_bits-bits.ensures.1),
)
