-- What remains behind the first i rules is written from bit `at` on, and at the end nothing remains.
use Prim.Native.Nat.{◌+◌, ◌-◌, ◌*◌, ◌≤◌}
use Rattle.bits.proofs.Remaining.{Remaining}
use Rattle.sheet_writer.specs.Arrays.{rules_fields}
use Rattle.grammar_writer.proofs.write_rules.Given as goal

abbrev pub invariant-loop-i : goal.invariant-loop-i
invariant-loop-i l =
    (l.at ≤ 27 + 42 * l.i)
    × Remaining l.initial.out l.start (rules_fields l.form.marked l.form.symbols l.form.words l.rules l.marks 0 l.form.rules) l.out l.at
    (rules_fields l.form.marked l.form.symbols l.form.words l.rules l.marks l.i (l.form.rules - l.i))
