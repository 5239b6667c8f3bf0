-- What was added up and what the rules behind the first i take is what all of them take, whatever their marks.
use mathlib.Core.Path.{◌≡◌}
use mathlib.Core.List.{List}
use Prim.Native.Nat.{ℕ, ◌+◌, ◌-◌, ◌*◌, ◌≤◌}
use Rattle.bits.specs.Fields.{widths}
use Rattle.sheet_writer.specs.Arrays.{rules_fields}
use Rattle.grammar_writer.proofs.rules_bits.Given as goal

abbrev pub invariant-loop-i : goal.invariant-loop-i
invariant-loop-i l =
    (l.total ≤ 42 * l.i)
    × ((marks : List ℕ) → l.total + widths (rules_fields l.form.marked l.form.symbols l.form.words l.rules marks l.i (l.form.rules - l.i))
    ≡ widths (rules_fields l.form.marked l.form.symbols l.form.words l.rules marks 0 l.form.rules))
