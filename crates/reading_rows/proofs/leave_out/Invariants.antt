-- What stands at the front is what is left of the walk so far.
use mathlib.Core.Path.{◌≡◌}
use Prim.Native.Nat.{◌≤◌}
use lib.ListN.{length, take, drop}
use Rattle.office_theory.specs.Matching.{without_marked}
use Rattle.reading_rows.proofs.leave_out.Given as goal

abbrev pub invariant-loop-rule : goal.invariant-loop-rule
invariant-loop-rule l = record {
  within : l.rule-index ≤ length l.walk;
  few : l.k ≤ l.rule-index;
  kept : length l.shown ≡ length l.initial.shown;
  front : take l.k l.shown ≡ without_marked l.marks (take l.rule-index l.walk);
  behind : drop l.k l.shown ≡ drop l.k l.initial.shown;
}
