-- `office_reader::seen` meets its contract: the rule is alike one that is left where it is alike one at all.
use mathlib.Core.Path.{◌≡◌}
use Prim.Native.Nat.{◌+◌, ◌*◌, ◌≤◌}
use Rattle.packing.specs.Alike.{any_like}
use Rattle.office.specs.Sheet.{rule_alike}
use Rattle.office.specs.Flat.{office_rule_at, office_rules_at}
use Rattle.office_reader.proofs.Likeness.{Among}
use Rattle.office_reader.proofs.seen.Given as goal

abbrev pub invariant-loop-i : goal.invariant-loop-i
invariant-loop-i l = record {
  near : l.p ≤ 3 + 8589934600 * l._i;
  left : Among l.sheet l.at l.n l._i l.p ≡ any_like rule_alike (office_rule_at l.sheet l.at) (office_rules_at l.sheet 3 l.n);
}
