-- `office_reader::read_rules` meets its contract: the rules read so far stand in the sheet and in the filter, and what is left ends where all ends.
use mathlib.Core.Path.{◌≡◌}
use mathlib.Core.List.{[]}
use Prim.Native.Nat.{◌+◌, ◌*◌, ◌≤◌}
use lib.ListN.{length}
use Rattle.office.specs.Sheet.{rule_alike, office_rules_from}
use Rattle.office.specs.Flat.{behind_all, office_rules_at}
use Rattle.rules_reader.specs.Rules.{Filters, place_of}
use Rattle.office_reader.specs.Filter.{rule_place}
use Rattle.office_reader.proofs.Passing.{Rules}
use Rattle.office_reader.proofs.read_rules.Given as goal

abbrev pub invariant-loop-i : goal.invariant-loop-i
invariant-loop-i l = record {
  here : l.at ≡ behind_all l.sheet 3 l.i;
  near : l.at ≤ 3 + 15 * l.i;
  left : Rules l.sheet l.v.symbols l.v.words l.count l.i l.at ≡ place_of (office_rules_from l.sheet l.v.symbols l.v.words l.count 3 []);
  filter : length l.filter ≡ 4093;
  filtered : Filters rule_alike rule_place (office_rules_at l.sheet 3 l.i) l.filter;
}
