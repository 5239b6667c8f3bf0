-- `office_reader::read_items` meets its contract: what is left ends where all ends.
use mathlib.Core.Path.{◌≡◌}
use Prim.Native.Nat.{◌+◌, ◌-◌, ◌*◌}
use Rattle.office.specs.Sheet.{items_from}
use Rattle.rules_reader.specs.Rules.{place_of}
use Rattle.office_reader.proofs.Passing.{Items}
use Rattle.office_reader.proofs.read_items.Given as goal

abbrev pub invariant-loop-i : goal.invariant-loop-i
invariant-loop-i l = record {
  place : l.at ≡ l.start + 2 * l._i;
  left : Items l.sheet l.v.symbols l.v.words l.count (l.count - l._i) l.at ≡ place_of (items_from l.sheet l.v.symbols l.v.words l.count l.count l.start);
}
