-- `rules_reader::read_rules` meets its contract: after each turn the rules read so far are those of the definition, and their
-- numbers and marks stand at the arrays' fronts. Assumes nothing.
use mathlib.Core.Path.{◌≡◌}
use Prim.Native.Nat.{◌+◌, ◌*◌, ◌≤◌}
use lib.ListN.{length, take}
use Rattle.packing.specs.Read.{source_of}
use Rattle.rules_reader.specs.Rules.{Filtered}
use Rattle.rules_reader.proofs.Turns.{ReadSoFar}
use Rattle.rules_reader.proofs.read_rules.Given as goal

abbrev pub invariant-loop-i : goal.invariant-loop-i
invariant-loop-i l = record {
  near : l.at ≤ l.start + 42 * l.i;
  read : ReadSoFar l.form.marked (source_of l.src) l.form.vocabulary.symbols l.form.vocabulary.words l.form.count l.start l.i l.at l.keys
      l.initial.rules l.rules
      l.marks;
  filter : length l.filter ≡ 1021;
  filtered : Filtered (take l.i l.keys) l.filter;
}
