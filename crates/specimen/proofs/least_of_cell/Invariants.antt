-- The loop is the definition's, turn by turn. Assumes nothing.
use mathlib.Core.Path.{◌≡◌}
use Prim.Native.Nat.{◌-◌, ◌≤◌}
use Rattle.packing.specs.Loop.{iter}
use Rattle.packing.specs.Meaning.{symbol_of}
use Rattle.phrases.specs.Padded.{no_string}
use Rattle.specimen.specs.Table.{fitted_at, lesser_rule}
use Rattle.specimen.proofs.least_of_cell.Given as goal

abbrev pub invariant-loop-r : goal.invariant-loop-r
invariant-loop-r l =
    (l.r ≤ l.count) × (l.best ≡ iter (λ x k. lesser_rule l.table (symbol_of l.a) l.len x (fitted_at l.rules k)) no_string l.r)

abbrev pub decreases-loop-r : goal.decreases-loop-r
decreases-loop-r l = l.count - l.r
