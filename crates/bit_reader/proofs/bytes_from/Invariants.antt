-- After k turns the number is the field of k whole bytes.
use mathlib.Core.Path.{◌≡◌}
use Prim.Native.Nat.{◌*◌}
use Rattle.bits.specs.Bits.{field}
use Rattle.bit_reader.proofs.bytes_from.Given as goal

abbrev pub invariant-loop-x : goal.invariant-loop-x
invariant-loop-x l = l.v ≡ field l.s (8 * l.first) (8 * l.x-index)
