-- After each turn the bits put are the upper ones of the value, and each part is put within one byte.
use mathlib.Core.Path.{◌≡◌}
use Prim.Native.Nat.{◌≤◌, ◌-◌, ◌/◌, ◌^◌}
use lib.ListN.{length}
use Rattle.bits.specs.Put.{put}
use Rattle.bit_writer.proofs.write_parts.Given as goal

abbrev pub invariant-loop-done : goal.invariant-loop-done
invariant-loop-done l = (l.done ≤ l.width) × (length l.out ≡ length l.initial.out) × (l.out ≡ put l.initial.out l.at l.done (l.value / 2 ^ (l.width - l.done)))

abbrev pub decreases-loop-done : goal.decreases-loop-done
decreases-loop-done l = l.width - l.done
