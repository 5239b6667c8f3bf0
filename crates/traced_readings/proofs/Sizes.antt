-- The bytes of a reading, of either kind: within a limit no more than of a graph with as many places and rules as there can be, and as many as derivation's
-- `outputLength` says.
use mathlib.Core.Path.{◌≡◌, refl}
use mathlib.Core.Bool.{Bool, true, false}
use Prim.Native.Nat.{ℕ, ◌+◌, ◌-◌, ◌*◌, ◌/◌, ◌≤◌}
use native.Mathlib.Nat.{mul-le-mul}
use native.Mathlib.Omega.{arith}
use lib.ListN.{length}
use Rattle.bits.specs.Width.{width_of, width_from}
use Rattle.packing.specs.Meaning.{Grammar, Heard, slots, graph, last_place}
use Rattle.packing.specs.Reading.{reading_length}
use Rattle.packing.specs.GraphReading.{graph_reading_length}
use Rattle.packing.proofs.Widths.{byte_width}
use Rattle.derivation.specs.Heard.{output_length}
use Rattle.heard_reader.specs.Answer.{is_graph}
use Rattle.traced_readings.specs.Model.{size_of}

-- the longest reading within a limit: of a graph, with 256 rules, whose numbers have eight bits
pub longest_is : (limit : ℕ) → graph_reading_length limit 256 ≡ (34 + (2 * limit - 1) * 8 + 7 * limit + 7) / 8
unfolding graph_reading_length width_of width_from
longest_is limit = refl

pub size_within : (limit : ℕ) (b : Bool) {n R : ℕ} → n ≤ limit → R ≤ 256 → size_of b n R ≤ graph_reading_length limit 256
unfolding reading_length graph_reading_length
size_within limit b {n} {R} h r = rw (longest_is limit) (go b)
  where
    walk : (2 * n - 1) * width_of (R - 1) ≤ (2 * limit - 1) * 8
    walk = mul-le-mul (omega arith) (byte_width R r)

    go : (b : Bool) → size_of b n R ≤ (34 + (2 * limit - 1) * 8 + 7 * limit + 7) / 8
    go true = omega (arith, walk)
    go false = omega (arith, walk)

-- a few bytes for each place
pub longest_small : (limit : ℕ) → graph_reading_length limit 256 ≤ 3 * limit + 5
longest_small limit = rw (longest_is limit) (omega arith)

pub size_is : (g : Grammar) (h : Heard) → size_of (is_graph h) (last_place h) (length g.rules) ≡ output_length g h
size_is g (slots u) = refl
size_is g (graph h) = refl
