-- A block's length tells the room that its fields need.
-- Assumes nothing.
use mathlib.Core.Path.{◌≡◌, ◌∙◌}
use mathlib.Core.List.{List, ◌++◌}
use Prim.Native.Nat.{ℕ, ◌*◌, ◌≤◌, ◌<◌}
use native.Mathlib.Omega.{arith}
use lib.ListN.{length, get_or, drop}
use Rattle.bits.specs.Fields.{Fld, widths}
use Rattle.bits.specs.Put.{puts}
use Rattle.bits.proofs.Fields.{length_block, puts_block}
use Rattle.sheet_writer.specs.Arrays.{block_of}

module _ (fs : List Fld) (out : List ℕ) (h : length (block_of fs) ≤ length out) where
  pub block_room : widths fs ≤ 8 * length out
  block_room = omega (arith, length_block fs)

  pub block_written : {after : List ℕ} → ((i : ℕ) → get_or out i 0 < 256) → after ≡ puts out 0 fs → after ≡ block_of fs ++ drop (length (block_of fs)) out
  block_written y w = w ∙ puts_block out fs y block_room
