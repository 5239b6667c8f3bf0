-- Tags of queued candidates: how a back pointer comes from that of the last rank found.
-- Nobody need believe this page: the theorems of chart_theory join it to the derivations. Assumes nothing.
use Rattle.std.specs.Prelude.{Bool, true, false, ℕ, ◌+◌, ◌-◌, eqb}
use Rattle.bits.specs.Bits.{pick}
use Rattle.chart_keys.specs.declared.BackPointer.{BackPointer}

-- a leaf, or first with first: a candidate that follows none
abbrev pub is_initial : BackPointer → Bool
is_initial b = pick (eqb b.split 0) true (pick (eqb b.left 0) (eqb b.right 0) false)

-- how a back pointer comes from that of the last rank found: the next right rank, the next left rank, and from either of
-- these two the other; and the back pointer again
unfoldable pub code_of : ℕ → ℕ → ℕ
code_of last back = pick (eqb back (last + 1)) 0 (pick (eqb back (last + 256)) 1 (pick (eqb back (last + 255)) 2 3))

unfoldable pub shifted : ℕ → ℕ → ℕ
shifted last code = pick (eqb code 0) (last + 1) (pick (eqb code 1) (last + 256) (pick (eqb code 2) (last + 255) (last - 255)))

-- tags are below `tags`: a rank of the cell that has a next one, and a code; or the greatest, that of the candidates that follow none
abbrev pub tags : ℕ
tags = 1024
