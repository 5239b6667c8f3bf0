-- Strings of words as numbers to base 256, each word at its place: a word that r places follow counts scale r. So two strings of one length
-- and place compare as their numbers do, and two joined are the sum of both. From 256 to the power of 6 on a number stands for none.
-- Nobody need believe this page. Assumes nothing.
use Rattle.std.specs.Prelude.{List, [], ◌∷◌, ℕ, zero, suc, ◌+◌, ◌*◌, ◌<◌, ltb}
use Rattle.bits.specs.Bits.{pick}

unfoldable pub scale : ℕ → ℕ
scale zero = 1
scale (suc r) = 256 * scale r

-- a string that begins where r places are left
unfoldable pub placed : ℕ → List ℕ → ℕ
unfolding scale
placed r [] = 0
placed zero (x ∷ t) = 0
placed (suc r) (x ∷ t) = x * scale r + placed r t

abbrev pub no_number : ℕ
no_number = 281474976710656

unfoldable pub lesser : ℕ → ℕ → ℕ
lesser a b = pick (ltb a b) a b

-- a string of bytes
abbrev pub Bytes : List ℕ → Type 0
Bytes [] = Unit {0}
Bytes (x ∷ t) = (x < 256) × Bytes t
