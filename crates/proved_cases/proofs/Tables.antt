-- The work table of the open listing of G and U, before the first and after each of its readings.
use mathlib.Core.List.{List, [], ◌∷◌, ◌++◌}
use Prim.Native.Nat.{ℕ}
use lib.ListN.{replicate}

-- the first ranks of all ten spans: beside those from 0 to 3, from 0 to 4 (q and w) and from 1 to 4 stands what is known of their further ranks
abbrev firsts : (l q w r : ℕ) → List ℕ
firsts l q w r =
    1 ∷ 0 ∷ 2097152 ∷ 0 ∷ 1572865 ∷ 0 ∷ 65536 ∷ 0 ∷ 1 ∷ 0 ∷ 2097408 ∷ 0 ∷ 3145729 ∷ 0 ∷ 65536 ∷ l ∷ 1572865 ∷ 0 ∷ 131072 ∷ 0
    ∷ 1 ∷ 0 ∷ 2097664 ∷ 0 ∷ 4718593 ∷ q ∷ 65536 ∷ w ∷ 3145729 ∷ 0 ∷ 131072 ∷ r ∷ 1572865 ∷ 0 ∷ 196608 ∷ 0 ∷ 1 ∷ 0 ∷ 2097920 ∷ 0 ∷ []

-- the second ranks of the spans from 0 to 3 and from 1 to 4, and the four further ranks of the whole
abbrev further : (left whole right : List ℕ) → List ℕ
further left whole right = replicate 3060 0 ++ left ++ replicate 3056 0 ++ whole ++ replicate 1004 0 ++ right ++ replicate 3056 0

abbrev missing : List ℕ
missing = 0 ∷ 0 ∷ 0 ∷ 0 ∷ []

abbrev right : List ℕ
right = 3145729 ∷ 0 ∷ 196608 ∷ 0 ∷ []

abbrev second : List ℕ
second = 4718593 ∷ 2048 ∷ 65537 ∷ 536872959 ∷ []

abbrev third : List ℕ
third = 4718593 ∷ 0 ∷ 131072 ∷ 0 ∷ []

abbrev fourth : List ℕ
fourth = 4718593 ∷ 0 ∷ 196608 ∷ 0 ∷ []

abbrev pub after_none : List ℕ
after_none = replicate 10240 0

abbrev pub after_first : List ℕ
after_first = firsts 0 0 0 0 ++ replicate 10200 0

abbrev pub after_second : List ℕ
after_second = firsts 0 16384 513 512 ++ further missing (second ++ missing ++ missing ++ missing) right

abbrev pub after_third : List ℕ
after_third = firsts 0 16384 1024 512 ++ further missing (second ++ third ++ missing ++ missing) right

abbrev pub after_fourth : List ℕ
after_fourth = firsts 0 16384 1536 512 ++ further missing (second ++ third ++ fourth ++ missing) right

abbrev pub after_fifth : List ℕ
after_fifth =
    firsts 512 16384 2048 512
    ++ further (3145729 ∷ 0 ∷ 131072 ∷ 0 ∷ []) (second ++ third ++ fourth ++ (4718593 ∷ 0 ∷ 196864 ∷ 0 ∷ [])) right
