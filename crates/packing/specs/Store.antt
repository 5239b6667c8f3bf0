-- Numbers stored one after another: for the models of the code above. Nobody need believe this page. Assumes nothing.
use Rattle.std.specs.Prelude.{List, [], ◌∷◌, ℕ, ◌+◌, set}

-- an array with the numbers l stored from index at on
unfoldable pub store_all : List ℕ → ℕ → List ℕ → List ℕ
store_all array at [] = array
store_all array at (x ∷ l) = store_all (set array at x) (at + 1) l
