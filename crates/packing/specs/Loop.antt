-- What a loop does, as a function: for the models of the code above. Nobody need believe this page. Assumes nothing.
use Rattle.std.specs.Prelude.{ℕ, zero, suc, ◌+◌, ◌-◌}

-- g, n times from b, with the turn's number: the meaning of a loop over 0..n, and of one over from..upto
unfoldable pub iter : {A : Type 0} → (A → ℕ → A) → A → ℕ → A
iter g b zero = b
iter g b (suc n) = g (iter g b n) n

abbrev pub over : {A : Type 0} → (A → ℕ → A) → A → ℕ → ℕ → A
over g b from upto = iter (λ x y. g x (from + y)) b (upto - from)
