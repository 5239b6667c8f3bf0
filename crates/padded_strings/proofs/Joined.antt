-- What stands at a place of two joined. Assumes nothing.
use mathlib.Core.Path.{◌≡◌, sym, ap, ◌∙◌}
use mathlib.Core.List.{List}
use Prim.Native.Nat.{ℕ, ◌+◌, ◌-◌, ◌≤◌, ◌<◌}
use native.Mathlib.Omega.{arith}
use lib.ListN.{length, get_or, take, length-append, get_or-append}
use lib.Seq.{length-take-le, get_or-take, get_or-append-add}
use Rattle.phrases.specs.Padded.{join}

module _ (a b : List ℕ) (i : ℕ) (la : length a ≡ 24) (lb : length b ≡ 24) (h : i ≤ 24) where
  left_size : length (take i a) ≡ i
  left_size = length-take-le i a (omega arith)

  pub join_size : length (join a b i) ≡ 24
  join_size = length-append (take i a) (take (24 - i) b) ∙ (let p = left_size in let q = length-take-le (24 - i) b (omega arith) in omega arith)

  pub join_left : (x : ℕ) → x < i → get_or a x 0 ≡ get_or (join a b i) x 0
  join_left x l = sym (get_or-append (take i a) (take (24 - i) b) 0 x (omega (arith, left_size)) ∙ get_or-take i a x 0 l)

  pub join_right : (x : ℕ) → i ≤ x → x < 24 → get_or b (x - i) 0 ≡ get_or (join a b i) x 0
  join_right x l k =
      let sum : length (take i a) + (x - i) ≡ x = omega (arith, left_size) in
      let e : get_or (join a b i) (length (take i a) + (x - i)) 0 ≡ get_or (take (24 - i) b) (x - i) 0
      = get_or-append-add (take i a) (take (24 - i) b) (x - i) 0 in
      sym (get_or-take (24 - i) b (x - i) 0 (omega arith)) ∙ sym e ∙ ap (λ (n : ℕ). get_or (join a b i) n 0) sum
