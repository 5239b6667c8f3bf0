-- Two strings compared from the left, where they are equal before place x: what stands there decides, or the rest does. Assumes nothing.
use mathlib.Core.Path.{◌≡◌, refl, ◌∙◌}
use mathlib.Core.Bool.{false}
use mathlib.Core.List.{List}
use Prim.Native.Nat.{ℕ, suc, ◌+◌, ◌≤◌, ◌<◌, compare, Ordering}
use native.Mathlib.Numerals.{add-one}
use native.Mathlib.Omega.{arith}
use borrow.Author.Tests.{lt-ltb, le-ltb}
use lib.Dec.{ltb}
use lib.ListN.{length, get_or, drop, drop_of_length-le}
use lib.Seq.{drop-cons}
use Rattle.derivation.specs.Order.{◌▸◌}
use Rattle.derivation.proofs.Comparison.{compare_below, compare_same, compare_lawful, compare_self, turn_gt}
use Rattle.phrases.specs.Phrases.{word_order}
use Rattle.phrases.specs.Enumeration.{is_less}

module _ (a b : List ℕ) (x : ℕ) (e : word_order a b ≡ word_order (drop x a) (drop x b)) where
  module _ (p : x < length a) (q : x < length b) where
    here : word_order a b ≡ compare (get_or a x 0) (get_or b x 0) ▸ word_order (drop (suc x) a) (drop (suc x) b)
    unfolding word_order
    here = e ∙ rw (drop-cons a x 0 p, drop-cons b x 0 q)

    pub compared_here : (get_or a x 0 ≡ get_or b x 0 → ⊥) → ltb (get_or a x 0) (get_or b x 0) ≡ is_less (word_order a b)
    unfolding ◌▸◌
    compared_here n = go (compare (get_or a x 0) (get_or b x 0)) refl
      where
        go : (o : Ordering) → compare (get_or a x 0) (get_or b x 0) ≡ o → ltb (get_or a x 0) (get_or b x 0) ≡ is_less (word_order a b)
        go Ordering.lt k = rw (here, k, lt-ltb (get_or a x 0) (get_or b x 0) (compare_below (get_or a x 0) (get_or b x 0) k))
        go Ordering.eq k = absurd (n (compare_same (get_or a x 0) (get_or b x 0) k))
        go Ordering.gt k =
            let l = compare_below (get_or b x 0) (get_or a x 0) (turn_gt compare_lawful (get_or a x 0) (get_or b x 0) k) in
            rw (here, k, le-ltb (get_or a x 0) (get_or b x 0) (omega arith))

    pub compared_on : get_or a x 0 ≡ get_or b x 0 → word_order a b ≡ word_order (drop (x + 1) a) (drop (x + 1) b)
    unfolding ◌▸◌
    compared_on same = rw (here, same, compare_self (get_or b x 0), add-one x)

  pub compared_end : length a ≤ x → length b ≤ x → false ≡ is_less (word_order a b)
  unfolding word_order
  compared_end h k = rw (e, drop_of_length-le a h, drop_of_length-le b k)
