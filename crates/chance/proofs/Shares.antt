-- The loops over shares and over the nodes of a walk, and the walk that stands at the front of an array.
use mathlib.Core.Path.{◌≡◌, refl, sym, ap, ◌∙◌}
use mathlib.Core.Bool.{true, false, false≢true}
use mathlib.Core.List.{List, [], ◌∷◌}
use Prim.Native.Nat.{ℕ, zero, suc, ◌+◌, ◌≤◌, ◌<◌}
use native.Mathlib.Numerals.{add-one}
use native.Mathlib.Omega.{arith}
use borrow.Author.Tests.{leb-true, le-leb, lt-leb}
use lib.Dec.{leb}
use lib.ListN.{length, get_or, take, drop, drop_of_length-le}
use lib.Seq.{drop-cons}
use lib.Ieee.{Float, binary64, mul}
use Rattle.bits.specs.Bits.{pick}
use Rattle.packing.specs.Parse.{Verdict, accepted, refused}
use Rattle.packing.specs.Read.{counted}
use Rattle.packing.proofs.Parse.{picked_first}
use Rattle.checker.specs.Run.{WalkIn}
use Rattle.chance.specs.Chance.{is_share, are_shares, shares_of, factor_of, product_of}
use Rattle.chance.proofs.Error.{Share}

-- the turns of the loop over shares
module _ (shares : List ℕ) (i : ℕ) where
  pub none_left : length shares ≤ i → are_shares (drop i shares) ≡ true
  unfolding are_shares
  none_left h = rw (drop_of_length-le shares h)

  module _ (h : i < length shares) where
    here : are_shares (drop i shares) ≡ pick (is_share (get_or shares i 0)) (are_shares (drop (suc i) shares)) false
    unfolding are_shares
    here = ap are_shares (drop-cons shares i 0 h)

    pub too_small : get_or shares i 0 < 1 → are_shares (drop i shares) ≡ false
    too_small l = here ∙ rw (lt-leb 1 (get_or shares i 0) l)

    pub too_great : 1 ≤ get_or shares i 0 → 1024 < get_or shares i 0 → are_shares (drop i shares) ≡ false
    too_great k l = here ∙ rw (le-leb 1 (get_or shares i 0) k, lt-leb (get_or shares i 0) 1024 l)

    pub is_share_lem : 1 ≤ get_or shares i 0 → get_or shares i 0 ≤ 1024 → are_shares (drop (i + 1) shares) ≡ are_shares (drop i shares)
    is_share_lem k l = sym (here ∙ rw (le-leb 1 (get_or shares i 0) k, le-leb (get_or shares i 0) 1024 l, add-one i))

-- what shares are
share_out : (s : ℕ) → is_share s ≡ true → Share s
share_out s e =
    let (l, m) = picked_first (leb 1 s) (leb s 1024) false false≢true e in
    (leb-true 1 s l, leb-true s 1024 m)

pub share_at : (shares : List ℕ) → are_shares shares ≡ true → (r : ℕ) → r < length shares → Share (get_or shares r 0)
unfolding are_shares
share_at [] e r h = absurd (omega arith)
share_at (s ∷ ss) e zero h = share_out s (picked_first (is_share s) (are_shares ss) false false≢true e).0
share_at (s ∷ ss) e (suc r) h = share_at ss (picked_first (is_share s) (are_shares ss) false false≢true e).1 r (omega arith)

-- one past the end has the share 0
pub at_most : (shares : List ℕ) → are_shares shares ≡ true → (r : ℕ) → get_or shares r 0 ≤ 1024
unfolding are_shares
at_most [] e r = omega arith
at_most (s ∷ ss) e zero = (share_out s (picked_first (is_share s) (are_shares ss) false false≢true e).0).1
at_most (s ∷ ss) e (suc r) = at_most ss (picked_first (is_share s) (are_shares ss) false false≢true e).1 r

-- the turns of the loop over nodes
module _ (shares walk : List ℕ) (i : ℕ) (p : Float) where
  -- what the factors that are left make of the product so far
  abbrev pub onward : Float
  onward = product_of p (shares_of shares (drop i walk))

  pub all_done : length walk ≤ i → onward ≡ p
  unfolding shares_of product_of
  all_done h = rw (drop_of_length-le walk h)

pub one_node : (shares walk : List ℕ) (i : ℕ) (p f : Float) → i < length walk → f ≡ factor_of (get_or shares (get_or walk i 0) 0)
    → onward shares walk (i + 1) (mul binary64 p f) ≡ onward shares walk i p
unfolding shares_of product_of
one_node shares walk i p f h e = rw (drop-cons walk i 0 h, e, add-one i)

-- what is in front of the array is within it
pub begun : (v : Verdict (List ℕ)) (array : List ℕ) {n : ℕ} → accepted n ≡ counted v → WalkIn v array
    → (l : List ℕ) × (v ≡ accepted l) × (take n array ≡ l) × (n ≤ length array)
begun (refused m) array e b = cc
begun (accepted l) array {n} e b =
    let same : n ≡ length l = cc in
    (l, refl, rw same b, rw same (front l array b))
  where
    front : (l array : List ℕ) → take (length l) array ≡ l → length l ≤ length array
    front [] array b = omega arith
    front (x ∷ l) [] b = cc
    front (x ∷ l) (y ∷ array) b = let rest : take (length l) array ≡ l = cc in omega (arith, front l array rest)
