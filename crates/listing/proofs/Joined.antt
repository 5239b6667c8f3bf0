-- Blocks of one length, one after another: the block with number k starts at k times that length.
use mathlib.Core.Path.{◌≡◌, ◌∙◌}
use mathlib.Core.List.{List, [], ◌∷◌, ◌++◌, append_assoc, append-nil}
use Prim.Native.Nat.{ℕ, zero, suc, ◌+◌, ◌*◌}
use native.Mathlib.Nat.{zero-mul, suc-mul}
use native.Mathlib.Omega.{arith}
use lib.ListN.{length, take, drop, length-append}
use lib.Seq.{take_at, drop-append-add}
use Rattle.derivation.specs.Derivation.{At}
use Rattle.derivation.proofs.Lists.{none≢some}
use Rattle.derivation.proofs.Ranges.{All}
use Rattle.listing.specs.Listing.{joined}

pub joined_more : (ls : List (List ℕ)) (b : List ℕ) → joined (ls ++ (b ∷ [])) ≡ joined ls ++ b
unfolding joined
joined_more [] b = append-nil b
joined_more (l ∷ ls) b = rw (joined_more ls b, append_assoc l (joined ls) b)

module _ (L : ℕ) where
  abbrev pub Sized : List (List ℕ) → Type 0
  Sized ls = All (λ b. length b ≡ L) ls

  pub length_joined : (ls : List (List ℕ)) → Sized ls → length (joined ls) ≡ length ls * L
  unfolding joined
  length_joined [] s = rw zero-mul
  length_joined (l ∷ ls) (e, s) = rw (length-append l (joined ls), length_joined ls s, e, suc-mul (length ls) L) (omega arith)

  pub joined_at : (ls : List (List ℕ)) (rest : List ℕ) (k : ℕ) {b : List ℕ} → Sized ls → At ls k b
      → take L (drop (k * L) (joined ls ++ rest)) ≡ b
  unfolding joined
  joined_at [] rest k s h = absurd (none≢some h)
  joined_at (l ∷ ls) rest zero {b} (e, s) h =
      let same : l ≡ b = cc in
      rw (zero-mul L, append_assoc l (joined ls) rest) (take_at l (joined ls ++ rest) L e ∙ same)
  joined_at (l ∷ ls) rest (suc k) (e, s) h =
      let next : suc k * L ≡ length l + k * L = rw suc-mul (omega arith) in
      rw (next, append_assoc l (joined ls) rest, drop-append-add) (joined_at ls rest k s h)
