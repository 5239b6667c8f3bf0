-- Every choice is an utterance that a block can have: its words are those of the high block, and no cost is above that block's.
use mathlib.Core.Path.{◌≡◌, refl, ap}
use mathlib.Core.Bool.{true}
use mathlib.Core.List.{List, [], ◌∷◌}
use Prim.Native.Nat.{ℕ, suc}
use native.Mathlib.Omega.{arith}
use lib.ListN.{length}
use Rattle.packing.specs.Meaning.{Utterance, Candidate, candidate, Edge, edges}
use Rattle.packing.specs.Utterance.{candidates_entries, slots_entries, utterance_entries}
use Rattle.packing.specs.Valid.{InRange, Fits, ValidUtterance}
use Rattle.packing.proofs.Entries.{each_left, each_right, each_join}
use Rattle.cost_changes.specs.Ranges.{rises}
use Rattle.cost_changes.proofs.Alike.{Alike}
use Rattle.cost_changes.proofs.Utterances.{RiseSlot, Rise, rises_out, rise_length, risen_alike}

slot_length : (l m : List Candidate) → RiseSlot l m → length l ≡ length m
slot_length [] [] r = refl
slot_length [] (b ∷ m) r = absurd r
slot_length (a ∷ l) [] r = absurd r
slot_length (candidate x c ∷ l) (candidate y d ∷ m) (_, _, r) = ap suc (slot_length l m r)

slot_fits : (W least : ℕ) (l m : List Candidate) → RiseSlot l m → Fits (candidates_entries W least m) → Fits (candidates_entries W least l)
unfolding candidates_entries
slot_fits W least [] [] r h = tt
slot_fits W least [] (b ∷ m) r h = absurd r
slot_fits W least (a ∷ l) [] r h = absurd r
slot_fits W least (candidate x c ∷ l) (candidate y d ∷ m) (p, o, r) (offers, (costs, h)) =
    rw p (offers, ((omega arith, omega (arith, o.0, costs.1)), slot_fits W (suc y.0) l m r h))

slots_fit : (W : ℕ) (u v : Utterance) → Rise u v → Fits (slots_entries W v) → Fits (slots_entries W u)
unfolding slots_entries
slots_fit W [] [] r h = tt
slots_fit W [] (m ∷ v) r h = absurd r
slots_fit W (l ∷ u) [] r h = absurd r
slots_fit W (l ∷ u) (m ∷ v) (a, r) (count, h) = (
  rw (slot_length l m a) count,
  each_join InRange (candidates_entries W 0 l) (slots_entries W u)
      (slot_fits W 0 l m a (each_left InRange (candidates_entries W 0 m) (slots_entries W v) h))
      (slots_fit W u v r (each_right InRange (candidates_entries W 0 m) (slots_entries W v) h)),
)

pub risen_valid : (W : ℕ) (u v : Utterance) → rises u v ≡ true → ValidUtterance W v → ValidUtterance W u
unfolding utterance_entries
risen_valid W u v e (count, h) = let r = rises_out u v e in (rw (rise_length u v r) count, slots_fit W u v r h)

-- and it has as many edges
alike_length : (es fs : List Edge) → Alike es fs → length es ≡ length fs
alike_length [] [] a = refl
alike_length [] (b ∷ fs) a = absurd a
alike_length (a ∷ es) [] p = absurd p
alike_length (a ∷ es) (b ∷ fs) (_, q) = ap suc (alike_length es fs q)

pub risen_edges : (u v : Utterance) → rises u v ≡ true → length (edges u) ≡ length (edges v)
risen_edges u v e = alike_length (edges u) (edges v) (risen_alike u v e)
