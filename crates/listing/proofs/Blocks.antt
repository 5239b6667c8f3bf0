-- The readings written from a table that holds the N least derivations are theirs: rank x has the weight and the nodes of the derivation
-- at place x. Of slots the rule numbers of its nodes are the walk.
use mathlib.Core.Path.{◌≡◌, refl, sym, ap, ◌∙◌}
use mathlib.Core.List.{List, [], ◌∷◌, ◌++◌}
use Prim.Native.Nat.{ℕ, zero, suc, ◌+◌, ◌-◌, ◌≤◌, ◌<◌}
use native.Mathlib.Omega.{arith}
use lib.ListN.{length, take, get_or, length-map}
use lib.Seq.{take-suc, take-length}
use Rattle.packing.specs.Meaning.{Grammar, Heard, last_place}
use Rattle.packing.specs.Loop.{iter}
use Rattle.derivation.specs.Derivation.{At}
use Rattle.derivation.specs.Heard.{packed}
use Rattle.derivation.specs.HeardList.{least_derivations}
use Rattle.derivation.proofs.Lists.{none≢some, at_map}
use Rattle.derivation.proofs.HeardTheorems.{least_element}
use Rattle.chart_theory.specs.Spelled.{names_edges}
use Rattle.chart_theory.proofs.Chart.{has_spells}
use Rattle.chart_theory.proofs.Accepted.{Holds, layout}
use Rattle.listing.specs.Listing.{joined}
use Rattle.traced_readings.specs.Model.{block_at}
use Rattle.listing.specs.Model.{blocks_at}
use Rattle.traced_readings.proofs.Packed.{form, block_is}
use Rattle.listing.proofs.Joined.{joined_more}
use Rattle.listing.proofs.Accepted.{blocks}

at_is : {A : Type 0} (l : List A) (k : ℕ) (d : A) {x : A} → At l k x → get_or l k d ≡ x
at_is [] k d h = absurd (none≢some h)
at_is (y ∷ l) zero d {x} h = let e : y ≡ x = cc in e
at_is (y ∷ l) (suc k) d h = at_is l k d h

-- what a loop joins, one block a turn
loop_joined : (f : ℕ → List ℕ) (ls : List (List ℕ)) → ((x : ℕ) → x < length ls → At ls x (f x)) → (m : ℕ) → m ≤ length ls
    → iter (λ l x. l ++ f x) [] m ≡ joined (take m ls)
unfolding iter joined
loop_joined f ls h zero l = refl
loop_joined f ls h (suc m) l =
    rw (loop_joined f ls h m (omega arith), take-suc ls m [] l, at_is ls m [] (h m l)) (sym (joined_more (take m ls) (f m)))

module _ (g : Grammar) (N : ℕ) (rules t : List ℕ) where
  module _ (h : Heard) (some : 1 ≤ last_place h) (m : ℕ) (holds : Holds g h N rules t m) where
    block_at_lem : (x : ℕ) → x < m → At (blocks g h N) x (block_at t rules (layout g h N) (form g h) x)
    block_at_lem x l =
        let (z, rank) = holds.each x l in
        rw (block_is g N rules t h some x z (has_spells (names_edges h) rank.has) ((least_element g h N x z).0 rank.place).0)
        (at_map (packed g h) (least_derivations g h N) x rank.place)

    pub count_found : length (blocks g h N) ≡ m
    count_found = length-map (least_derivations g h N) (packed g h) ∙ holds.number

    pub blocks_written : blocks_at t rules (layout g h N) (form g h) m ≡ joined (blocks g h N)
    unfolding blocks_at
    blocks_written =
        let ls = blocks g h N in
        loop_joined _ ls (λ x l. block_at_lem x (omega (arith, count_found))) m (omega (arith, count_found))
        ∙ ap (λ (k : ℕ). joined (take k ls)) (sym count_found) ∙ ap joined (take-length ls)
