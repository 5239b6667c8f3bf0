-- The loop over a graph's nodes keeps their rule numbers: those of the nodes that were read stand in front of the array, and what is left
-- is read behind them.
use mathlib.Core.Path.{◌≡◌, refl}
use mathlib.Core.Bool.{Bool, true, false}
use mathlib.Core.List.{List, [], ◌∷◌, ◌++◌, append_assoc, append-nil}
use Prim.Native.Nat.{ℕ, suc, ◌+◌, ◌-◌, ◌≤◌, ◌<◌}
use native.Mathlib.Nat.{sub-zero}
use native.Mathlib.Numerals.{add-one}
use native.Mathlib.Omega.{arith}
use lib.ListN.{length, take, set}
use lib.Seq.{take-suc-set}
use Rattle.std.proofs.lemmas.List.{take-append-le}
use Rattle.std.specs.Bool.{then_some}
use Rattle.graph_check.specs.Edges.{Kept}
use Rattle.packing.specs.declared.Rule as R
use Rattle.packing.specs.Meaning.{Node}
use Rattle.packing.specs.Parse.{Parse, parsed, failed, ◌⟫◌}
use Rattle.packing.specs.Source.{Source, bytes}
use Rattle.packing.specs.Flat.{node_rule}
use Rattle.derivation.specs.Path.{node_from, rules_read}

-- numbers in front of those that are read
abbrev pub behind : List ℕ → Parse (List ℕ) → Parse (List ℕ)
behind front p = p ⟫ λ l at. parsed (front ++ l) at

behind_none : (p : Parse (List ℕ)) → behind [] p ≡ p
behind_none (parsed l at) = refl
behind_none (failed n) = refl

behind_one : (front : List ℕ) (r : ℕ) (p : Parse (List ℕ)) → behind (front ++ (r ∷ [])) p ≡ behind front (p ⟫ λ l at. parsed (r ∷ l) at)
behind_one front r (parsed l at) = rw append_assoc
behind_one front r (failed n) = refl

module _ (rules : List R.Rule) (src : Source) (m : ℕ) (array : List ℕ) where
  pub kept_none : (at : ℕ) → behind (take 0 array) (rules_read rules src (m - 0) at) ≡ rules_read rules src m at
  kept_none at = rw sub-zero (behind_none (rules_read rules src m at))

  module _ (i at : ℕ) where
    pub kept_more : i < m → i < length array → {x : Node} {next r : ℕ} → node_from rules src at ≡ parsed x next → node_rule x ≡ r
        → behind (take (i + 1) (set array i r)) (rules_read rules src (m - (i + 1)) next) ≡ behind (take i array) (rules_read rules src (m - i) at)
    unfolding rules_read
    kept_more h room {next = next} {r = r} p e =
        let z : m - i ≡ suc (m - (i + 1)) = omega arith in
        rw (z, p, e, add-one i, take-suc-set array i r room) (behind_one (take i array) r (rules_read rules src (m - (suc i)) next))

    pub kept_all : m ≤ i → i ≤ m → behind (take i array) (rules_read rules src (m - i) at) ≡ parsed (take m array) at
    unfolding rules_read
    kept_all h k =
        let z : m - i ≡ 0 = omega arith in
        let same : i ≡ m = omega arith in
        rw (z, append-nil, same)

-- they stand in front of what is behind them too, whether the derivation's weight is told or not
pub kept_either : (rules : List R.Rule) (block : List ℕ) (m : ℕ) (array rest : List ℕ) (b : Bool) (w at : ℕ) → m ≤ length array
    → rules_read rules (bytes 31 block) m 34 ≡ parsed (take m array) at → Kept rules block m (array ++ rest) (then_some b w)
kept_either rules block m array rest true w at h e = (at, rw take-append-le e)
kept_either rules block m array rest false w at h e = tt
