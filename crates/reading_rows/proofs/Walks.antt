-- The loop over a graph's nodes: what was read stands in front of the array, and what is left is read behind it.
use mathlib.Core.Path.{◌≡◌, refl, sym, ap, ◌∙◌}
use mathlib.Core.List.{List, [], ◌∷◌, ◌++◌, append_assoc, append-nil}
use Prim.Native.Nat.{ℕ, suc, ◌+◌, ◌-◌, ◌≤◌, ◌<◌}
use native.Mathlib.Numerals.{add-one}
use native.Mathlib.Omega.{arith}
use lib.ListN.{length, take, set}
use lib.Seq.{take-suc-set, length-take-le}
use Rattle.packing.specs.Meaning.{Node}
use Rattle.packing.specs.Parse.{parsed, failed}
use Rattle.packing.specs.Source.{Source}
use Rattle.packing.specs.Flat.{Begins, node_rule}
use Rattle.packing.specs.declared.Rule as R
use Rattle.packing.proofs.Parse.{through, same_parsed}
use Rattle.derivation.specs.Path.{node_from, rules_read}

module _ (rules : List R.Rule) (src : Source) (nodes : ℕ) where
  -- i nodes were read and the next is at a place
  abbrev pub Remaining : (i at : ℕ) (array : List ℕ) → Type 0
  Remaining i at array =
      (l : List ℕ) (next : ℕ) → rules_read rules src nodes 34 ≡ parsed l next
      → (rest : List ℕ) × (rules_read rules src (nodes - i) at ≡ parsed rest next) × (take i array ++ rest ≡ l)

  pub none_read : (array : List ℕ) → Remaining 0 34 array
  none_read array l next e = let z : nodes - 0 ≡ nodes = omega arith in (l, rw z e, refl)

  module _ (i at : ℕ) (array : List ℕ) (h : Remaining i at array) where
    one_more : i < nodes → (l : List ℕ) (next : ℕ) → rules_read rules src nodes 34 ≡ parsed l next
        → (x : Node) × (mid : ℕ) × (rest : List ℕ) × (node_from rules src at ≡ parsed x mid) × (rules_read rules src (nodes - (i + 1)) mid ≡ parsed rest next)
        × (take i array ++ (node_rule x ∷ rest) ≡ l)
    unfolding rules_read
    one_more b l next e =
        let (rest, p, q) = h l next e in
        let z : nodes - i ≡ suc (nodes - (i + 1)) = omega arith in
        go rest q (rw z at p)
      where
        go : (rest : List ℕ) → take i array ++ rest ≡ l → rules_read rules src (suc (nodes - (i + 1))) at ≡ parsed rest next
            → (x : Node) × (mid : ℕ) × (rest : List ℕ) × (node_from rules src at ≡ parsed x mid)
            × (rules_read rules src (nodes - (i + 1)) mid ≡ parsed rest next)
            × (take i array ++ (node_rule x ∷ rest) ≡ l)
        go rest q p =
            through (node_from rules src at) _ p λ x mid a p. through (rules_read rules src (nodes - (i + 1)) mid) _ p λ more end b p.
            same_parsed (λ r n. r ≡ rest → n ≡ next → (x : Node) × (mid : ℕ) × (rest : List ℕ) × (node_from rules src at ≡ parsed x mid)
            × (rules_read rules src (nodes - (i + 1)) mid ≡ parsed rest next) × (take i array ++ (node_rule x ∷ rest) ≡ l)) p
            (λ r n. (x, mid, more, a, b ∙ ap (parsed more) n, rw r q)) refl refl

    pub node_read : i < nodes → i < length array → {x : Node} {mid : ℕ} → node_from rules src at ≡ parsed x mid → {r : ℕ} → r ≡ node_rule x
        → Remaining (i + 1) mid (set array i r)
    node_read b room {x} {mid} p {r} k l next e =
        let (y, end, rest, q, more, is) = one_more b l next e in
        let same : y ≡ x = cc in
        let place : end ≡ mid = cc in
        (rest, rw place at more, rw (add-one i, take-suc-set array i r room, append_assoc, k, ← same) is)

    pub no_node : i < nodes → {n : ℕ} → node_from rules src at ≡ failed n → (l : List ℕ) (next : ℕ) → rules_read rules src nodes 34 ≡ parsed l next
        → Begins l array
    no_node b p l next e =
        let (x, mid, rest, q, more, is) = one_more b l next e in
        let z : ◌≡◌ {A = ℕ} 0 1 = cc in
        absurd (omega arith)

    pub all_read : nodes ≤ i → i ≤ length array → i ≤ nodes → (l : List ℕ) (next : ℕ) → rules_read rules src nodes 34 ≡ parsed l next → Begins l array
    unfolding rules_read
    all_read b room b' l next e =
        let (rest, p, q) = h l next e in
        let z : nodes - i ≡ 0 = omega arith in
        go rest q (rw z at p)
      where
        go : (rest : List ℕ) → take i array ++ rest ≡ l → parsed [] at ≡ parsed rest next → Begins l array
        go rest q p =
            let none : [] ≡ rest = cc in
            let is : take i array ≡ l = sym (append-nil (take i array)) ∙ ap (λ r. take i array ++ r) none ∙ q in
            rw (← is, length-take-le i array room) refl
