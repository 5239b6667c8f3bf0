-- What a call of the listing that is lent enough tells (specs/ChangedCalls): it answers the lesser of N and the number of derivations, and its first
-- reading holds the weight of the first derivation.
use mathlib.Core.Path.{◌≡◌, sym, ap, ◌∙◌}
use mathlib.Core.Logic.{◌↔◌}
use mathlib.Core.List.Memᴰ
use mathlib.Core.List.{List, [], ◌∷◌}
use Prim.Native.Nat.{ℕ, ◌≤◌}
use native.Mathlib.Omega.{arith}
use lib.IntN.{ℤ, pos}
use lib.ListN.{length}
use Rattle.packing.specs.Meaning.{Grammar, Utterance, Heard, slots, heard_edges, edges}
use Rattle.packing.proofs.Whole.{grammar_block_out}
use Rattle.packing.proofs.Heard.{heard_block_out}
use Rattle.derivation.specs.Derivation.{Tree, Derivation, weight}
use Rattle.derivation.specs.Rank.{◌∈◌, Number}
use Rattle.derivation.proofs.Order.{order_lawful}
use Rattle.derivation.proofs.Sorted.{number_one}
use Rattle.rearranged_rules.proofs.Held.{weight_held_lem}
use Rattle.traced_readings.specs.Ranked.{Ranked}
use Rattle.listing.specs.Demand3.{RankedList}
use Rattle.cost_changes.specs.Costs.{FirstWeight}
use Rattle.cost_changes.proofs.First.{first_unique}
use Rattle.calls.specs.RearrangedCalls.{weight_held}
use Rattle.calls.specs.ChangedCalls.{ListingCall, first_held}

-- as many things have a property as have one that means the same
number_same : {A : Type 0} {P Q : A → Type 0} {n : ℕ} → ((x : A) → P x ↔ Q x) → Number P n → Number Q n
number_same same a = record {
  elements = a.elements;
  once = a.once;
  those = λ x. ((λ i. (same x).0 ((a.those x).0 i)), (λ q. (a.those x).1 ((same x).1 q)));
  number_is = a.number_is;
}

some_one : {A : Type 0} {P : A → Type 0} {n : ℕ} {x : A} → Number P n → P x → 1 ≤ n
some_one {A} {x = x} a p = go a.elements ((a.those x).1 p) a.number_is
  where
    go : (l : List A) → x ∈ l → {n : ℕ} → length l ≡ n → 1 ≤ n
    go [] i e = absurd (Memᴰ.not-nil i)
    go (y ∷ l) i e = omega arith

module _ {g : Grammar} {h : Heard} {N : ℕ} {code : ℤ} {out : List ℕ} (l : ListingCall g h N code out) where
  pub listed : RankedList g h N l.work l.out (λ m. code ≡ pos m) l.work' out
  listed = l.call.demand_3 g l.grammar_is h l.heard_is l.asked.0 l.asked.1 l.enough.0 l.enough.1

  pub some_found : {t : Tree} → Derivation g h t → 1 ≤ listed.m
  some_found d = omega (arith, some_one listed.finitely_many d, listed.m_is, l.asked.0)

  pub first_ranked : 1 ≤ listed.m → (t : Tree) × Ranked g h 1 t × (first_held g h out ≡ weight g (heard_edges h) t)
  first_ranked some =
      let (t, ranked, holds) = listed.readings 1 (omega arith) some in
      let held = weight_held_lem g h (grammar_block_out l.grammar g l.grammar_is).0 (heard_block_out g.words l.heard h l.heard_is).0 t
      ranked.derivation in
      (t, ranked, ap weight_held holds ∙ held)

-- two calls of what has the same derivations answer the same
pub same_number : {g : Grammar} {h h' : Heard} {N : ℕ} {code code' : ℤ} {out out' : List ℕ} (l : ListingCall g h N code out)
    (l' : ListingCall g h' N code' out') → ((t : Tree) → Derivation g h t ↔ Derivation g h' t) → (listed l').m ≡ (listed l).m
same_number {g} {h} {h'} l l' same =
    let one = number_one (order_lawful g (heard_edges h')) (number_same same (listed l).finitely_many) (listed l').finitely_many in
    omega (arith, (listed l).m_is, (listed l').m_is)

module _ {g : Grammar} {u : Utterance} {N : ℕ} {code : ℤ} {out : List ℕ} (l : ListingCall g (slots u) N code out) where
  pub first_weight : 1 ≤ (listed l).m → FirstWeight g u (first_held g (slots u) out)
  first_weight some =
      let (t, ranked, held) = first_ranked l some in
      (t, record { derivation = ranked.derivation; rank = ranked.rank }, sym held)

pub weight_once : {g : Grammar} {u : Utterance} {v w : ℕ} → FirstWeight g u v → FirstWeight g u w → v ≡ w
weight_once {g} {u} (s, f, e) (t, f', e') = sym e ∙ ap (weight g (edges u)) (first_unique g u f f') ∙ e'
