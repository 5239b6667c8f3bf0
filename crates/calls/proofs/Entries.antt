-- The entries of an output, four numbers each: what stands at place k is entry k of the list, so the output has an entry exactly if there is one.
use mathlib.Core.Path.{◌≡◌, sym, ap, ◌∙◌, subst}
use mathlib.Core.Logic.{◌↔◌}
use mathlib.Core.Option.{some}
use mathlib.Core.List.{List, [], ◌∷◌, ◌++◌}
use Prim.Native.Nat.{ℕ, zero, suc, ◌*◌}
use native.Mathlib.Omega.{arith}
use lib.ListN.{length, take, drop}
use Rattle.packing.specs.Meaning.{word, Grammar, Utterance}
use Rattle.derivation.specs.Derivation.{At}
use Rattle.derivation.proofs.Lists.{none≢some, at_mem, mem_at, at_length, length_at}
use Rattle.cost_changes.specs.Margins.{Margin, MarginEntry, entry, entry_numbers, list_numbers, Margins}
use Rattle.calls.specs.ChangedCalls.{MarginsCall, HasEntry}
use Rattle.calls.proofs.Answered.{answered, low_margins, asked_margins_lem}

entry_stands : (l : List MarginEntry) (rest : List ℕ) (k : ℕ) {a : MarginEntry} → At l k a → take 4 (drop (4 * k) (list_numbers l ++ rest)) ≡ entry_numbers a
unfolding list_numbers entry_numbers
entry_stands [] rest k e = absurd (none≢some e)
entry_stands (entry d s x v ∷ l) rest zero {a} e = let same : entry d s x v ≡ a = cc in ap entry_numbers same
entry_stands (entry d s x v ∷ l) rest (suc k) {a} e =
    let more : 4 * suc k ≡ suc (suc (suc (suc (4 * k)))) = omega arith in
    rw more (entry_stands l rest k e)

entry_is : (a b : MarginEntry) → entry_numbers a ≡ entry_numbers b → a ≡ b
unfolding entry_numbers
entry_is (entry d s x v) (entry d' s' x' v') e =
    let hd : d ≡ d' = cc in
    let hs : s ≡ s' = cc in
    let hx : x ≡ x' = cc in
    let hv : v ≡ v' = cc in
    rw (hd, hs, hx, hv)

module _ {g : Grammar} {u : Utterance} {m : ℕ} {written : List ℕ} (call : MarginsCall g u m written) where
  -- the list that the output holds
  list_held : (l : List MarginEntry) × Margins g u l × (m ≡ length l) × (written ≡ list_numbers l ++ drop (length (list_numbers l)) call.out)
  list_held =
      let (b, due, (l, margins, count, holds, _)) = answered low_margins call.call.demand_1 in
      let same = asked_margins_lem call.grammar call.utterance call.grammar_is call.utterance_is (length call.work) (length call.out) due in
      (l, subst (λ (z : Grammar × Utterance). Margins z.0 z.1 l) same margins, count, holds)

  pub has_entry : (s x d : ℕ) → HasEntry m written s x d ↔ ((v : ℕ) × Margin g u s (word x) d v)
  has_entry s x d = let (l, margins, count, holds) = list_held in go l margins count holds
    where
      go : (l : List MarginEntry) → Margins g u l → m ≡ length l → written ≡ list_numbers l ++ drop (length (list_numbers l)) call.out
          → HasEntry m written s x d ↔ ((v : ℕ) × Margin g u s (word x) d v)
      go l margins count holds = (
        (λ (k, v, below, stands).
            let (a, at) = length_at l k (omega arith) in
            let rest = drop (length (list_numbers l)) call.out in
            let same : a ≡ entry d s x v =
            entry_is a (entry d s x v) (sym (entry_stands l rest k at) ∙ ap (λ (z : List ℕ). take 4 (drop (4 * k) z)) (sym holds) ∙ stands) in
            (v, (margins.those d s x v).0 (at_mem l k (at ∙ ap some same)))),
        (λ (v, margin).
            let (k, at) = mem_at ((margins.those d s x v).1 margin) in
            let rest = drop (length (list_numbers l)) call.out in (
              k,
              v,
              omega (arith, at_length l k at),
              ap (λ (z : List ℕ). take 4 (drop (4 * k) z)) holds ∙ entry_stands l rest k at,
            )),
      )
