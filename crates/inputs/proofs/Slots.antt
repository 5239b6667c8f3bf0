-- Inputs whose block of what was heard is of slots alone. Assumes nothing.
use mathlib.Core.Path.{◌≡◌, refl, ap}
use mathlib.Core.List.{List}
use Prim.Native.Nat.{ℕ}
use native.Mathlib.Omega.{arith}
use Rattle.packing.specs.Meaning.{Grammar, Utterance, slots}
use Rattle.packing.specs.Parse.{Verdict, accepted, refused, ◌then◌}
use Rattle.packing.specs.Grammar.{grammar_block}
use Rattle.packing.specs.Utterance.{utterance_block}
use Rattle.packing.specs.Heard.{as_slots}
use Rattle.inputs.specs.Inputs.{both, meant_by, ReadOf}
use Rattle.inputs.specs.declared.Inputs.{Inputs}

-- what was heard is the utterance of its block
pub slots_read : {grammar heard rules₀ edges₀ : List ℕ} {z : Inputs} {rules edges : List ℕ} (k : ReadOf as_slots grammar heard rules₀ edges₀ z rules edges)
    → (u : Utterance) × (utterance_block k.meant.grammar.words heard ≡ accepted u) × (k.meant.heard ≡ slots u)
slots_read {heard = heard} k = go (utterance_block k.meant.grammar.words heard) refl k.heard_is
  where
    go : (v : Verdict Utterance) → utterance_block k.meant.grammar.words heard ≡ v → (v then λ u. accepted (slots u)) ≡ accepted k.meant.heard
        → (u : Utterance) × (utterance_block k.meant.grammar.words heard ≡ accepted u) × (k.meant.heard ≡ slots u)
    go (accepted u) e a = let same : k.meant.heard ≡ slots u = cc in (u, e, same)
    go (refused m) e a = let z : ◌≡◌ {A = ℕ} 0 1 = cc in absurd (omega arith)

-- a refusal of both is one before whatever follows
pub slots_refused : {C : Type 0} (grammar heard : List ℕ) (k : Grammar → Utterance → Verdict C) {n : ℕ} → meant_by as_slots grammar heard ≡ refused n
    → (grammar_block grammar then λ g. utterance_block g.words heard then λ u. k g u) ≡ refused n
unfolding meant_by
slots_refused grammar heard k {n} = go (grammar_block grammar)
  where
    go_on : (g : Grammar) (v : Verdict Utterance) → ((v then λ u. accepted (slots u)) then λ h. accepted (both g h)) ≡ refused n → (v then λ u. k g u)
        ≡ refused n
    go_on g (accepted u) e = let z : ◌≡◌ {A = ℕ} 0 1 = cc in absurd (omega arith)
    go_on g (refused m) e = let same : m ≡ n = cc in ap refused same

    go : (v : Verdict Grammar) → (v then λ g. as_slots g.words heard then λ h. accepted (both g h)) ≡ refused n
        → (v then λ g. utterance_block g.words heard then λ u. k g u) ≡ refused n
    go (accepted g) e = go_on g (utterance_block g.words heard) e
    go (refused m) e = let same : m ≡ n = cc in ap refused same
