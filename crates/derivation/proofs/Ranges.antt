-- What a valid grammar and utterance keep to: each follows from the ranges of packing's fields.
use mathlib.Core.Path.{◌≡◌}
use mathlib.Core.Option.{some}
use mathlib.Core.List.{List, [], ◌∷◌}
use Prim.Native.Nat.{ℕ, zero, suc, ◌≤◌, ◌<◌}
use native.Mathlib.Omega.{arith}
use lib.ListN.{length}
use Rattle.packing.specs.declared.Rule as R
use Rattle.packing.specs.declared.Rule.TheVariants.{Pair, Word}
use Rattle.packing.specs.Meaning.{Grammar, Utterance, Candidate, candidate}
use Rattle.packing.specs.Grammar.{rule_entries, rules_entries, grammar_entries}
use Rattle.packing.specs.Utterance.{candidates_entries, slots_entries, utterance_entries}
use Rattle.packing.specs.Valid.{InRange, Fits, ValidGrammar, ValidUtterance}
use Rattle.packing.proofs.Entries.{each_left, each_right}
use Rattle.derivation.specs.Derivation.{At, rule_weight}
use Rattle.derivation.proofs.Lists.{none≢some}

-- P holds of each element
abbrev pub All : {A : Type 0} → (A → Type 0) → List A → Type 0
All P [] = Unit {0}
All P (x ∷ l) = P x × All P l

pub all_at : {A : Type 0} (P : A → Type 0) (l : List A) (n : ℕ) {x : A} → All P l → At l n x → P x
all_at P [] n a e = absurd (none≢some e)
all_at P (y ∷ l) zero {x} a e = let p : x ≡ y = cc in rw p a.0
all_at P (y ∷ l) (suc n) a e = all_at P l n a.1 e

abbrev pub Light : R.Rule → Type 0
Light rule = rule_weight (some rule) ≤ 65535

abbrev pub Cheap : Candidate → Type 0
Cheap (candidate x c) = c ≤ 65535

-- words ascending, none below b
abbrev pub AscendingFrom : ℕ → List Candidate → Type 0
AscendingFrom b [] = Unit {0}
AscendingFrom b (candidate x c ∷ slot) = (b ≤ x.0) × AscendingFrom (suc x.0) slot

abbrev pub Ascending : Utterance → Type 0
Ascending u = All (AscendingFrom 0) u

rules_light : (S W : ℕ) (rs : List R.Rule) → Fits (rules_entries S W rs) → All Light rs
unfolding rules_entries rule_weight
rules_light S W [] h = tt
rules_light S W (Pair a b c w ∷ rs) h =
    (h.1.1.0.1, rules_light S W rs (each_right InRange (rule_entries S W (Pair a b c w)) (rules_entries S W rs) h))
rules_light S W (Word a x w ∷ rs) h =
    (h.1.1.0.1, rules_light S W rs (each_right InRange (rule_entries S W (Word a x w)) (rules_entries S W rs) h))

-- symbols below S, words below W
abbrev pub Within : ℕ → ℕ → R.Rule → Type 0
Within S W (Pair a b c w) = (a.0 < S) × (b.0 < S) × (c.0 < S)
Within S W (Word a x w) = (a.0 < S) × (x.0 < W)

rules_within : (S W : ℕ) → 1 ≤ S → 1 ≤ W → (rs : List R.Rule) → Fits (rules_entries S W rs) → All (Within S W) rs
unfolding rules_entries
rules_within S W hs hw [] h = tt
rules_within S W hs hw (Pair a b c w ∷ rs) h = (
  (omega (arith, h.1.0.1), omega (arith, h.1.1.1.0.1), omega (arith, h.1.1.1.1.0.1)),
  rules_within S W hs hw rs (each_right InRange (rule_entries S W (Pair a b c w)) (rules_entries S W rs) h),
)
rules_within S W hs hw (Word a x w ∷ rs) h = (
  (omega (arith, h.1.0.1), omega (arith, h.1.1.1.0.1)),
  rules_within S W hs hw rs (each_right InRange (rule_entries S W (Word a x w)) (rules_entries S W rs) h),
)

candidates_cheap : (W least : ℕ) (slot : List Candidate) → Fits (candidates_entries W least slot) → All Cheap slot
unfolding candidates_entries
candidates_cheap W least [] h = tt
candidates_cheap W least (candidate x c ∷ slot) h = (h.1.0.1, candidates_cheap W (suc x.0) slot h.1.1)

candidates_ascend : (W least : ℕ) (slot : List Candidate) → Fits (candidates_entries W least slot) → AscendingFrom least slot
unfolding candidates_entries
candidates_ascend W least [] h = tt
candidates_ascend W least (candidate x c ∷ slot) h = (h.0.0, candidates_ascend W (suc x.0) slot h.1.1)

-- each slot's candidates fit, so what follows from that holds of each slot
slots_all : (P : List Candidate → Type 0) (W : ℕ) → ((slot : List Candidate) → Fits (candidates_entries W 0 slot) → P slot)
    → (u : Utterance) → Fits (slots_entries W u) → All P u
unfolding slots_entries
slots_all P W f [] h = tt
slots_all P W f (slot ∷ u) (count, h) = (
  f slot (each_left InRange (candidates_entries W 0 slot) (slots_entries W u) h),
  slots_all P W f u (each_right InRange (candidates_entries W 0 slot) (slots_entries W u) h),
)

pub valid_rules : (g : Grammar) → ValidGrammar g → length g.rules ≤ 256
unfolding grammar_entries
valid_rules g v = v.0.1.1.0.1

-- S from 1 to 32, W from 1 to 200, and the rules within them
pub valid_sizes : (g : Grammar) → ValidGrammar g → (1 ≤ g.symbols) × (g.symbols ≤ 32) × (1 ≤ g.words) × (g.words ≤ 200)
unfolding grammar_entries
valid_sizes g v = (v.0.0.0, v.0.0.1, v.0.1.0.0, v.0.1.0.1)

pub valid_within : (g : Grammar) → ValidGrammar g → All (Within g.symbols g.words) g.rules
unfolding grammar_entries
valid_within g v = let s = valid_sizes g v in rules_within g.symbols g.words s.0 s.2 g.rules v.0.1.1.1

pub valid_light : (g : Grammar) → ValidGrammar g → All Light g.rules
unfolding grammar_entries
valid_light g v = rules_light g.symbols g.words g.rules v.0.1.1.1

module _ (W : ℕ) (u : Utterance) (v : ValidUtterance W u) where
  pub valid_ascending : Ascending u
  unfolding utterance_entries
  valid_ascending = slots_all (AscendingFrom 0) W (candidates_ascend W 0) u v.1

  pub valid_cheap : All (All Cheap) u
  unfolding utterance_entries
  valid_cheap = slots_all (All Cheap) W (candidates_cheap W 0) u v.1

  pub valid_slots : length u ≤ 24
  unfolding utterance_entries
  valid_slots = v.0.1
