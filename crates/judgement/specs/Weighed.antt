-- The judgement on a reading, by the weight of the derivation that has its nodes. Nobody need believe this page: checker's proofs join it to
-- Check. Assumes nothing.
use Rattle.std.specs.Prelude.{◌≡◌, List, ℕ, eqb, length, Result}
use Rattle.std.proofs.Math.Option.{Option, none, some}
use Rattle.bits.specs.Bits.{pick, ended}
use Rattle.packing.specs.Parse.{Verdict, accepted, refused}
use Rattle.packing.specs.Read.{as_verdict, counted}
use Rattle.packing.specs.declared.refusal.Refusal.{Refusal}

-- 34, 35 and 36 by the weight that was read, the place behind the reading, the walk of the nodes and the weight of the derivation that has
-- them; or that walk
abbrev pub weighed : List ℕ → ℕ → ℕ → List ℕ → Option ℕ → Verdict (List ℕ)
weighed block w at walk none = refused 34
weighed block w at walk (some v) = pick (eqb v w) (pick (ended block at) (accepted walk) (refused 36)) (refused 35)

-- the answer to a reading of so many nodes, whatever their walk
abbrev pub Judges : List ℕ → ℕ → ℕ → Option ℕ → ℕ → Result ℕ Refusal → Type 0
Judges block w at own nodes r = (walk : List ℕ) → length walk ≡ nodes → as_verdict r ≡ counted (weighed block w at walk own)
