-- What the reader of reading blocks answers: document 01, "Packed blocks". Assumes nothing. Nobody need believe this page: no service's
-- promise names it.
use Rattle.std.specs.Prelude.{List, ℕ, ◌^◌, ◌<◌, Result, Ok, Err}
use Rattle.packing.specs.Meaning.{Reading}
use Rattle.packing.specs.Parse.{Parse, parsed, failed, ◌⟫◌}
use Rattle.packing.specs.Flat.{Begins}
use Rattle.packing.specs.declared.refusal.Refusal.{Refusal}

-- the weight and the place behind the fields
abbrev pub weight_of : Parse Reading → Parse ℕ
weight_of p = p ⟫ λ d at. parsed d.weight at

-- the rule numbers stand in front
abbrev pub WalkIn : Parse Reading → List ℕ → Type 0
WalkIn (parsed d at) array = Begins d.walk array
WalkIn (failed n) array = Unit {0}

-- the place behind the fields is one that the block's end can be asked at
abbrev pub Near : Result (ℕ × ℕ) Refusal → Type 0
Near (Ok (w, at)) = at < 2 ^ 32
Near (Err r) = Unit {0}
