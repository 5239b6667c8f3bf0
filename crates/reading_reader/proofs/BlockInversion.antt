-- What the reader's answer says of the block. Assumes nothing.
use mathlib.Core.Path.{◌≡◌, ap}
use Prim.Native.Nat.{ℕ}
use Rattle.packing.specs.Meaning as meaning
use Rattle.packing.specs.Parse.{Parse, parsed, failed}
use Rattle.reading_reader.specs.Answer.{weight_of}

pub parsed_told : (p : Parse meaning.Reading) {w at : ℕ} → parsed w at ≡ weight_of p → (d : meaning.Reading) × (p ≡ parsed d at) × (d.weight ≡ w)
parsed_told (parsed d next) {w} {at} e =
    let same : next ≡ at = cc in
    (d, ap (λ (z : ℕ). parsed d z) same, cc)
parsed_told (failed n) e = cc

pub failed_told : (p : Parse meaning.Reading) {n : ℕ} → failed n ≡ weight_of p → p ≡ failed n
failed_told (parsed d at) e = cc
failed_told (failed m) e = cc
