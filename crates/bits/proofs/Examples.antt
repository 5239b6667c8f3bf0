-- Widths that request N4 names, computed from the definition.
use mathlib.Core.Path.{◌≡◌, refl}
use Rattle.bits.specs.Width.{width_of, width_from}

pub widths : (width_of 0 ≡ 1) × (width_of 1 ≡ 1) × (width_of 2 ≡ 2) × (width_of 3 ≡ 2) × (width_of 4 ≡ 3) × (width_of 31 ≡ 5)
    × (width_of 199 ≡ 8) × (width_of 255 ≡ 8)
unfolding width_of width_from
widths = (refl, refl, refl, refl, refl, refl, refl, refl)
