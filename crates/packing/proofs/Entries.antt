-- What is so of each entry of a list is so of each of its parts, and the other way round.
-- Assumes nothing.
use mathlib.Core.List.{List, [], ◌∷◌, ◌++◌}
use Prim.Native.Nat.{ℕ}
use Rattle.packing.specs.Source.{Entry, entry, Field}
use Rattle.packing.specs.Valid.{Each}

module _ (P : Field → ℕ → Type 0) where
  pub each_left : (ds es : List Entry) → Each P (ds ++ es) → Each P ds
  each_left [] es h = tt
  each_left (entry f v ∷ ds) es (p, h) = (p, each_left ds es h)

  pub each_right : (ds es : List Entry) → Each P (ds ++ es) → Each P es
  each_right [] es h = h
  each_right (entry f v ∷ ds) es (p, h) = each_right ds es h

  pub each_join : (ds es : List Entry) → Each P ds → Each P es → Each P (ds ++ es)
  each_join [] es h k = k
  each_join (entry f v ∷ ds) es (p, h) k = (p, each_join ds es h k)
