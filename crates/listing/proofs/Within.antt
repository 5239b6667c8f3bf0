-- Within the limits of two services both accept the same: neither refuses with 57 or 58, and nothing else depends on the limits.
use mathlib.Core.Path.{◌≡◌, refl}
use mathlib.Core.List.{List}
use Prim.Native.Nat.{ℕ, ◌≤◌}
use borrow.Author.Tests.{le-ltb}
use Rattle.packing.specs.Meaning.{Grammar, Heard, last_place}
use Rattle.packing.specs.Parse.{Verdict, accepted, refused, ◌then◌}
use Rattle.packing.specs.Grammar.{grammar_block}
use Rattle.packing.specs.Heard.{heard_block}
use Rattle.listing.specs.Conditions.{Within, conditions, asked_listing}
use Rattle.listing_limits.specs.declared.Limits.{Limits}

module _ (l m : Limits) (grammar heard : List ℕ) (N work out : ℕ) (in-l : Within l grammar heard N) (in-m : Within m grammar heard N) where
  conditions_alike : (g : Grammar) (h : Heard) → last_place h ≤ l.slots → last_place h ≤ m.slots
      → conditions l g h N work out ≡ conditions m g h N work out
  unfolding conditions
  conditions_alike g h a b = rw (
    le-ltb l.slots (last_place h) a,
    le-ltb m.slots (last_place h) b,
    le-ltb l.readings N in-l.readings,
    le-ltb m.readings N in-m.readings,
  )

  pub asked_alike : asked_listing l grammar heard N work out ≡ asked_listing m grammar heard N work out
  unfolding asked_listing
  asked_alike = go (grammar_block grammar) refl
    where
      inner : (g : Grammar) → grammar_block grammar ≡ accepted g → (v : Verdict Heard) → heard_block g.words heard ≡ v
          → (v then λ h. conditions l g h N work out) ≡ (v then λ h. conditions m g h N work out)
      inner g p (accepted h) q = conditions_alike g h (in-l.slots g h p q) (in-m.slots g h p q)
      inner g p (refused n) q = refl

      go : (v : Verdict Grammar) → grammar_block grammar ≡ v
          → (v then λ g. heard_block g.words heard then λ h. conditions l g h N work out)
          ≡ (v then λ g. heard_block g.words heard then λ h. conditions m g h N work out)
      go (accepted g) p = inner g p (heard_block g.words heard) refl
      go (refused n) p = refl
