-- What N11 of document 02 says, theorem by theorem, and that three passes find the answer.
use mathlib.Core.Path.{◌≡◌, refl, sym, ◌∙◌, subst}
use mathlib.Core.Logic.{◌↔◌}
use mathlib.Core.Bool.{Bool, true, false}
use mathlib.Core.Option.{Option, none, some}
use Prim.Native.Nat.{ℕ, ◌≤◌, ◌<◌}
use native.Mathlib.Omega.{arith}
use lib.Dec.{eqb}
use lib.ListN.{length}
use borrow.Author.Tests.{eqb-true, eqb-false}
use Rattle.bits.specs.Bits.{pick}
use Rattle.packing.specs.Meaning.{symbol_of, Grammar, Utterance, edges, slots}
use Rattle.derivation.specs.Derivation.{Tree, Derives, Derivation, weight}
use Rattle.derivation.proofs.Slots.{edges_short}
use Rattle.derivation.proofs.Paths.{Forward}
use Rattle.cost_changes.specs.Costs.{First, FirstWeight}
use Rattle.cost_changes.specs.Ranges.{
  rises,
  LeastFirst,
  GreatestFirst,
  Outweighed,
  Answer,
  nothing,
  outweighed,
  stands,
  Answers,
  OwnHigh,
  HasLeast,
  Decided,
}
use Rattle.cost_changes.specs.Passes.{first_of, weight_of, answer_of, answer}
use Rattle.cost_changes.proofs.Alike.{alike_turn, alike_derives}
use Rattle.cost_changes.proofs.Weights.{weight_mono, weight_same}
use Rattle.cost_changes.proofs.First.{place_first, first_place, first_unique, first_least, derives_first, has_least, none_derives}
use Rattle.cost_changes.proofs.Gains.{gains}
use Rattle.cost_changes.proofs.Utterances.{risen_alike, risen_dearer, risen_length, low_choice, high_choice}
use Rattle.cost_changes.proofs.Raised.{own_high}

pub edges_forward : (u : Utterance) → Forward (edges u)
edges_forward u e i k c x p = omega (arith, edges_short u e i k c x p)

-- where one utterance rises to another, both have the same derivations, and no first weight falls
module _ (g : Grammar) (u v : Utterance) (risen : rises u v ≡ true) where
  pub risen_derives : {t : Tree} → Derivation g (slots u) t → Derivation g (slots v) t
  risen_derives {t} d =
      subst (λ n. Derives g (edges v) (symbol_of 0) 0 n t) (risen_length u v risen) (alike_derives g (edges u) (edges v) (risen_alike u v risen) d)

  pub derives_risen : {t : Tree} → Derivation g (slots v) t → Derivation g (slots u) t
  derives_risen {t} d =
      alike_derives g (edges v) (edges u) (alike_turn (edges u) (edges v) (risen_alike u v risen))
      (subst (λ n. Derives g (edges v) (symbol_of 0) 0 n t) (sym (risen_length u v risen)) d)

  first_mono : (a b : ℕ) → FirstWeight g u a → FirstWeight g v b → a ≤ b
  first_mono a b (s, p, e) (t, q, f) =
      omega (arith, first_least g u p t (derives_risen q.derivation), weight_mono g (edges u) (edges v) (risen_dearer u v risen) t)

module _ (g : Grammar) (low high : Utterance) (risen : rises low high ≡ true) where
  -- "the least and the greatest first weight over all choices between low and high": all low reaches the least, all high the greatest
  pub all_low : (w : ℕ) → FirstWeight g low w → LeastFirst g low high w
  all_low w p = ((low, low_choice low high risen, p), λ v (c, b, q). first_mono g low c b.above w v p q)

  pub all_high : (w : ℕ) → FirstWeight g high w → GreatestFirst g low high w
  all_high w p = ((high, high_choice low high risen, p), λ v (c, b, q). first_mono g c high b.below v w q p)

  module _ (t : Tree) (m : Utterance) (o : OwnHigh t low high m) where
    -- its weight is then that of all high
    pub own_weight : weight g (edges m) t ≡ weight g (edges high) t
    own_weight = weight_same g (edges m) (edges high) t o.own

    -- "outweighed under no choice: that is so exactly if it has least weight with its own words high and all others low"
    pub never_outweighed : ¬ Outweighed g low high t ↔ HasLeast g m t
    never_outweighed = (to, from)
      where
        to : ¬ Outweighed g low high t → HasLeast g m t
        to h s d =
            let n : ¬ (weight g (edges m) s < weight g (edges m) t) =
            λ l. h (record { costs = m; choice = o.choice; lighter = s; derivation = d; lighter_is = omega (arith, l) }) in
            omega arith

        from : HasLeast g m t → ¬ Outweighed g low high t
        from h p =
            let c = p.costs in
            let s = p.lighter in
            let d = derives_risen g low c p.choice.above p.derivation in
            omega (
              arith,
              gains g (edges low) (edges high) (edges m) t o.own o.other (edges_forward low) (edges c) (risen_dearer low c p.choice.above)
                  (risen_dearer c high p.choice.below) s d,
              h s (risen_derives g low m o.choice.above d),
              p.lighter_is,
            )

    pub own_decides : Decided g low high t
    own_decides = record { own_high = m; own_high_is = o; exactly_if = never_outweighed }

    -- which a first pass over those costs decides
    decided : Derivation g (slots low) t → (w : ℕ) → FirstWeight g m w → ¬ Outweighed g low high t ↔ (weight g (edges high) t ≡ w)
    decided d w f =
        let b = has_least g m w t f (risen_derives g low m o.choice.above d) in (
          (λ n. sym own_weight ∙ b.0 (never_outweighed.0 n)),
          (λ h. never_outweighed.1 (b.1 (own_weight ∙ h))),
        )

    lighter : Derivation g (slots low) t → (w : ℕ) → FirstWeight g m w → ¬ (weight g (edges high) t ≡ w) → Outweighed g low high t
    lighter d w (s, f, e) n =
        let least = first_least g m f t (risen_derives g low m o.choice.above d) in
        record {
          costs = m;
          choice = o.choice;
          lighter = s;
          derivation = f.derivation;
          lighter_is = omega (arith, least, own_weight);
        }

  -- the first weight of an utterance of n slots, as a pass finds it
  abbrev pass_weight : Utterance → ℕ → ℕ
  pass_weight u n = weight_of g (edges u) (first_of g (edges u) n)

  pass_weight_lem : (u : Utterance) → rises low u ≡ true → {s : Tree} → Derivation g (slots low) s → FirstWeight g u (pass_weight u (length low))
  pass_weight_lem u r d =
      let (t, f) = derives_first g u (risen_derives g low u r d) in
      (t, f, rw (risen_length low u r, first_place g u f))

  answers : (t : Tree) → First g low t → Answers g low high (answer_of g (length low) (edges low) (edges high) (some t))
  unfolding answer_of
  answers t first =
      let (m, o, is) = own_high low high risen t in
      rw (← is) (go m o (eqb (weight g (edges high) t) (pass_weight m (length low))) refl)
    where
      d : Derivation g (slots low) t
      d = first.derivation

      go : (m : Utterance) → OwnHigh t low high m → (b : Bool) → eqb (weight g (edges high) t) (pass_weight m (length low)) ≡ b
          → Answers g low high (pick b (stands (weight g (edges low) t) (pass_weight high (length low)))
          (outweighed (weight g (edges low) t) (pass_weight high (length low))))
      go m o true e = (
        all_low _ (t, first, refl),
        all_high _ (pass_weight_lem high risen d),
        (t, first, (decided t m o d _ (pass_weight_lem m o.choice.above d)).1 (eqb-true _ _ e), own_decides t m o),
      )
      go m o false e = (
        all_low _ (t, first, refl),
        all_high _ (pass_weight_lem high risen d),
        (t, first, lighter t m o d _ (pass_weight_lem m o.choice.above d) (eqb-false _ _ e), own_decides t m o),
      )

  -- three passes find the answer
  pub answer_sound : Answers g low high (answer g low high)
  unfolding answer answer_of
  answer_sound = go (first_of g (edges low) (length low)) refl
    where
      go : (o : Option Tree) → first_of g (edges low) (length low) ≡ o → Answers g low high (answer_of g (length low) (edges low) (edges high) o)
      go none e = none_derives g low e
      go (some t) e = answers t (place_first g low e)

-- and there is no other
module _ (g : Grammar) (low high : Utterance) where
  least_unique : (v w : ℕ) → LeastFirst g low high v → LeastFirst g low high w → v ≡ w
  least_unique v w (a, p) (b, q) = omega (arith, p w b, q v a)

  greatest_unique : (v w : ℕ) → GreatestFirst g low high v → GreatestFirst g low high w → v ≡ w
  greatest_unique v w (a, p) (b, q) = omega (arith, p w b, q v a)

  pub answer_unique : (a b : Answer) → Answers g low high a → Answers g low high b → a ≡ b
  answer_unique nothing nothing p q = refl
  answer_unique nothing (outweighed l h) p (_, _, (t, f, o, _)) = absurd (p t f.derivation)
  answer_unique nothing (stands l h) p (_, _, (t, f, o, _)) = absurd (p t f.derivation)
  answer_unique (outweighed l h) nothing (_, _, (t, f, o, _)) q = absurd (q t f.derivation)
  answer_unique (stands l h) nothing (_, _, (t, f, o, _)) q = absurd (q t f.derivation)
  answer_unique (outweighed l h) (outweighed l' h') (a, b, _) (a', b', _) = rw (least_unique l l' a a', greatest_unique h h' b b')
  answer_unique (stands l h) (stands l' h') (a, b, _) (a', b', _) = rw (least_unique l l' a a', greatest_unique h h' b b')
  answer_unique (outweighed l h) (stands l' h') (_, _, (t, f, o, _)) (_, _, (s, f', n, _)) = absurd (n (rw (first_unique g low f' f) o))
  answer_unique (stands l h) (outweighed l' h') (_, _, (t, f, n, _)) (_, _, (s, f', o, _)) = absurd (n (rw (first_unique g low f f') o))
