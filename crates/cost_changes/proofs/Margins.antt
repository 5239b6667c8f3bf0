-- N12 of document 02: the amount of a word is w(e) + 1 − w1, w1 the first weight and w(e) the least weight of a derivation that uses the
-- word in its slot; and the entry's weight is w(e).
use mathlib.Core.Path.{◌≡◌, refl, sym, ap, ◌∙◌, subst}
use mathlib.Core.Logic.{◌↔◌, ⊎_elim}
use mathlib.Core.Option.{Option, none, some}
use mathlib.Core.List.{List}
use Prim.Native.Nat.{ℕ, suc, ◌+◌, ◌-◌, ◌≤◌, ◌<◌}
use native.Mathlib.Nat.{le_refl}
use native.Mathlib.Omega.{arith}
use lib.ListN.{length}
use Rattle.packing.specs.declared.Word as W
use Rattle.packing.specs.Meaning.{not_heard, symbol_of, Grammar, Utterance, Candidate, candidate, edge, edges, slots}
use Rattle.derivation.specs.Derivation.{At, Tree, Derives, Derivation, edge_cost, weight}
use Rattle.derivation.specs.Rank.{◌∈◌}
use Rattle.derivation.proofs.Lists.{none≢some, mem_at}
use Rattle.derivation.proofs.Ranges.{Ascending}
use Rattle.derivation.proofs.Slots.{edge_slot, edges_in_lem, edges_short, edges_apart}
use Rattle.cost_changes.specs.Costs.{cost_at, edges_of, Uses, First, FirstWeight}
use Rattle.cost_changes.specs.Margins.{lower_word, UsesWord, Overtaken, OtherLighter, Margin}
use Rattle.cost_changes.specs.Outside.{outside, through}
use Rattle.cost_changes.proofs.Sums.{in_or_not}
use Rattle.cost_changes.proofs.Alike.{alike_turn, alike_derives}
use Rattle.cost_changes.proofs.First.{first_unique, first_least, derives_first}
use Rattle.cost_changes.proofs.Theorems.{edges_forward}
use Rattle.cost_changes.proofs.Least.{IsLeast}
use Rattle.cost_changes.proofs.Through.{through_least}
use Rattle.cost_changes.proofs.Lowered.{Lowered, falls, keeps, word_lowered, lower_length}

-- edge e is word x in slot s, and was heard
module _ (g : Grammar) (u : Utterance) (ascending : Ascending u) (e s k c : ℕ) (x : W.Word) (there : At (edges u) e (edge s k x c))
    (heard : c < not_heard) where
  abbrev changed : ℕ → Utterance
  changed d = lower_word d s x u

  lowered : (d : ℕ) → Lowered d e (edges u) (edges (changed d))
  lowered d = word_lowered u ascending e s k c d x there heard

  cost_is : cost_at (edges u) e ≡ c
  unfolding cost_at edge_cost
  cost_is = rw there

  -- the changed utterance has the same derivations
  pub derives_changed : (d : ℕ) {t : Tree} → Derivation g (slots u) t → Derivation g (slots (changed d)) t
  derives_changed d {t} p =
      subst (λ n. Derives g (edges (changed d)) (symbol_of 0) 0 n t) (sym (lower_length d s x u))
      (alike_derives g (edges u) (edges (changed d)) (lowered d).alike p)

  pub changed_derives : (d : ℕ) {t : Tree} → Derivation g (slots (changed d)) t → Derivation g (slots u) t
  changed_derives d {t} p =
      alike_derives g (edges (changed d)) (edges u) (alike_turn (edges u) (edges (changed d)) (lowered d).alike)
      (subst (λ n. Derives g (edges (changed d)) (symbol_of 0) 0 n t) (lower_length d s x u) p)

  -- the word is the edge, and no other edge has its slot and word
  pub candidate_cost : (slot : List Candidate) (b : ℕ) → At u s slot → candidate x b ∈ slot → b ≡ c
  candidate_cost slot b q m =
      let (f, r) = mem_at (edges_in_lem 0 u s q m) in
      let z : 0 + s ≡ s = omega arith in
      let r' : At (edges u) f (edge s (suc s) x b) = subst (λ j. At (edges u) f (edge j (suc j) x b)) z r in
      let same : e ≡ f = edges_apart 0 u ascending e f s k (suc s) c b x there r' in
      cc

  uses_word : (t : Tree) → UsesWord u t s x ↔ Uses t e
  uses_word t = (
    (λ (f, b, q, r). let same : f ≡ e = edges_apart 0 u ascending f e s (suc s) k b c x r there in rw same at q),
    (λ q. (e, c, q, subst (λ j. At (edges u) e (edge s j x c)) (edges_short u e s k c x there) there)),
  )

  module _ (t₁ : Tree) (first : First g u t₁) where
    abbrev w₁ : ℕ
    w₁ = weight g (edges u) t₁

    first_weight : (w : ℕ) → FirstWeight g u w → w ≡ w₁
    first_weight w (t, f, q) = sym q ∙ ap (weight g (edges u)) (first_unique g u f first)

    -- what is lighter then than the first is now uses the word, and weighs less than d more now
    lighter_now : (d : ℕ) (t : Tree) → d ≤ c → Derivation g (slots (changed d)) t → weight g (edges (changed d)) t < w₁
        → Derivation g (slots u) t × Uses t e × (weight g (edges u) t < w₁ + d)
    lighter_now d t h p l =
        let q = changed_derives d p in
        ⊎_elim (λ m. (q, m, omega (arith, falls g d e (edges u) (edges (changed d)) (lowered d) (edges_forward u) (rw cost_is h) q m)))
        (λ n. absurd (omega (arith, keeps g d e (edges u) (edges (changed d)) (lowered d) t n, first_least g u first t q)))
        (in_or_not e (edges_of t))

    lighter_then : (d : ℕ) (t : Tree) → d ≤ c → Derivation g (slots u) t → Uses t e → weight g (edges u) t < w₁ + d
        → weight g (edges (changed d)) t < w₁
    lighter_then d t h q m l = omega (arith, falls g d e (edges u) (edges (changed d)) (lowered d) (edges_forward u) (rw cost_is h) q m)

    -- so the listing run afresh begins with such a derivation exactly if there is one
    overtaken_first : (d : ℕ) → d ≤ c → Overtaken g u s x d → (t : Tree) → First g (changed d) t
        → Derivation g (slots u) t × Uses t e × (weight g (edges u) t < w₁ + d)
    overtaken_first d h o t f =
        let (t', f', q) = o.afresh_is in
        let same = ap (weight g (edges (changed d))) (first_unique g (changed d) f f') in
        lighter_now d t h f.derivation (omega (arith, first_weight o.today o.today_is, o.lighter))

    overtakes : (d : ℕ) → d ≤ c → (t : Tree) → Derivation g (slots u) t → Uses t e → weight g (edges u) t < w₁ + d → Overtaken g u s x d
    overtakes d h t q m l =
        let p = derives_changed d q in
        let (t', f) = derives_first g (changed d) p in
        record {
          today = w₁;
          afresh = weight g (edges (changed d)) t';
          today_is = (t₁, first, refl);
          afresh_is = (t', f, refl);
          lighter = omega (arith, first_least g (changed d) f t p, lighter_then d t h q m l);
        }

    -- "for some other reading to be strictly lighter than the first": where the first does not use the word its weight stays, and what gets
    -- lighter is another
    another : ¬ Uses t₁ e → (d : ℕ) → Overtaken g u s x d ↔ OtherLighter g u s x d
    another n d = (to, from)
      where
        stays : weight g (edges (changed d)) t₁ ≡ w₁
        stays = keeps g d e (edges u) (edges (changed d)) (lowered d) t₁ n

        to : Overtaken g u s x d → OtherLighter g u s x d
        to o t₂ second =
            let (t, f, q) = o.afresh_is in
            let same : t₂ ≡ t₁ = first_unique g u second first in
            let less : weight g (edges (changed d)) t < weight g (edges (changed d)) t₁ =
            omega (arith, first_weight o.today o.today_is, o.lighter, stays) in
            rw same (t, (λ r. let z = ap (weight g (edges (changed d))) r in omega arith), f.derivation, less)

        from : OtherLighter g u s x d → Overtaken g u s x d
        from other =
            let (t, r, p, l) = other t₁ first in
            let (t', f) = derives_first g (changed d) p in
            record {
              today = w₁;
              afresh = weight g (edges (changed d)) t';
              today_is = (t₁, first, refl);
              afresh_is = (t', f, refl);
              lighter = omega (arith, first_least g (changed d) f t p, stays);
            }

    -- w(e)
    abbrev least_through : Option ℕ
    least_through = through g (outside g (edges u) (symbol_of 0) (length u)) (edge s k x c)

    through_is : IsLeast (λ t. Derivation g (slots u) t × Uses t e) (weight g (edges u)) least_through
    through_is = through_least g (edges u) (symbol_of 0) (length u) (edges_forward u) e s k c x (there, heard)

    module _ (v : ℕ) (is : least_through ≡ some v) where
      not_less : (t : Tree) → Derivation g (slots u) t → Uses t e → v ≤ weight g (edges u) t
      not_less t q m = let (v', p, l) = through_is.finds t (q, m) in let same : v ≡ v' = cc in omega arith

      pub first_under : w₁ ≤ v
      first_under = let (t, (q, m), p) = through_is.found v is in omega (arith, first_least g u first t q)

      -- the first weight is lower exactly from w(e) + 1 − w1 on
      pub lightens : (d : ℕ) → d ≤ c → Overtaken g u s x d ↔ (v + 1 - w₁ ≤ d)
      lightens d h = (
        (λ o. let (t, f, _) = o.afresh_is in
            let (q, m, l) = overtaken_first d h o t f in
            omega (arith, not_less t q m, first_under)),
        (λ l. let (t, (q, m), p) = through_is.found v is in overtakes d h t q m (omega (arith, first_under))),
      )

      -- there is an entry exactly if the first reading does not use the word and the amount is no more than the cost
      pub margin_is : (d p : ℕ) → Margin g u s x d p ↔ (¬ Uses t₁ e × (d ≡ v + 1 - w₁) × (d ≤ c) × (p ≡ v))
      margin_is d p = (to, from)
        where
          present : (d : ℕ) → d ≤ c → d ≡ v + 1 - w₁ → Overtaken g u s x d → (t : Tree) → First g (changed d) t → weight g (edges u) t ≡ v
          present d h q o t f = let (r, m, l) = overtaken_first d h o t f in omega (arith, not_less t r m, first_under)

          to : Margin g u s x d p → ¬ Uses t₁ e × (d ≡ v + 1 - w₁) × (d ≤ c) × (p ≡ v)
          to m =
              let b = candidate_cost m.slot m.cost m.there m.offers in
              let h : d ≤ c = omega (arith, m.can) in
              let up = (lightens d h).0 m.overtaken in
              let down : ¬ (v + 1 - w₁ < d) = λ l. m.none_less (v + 1 - w₁) l ((lightens (v + 1 - w₁) (omega arith)).1 (le_refl _)) in
              let q : d ≡ v + 1 - w₁ = omega arith in (
                (λ y. m.unused t₁ first ((uses_word t₁).1 y)),
                q,
                h,
                sym m.present_is ∙ present d h q m.overtaken m.lighter m.lighter_first,
              )

          from : ¬ Uses t₁ e × (d ≡ v + 1 - w₁) × (d ≤ c) × (p ≡ v) → Margin g u s x d p
          from (n, q, h, r) =
              let (slot, at, offers, _) = edge_slot u e there in
              let o = (lightens d h).1 (omega arith) in
              let (t, f, _) = o.afresh_is in
              record {
                slot = slot;
                cost = c;
                there = at;
                offers = offers;
                heard = heard;
                unused = λ t f y. n (rw (first_unique g u f first) at ((uses_word t).0 y));
                falls = omega (arith, first_under);
                can = h;
                overtaken = o;
                none_less = λ b l z. omega (arith, (lightens b (omega arith)).0 z);
                other = another n;
                lighter = t;
                lighter_first = f;
                present_is = present d h q o t f ∙ sym r;
              }

    -- where no reading uses the word no fall brings a lighter one, and there is no entry
    pub never_through : least_through ≡ none → (d : ℕ) → d ≤ c → ¬ Overtaken g u s x d
    never_through is d h o =
        let (t, f, _) = o.afresh_is in
        let (q, y, l) = overtaken_first d h o t f in
        none≢some (sym is ∙ (through_is.finds t (q, y)).1)

    pub no_margin : least_through ≡ none → (d p : ℕ) → ¬ Margin g u s x d p
    no_margin is d p m =
        let b = candidate_cost m.slot m.cost m.there m.offers in
        never_through is d (omega (arith, m.can)) m.overtaken
