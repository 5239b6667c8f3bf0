-- Changed costs and redrawn slots, of several calls (specs/ChangedCalls). Demand 3 says of a listing what its first reading weighs; the records of the
-- words to listen to again and of costs within ranges speak of first weights; and the words of slots are a graph's edges.
use mathlib.Core.Path.{◌≡◌, ap, ◌∙◌, subst}
use mathlib.Core.Logic.Iff
use mathlib.Core.Logic.{◌↔◌}
use mathlib.Core.Bool.{true}
use Prim.Native.Nat.{ℕ, suc, ◌+◌, ◌≤◌, ◌<◌}
use native.Mathlib.Omega.{arith}
use lib.IntN.{pos}
use lib.ListN.{length}
use Rattle.packing.specs.Meaning.{word, Grammar, Utterance, edge, edges, slots, graph, redrawn}
use Rattle.packing.specs.Valid.{ValidUtterance}
use Rattle.packing.proofs.Whole.{utterance_block_out}
use Rattle.packing.specs.declared.Word as W
use Rattle.derivation.specs.Derivation.{At, Tree, Derivation}
use Rattle.derivation.specs.Heard.{packed}
use Rattle.derivation.proofs.Lists.{mem_at}
use Rattle.derivation.proofs.Ranges.{valid_ascending}
use Rattle.derivation.proofs.Slots.{edges_in_lem}
use Rattle.derivation.proofs.HeardTheorems.{redrawn_derivation, redrawn_rank}
use Rattle.traced_readings.specs.Ranked.{Ranked}
use Rattle.cost_changes.specs.Costs.{First, FirstWeight}
use Rattle.cost_changes.specs.Ranges as ranges
use Rattle.cost_changes.specs.Ranges.{rises, LeastFirst, GreatestFirst, nothing, outweighed, stands, Answers}
use Rattle.cost_changes.specs.Margins.{lower_word, UsesWord, Overtaken}
use Rattle.cost_changes.proofs.Theorems.{risen_derives, derives_risen, all_low, all_high}
use Rattle.cost_changes.proofs.Listed.{margin_lightens, never_lightens}
use Rattle.cost_changes.proofs.Margins.{derives_changed, changed_derives}
use Rattle.spireyerba.specs.Demands.{ranges_number, least_of, greatest_of}
use Rattle.calls.specs.ChangedCalls.{ListingCall, first_held, HasEntry, Offers, AfreshCalls, ReachedCalls, RedrawnCalls}
use Rattle.calls.proofs.Answered.{answered, low_ranges, asked_ranges_lem}
use Rattle.calls.proofs.Listings.{listed, some_found, same_number, first_weight, weight_once}
use Rattle.calls.proofs.Entries.{has_entry}

-- the utterance with a word's cost lowered has the same derivations
lowered_derivation : (g : Grammar) (u : Utterance) → ValidUtterance g.words u → (s x c f : ℕ) → Offers u s x c → (t : Tree)
    → Derivation g (slots u) t ↔ Derivation g (slots (lower_word f s (word x) u)) t
lowered_derivation g u valid s x c f (slot, there, offers, heard) t =
    let asc = valid_ascending g.words u valid in
    let (e, p) = mem_at (edges_in_lem 0 u s there offers) in
    let z : 0 + s ≡ s = omega arith in
    let at = subst (λ i. At (edges u) e (edge i (suc i) (word x) c)) z p in
    (derives_changed g u asc e s (suc s) c (word x) at heard f, changed_derives g u asc e s (suc s) c (word x) at heard f)

-- a lighter first reading is one that weighs less
overtaken_less : (g : Grammar) (u : Utterance) (s f : ℕ) (x : W.Word) (v w : ℕ) → FirstWeight g u w → FirstWeight g (lower_word f s x u) v
    → Overtaken g u s x f ↔ (v < w)
overtaken_less g u s f x v w now then = (
  (λ o. omega (arith, weight_once o.today_is now, weight_once o.afresh_is then, o.lighter)),
  (λ less. record { today = w; afresh = v; today_is = now; afresh_is = then; lighter = less }),
)

-- N12, of three calls
pub afresh_calls : AfreshCalls
afresh_calls g u m entries call s x c f (slot, there, offers, heard) fits u' is N code code' out out' before after = rw is (go (rw is at after))
  where
    valid : ValidUtterance g.words u
    valid = (utterance_block_out g.words call.utterance u call.utterance_is).0

    go : (after : ListingCall g (slots (lower_word f s (word x) u)) N code' out')
        → (n : ℕ) × (code ≡ pos n) × (code' ≡ pos n)
        × ((d : ℕ) → HasEntry m entries s x d
        → (1 ≤ n) × ((first_held g (slots (lower_word f s (word x) u)) out' < first_held g (slots u) out) ↔ (d ≤ f)))
        × (((d : ℕ) → ¬ HasEntry m entries s x d) → ((t : Tree) → First g u t → ¬ UsesWord u t s (word x)) → 1 ≤ n
        → ¬ (first_held g (slots (lower_word f s (word x) u)) out' < first_held g (slots u) out))
    go after =
        let same = same_number before after (lowered_derivation g u valid s x c f (slot, there, offers, heard)) in
        let less : 1 ≤ (listed before).m
        → Overtaken g u s (word x) f ↔ (first_held g (slots (lower_word f s (word x) u)) out' < first_held g (slots u) out) =
        λ some. overtaken_less g u s f (word x) _ _ (first_weight before some) (first_weight after (rw same some)) in (
          (listed before).m,
          (listed before).accepts,
          (listed after).accepts ∙ ap pos same,
          (λ d e.
              let (v, margin) = (has_entry call s x d).0 e in
              let (t, first, _) = margin.overtaken.today_is in
              let some = some_found before first.derivation in
              (some, Iff.trans (Iff.symm (less some)) (margin_lightens g.words g u valid s c (word x) there offers heard margin f fits))),
          (λ without unused some lighter.
              never_lightens g.words g u valid s c (word x) there offers heard unused (λ d v margin. without d ((has_entry call s x d).1 (v, margin))) f fits
              ((less some).1 lighter)),
        )

-- N11, of two calls: what is answered are the least and the greatest
ends : (g : Grammar) (low high : Utterance) (a : ranges.Answer) → Answers g low high a → 1 ≤ ranges_number a → (b b' : ℕ)
    → LeastFirst g low high (least_of a b) × GreatestFirst g low high (greatest_of a b')
ends g low high nothing p h b b' = absurd (omega arith)
ends g low high (outweighed l k) (p, q, _) h b b' = (p, q)
ends g low high (stands l k) (p, q, _) h b b' = (p, q)

pub reached_calls : ReachedCalls
reached_calls g low high least greatest call c choice N code out listing =
    let (b, due, (a, tells, number, is-least, is-greatest, _)) = answered low_ranges call.call.demand_1 in
    let (same, risen) = asked_ranges_lem call.grammar call.low_block call.high_block call.grammar_is call.low_is call.high_is
    (length call.work) due in
    let tells' = subst (λ (z : Grammar × Utterance × Utterance). Answers z.0 z.1 z.2 a) same tells in
    let (p, q) = ends g low high a tells' (omega (arith, call.some_reading)) call.before call.before' in
    go risen (rw is-least p) (rw is-greatest q)
  where
    go : rises low high ≡ true → LeastFirst g low high least → GreatestFirst g low high greatest
        → (n : ℕ) × (code ≡ pos n) × (1 ≤ n) × (least ≤ first_held g (slots c) out) × (first_held g (slots c) out ≤ greatest)
        × (c ≡ low → first_held g (slots c) out ≡ least) × (c ≡ high → first_held g (slots c) out ≡ greatest)
    go risen (there, under) (there', over) =
        let (c₀, choice₀, (t, t-first, _)) = there in
        let some = some_found listing (risen_derives g low c choice.above (derives_risen g low c₀ choice₀.above t-first.derivation)) in
        let first : ℕ = first_held g (slots c) out in
        let first_is : FirstWeight g c first = first_weight listing some in
        let under_all : (z : Utterance) → c ≡ z → FirstWeight g z first = λ z is. subst (λ (z : Utterance). FirstWeight g z first) is first_is in
        let reaches : ranges.Reached g low high first = (c, choice, first_is) in (
          (listed listing).m,
          (listed listing).accepts,
          some,
          under first reaches,
          over first reaches,
          (λ is. omega (arith, (all_low g low high risen first (under_all low is)).1 least there, under first reaches)),
          (λ is. omega (arith, (all_high g low high risen first (under_all high is)).1 greatest there', over first reaches)),
        )

-- N1, of two calls
redrawn_ranked : (g : Grammar) (u : Utterance) (k : ℕ) {t : Tree} → Ranked g (slots u) k t → Ranked g (graph (redrawn u)) k t
redrawn_ranked g u k {t} r = record {
  derivation = (redrawn_derivation g u t).1 r.derivation;
  rank = (redrawn_rank g u t k).1 r.rank;
  no_other = λ s d o. r.no_other s ((redrawn_derivation g u s).0 d) ((redrawn_rank g u s k).0 o);
}

pub redrawn_calls : RedrawnCalls
redrawn_calls g u N code code' out out' drawn again =
    let same = same_number drawn again (λ t. Iff.symm (redrawn_derivation g u t)) in (
      (listed drawn).m,
      (listed drawn).accepts,
      (listed again).accepts ∙ ap pos same,
      (λ k from upto.
          let (t, ranked, holds) = (listed drawn).readings k from upto in
          let (t', ranked', holds') = (listed again).readings k from (rw same upto) in
          let one = redrawn_ranked g u k ranked in
          (t, ranked, one, holds, holds' ∙ ap (packed g (graph (redrawn u))) (one.no_other t' ranked'.derivation ranked'.rank))),
    )
