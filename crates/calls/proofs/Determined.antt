-- The records of spireyerba's Demands leave nothing open: document 01, condition 1, "A service's promise leaves open neither its number nor any byte of what
-- was lent". Two calls of which a record holds, with the same given and lent numbers, answer the same and leave the same behind: the same is due, and
-- what is meant there is once: one list by ranks, one answer over all choices, one list of margins, one least string, one derivation with a reading.
use mathlib.Core.Path.{◌≡◌, refl, sym, ap, ◌∙◌}
use mathlib.Core.Logic.{inl, inr}
use mathlib.Core.Option.{some}
use mathlib.Core.List.{List, ◌++◌}
use Prim.Native.Nat.{ℕ}
use lib.Ieee.{Float}
use lib.IntN.{ℤ}
use lib.ListN.{length, drop}
use Rattle.packing.specs.Parse.{Verdict, accepted}
use Rattle.packing.specs.Valid.{Bytes}
use Rattle.packing.proofs.Parse.{accepted_is}
use Rattle.derivation.specs.Derivation.{Tree, walk}
use Rattle.checker.specs.Check.{check}
use Rattle.checker.proofs.Theorems.{accepts, judged_once}
use Rattle.chance.specs.Chance.{shares_of, one, product_of, asked_chance, Shown}
use Rattle.cost_changes.specs.Ranges.{Answer}
use Rattle.cost_changes.specs.Margins.{MarginEntry, list_numbers}
use Rattle.cost_changes.proofs.Theorems.{answer_unique}
use Rattle.cost_changes.proofs.Listed.{margins_unique}
use Rattle.phrases.specs.Phrases.{Phrase}
use Rattle.phrases.proofs.Least.{first, least_unique}
use Rattle.spireyerba.specs.Demands as D
use Rattle.spireyerba.specs.Demands.{ranges_number, least_of, greatest_of, LeastWritten, Sought}
use Rattle.calls.proofs.TwoCalls.{once, one_list}

-- the conversions
module _ {turn back : List ℕ → Verdict (List ℕ)} {Row : ℕ → Type 0} {given out written written' : List ℕ} {code code' : ℤ} where
  pub converts_once : D.Converts turn back Row given out code written → D.Converts turn back Row given out code' written'
      → (code' ≡ code) × (written' ≡ written)
  converts_once a b =
      once {Same = written' ≡ written} refl a.demand_1 b.demand_1
      (λ l m n p x y. let same = y.0 ∙ sym x.0 in (same, y.1 ∙ ap (λ (k : ℕ). l ++ drop k out) same ∙ sym x.1)) (λ u u'. u' ∙ sym u)

pub office_once : {sheet out written written' : List ℕ} {code code' : ℤ} → D.OfficeToBlock sheet out code written → D.OfficeToBlock sheet out code' written'
    → (code' ≡ code) × (written' ≡ written)
office_once {out = out} {written} {written'} a b =
    once {Same = written' ≡ written} refl a.demand_1 b.demand_1
    (λ l m n p x y. let same = y.0 ∙ sym x.0 in (same, y.1 ∙ ap (λ (k : ℕ). l ++ drop k out) same ∙ sym x.1)) (λ u u'. u' ∙ sym u)

-- two lent slices afterwards
abbrev SameSlices : (after after' written written' : List ℕ) → Type 0
SameSlices after after' written written' = (after' ≡ after) × (written' ≡ written)

-- the listings: proofs/TwoCalls has that within the panel's limits both are one
module _ {grammar heard : List ℕ} {N : ℕ} {work out after written after' written' : List ℕ} {code code' : ℤ} where
  pub listing_once : D.Listing grammar heard N work out code after written → D.Listing grammar heard N work out code' after' written'
      → (code' ≡ code) × SameSlices after after' written written'
  listing_once a b =
      once {Same = SameSlices after after' written written'} refl a.demand_1 b.demand_1 (λ g m n p x y. let (k, z, w) = one_list x y in (k, (z, w)))
      (λ u u'. (u'.0 ∙ sym u.0, u'.1 ∙ sym u.1))

  pub panel_once : D.PanelListing grammar heard N work out code after written → D.PanelListing grammar heard N work out code' after' written'
      → (code' ≡ code) × SameSlices after after' written written'
  panel_once a b =
      once {Same = SameSlices after after' written written'} refl a.demand_1 b.demand_1 (λ g m n p x y. let (k, z, w) = one_list x y in (k, (z, w)))
      (λ u u'. (u'.0 ∙ sym u.0, u'.1 ∙ sym u.1))

-- the check and the chance, of a reading of bytes
module _ (grammar heard reading : List ℕ) (bytes : Bytes reading) where
  pub check_once : {code code' : ℤ} → D.Check grammar heard reading code → D.Check grammar heard reading code' → code' ≡ code
  check_once a b =
      let due : b.due ≡ a.due = sym (judged_once grammar heard reading bytes b.judgement) ∙ judged_once grammar heard reading bytes a.judgement in
      (once {Same = Unit {0}} due a.demand_1 b.demand_1 (λ t m n p x y. (y ∙ sym x, tt)) (λ u u'. tt)).0

  shown_once : {shares : List ℕ} {x y : Float} → Shown grammar heard reading shares x → Shown grammar heard reading shares y → y ≡ x
  shown_once {shares} a b =
      let there : check grammar heard reading ≡ accepted a.t =
      (accepts grammar heard reading bytes a.g a.h a.grammar_accepted a.heard_accepted a.t).1 (a.derivation, a.packing) in
      let here : check grammar heard reading ≡ accepted b.t =
      (accepts grammar heard reading bytes b.g b.h b.grammar_accepted b.heard_accepted b.t).1 (b.derivation, b.packing) in
      b.product ∙ ap (λ (t : Tree). product_of one (shares_of shares (walk t))) (accepted_is (sym here ∙ there)) ∙ sym a.product

  pub chance_once : {shares : List ℕ} {float after after' : Float} {code code' : ℤ} → D.Chance grammar heard reading shares float code after
      → D.Chance grammar heard reading shares float code' after' → (code' ≡ code) × (after' ≡ after)
  chance_once {shares} {after = after} {after'} a b =
      let due : b.due ≡ a.due = sym (judged_once grammar heard reading bytes b.judgement) ∙ judged_once grammar heard reading bytes a.judgement in
      once {Same = after' ≡ after} (ap (asked_chance grammar shares) due) a.demand_1 b.demand_1
      (λ t m n p x y. (y.0 ∙ sym x.0, shown_once x.1 y.1)) (λ u u'. u' ∙ sym u)

-- costs known within ranges
abbrev SameRanges : (after after' : List ℕ) (l l' h h' : ℕ) → Type 0
SameRanges after after' l l' h h' = (after' ≡ after) × (l' ≡ l) × (h' ≡ h)

module _ {grammar low high work : List ℕ} {least greatest : ℕ} {code code' : ℤ} {after after' : List ℕ} {l l' h h' : ℕ} where
  pub cost_ranges_once : D.CostRanges grammar low high work least greatest code after l h
      → D.CostRanges grammar low high work least greatest code' after' l' h' → (code' ≡ code) × SameRanges after after' l l' h h'
  cost_ranges_once a b =
      once {Same = SameRanges after after' l l' h h'} refl a.demand_1 b.demand_1 (λ g m n p (x, answers, nx, lx, hx, zx) (y, answers', ny, ly, hy, zy).
      let same : y ≡ x = answer_unique g.0 g.1 g.2 y x answers' answers in (
        ny ∙ ap ranges_number same ∙ sym nx,
        (zy ∙ sym zx, ly ∙ ap (λ (z : Answer). least_of z least) same ∙ sym lx, hy ∙ ap (λ (z : Answer). greatest_of z greatest) same ∙ sym hx),
      ))
      (λ (zu, lu, hu) (zv, lv, hv). (zv ∙ sym zu, lv ∙ sym lu, hv ∙ sym hu))

-- the words to listen to again
module _ {grammar utterance work out after written after' written' : List ℕ} {code code' : ℤ} where
  pub word_margins_once : D.WordMargins grammar utterance work out code after written → D.WordMargins grammar utterance work out code' after' written'
      → (code' ≡ code) × SameSlices after after' written written'
  word_margins_once a b =
      once {Same = SameSlices after after' written written'} refl a.demand_1 b.demand_1 (λ g m n p (x, margins, nx, wx, zx) (y, margins', ny, wy, zy).
      let same : y ≡ x = margins_unique g.0 g.1 y x margins' margins in (
        ny ∙ ap length same ∙ sym nx,
        (zy ∙ sym zx, wy ∙ ap (λ (k : List MarginEntry). list_numbers k ++ drop (length (list_numbers k)) out) same ∙ sym wx),
      ))
      (λ u u'. (u'.0 ∙ sym u.0, u'.1 ∙ sym u.1))

-- the specimen and the next phrase
written_once : {P : List ℕ → Type 0} {n m k : ℕ} {out written written' : List ℕ} → LeastWritten P n out written m → LeastWritten P n out written' k
    → (k ≡ m) × (written' ≡ written)
written_once {P} {n} {out = out} (inl (s, l, em, w)) (inl (t, l', ek, w')) =
    let some_same : some t ≡ some s = least_unique {P = P} (first l') (first l) in
    let same : t ≡ s = cc in
    (ek ∙ sym em, w' ∙ ap (λ (x : List ℕ). x ++ drop n out) same ∙ sym w)
written_once (inl (s, l, em, w)) (inr (never, ek, w')) = absurd (never s l.0)
written_once (inr (never, em, w)) (inl (t, l', ek, w')) = absurd (never t l'.0)
written_once (inr (never, em, w)) (inr (_, ek, w')) = (ek ∙ sym em, w' ∙ sym w)

module _ {grammar : List ℕ} {n : ℕ} {out written written' : List ℕ} {code code' : ℤ} where
  pub specimen_once : D.Specimen grammar n out code written → D.Specimen grammar n out code' written' → (code' ≡ code) × (written' ≡ written)
  specimen_once a b =
      once {Same = written' ≡ written} refl a.demand_1 b.demand_1 (λ g m k p x y. written_once {P = Phrase g n} x y) (λ u u'. u' ∙ sym u)

  pub next_phrase_once : {call : ℕ} → D.NextPhrase grammar n call out code written → D.NextPhrase grammar n call out code' written'
      → (code' ≡ code) × (written' ≡ written)
  next_phrase_once {call} a b =
      once {Same = written' ≡ written} refl a.demand_1 b.demand_1 (λ g m k p x y. written_once {P = Sought g n call out} x y) (λ u u'. u' ∙ sym u)
