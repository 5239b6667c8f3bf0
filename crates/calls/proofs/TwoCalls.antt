-- Theorems about two calls of which the records of Demands hold: what is due and what an answer means leave one code and one outcome (`once`, `one_list`);
-- so within the panel's limits both listings are one, and what one conversion wrote turns back by the other.
use mathlib.Core.Path.{◌≡◌, refl, sym, subst, ap, ◌∙◌}
use mathlib.Core.Logic.{⊎_elim}
use mathlib.Core.List.{List, ◌++◌}
use Prim.Native.Nat.{ℕ, zero, suc, ◌+◌, ◌-◌, ◌*◌, ◌≤◌}
use native.Mathlib.Nat.{zero-mul, suc-mul}
use native.Mathlib.Omega.{arith}
use borrow.Author.Tests.{le-ltb}
use lib.IntN.{ℤ, pos, neg_ℤ}
use lib.ListN.{length, take, drop, take-append-drop}
use lib.Seq.{drop-drop}
use Rattle.packing.specs.Meaning.{Grammar, Heard}
use Rattle.packing.specs.Parse.{Verdict, accepted, refused}
use Rattle.packing.specs.Conversion.{grammar_to_block, grammar_to_sheet, utterance_to_block, utterance_to_sheet, fitting, written}
use Rattle.packing.specs.Rows.{Between, ◌∪◌, GrammarBlockRow, HeardBlockRow}
use Rattle.packing.proofs.Parse.{refused≢accepted, accepted_is}
use Rattle.packing.proofs.Refusals.{Refuses, refusal_number}
use Rattle.derivation.specs.Heard.{output_length, packed}
use Rattle.derivation.specs.HeardList.{least_derivations}
use Rattle.derivation.proofs.HeardTheorems.{least_length}
use Rattle.chart.specs.WorkTable.{table_size}
use Rattle.listing.specs.Conditions.{library, panel, Within, asked_listing}
use Rattle.listing.specs.Listing.{readings_of}
use Rattle.listing.specs.Demand3.{kth_bytes, RankedList}
use Rattle.inputs.proofs.Due.{asked_row}
use Rattle.listing.proofs.Accepted.{list_asked}
use Rattle.listing.proofs.Refused.{enough_row}
use Rattle.listing.proofs.Within.{asked_alike}
use Rattle.codes.specs.Demand1.{Demand1, answers, refuses}
use Rattle.spireyerba.specs.Demands.{Converts, RoundTrip, Demand2, EqualWithinPanel, PanelRoom}
use Rattle.spireyerba.proofs.Demands.{low_code, same_refusal}

-- a list by ranks is one: it has as many readings as the enumeration, each that of its rank, and the rest of the output stays as it was
pub found : {g : Grammar} {h : Heard} {N : ℕ} {work out : List ℕ} {AnswerIs : ℕ → Type 0} {work' out' : List ℕ}
    (call : RankedList g h N work out AnswerIs work' out') → length (least_derivations g h N) ≡ call.m
found {g} {h} {N} call = least_length g h N call.derivations call.finitely_many ∙ sym call.m_is

same_output : (L m : ℕ) (a b : List ℕ) → ((k : ℕ) → 1 ≤ k → k ≤ m → kth_bytes L k a ≡ kth_bytes L k b) → drop (m * L) a ≡ drop (m * L) b → a ≡ b
same_output L zero a b each rest = rw (zero-mul L) at rest
same_output L (suc m) a b each rest = same_output L m a b (λ k l h. each k l (omega arith)) (front a ∙ rw (kth, rest) (sym (front b)))
  where
    front : (x : List ℕ) → drop (m * L) x ≡ take L (drop (m * L) x) ++ drop (suc m * L) x
    front x =
        let more : suc m * L ≡ m * L + L = rw suc-mul (omega arith) in
        sym (take-append-drop L (drop (m * L) x)) ∙ ap (λ (l : List ℕ). take L (drop (m * L) x) ++ l) (drop-drop L (m * L) x ∙ rw more)

    kth : take L (drop (m * L) a) ≡ take L (drop (m * L) b)
    kth = let less : suc m - 1 ≡ m = omega arith in rw less at (each (suc m) (omega arith) (omega arith))

pub one_list : {g : Grammar} {h : Heard} {N m m' : ℕ} {work out after written after' written' : List ℕ}
    → RankedList g h N work out (λ n. n ≡ m) after written → RankedList g h N work out (λ n. n ≡ m') after' written'
    → (m' ≡ m) × (after' ≡ after) × (written' ≡ written)
one_list {g} {h} {after = after} {written} {after'} {written'} there here =
    let same : here.m ≡ there.m = sym (found here) ∙ found there in (
      sym here.accepts ∙ same ∙ there.accepts,
      here.zeros ∙ sym there.zeros,
      same_output (output_length g h) there.m written' written (each same) (rest same),
    )
  where
    each : here.m ≡ there.m → (k : ℕ) → 1 ≤ k → k ≤ there.m → kth_bytes (output_length g h) k written' ≡ kth_bytes (output_length g h) k written
    each same k l n =
        let (s, ranked, holds) = there.readings k l n in
        let (t, ranked', holds') = here.readings k l (rw same n) in
        holds' ∙ ap (packed g h) (ranked.no_other t ranked'.derivation ranked'.rank) ∙ sym holds

    rest : here.m ≡ there.m → drop (there.m * output_length g h) written' ≡ drop (there.m * output_length g h) written
    rest same = (rw same at here.beyond) ∙ sym there.beyond

-- two calls for which the same is due answer the same, and leave the same behind where what an answer means is once
refused_is : {A : Type 0} {m n : ℕ} → ◌≡◌ {A = Verdict A} (refused m) (refused n) → m ≡ n
refused_is e = cc

pub once : {A : Type 0} {v v' : Verdict A} {Answer Answer' : A → ℕ → Type 0} {Row Row' : ℕ → Type 0} {Unchanged Unchanged' Same : Type 0} {code code' : ℤ}
    → v' ≡ v → Demand1 v Answer Row Unchanged code → Demand1 v' Answer' Row' Unchanged' code'
    → ((a : A) (m n : ℕ) → v ≡ accepted a → Answer a m → Answer' a n → (n ≡ m) × Same) → (Unchanged → Unchanged' → Same) → (code' ≡ code) × Same
once {Answer' = Answer'} e (answers {a} {n = m} p x) (answers {a = b} {n} q y) f g =
    let same : b ≡ a = accepted_is (sym q ∙ e ∙ p) in
    let (number, rest) = f a m n p x (subst (λ z. Answer' z n) same y) in
    (ap pos number, rest)
once e (answers p x) (refuses q r u) f g = absurd (refused≢accepted (sym q ∙ e ∙ p))
once e (refuses p r u) (answers q y) f g = absurd (refused≢accepted (sym p ∙ sym e ∙ q))
once e (refuses {n} p r u) (refuses {n = k} q r' u') f g =
    let same : k ≡ n = refused_is (sym q ∙ e ∙ p) in
    (ap (λ (x : ℕ). neg_ℤ (pos x)) same, g u u')

-- N8, of a call of each listing.
pub equal_within_panel : EqualWithinPanel
equal_within_panel grammar heard N within work out code code' after written after' written' there here =
    let within_library : Within library grammar heard N = record {
      slots = λ g h p q. omega (arith, within.slots g h p q);
      readings = omega (arith, within.readings);
    } in
    let alike = asked_alike panel library grammar heard N (length work) (length out) within within_library in
    let (c, s) = once {Same = (after' ≡ after) × (written' ≡ written)} alike there.demand_1 here.demand_1
    (λ g m n p x y. let (k, z, w) = one_list x y in (k, (z, w))) (λ u u'. (u'.0 ∙ sym u.0, u'.1 ∙ sym u.1)) in
    (c, s.0, s.1)

-- A panel that lends what its limits need is not refused for it.
no_room : {A : Type 0} {v : Verdict A} {Answer : A → ℕ → Type 0} {Row Row' : ℕ → Type 0} {Unchanged : Type 0} {code : ℤ}
    → Demand1 v Answer Row Unchanged code → Refuses Row' v → (n : ℕ) → 1 ≤ n → (Row' n → ⊥) → code ≡ neg_ℤ (pos n) → ⊥
no_room (answers {n = k} p t) rows n l never e = low_code n k l (sym e)
no_room (refuses {n = k} p r u) rows n l never e = never (refusal_number rows (p ∙ ap refused (same_refusal k n e)))

pub panel_room : PanelRoom
unfolding table_size
panel_room grammar heard N work out code work' out' call numbers bytes =
    let rows = asked_row (asked_listing panel grammar heard N (length work) (length out)) (readings_of N)
    (list_asked panel grammar heard N (length work) (length out))
    (enough_row grammar heard N (length work) (length out) panel numbers bytes) in (
      no_room call.demand_1 rows 22 (omega arith) (short 22 (omega arith) (omega arith)),
      no_room call.demand_1 rows 23 (omega arith) (short 23 (omega arith) (omega arith)),
    )
  where
    short : (n : ℕ) → 22 ≤ n → n ≤ 23 → (GrammarBlockRow ∪ HeardBlockRow ∪ (Between 21 21 ∪ Between 57 58)) n → ⊥
    short n l m =
        ⊎_elim (⊎_elim (λ r. omega (arith, r)) (⊎_elim (λ r. omega (arith, r)) (λ r. omega (arith, r))))
        (⊎_elim (λ r. omega (arith, r)) (λ r. omega (arith, r)))

-- two calls: what the first wrote turns back, and there is room for it
round_trip : (turn back : List ℕ → Verdict (List ℕ)) (Row Row' : ℕ → Type 0) → RoundTrip (Converts turn back Row) (Converts back turn Row')
unfolding fitting
round_trip turn back Row Row' given out out' n there room room' code h call = go call.demand_1
  where
    due : fitting (back (take n out')) room ≡ accepted given
    due = rw (there.demand_2 n refl, le-ltb (length room) (length given) h)

    go : {code : ℤ} → Demand1 (fitting (back (take n out')) room) (λ l k. (k ≡ length l) × (room' ≡ l ++ drop k room)) Row' (room' ≡ room) code
        → (code ≡ pos (length given)) × (room' ≡ given ++ drop (length given) room)
    go (answers {a} {n = k} p (m, w)) =
        let same : a ≡ given = accepted_is (sym p ∙ due) in
        (ap pos (m ∙ ap length same), rw (m, same) at w)
    go (refuses p r u) = absurd (refused≢accepted (sym p ∙ due))

-- Demand 2, of two calls.
pub demand_2 : Demand2
demand_2 = record {
  grammar_sheets = round_trip grammar_to_block grammar_to_sheet _ _;
  grammar_blocks = round_trip grammar_to_sheet grammar_to_block _ _;
  utterance_sheets = λ grammar. round_trip (utterance_to_block grammar) (utterance_to_sheet grammar) _ _;
  utterance_blocks = λ grammar. round_trip (utterance_to_sheet grammar) (utterance_to_block grammar) _ _;
}
