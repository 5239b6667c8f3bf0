-- The demands (specs/Demands), from what the services promise. A refusal's number is not 0, so a code tells an answer from a refusal.
use mathlib.Core.Path.{◌≡◌, refl, sym, ap, ◌∙◌}
use mathlib.Core.Logic.Iff
use mathlib.Core.Logic.{◌↔◌}
use mathlib.Core.List.{List}
use Prim.Native.Nat.{ℕ, zero, suc, ◌≤◌}
use native.Mathlib.Omega.{arith}
use lib.Ieee.{Float}
use lib.IntN.{ℤ, pos, neg_ℤ}
use lib.Dec.{ltb}
use lib.ListN.{length, take, drop}
use lib.Seq.{take_at}
use Rattle.packing.specs.Parse.{Verdict, accepted, refused, ◌then◌}
use Rattle.packing.specs.Valid.{Bytes}
use Rattle.packing.specs.Conversion.{grammar_to_block, grammar_to_sheet, utterance_to_block, utterance_to_sheet, fitting, written, TurnsBack}
use Rattle.packing.specs.Grammar.{marked_block, grammar_block, block_of_marked}
use Rattle.packing.specs.Rows.{◌∪◌, GrammarBlockRow, HeardBlockRow, ListingRow, PanelRow}
use Rattle.packing.proofs.Parse.{refused≢accepted, accepted_is, accepted_else}
use Rattle.packing.proofs.Parse as P
use Rattle.packing.proofs.Refusals.{
  Refuses,
  granted,
  denied,
  refusal_number,
  Low,
  grammar_to_block_row,
  grammar_to_sheet_row,
  utterance_to_block_row,
  utterance_to_sheet_row,
}
use Rattle.packing.specs.Read.{as_verdict, counted}
use Rattle.packing.specs.declared.refusal.Refusal.{Refusal}
use Rattle.packing.proofs.Numbers.{same_verdict}
use Rattle.office.specs.Office.{Office}
use Rattle.office.specs.Sheet.{office_sheet}
use Rattle.office.specs.Conversion.{convert_marked}
use Rattle.office.proofs.Marked.{marked_grammar}
use Rattle.office_conversion.specs.Limits.{office_grammar}
use Rattle.office_conversion.proofs.Limits.{limited}
use Rattle.office_block.specs.Block.{office_to_block}
use Rattle.office_block.proofs.Refused.{office_to_block_row}
use Rattle.office_theory.proofs.Theorems.{derivations_match, result_accepted}
use Rattle.derivation.specs.Derivation.{Tree, walk}
use Rattle.checker.specs.Judgement.{OfDerivation}
use Rattle.std.specs.Prelude as R
use Rattle.checker.specs.Check.{check, passed}
use Rattle.checker.proofs.Refused.{check_row, refused_34, refused_35, refused_36}
use Rattle.checker.proofs.Theorems.{judged_so}
use Rattle.chance.specs.Answer.{chance}
use Rattle.chance.specs.Chance.{shares_of, one, product_of, asked_chance, Shown}
use Rattle.chance.proofs.Shown.{chance_row, chance_asked}
use Rattle.chart.specs.WorkTable.{work_after}
use Rattle.listing.specs.Conditions.{library, panel, Within, asked_listing}
use Rattle.listing.specs.Listing.{readings_of, list, output_after}
use Rattle.listing_limits.specs.declared.Limits.{Limits}
use Rattle.listing.specs.Demand3.{Demand3}
use Rattle.listing.proofs.Accepted.{asked_out, list_asked}
use Rattle.listing.proofs.Demand3.{ranked_list, demand_3, in_library}
use Rattle.listing.proofs.Refused.{library_row, panel_row}
use Rattle.codes.specs.Code.{code_of}
use Rattle.spireyerba.specs.Code.{chance_after}
use Rattle.spireyerba.specs.Demands as D
use Rattle.codes.specs.Demand1.{Demand1, answers, refuses}
use Rattle.spireyerba.specs.Demands.{Converts, Result}
use Rattle.spireyerba.proofs.Small.{
  low_grammar_to_block,
  low_grammar_to_sheet,
  low_office_to_block,
  low_utterance_to_block,
  low_utterance_to_sheet,
  low_check,
}

-- the code of an answer is not a refusal's, and the other way round
pub low_code : (m n : ℕ) → 1 ≤ m → neg_ℤ (pos m) ≡ pos n → ⊥
low_code zero n l e = omega arith
low_code (suc m) n l e = let z : ◌≡◌ {A = ℕ} 0 1 = cc in omega arith

pub same_refusal : (m n : ℕ) → neg_ℤ (pos m) ≡ neg_ℤ (pos n) → m ≡ n
same_refusal zero zero e = refl
same_refusal zero (suc n) e = let z : ◌≡◌ {A = ℕ} 0 1 = cc in absurd (omega arith)
same_refusal (suc m) zero e = let z : ◌≡◌ {A = ℕ} 0 1 = cc in absurd (omega arith)
same_refusal (suc m) (suc n) e = let h : m ≡ n = cc in ap suc h

module _ {A : Type 0} (size : A → ℕ) {code : ℤ} where
  accepted_code : {v : Verdict A} → Refuses Low v → code ≡ code_of size v → {n : ℕ} → code ≡ pos n → (a : A) × (v ≡ accepted a) × (size a ≡ n)
  accepted_code (granted {a}) e {n} h = let same : size a ≡ n = cc in (a, refl, same)
  accepted_code (denied {n = m} l) e {n} h = absurd (low_code m n l.0 (sym e ∙ h))

  refused_code : {v : Verdict A} → Refuses Low v → code ≡ code_of size v → {n : ℕ} → 1 ≤ n → (code ≡ neg_ℤ (pos n)) ↔ (v ≡ refused n)
  refused_code (granted {a}) e {n} l = (λ h. absurd (low_code n (size a) l (sym h ∙ e)), λ h. absurd (refused≢accepted (sym h)))
  refused_code (denied {n = m} r) e {n} l = (
    λ h. ap refused (same_refusal m n (sym e ∙ h)),
    λ h. let same : m ≡ n = cc in e ∙ ap (λ (k : ℕ). neg_ℤ (pos k)) same,
  )

  -- demand 1, from the code and what it says of the slices
  first : {v : Verdict A} {Row : ℕ → Type 0} {Answer : A → ℕ → Type 0} {Unchanged : Type 0} → Refuses Row v → code ≡ code_of size v
      → ((a : A) → v ≡ accepted a → Answer a (size a)) → ((n : ℕ) → v ≡ refused n → Unchanged) → Demand1 v Answer Row Unchanged code
  first (granted {a}) e f h = rw e (answers refl (f a refl))
  first (denied {n} r) e f h = rw e (refuses refl r (h n refl))

-- the same where what is due is made of what was asked
module _ {A B : Type 0} (size : B → ℕ) {code : ℤ} (v : Verdict A) (f : A → B) where
  pub asked_first : {w : Verdict B} {Row : ℕ → Type 0} {Answer : A → ℕ → Type 0} {Unchanged : Type 0} → w ≡ (v then λ a. accepted (f a)) → Refuses Row w
      → code ≡ code_of size w → ((a : A) → v ≡ accepted a → w ≡ accepted (f a) → Answer a (size (f a))) → ((n : ℕ) → w ≡ refused n → Unchanged)
      → Demand1 v Answer Row Unchanged code
  asked_first {w} {Row} {Answer} {Unchanged} made rows e told unchanged = go v refl made
    where
      go : (u : Verdict A) → v ≡ u → w ≡ (u then λ a. accepted (f a)) → Demand1 u Answer Row Unchanged code
      go (accepted a) p q = rw (e ∙ ap (code_of size) q) (answers {a = a} refl (told a p q))
      go (refused n) p q = rw (e ∙ ap (code_of size) q) (refuses {n = n} refl (refusal_number rows q) (unchanged n q))

-- the conversions
converts : (turn : List ℕ → Verdict (List ℕ)) {back : List ℕ → Verdict (List ℕ)} {Row : ℕ → Type 0} (given out : List ℕ) {out' : List ℕ} {code : ℤ}
    {r : R.Result ℕ Refusal}
    → Refuses Row (fitting (turn given) out) → Refuses Low (fitting (turn given) out)
    → code ≡ code_of length (fitting (turn given) out) → out' ≡ written (fitting (turn given) out) out
    → as_verdict r ≡ counted (fitting (turn given) out) → TurnsBack back given (λ n. r ≡ R.Ok n) out'
    → Converts turn back Row given out code out'
converts turn given out rows low e w told back = record {
  demand_1 = first length rows e (λ l p. (refl, rw p at w)) (λ n p. rw p at w);
  demand_2 = λ n h. let (l, p, m) = accepted_code length low e h in back n (same_verdict _ (R.Ok n) (told ∙ ap counted p ∙ ap accepted m));
}

pub grammar_to_block_lem : (sheet out : List ℕ) {out' : List ℕ} {code : ℤ} {r : R.Result ℕ Refusal}
    → code ≡ code_of length (fitting (grammar_to_block sheet) out)
    → out' ≡ written (fitting (grammar_to_block sheet) out) out → as_verdict r ≡ counted (fitting (grammar_to_block sheet) out)
    → TurnsBack grammar_to_sheet sheet (λ n. r ≡ R.Ok n) out' → D.GrammarToBlock sheet out code out'
grammar_to_block_lem sheet out = converts grammar_to_block sheet out (grammar_to_block_row sheet out) (low_grammar_to_block sheet out)

pub grammar_to_sheet_lem : (block out : List ℕ) {out' : List ℕ} {code : ℤ} {r : R.Result ℕ Refusal}
    → code ≡ code_of length (fitting (grammar_to_sheet block) out)
    → out' ≡ written (fitting (grammar_to_sheet block) out) out → as_verdict r ≡ counted (fitting (grammar_to_sheet block) out)
    → TurnsBack grammar_to_block block (λ n. r ≡ R.Ok n) out' → D.GrammarToSheet block out code out'
grammar_to_sheet_lem block out = converts grammar_to_sheet block out (grammar_to_sheet_row block out) (low_grammar_to_sheet block out)

-- an office sheet: what was written is the block of the converted grammar
office_result : (sheet : List ℕ) {l : List ℕ} → office_to_block sheet ≡ accepted l → (o : Office) × (office_sheet sheet ≡ accepted o) × Result o l
unfolding office_to_block grammar_block
office_result sheet e =
    P.granted (office_grammar sheet) _ e λ o p q.
    let l = limited sheet p in
    let marked : marked_block (block_of_marked (convert_marked o)) ≡ accepted (convert_marked o) = result_accepted o l.valid l.symbols l.rules in (
      o,
      l.read,
      rw (← accepted_is q) (record
          { marked = marked; grammar = rw marked (ap accepted (marked_grammar o)); matching = derivations_match o l.valid }),
    )

pub office_to_block_lem : (sheet out : List ℕ) {out' : List ℕ} {code : ℤ} → code ≡ code_of length (fitting (office_to_block sheet) out)
    → out' ≡ written (fitting (office_to_block sheet) out) out → D.OfficeToBlock sheet out code out'
unfolding fitting
office_to_block_lem sheet out {out'} e w = record {
  demand_1 = first length (office_to_block_row sheet out) e (λ l p. (refl, rw p at w)) (λ n p. rw p at w);
  result = λ n h. let (l, p, m) = accepted_code length (low_office_to_block sheet out) e h in go n l p m;
}
  where
    go : (n : ℕ) (l : List ℕ) → fitting (office_to_block sheet) out ≡ accepted l → length l ≡ n
        → (o : Office) × (office_sheet sheet ≡ accepted o) × Result o (take n out')
    go n l p m =
        let front : take n out' ≡ l = rw (rw p at w) (take_at l (drop (length l) out) n m) in
        P.granted (office_to_block sheet) _ p λ k a b.
        let same : k ≡ l = accepted_is (accepted_else (ltb (length out) (length k)) 43 (accepted k) b).1 in
        rw front (office_result sheet (rw same at a))

pub utterance_to_block_lem : (grammar sheet out : List ℕ) {out' : List ℕ} {code : ℤ} {r : R.Result ℕ Refusal}
    → code ≡ code_of length (fitting (utterance_to_block grammar sheet) out) → out' ≡ written (fitting (utterance_to_block grammar sheet) out) out
    → as_verdict r ≡ counted (fitting (utterance_to_block grammar sheet) out)
    → TurnsBack (utterance_to_sheet grammar) sheet (λ n. r ≡ R.Ok n) out' → D.UtteranceToBlock grammar sheet out code out'
utterance_to_block_lem grammar sheet out =
    converts (utterance_to_block grammar) sheet out (utterance_to_block_row grammar sheet out) (low_utterance_to_block grammar sheet out)

pub utterance_to_sheet_lem : (grammar block out : List ℕ) {out' : List ℕ} {code : ℤ} {r : R.Result ℕ Refusal}
    → code ≡ code_of length (fitting (utterance_to_sheet grammar block) out) → out' ≡ written (fitting (utterance_to_sheet grammar block) out) out
    → as_verdict r ≡ counted (fitting (utterance_to_sheet grammar block) out)
    → TurnsBack (utterance_to_block grammar) block (λ n. r ≡ R.Ok n) out' → D.UtteranceToSheet grammar block out code out'
utterance_to_sheet_lem grammar block out =
    converts (utterance_to_sheet grammar) block out (utterance_to_sheet_row grammar block out) (low_utterance_to_sheet grammar block out)

-- the listing
module _ (l : Limits) (grammar utterance : List ℕ) (N : ℕ) (work out : List ℕ) where
  abbrev due : Verdict (List (List ℕ))
  due = list l grammar utterance N (length work) (length out)

  lists_row : (Row : ℕ → Type 0) {code : ℤ} {work' out' : List ℕ} → Refuses (GrammarBlockRow ∪ HeardBlockRow ∪ Row) due → code ≡ code_of length due
      → work' ≡ work_after due work → out' ≡ output_after due out → D.Lists l Row grammar utterance N work out code work' out'
  lists_row Row {work' = work'} {out'} rows e works writes =
      asked_first length (asked_listing l grammar utterance N (length work) (length out)) (readings_of N)
      (list_asked l grammar utterance N (length work) (length out)) rows e
      (λ b p q.
      let (is-g, is-h, _) = asked_out l grammar utterance N (length work) (length out) {g = b.0} {h = b.1} p in
      ranked_list l grammar utterance N work out (λ n. n ≡ length (readings_of N b)) work' out' works writes is-g is-h q refl)
      (λ n p. (rw p at works, rw p at writes))

  lists_least : {code : ℤ} {work' out' : List ℕ} → code ≡ code_of length due → work' ≡ work_after due work → out' ≡ output_after due out
      → Within l grammar utterance N → Demand3 grammar utterance N work out (λ m. code ≡ pos m) work' out'
  lists_least {code} {work'} {out'} e works writes =
      demand_3 l grammar utterance N work out (λ m. code ≡ pos m) (λ ls p. e ∙ ap (code_of length) p) work' out' works writes

module _ (grammar utterance : List ℕ) (N : ℕ) (work out : List ℕ) where
  pub lists : {code : ℤ} {work' out' : List ℕ} → code ≡ code_of length (due library grammar utterance N work out)
      → work' ≡ work_after (due library grammar utterance N work out) work → out' ≡ output_after (due library grammar utterance N work out) out
      → D.Listing grammar utterance N work out code work' out'
  lists {code} {work'} {out'} e works writes = record {
    demand_1 = lists_row library grammar utterance N work out ListingRow (library_row grammar utterance N (length work) (length out)) e works writes;
    demand_3 = in_library grammar utterance N work out (λ m. code ≡ pos m) work' out'
        (lists_least library grammar utterance N work out e works writes);
  }

  pub panel_lists : {code : ℤ} {work' out' : List ℕ} → code ≡ code_of length (due panel grammar utterance N work out)
      → work' ≡ work_after (due panel grammar utterance N work out) work → out' ≡ output_after (due panel grammar utterance N work out) out
      → D.PanelListing grammar utterance N work out code work' out'
  panel_lists e works writes = record {
    demand_1 = lists_row panel grammar utterance N work out PanelRow (panel_row grammar utterance N (length work) (length out)) e works writes;
    demand_3 = lists_least panel grammar utterance N work out e works writes;
  }

-- the check
code_passes : (v : Verdict Tree) → accepted tt ≡ passed v → code_of (λ d. 0) v ≡ pos 0
code_passes (accepted d) e = refl
code_passes (refused n) e = absurd (refused≢accepted (sym e))

module _ (grammar utterance reading : List ℕ) where
  pub checks : {code : ℤ} {r : R.Result (Unit {0}) Refusal} → Bytes reading → code ≡ code_of (λ d. 0) (check grammar utterance reading)
      → as_verdict r ≡ passed (check grammar utterance reading) → (r ≡ R.Ok tt) ↔ OfDerivation grammar utterance reading
      → D.Check grammar utterance reading code
  checks {code} {r} bytes e told passes =
      let low = low_check grammar utterance reading in record {
        due = check grammar utterance reading;
        judgement = judged_so grammar utterance reading bytes;
        demand_1 = first (λ d. 0) (check_row grammar utterance reading) e (λ d p. refl) (λ n p. tt);
        demand_2 = (
          λ h. let (d, p, m) = accepted_code (λ d. 0) low e h in passes.0 (same_verdict r (R.Ok tt) (told ∙ ap passed p)),
          λ o. e ∙ code_passes (check grammar utterance reading) (sym (ap as_verdict (passes.1 o)) ∙ told),
        );
        no_walk = Iff.trans (refused_code (λ d. 0) low e (omega arith)) (refused_34 grammar utterance reading);
        other_weight = Iff.trans (refused_code (λ d. 0) low e (omega arith)) (refused_35 grammar utterance reading);
        surplus = Iff.trans (refused_code (λ d. 0) low e (omega arith)) (refused_36 grammar utterance reading);
      }

-- the chance: what is accepted was written
module _ (grammar heard reading shares : List ℕ) where
  pub chances : {code : ℤ} {float float' : Float} {r : R.Result Float Refusal} → Bytes reading → code ≡ code_of (λ x. 0) (chance grammar heard reading shares)
      → float' ≡ chance_after (chance grammar heard reading shares) float → as_verdict r ≡ chance grammar heard reading shares
      → ((x : Float) → r ≡ R.Ok x → Shown grammar heard reading shares x)
      → D.Chance grammar heard reading shares float code float'
  chances {float = float} {r = r} bytes e w told shown = record {
    due = check grammar heard reading;
    judgement = judged_so grammar heard reading bytes;
    demand_1 = asked_first (λ x. 0) (asked_chance grammar shares (check grammar heard reading)) (λ t. product_of one (shares_of shares (walk t)))
        (chance_asked grammar heard reading shares) (chance_row grammar heard reading shares) e
        (λ t p q. (refl, (let is = w ∙ ap (λ v. chance_after v float) q in rw is (shown _ (same_verdict r (R.Ok _) (told ∙ q))))))
        (λ n p. w ∙ rw p);
  }
