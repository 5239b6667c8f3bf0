-- Every answer fits a C number: results are at most 1,539 long, and refusals from 1 to 63. Assumes nothing.
use mathlib.Core.Bool.{Bool, true, false}
use mathlib.Core.Logic.{⊎_elim}
use mathlib.Core.Path.{◌≡◌, refl}
use mathlib.Core.List.{List}
use mathlib.Core.Option as O
use mathlib.Core.Option.{Option, some}
use Prim.Native.Nat.{ℕ, ◌*◌, ◌≤◌}
use native.Mathlib.Omega.{arith}
use lib.Dec.{ltb}
use lib.ListN.{length}
use Rattle.bits.specs.Bits.{pick}
use Rattle.packing.specs.Meaning.{Grammar, Marked, Utterance, edges}
use Rattle.packing.specs.Parse.{Verdict, accepted, refused, ◌then◌}
use Rattle.packing.specs.Grammar.{grammar_block, marked_block, marked_sheet, block_of_marked, sheet_of_marked}
use Rattle.packing.specs.Utterance.{utterance_block, utterance_sheet, utterance_entries, sheet_of_utterance}
use Rattle.packing.specs.Conversion.{grammar_to_block, grammar_to_sheet, utterance_to_block, utterance_to_sheet, fitting}
use Rattle.packing.specs.Rows.{Between, ◌∪◌, GrammarBlockRow, HeardBlockRow, ListingRow, PanelRow}
use Rattle.packing.specs.Valid.{ValidMarked, ValidUtterance}
use Rattle.packing.proofs.Bounds.{length_slots}
use Rattle.packing.proofs.Widths.{grammar_length, utterance_length, valid_words}
use Rattle.packing.proofs.Whole.{grammar_block_out, marked_block_out, marked_sheet_out, sheet_length, utterance_block_out, utterance_sheet_out}
use Rattle.packing.proofs.Refusals.{
  Refuses,
  granted,
  denied,
  Low,
  wider,
  low_both,
  grammar_to_block_row,
  grammar_to_sheet_row,
  utterance_to_block_row,
  utterance_to_sheet_row,
}
use Rattle.office.specs.Conversion.{convert_marked}
use Rattle.office_conversion.specs.Limits.{office_grammar}
use Rattle.office_conversion.proofs.Limits.{limited}
use Rattle.office_block.specs.Block.{office_to_block}
use Rattle.office_block.proofs.Refused.{office_to_block_row}
use Rattle.office_theory.proofs.Accepted.{marked_valid}
use Rattle.checker.specs.Check.{check}
use Rattle.checker.proofs.Refused.{check_row}
use Rattle.chance.specs.Answer.{chance}
use Rattle.chance.proofs.Shown.{chance_row}
use Rattle.chart.specs.WorkTable.{table_size}
use Rattle.listing.specs.Conditions.{library, panel}
use Rattle.listing.specs.Listing.{list}
use Rattle.listing_limits.specs.declared.Limits.{Limits}
use Rattle.listing.proofs.Accepted.{accepted_few}
use Rattle.listing.proofs.Refused.{library_row, panel_row}
use Rattle.cost_changes.specs.Listed.{margins_of}
use Rattle.word_margins.specs.Conditions.{margins_conditions}
use Rattle.word_margins.specs.WordMargins as Again
use Rattle.word_margins.proofs.Refused.{margins_row, few_margins}
use Rattle.phrases.proofs.Least.{Property, LeastOrNone, nothing, first}
use Rattle.specimen.specs.Conditions.{asked}
use Rattle.specimen.proofs.Asked.{asked_out, asked_row}
use Rattle.spireyerba.proofs.Searches.{Search}
use Rattle.specimen.specs.Specimen.{string_length}
use Rattle.spireyerba.proofs.Codes.{Small, small_size, small_refusal}

-- a result of at most 1,539
data Short {A : Type 0} : Verdict (List A) → Type 0 where
  short : {l : List A} → length l ≤ 1539 → Short (accepted l)
  none : {n : ℕ} → Short (refused n)

fitting_short : {v : Verdict (List ℕ)} (out : List ℕ) → Short v → Short (fitting v out)
unfolding fitting
fitting_short out none = none
fitting_short out (short {l} h) = go (ltb (length out) (length l))
  where
    go : (b : Bool) → Short (pick b (refused 43) (accepted l))
    go true = none
    go false = short h

then_short : {A B : Type 0} (v : Verdict A) (k : A → Verdict (List B)) → ((a : A) → v ≡ accepted a → Short (k a)) → Short (v then k)
then_short (accepted a) k h = h a refl
then_short (refused n) k h = none

-- whether it has marks or not
more_marked : (b : Bool) (n : ℕ) → pick b n 0 ≤ n
more_marked false n = omega arith
more_marked true n = omega arith

block_short : (m : Marked) → ValidMarked m → length (block_of_marked m) ≤ 1539
block_short m v = omega (arith, grammar_length m v, more_marked m.marking 32)

sheet_short : (m : Marked) → ValidMarked m → length (sheet_of_marked m) ≤ 1539
sheet_short m v = omega (arith, sheet_length m v, more_marked m.marking 256)

slots_short : (W : ℕ) (u : Utterance) → ValidUtterance W u → length (sheet_of_utterance W u) ≤ 1539
unfolding sheet_of_utterance utterance_entries
slots_short W u v = omega (arith, length_slots W u v.1, v.0.1)

-- every refusal is from 1 to 63: each row is
low_sheet : {l m : ℕ} → 1 ≤ l → m ≤ 63 → (n : ℕ) → (Between l m ∪ Between 41 42) n → Low n
low_sheet h k n = ⊎_elim (λ r. omega (arith, r)) (λ r. omega (arith, r))

pub low_grammar_to_block : (t out : List ℕ) → Refuses Low (fitting (grammar_to_block t) out)
low_grammar_to_block t out = wider (low_both (low_sheet (omega arith) (omega arith)) (λ n r. omega (arith, r))) (grammar_to_block_row t out)

pub low_grammar_to_sheet : (s out : List ℕ) → Refuses Low (fitting (grammar_to_sheet s) out)
low_grammar_to_sheet s out = wider (low_both (λ n r. omega (arith, r)) (λ n r. omega (arith, r))) (grammar_to_sheet_row s out)

pub low_office_to_block : (s out : List ℕ) → Refuses Low (fitting (office_to_block s) out)
low_office_to_block s out =
    wider (low_both (low_both (low_both (low_sheet (omega arith) (omega arith)) (λ n r. omega (arith, r))) (λ n r. omega (arith, r))) (λ n r. omega (arith, r)))
    (office_to_block_row s out)

pub low_utterance_to_block : (s t out : List ℕ) → Refuses Low (fitting (utterance_to_block s t) out)
low_utterance_to_block s t out =
    wider (low_both (low_both (λ n r. omega (arith, r)) (low_sheet (omega arith) (omega arith))) (λ n r. omega (arith, r)))
    (utterance_to_block_row s t out)

low_three : {Row Last : ℕ → Type 0} → ((n : ℕ) → Row n → Low n) → ((n : ℕ) → Last n → Low n) → (n : ℕ) → (GrammarBlockRow ∪ Row ∪ Last) n → Low n
low_three f l = low_both (low_both (λ n r. omega (arith, r)) f) l

low_heard : (n : ℕ) → HeardBlockRow n → Low n
low_heard = low_both (λ n r. omega (arith, r)) (λ n r. omega (arith, r))

pub low_utterance_to_sheet : (s t out : List ℕ) → Refuses Low (fitting (utterance_to_sheet s t) out)
low_utterance_to_sheet s t out = wider (low_three (λ n r. omega (arith, r)) (λ n r. omega (arith, r))) (utterance_to_sheet_row s t out)

pub low_listing : (n : ℕ) → (GrammarBlockRow ∪ HeardBlockRow ∪ ListingRow) n → Low n
low_listing = low_three low_heard (λ n r. omega (arith, r))

low_panel : (n : ℕ) → (GrammarBlockRow ∪ HeardBlockRow ∪ PanelRow) n → Low n
low_panel = low_three low_heard (low_both (λ n r. omega (arith, r)) (λ n r. omega (arith, r)))

pub low_check : (grammar heard reading : List ℕ) → Refuses Low (check grammar heard reading)
low_check grammar heard reading = wider (low_three low_heard (λ n r. omega (arith, r))) (check_row grammar heard reading)

low_asked : (most : ℕ) (s : List ℕ) (n out : ℕ) → Refuses Low (asked most s n out)
low_asked most s n out = wider (low_both (λ n r. omega (arith, r)) (λ n r. omega (arith, r))) (asked_row most s n out)

-- what is short, with a low refusal, is a small answer
small : {A : Type 0} {v : Verdict (List A)} → Short v → Refuses Low v → Small length v
small (short {l} h) r = small_size {a = l} (omega arith)
small none (denied {n} h) = small_refusal {n = n} (omega arith)

pub small_grammar_block : (t out : List ℕ) → Small length (fitting (grammar_to_block t) out)
unfolding grammar_to_block
small_grammar_block t out =
    small (fitting_short out (then_short (marked_sheet t) _ (λ m e. short (block_short m (marked_sheet_out t m e).0)))) (low_grammar_to_block t out)

pub small_grammar_sheet : (s out : List ℕ) → Small length (fitting (grammar_to_sheet s) out)
unfolding grammar_to_sheet
small_grammar_sheet s out =
    small (fitting_short out (then_short (marked_block s) _ (λ m e. short (sheet_short m (marked_block_out s m e).0)))) (low_grammar_to_sheet s out)

pub small_office_block : (s out : List ℕ) → Small length (fitting (office_to_block s) out)
unfolding office_to_block
small_office_block s out =
    small (fitting_short out (then_short (office_grammar s) _ (λ o e.
    let l = limited s e in
    short (block_short (convert_marked o) (marked_valid o l.valid l.symbols l.rules))))) (low_office_to_block s out)

pub small_utterance_block : (s t out : List ℕ) → Small length (fitting (utterance_to_block s t) out)
unfolding utterance_to_block
small_utterance_block s t out =
    small (fitting_short out (then_short (grammar_block s) _ (λ g e. then_short (utterance_sheet g.words t) _ (λ u f.
    let w = valid_words g (grammar_block_out s g e).0 in
    short (omega (arith, utterance_length g.words w.0 w.1 u (utterance_sheet_out g.words t u f).0)))))) (low_utterance_to_block s t out)

pub small_utterance_sheet : (s t out : List ℕ) → Small length (fitting (utterance_to_sheet s t) out)
unfolding utterance_to_sheet
small_utterance_sheet s t out =
    small (fitting_short out (then_short (grammar_block s) _ (λ g e. then_short (utterance_block g.words t) _ (λ u f.
    short (slots_short g.words u (utterance_block_out g.words t u f).0))))) (low_utterance_to_sheet s t out)

-- the specimen and the next phrase: an accepted length is at most 24, and a string that is found has it
found_small : {P : Property} {n : ℕ} {o : Option (List ℕ)} → ((s : List ℕ) → P s → length s ≡ n) → LeastOrNone P o → n ≤ 24
    → Small string_length (accepted o)
found_small f (nothing never) h = small_size {a = O.none} (omega arith)
found_small f (first {s} (p, l)) h = small_size {a = some s} (omega (arith, f s p))

module _ (most : ℕ) (few : most ≤ 24) (s : List ℕ) (n out : ℕ) {find : Grammar → Option (List ℕ)} (search : Search n find) where
  pub strings_small : Small string_length (asked most s n out then λ g. accepted (find g))
  strings_small = go refl (low_asked most s n out)
    where
      go : {v : Verdict Grammar} → asked most s n out ≡ v → Refuses Low v → Small string_length (v then λ g. accepted (find g))
      go e (granted {a = g}) =
          let (p, h, _) = asked_out most s n out g e in
          found_small {P = search.Sought g} (search.as_long g) (search.least g (grammar_block_out s g p).0) (omega arith)
      go e (denied {n = m} l) = small_refusal {n = m} (omega arith)

-- an answer whose code is 0
answers_low : {A : Type 0} {v : Verdict A} → Refuses Low v → Small (λ a. 0) v
answers_low (granted {a}) = small_size {a = a} (omega arith)
answers_low (denied {n} l) = small_refusal {n = n} (omega arith)

-- the check

pub check_small : (grammar heard reading : List ℕ) → Small (λ d. 0) (check grammar heard reading)
check_small grammar heard reading = answers_low (low_check grammar heard reading)

-- the chance
low_chance : (grammar heard reading shares : List ℕ) → Refuses Low (chance grammar heard reading shares)
low_chance grammar heard reading shares =
    wider (low_both (low_three low_heard (λ n r. omega (arith, r))) (λ n r. omega (arith, r))) (chance_row grammar heard reading shares)

pub chance_small : (grammar heard reading shares : List ℕ) → Small (λ x. 0) (chance grammar heard reading shares)
chance_small grammar heard reading shares = answers_low (low_chance grammar heard reading shares)

-- the listing: at most 256 readings
list_small : (l : Limits) (grammar heard : List ℕ) (N work out : ℕ) → Refuses Low (list l grammar heard N work out)
    → Small length (list l grammar heard N work out)
list_small l grammar heard N work out low = go refl low
  where
    go : {v : Verdict (List (List ℕ))} → list l grammar heard N work out ≡ v → Refuses Low v → Small length v
    go e (granted {a}) = small_size {a = a} (omega (arith, accepted_few l grammar heard N work out e))
    go e (denied {n} l) = small_refusal {n = n} (omega arith)

module _ (grammar heard : List ℕ) (N work out : ℕ) where
  pub library_small : Small length (list library grammar heard N work out)
  library_small = list_small library grammar heard N work out (wider low_listing (library_row grammar heard N work out))

  pub panel_small : Small length (list panel grammar heard N work out)
  panel_small = list_small panel grammar heard N work out (wider low_panel (panel_row grammar heard N work out))

-- the words to listen to again: at most 168
pub margins_small : (grammar utterance : List ℕ) (work out : ℕ) → Small length (Again.margins grammar utterance work out)
unfolding Again.margins Again.listed margins_conditions
margins_small grammar utterance work out =
    small
    (then_short (grammar_block grammar) _ (λ g e. then_short (utterance_block g.words utterance) _ (λ u f.
    go (ltb work (table_size g.symbols (length u) 1)) (ltb out (4 * length (edges u))) (g, u)
    (few_margins g.words g u (utterance_block_out g.words utterance u f).0))))
    (wider (low_three (λ n r. omega (arith, r)) (low_both (λ n r. omega (arith, r)) (λ n r. omega (arith, r)))) (margins_row grammar utterance work out))
  where
    go : (b c : Bool) (x : Grammar × Utterance) → length (margins_of x.0 x.1) ≤ 168
        → Short (pick b (refused 22) (pick c (refused 43) (accepted x)) then λ x. accepted (margins_of x.0 x.1))
    go true c x h = none
    go false true x h = none
    go false false x h = short {l = margins_of x.0 x.1} (omega arith)
