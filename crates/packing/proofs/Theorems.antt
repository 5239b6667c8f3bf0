-- The theorems of blocks and sheets. In them a meaning is valid (specs/Valid.antt) if no condition of its row in document 01's
-- "Where each check stands" holds of it, and a list of bytes is one of numbers below 256. They hold since a meaning's entries
-- are taken from a source exactly where its bits, or its values, stand.
-- Assumes nothing.
use mathlib.Core.Path.{◌≡◌, ap, ◌∙◌}
use mathlib.Core.Bool.{true}
use mathlib.Core.Logic.{◌↔◌}
use mathlib.Core.List.{List}
use Prim.Native.Nat.{ℕ, ◌+◌, ◌≤◌}
use lib.ListN.{length}
use Rattle.bits.specs.Bits.{pick, ended}
use Rattle.bits.specs.Fields.{widths}
use Rattle.packing.specs.Meaning.{Marked, Utterance, Reading}
use Rattle.packing.specs.Parse.{parsed, failed, accepted, refused}
use Rattle.packing.specs.Source.{flds}
use Rattle.packing.specs.Grammar.{marked_block, marked_sheet, grammar_block, block_of_marked, sheet_of_marked}
use Rattle.packing.specs.Utterance.{utterance_block, utterance_sheet, block_of_utterance, sheet_of_utterance}
use Rattle.packing.specs.Reading.{reading_from, reading_entries, block_of_reading}
use Rattle.packing.specs.Conversion.{grammar_to_block, grammar_to_sheet, utterance_to_block, utterance_to_sheet}
use Rattle.packing.specs.Rows.{GrammarBlockRow, UtteranceBlockRow, ReadingFieldsRow, GrammarSheetRow, UtteranceSheetRow}
use Rattle.packing.specs.Valid.{Bytes, ValidMarked, ValidUtterance, ValidReading}
use Rattle.packing.proofs.Parse.{granted, accepted_is}
use Rattle.packing.proofs.Refusals.{
  refusal_number,
  stop_number,
  grammar_block_row,
  grammar_sheet_row,
  utterance_block_row,
  utterance_sheet_row,
  reading_row,
}
use Rattle.packing.proofs.Widths.{grammar_length, utterance_length, reading_length_lem, valid_words}
use Rattle.packing.proofs.Whole.{
  grammar_block_out,
  marked_block_out,
  marked_block_back,
  marked_sheet_out,
  marked_sheet_back,
  utterance_block_out,
  utterance_block_back,
  utterance_sheet_out,
  utterance_sheet_back,
  reading_block_out,
  reading_block_back,
}

-- "A block is accepted if no condition of its row below holds." A block, or a sheet, is accepted with the meaning g exactly if
-- g is valid and the block, or the sheet, is the one of g: refusals are exact, and nothing else has this meaning.
-- Grammars, of either kind:
pub grammar_block_accepted : (s : List ℕ) (m : Marked) → Bytes s → (marked_block s ≡ accepted m) ↔ (ValidMarked m × (s ≡ block_of_marked m))
grammar_block_accepted s m y =
    (λ e. let (v, p) = marked_block_out s m e in (v, p y), λ (v, p). ap marked_block p ∙ marked_block_back m v)

pub grammar_sheet_accepted : (t : List ℕ) (m : Marked) → (marked_sheet t ≡ accepted m) ↔ (ValidMarked m × (t ≡ sheet_of_marked m))
grammar_sheet_accepted t m = (marked_sheet_out t m, λ (v, p). ap marked_sheet p ∙ marked_sheet_back m v)

-- The same of utterances, under a grammar of W words.
module _ (W : ℕ) where
  pub utterance_block_accepted : (s : List ℕ) (u : Utterance) → 1 ≤ W → W ≤ 200 → Bytes s
      → (utterance_block W s ≡ accepted u) ↔ (ValidUtterance W u × (s ≡ block_of_utterance W u))
  utterance_block_accepted s u l h y =
      (λ e. let (v, p) = utterance_block_out W s u e in (v, p y), λ (v, p). ap (utterance_block W) p ∙ utterance_block_back W u l h v)

  pub utterance_sheet_accepted : (t : List ℕ) (u : Utterance) → (utterance_sheet W t ≡ accepted u) ↔ (ValidUtterance W u × (t ≡ sheet_of_utterance W u))
  utterance_sheet_accepted t u = (utterance_sheet_out W t u, λ (v, p). ap (utterance_sheet W) p ∙ utterance_sheet_back W u v)

-- A reading block of n slots under a grammar of R rules, whose fields are read to the end of the block, is the packing of its
-- meaning, and the other way round.
pub reading_block_accepted : (n R : ℕ) (s : List ℕ) (d : Reading) → Bytes s
    → ((at : ℕ) × (reading_from n R s ≡ parsed d at) × (ended s at ≡ true)) ↔ (ValidReading R d × (d.slots ≡ n) × (s ≡ block_of_reading R d))
reading_block_accepted n R s d y = (λ (at, e, end). let (v, m, p) = reading_block_out R n s d at e end in (v, m, p y), back)
  where
    back : ValidReading R d × (d.slots ≡ n) × (s ≡ block_of_reading R d) → (at : ℕ) × (reading_from n R s ≡ parsed d at) × (ended s at ≡ true)
    back (v, m, p) = let (e, end) = reading_block_back R d v in (widths (flds (reading_entries R d)), rw (← m, p) e, rw p end)

-- Demand 2. The block of an accepted sheet is accepted, and turned back it is that sheet.
pub grammar_sheet_and_back : (sheet block : List ℕ) → grammar_to_block sheet ≡ accepted block → grammar_to_sheet block ≡ accepted sheet
unfolding grammar_to_block grammar_to_sheet
grammar_sheet_and_back sheet block e =
    granted (marked_sheet sheet) _ e λ m p q.
    let (v, s) = marked_sheet_out sheet m p in
    rw (← accepted_is q, marked_block_back m v, s)

-- The sheet of an accepted block is accepted, and packed again it is that block.
pub grammar_block_and_back : (block sheet : List ℕ) → Bytes block → grammar_to_sheet block ≡ accepted sheet → grammar_to_block sheet ≡ accepted block
unfolding grammar_to_block grammar_to_sheet
grammar_block_and_back block sheet y e =
    granted (marked_block block) _ e λ m p q.
    let (v, s) = marked_block_out block m p in
    rw (← accepted_is q, marked_sheet_back m v, s y)

-- The same of utterances under a grammar block.
pub utterance_sheet_and_back : (grammar sheet block : List ℕ) → utterance_to_block grammar sheet ≡ accepted block → utterance_to_sheet grammar block
    ≡ accepted sheet
unfolding utterance_to_block utterance_to_sheet
utterance_sheet_and_back grammar sheet block e =
    granted (grammar_block grammar) _ e λ g a f.
    granted (utterance_sheet g.words sheet) _ f λ u p q.
    let (l, h) = valid_words g (grammar_block_out grammar g a).0 in
    let (v, s) = utterance_sheet_out g.words sheet u p in
    rw (a, ← accepted_is q, utterance_block_back g.words u l h v, s)

pub utterance_block_and_back : (grammar block sheet : List ℕ) → Bytes block → utterance_to_sheet grammar block ≡ accepted sheet
    → utterance_to_block grammar sheet ≡ accepted block
unfolding utterance_to_block utterance_to_sheet
utterance_block_and_back grammar block sheet y e =
    granted (grammar_block grammar) _ e λ g a f.
    granted (utterance_block g.words block) _ f λ u p q.
    let (v, s) = utterance_block_out g.words block u p in
    rw (a, ← accepted_is q, utterance_sheet_back g.words u v, s y)

-- "Longest: grammar 1,028 bytes, utterance 515, reading 52." Marks are 32 bytes more.
pub longest_grammar : (s : List ℕ) (m : Marked) → Bytes s → marked_block s ≡ accepted m → length s ≤ 1028 + pick m.marking 32 0
longest_grammar s m y e = let (v, p) = marked_block_out s m e in rw (p y) (grammar_length m v)

pub longest_utterance : (W : ℕ) (s : List ℕ) (u : Utterance) → 1 ≤ W → W ≤ 200 → Bytes s → utterance_block W s ≡ accepted u → length s ≤ 515
longest_utterance W s u l h y e = let (v, p) = utterance_block_out W s u e in rw (p y) (utterance_length W l h u v)

pub longest_reading : (n R : ℕ) (s : List ℕ) (d : Reading) (at : ℕ) → n ≤ 24 → R ≤ 256 → Bytes s → reading_from n R s ≡ parsed d at → ended s at ≡ true
    → length s ≤ 52
longest_reading n R s d at h r y e end =
    let (v, m, p) = reading_block_out R n s d at e end in
    rw (p y) (reading_length_lem R d r (rw m h) v)

-- "Where each check stands": a refusal is a number of its row. In a block 42 does not come, and up to a reading's last field
-- none of 34 to 36.
pub grammar_block_refused : (s : List ℕ) (n : ℕ) → grammar_block s ≡ refused n → GrammarBlockRow n
grammar_block_refused s n = refusal_number (grammar_block_row s)

pub utterance_block_refused : (W : ℕ) (s : List ℕ) (n : ℕ) → utterance_block W s ≡ refused n → UtteranceBlockRow n
utterance_block_refused W s n = refusal_number (utterance_block_row W s)

pub reading_block_refused : (slots R : ℕ) (s : List ℕ) (n : ℕ) → R ≤ 256 → reading_from slots R s ≡ failed n → ReadingFieldsRow n
reading_block_refused slots R s n h = stop_number (reading_row slots R s h)

pub grammar_sheet_refused : (t : List ℕ) (n : ℕ) → marked_sheet t ≡ refused n → GrammarSheetRow n
grammar_sheet_refused t n = refusal_number (grammar_sheet_row t)

pub utterance_sheet_refused : (W : ℕ) (t : List ℕ) (n : ℕ) → utterance_sheet W t ≡ refused n → UtteranceSheetRow n
utterance_sheet_refused W t n = refusal_number (utterance_sheet_row W t)
