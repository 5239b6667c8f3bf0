-- Every refusal of a block, a sheet or a conversion is a number of its rows in document 01's table (specs/Rows): the refusals of
-- each field are, and in a block a value is never above the range of a field whose range is all that its width can hold.
-- Assumes nothing.
use mathlib.Core.Bool.{Bool, true, false, false≢true}
use mathlib.Core.List.{List, [], ◌∷◌, ◌++◌}
use mathlib.Core.Logic.{inl, inr, ⊎_elim}
use mathlib.Core.Path.{◌≡◌, refl}
use Prim.Native.Nat.{ℕ, zero, suc, ◌+◌, ◌-◌, ◌*◌, ◌^◌, ◌≤◌, ◌<◌}
use native.Mathlib.Omega.{arith}
use borrow.Author.Tests.{ltb-true}
use lib.Dec.{ltb, leb, eqb}
use lib.ListN.{length}
use lib.Pow.{pow_mono}
use Rattle.bits.specs.Bits.{pick}
use Rattle.bits.specs.Width.{width_of}
use Rattle.bits.proofs.Num.{field_lt}
use Rattle.packing.specs.Meaning.{Candidate, candidate, Utterance, word}
use Rattle.packing.specs.Parse.{Parse, parsed, failed, ◌⟫◌, Verdict, accepted, refused, ◌then◌, verdict_of, finish}
use Rattle.packing.specs.Source.{Source, bytes, numbers, in_range, field_at, within, Field}
use Rattle.packing.specs.Alike.{any_like, unlike_from}
use Rattle.packing.specs.Grammar.{
  rule_kind,
  rule_word,
  weight_field,
  nothing,
  mark_field,
  symbol,
  first_of,
  second_of,
  rule_from,
  mark_from,
  marked_rule_from,
  marked_alike,
  unfit,
  grammar_from,
  marking_of,
  block_by,
  sheet_by,
  marked_block,
  marked_sheet,
  grammar_block,
}
use Rattle.packing.specs.Utterance.{cost, candidates_from, slot_from, slots_from, utterance_from, utterance_block, utterance_sheet}
use Rattle.packing.specs.Reading.{rule_number, walk_from, reading_from}
use Rattle.packing.specs.Conversion.{grammar_to_block, grammar_to_sheet, utterance_to_block, utterance_to_sheet, fitting}
use Rattle.packing.specs.Rows.{Between, ◌∪◌, GrammarBlockRow, UtteranceBlockRow, ReadingFieldsRow, GrammarSheetRow, UtteranceSheetRow, OutputRow}
use Rattle.packing.proofs.Widths.{byte_width}

-- a refusal on the way, and a refusal at the end, is a number of the row
pub data Stops (Row : ℕ → Type 0) {A : Type 0} : Parse A → Type 0 where
  going : {a : A} {at : ℕ} → Stops Row (parsed a at)
  stopped : {n : ℕ} → Row n → Stops Row (failed n)

pub data Refuses (Row : ℕ → Type 0) {A : Type 0} : Verdict A → Type 0 where
  granted : {a : A} → Refuses Row (accepted a)
  denied : {n : ℕ} → Row n → Refuses Row (refused n)

module _ {Row : ℕ → Type 0} where
  pub stop_number : {A : Type 0} {p : Parse A} {n : ℕ} → Stops Row p → p ≡ failed n → Row n
  stop_number going e = let z : ◌≡◌ {A = ℕ} 0 1 = cc in absurd (omega arith)
  stop_number {n = n} (stopped {n = m} h) e = let same : m ≡ n = cc in rw same at h

  pub refusal_number : {A : Type 0} {v : Verdict A} {n : ℕ} → Refuses Row v → v ≡ refused n → Row n
  refusal_number granted e = let z : ◌≡◌ {A = ℕ} 0 1 = cc in absurd (omega arith)
  refusal_number {n = n} (denied {n = m} h) e = let same : m ≡ n = cc in rw same at h

  pub bind : {A B : Type 0} {p : Parse A} {k : A → ℕ → Parse B} → Stops Row p → ((a : A) (at : ℕ) → Stops Row (k a at)) → Stops Row (p ⟫ k)
  bind (going {a} {at}) h = h a at
  bind (stopped l) h = stopped l

  -- a refusal where a test holds
  pub test : {A : Type 0} (b : Bool) (n : ℕ) {p : Parse A} → (b ≡ true → Row n) → Stops Row p → Stops Row (pick b (failed n) p)
  test true n l h = stopped (l refl)
  test false n l h = h

  pub then_row : {A B : Type 0} {v : Verdict A} {k : A → Verdict B} → Refuses Row v → ((a : A) → v ≡ accepted a → Refuses Row (k a)) → Refuses Row (v then k)
  then_row (granted {a}) h = h a refl
  then_row (denied l) h = denied l

  pub choose_row : {A : Type 0} (b : Bool) {v w : Verdict A} → Refuses Row v → Refuses Row w → Refuses Row (pick b v w)
  choose_row true l h = l
  choose_row false l h = h

  verdict_row : {A : Type 0} {p : Parse A} → Stops Row p → Refuses Row (verdict_of p)
  verdict_row going = granted
  verdict_row (stopped l) = denied l

  pub finish_row : {A : Type 0} {p : Parse A} (end : ℕ → Bool) (n : ℕ) → Row n → Stops Row p → Refuses Row (finish end n p)
  finish_row end n h (going {at = at}) = choose_row (end at) granted (denied h)
  finish_row end n h (stopped l) = denied l

  -- items of which none is like an earlier one
  pub unlike_row : {A : Type 0} {item : ℕ → Parse A} (like : A → A → Bool) {m : ℕ} → ((at : ℕ) → Stops Row (item at)) → Row m
      → (n at : ℕ) (l : List A) → Stops Row (unlike_from item like m n at l)
  unfolding unlike_from
  unlike_row like h r zero at l = going
  unlike_row like {m} h r (suc n) at l = bind (h at) (λ x at. test (any_like like x l) m (λ e. r) (unlike_row like h r n at (l ++ (x ∷ []))))

-- the values that a field of a source can have
abbrev pub Held : Source → Field → ℕ → Type 0
Held (bytes missing s) f v = v < 2 ^ f.width
Held (numbers s) f v = Unit {0}

abbrev pub missing_of : Source → ℕ
missing_of (bytes missing s) = missing
missing_of (numbers s) = 41

-- the refusals of such values are of the row
pub data InRow (Row : ℕ → Type 0) (src : Source) : Field → Type 0 where
  told : {f : Field} → ((v : ℕ) → Held src f v → (f.most < v → Row f.above) × (v < f.least → Row f.below)) → InRow Row src f

module _ {Row : ℕ → Type 0} where
  -- a field with one refusal, which is of the row
  pub ranged : {src : Source} {width least most n : ℕ} → Row n → InRow Row src (within width least most n)
  ranged r = told (λ v h. (λ a. r, λ b. r))

  -- a field whose range is all that its width can hold is never refused in a block
  pub as_wide : {missing : ℕ} {s : List ℕ} {width most n : ℕ} → 2 ^ width ≤ most + 1 → InRow Row (bytes missing s) (within width 0 most n)
  as_wide {width = width} {most} {n} l = told none
    where
      none : (v : ℕ) → v < 2 ^ width → (most < v → Row n) × (v < 0 → Row n)
      none v h = (λ a. absurd (omega arith), λ b. absurd (omega arith))

  in_range_row : {src : Source} (f : Field) (v next : ℕ) → Held src f v → InRow Row src f → Stops Row (in_range f v next)
  unfolding in_range
  in_range_row f v next h (told t) =
      let r = t v h in
      test (ltb f.most v) f.above (λ e. r.0 (ltb-true _ _ e)) (test (ltb v f.least) f.below (λ e. r.1 (ltb-true _ _ e)) going)

  -- what a source refuses in place of a field that is missing, or of a value out of its range
  otherwise : {A : Type 0} (b : Bool) (n : ℕ) {p : Parse A} → Row n → Stops Row p → Stops Row (pick b p (failed n))
  otherwise true n l h = h
  otherwise false n l h = stopped l

  pub field_at_row : (src : Source) (at : ℕ) {f : Field} → Row (missing_of src) → InRow Row src f → Stops Row (field_at src at f)
  unfolding field_at
  field_at_row (bytes missing s) at {f} m t =
      otherwise (leb (at + f.width) (8 * length s)) missing m (in_range_row f _ _ (field_lt s at f.width) t)
  field_at_row (numbers s) at {f} m t = otherwise (ltb at (length s)) 41 m (in_range_row f _ _ tt t)

module _ {Row : ℕ → Type 0} (src : Source) (end : Row (missing_of src)) where
  at_field : (at : ℕ) {f : Field} → InRow Row src f → Stops Row (field_at src at f)
  at_field at t = field_at_row src at end t

  -- grammars: the refusals of S, W and R, of symbols, words and equal rules, of what only a sheet can get wrong, and of its length
  module _ (sizes : Row 3) (symbols : Row 4) (words : Row 5) (equals : Row 6)
      (kinds : InRow Row src rule_kind) (weights : InRow Row src weight_field) (lasts : InRow Row src nothing) (marks : InRow Row src mark_field)
      (marking : Bool) (count : (R : ℕ) → unfit marking src R ≡ true → Row 41) where
    body_row : (S W kind : ℕ) → InRow Row src (first_of S W kind) × InRow Row src (second_of S kind)
    body_row S W kind = go (eqb kind 0)
      where
        go : (b : Bool) → InRow Row src (pick b (symbol S) (rule_word W)) × InRow Row src (pick b (symbol S) nothing)
        go true = (ranged symbols, ranged symbols)
        go false = (ranged words, lasts)

    rule_row : (S W at : ℕ) → Stops Row (rule_from src S W at)
    unfolding rule_from
    rule_row S W at =
        bind (at_field at kinds) (λ kind at. bind (at_field at (ranged symbols)) (λ head at. bind (at_field at weights) (λ w at.
        bind (at_field at (body_row S W kind).0) (λ first at. bind (at_field at (body_row S W kind).1) (λ second at. going)))))

    marked_row : (S W at : ℕ) → Stops Row (marked_rule_from marking src S W at)
    unfolding marked_rule_from
    marked_row S W at = bind (rule_row S W at) (λ r at. bind (mark_row marking at) (λ m at. going))
      where
        mark_row : (b : Bool) (at : ℕ) → Stops Row (mark_from b src at)
        mark_row false at = going
        mark_row true at = at_field at marks

    grammar_row : (at : ℕ) → Stops Row (grammar_from marking src at)
    unfolding grammar_from
    grammar_row at =
        bind (at_field at (ranged sizes)) (λ S at. bind (at_field at (ranged sizes)) (λ W at. bind (at_field at (ranged sizes)) (λ R at.
        test (unfit marking src R) 41 (count R) (bind (unlike_row marked_alike (marked_row S W) equals R at []) (λ rs at. going)))))

  -- utterances: of the counts, of a word that is none or does not ascend, and of a cost
  module _ (counts : Row 13) (words : Row 14) (order : Row 15) (costs : InRow Row src cost) where
    candidates_row : (W n least at : ℕ) (cs : List Candidate) → Stops Row (candidates_from src W n least at cs)
    unfolding candidates_from
    candidates_row W zero least at cs = going
    candidates_row W (suc n) least at cs =
        bind (at_field at (told (λ v h. (λ a. words, λ b. order)))) (λ w at. bind (at_field at costs) (λ c at.
        candidates_row W n (suc w) at (cs ++ (candidate (word w) c ∷ []))))

    slots_row : (W n at : ℕ) (u : Utterance) → Stops Row (slots_from src W n at u)
    unfolding slots_from slot_from
    slots_row W zero at u = going
    slots_row W (suc n) at u =
        bind (bind (at_field at (ranged counts)) (λ m at. candidates_row W m 0 at [])) (λ cs at. slots_row W n at (u ++ (cs ∷ [])))

    utterance_row : (W at : ℕ) → Stops Row (utterance_from src W at)
    unfolding utterance_from
    utterance_row W at = bind (at_field at (ranged counts)) (λ n at. slots_row W n at [])

  walk_row : (R m at : ℕ) (rs : List ℕ) → InRow Row src (rule_number R) → Stops Row (walk_from src R m at rs)
  unfolding walk_from
  walk_row R zero at rs t = going
  walk_row R (suc m) at rs t = bind (at_field at t) (λ r at. walk_row R m at (rs ++ (r ∷ [])) t)

-- the rows of document 01
pub marked_block_row : (s : List ℕ) → Refuses GrammarBlockRow (marked_block s)
unfolding marked_block block_by
marked_block_row s =
    let src : Source = bytes 1 s in
    let end : GrammarBlockRow 1 = (omega arith, omega arith) in
    finish_row _ 7 (omega arith, omega arith) (bind (field_at_row src 0 end (ranged (omega arith, omega arith))) (λ kind at.
    grammar_row src end (omega arith, omega arith) (omega arith, omega arith) (omega arith, omega arith) (omega arith, omega arith)
    (as_wide (omega arith)) (as_wide (omega arith)) (as_wide (omega arith)) (as_wide (omega arith)) (marking_of src) (λ R e. absurd (false≢true e)) at))

pub grammar_block_row : (s : List ℕ) → Refuses GrammarBlockRow (grammar_block s)
unfolding grammar_block
grammar_block_row s = then_row (marked_block_row s) (λ m e. granted)

pub grammar_sheet_row : (s : List ℕ) → Refuses GrammarSheetRow (marked_sheet s)
unfolding marked_sheet sheet_by
grammar_sheet_row s =
    let src : Source = numbers s in
    let short : GrammarSheetRow 41 = inr (omega arith, omega arith) in
    let wrong : GrammarSheetRow 42 = inr (omega arith, omega arith) in
    choose_row (ltb (length s) 3) (denied short) (verdict_row
    (grammar_row src short (inl (omega arith, omega arith)) (inl (omega arith, omega arith)) (inl (omega arith, omega arith)) (inl (omega arith, omega arith))
    (ranged wrong) (ranged wrong) (ranged wrong) (ranged wrong) (marking_of src) (λ R e. short) 0))

pub utterance_block_row : (W : ℕ) (s : List ℕ) → Refuses UtteranceBlockRow (utterance_block W s)
unfolding utterance_block
utterance_block_row W s =
    let src : Source = bytes 11 s in
    let end : UtteranceBlockRow 11 = (omega arith, omega arith) in
    finish_row _ 16 (omega arith, omega arith) (bind (field_at_row src 0 end (ranged (omega arith, omega arith))) (λ kind at.
    utterance_row src end (omega arith, omega arith) (omega arith, omega arith) (omega arith, omega arith) (as_wide (omega arith)) W at))

pub utterance_sheet_row : (W : ℕ) (s : List ℕ) → Refuses UtteranceSheetRow (utterance_sheet W s)
unfolding utterance_sheet
utterance_sheet_row W s =
    let short : UtteranceSheetRow 41 = inr (omega arith, omega arith) in
    finish_row _ 41 short
    (utterance_row (numbers s) short (inl (omega arith, omega arith)) (inl (omega arith, omega arith)) (inl (omega arith, omega arith))
    (ranged (inr (omega arith, omega arith))) W 0)

-- a rule number of at most 8 bits is at most 255
pub reading_row : (n R : ℕ) (s : List ℕ) → R ≤ 256 → Stops ReadingFieldsRow (reading_from n R s)
unfolding reading_from
reading_row n R s h =
    let src : Source = bytes 31 s in
    let end : ReadingFieldsRow 31 = (omega arith, omega arith) in
    let room : 2 ^ width_of (R - 1) ≤ 255 + 1 = pow_mono (byte_width R h) in
    bind (field_at_row src 0 end (ranged (omega arith, omega arith))) (λ kind at.
    bind (field_at_row src at end (ranged (omega arith, omega arith))) (λ m at.
    bind (field_at_row src at end (as_wide (omega arith))) (λ w at.
    bind (walk_row src end R (2 * n - 1) at [] (as_wide room)) (λ rs at. going))))

-- a refusal of one row is one of each wider
pub wider : {P Q : ℕ → Type 0} → ((n : ℕ) → P n → Q n) → {A : Type 0} {v : Verdict A} → Refuses P v → Refuses Q v
wider f granted = granted
wider f (denied {n} r) = denied (f n r)

-- what is refused at one place, or at the next
pub then_rows : {P Q : ℕ → Type 0} {A B : Type 0} {v : Verdict A} {k : A → Verdict B} → Refuses P v → ((a : A) → v ≡ accepted a → Refuses Q (k a))
    → Refuses (P ∪ Q) (v then k)
then_rows r h = then_row (wider (λ n. inl) r) (λ a e. wider (λ n. inr) (h a e))

pub three_rows : {P Q R : ℕ → Type 0} {A B C : Type 0} {v : Verdict A} {k : A → Verdict B} {l : A → B → Verdict C} → Refuses P v
    → ((a : A) → v ≡ accepted a → Refuses Q (k a)) → ((a : A) (b : B) → v ≡ accepted a → k a ≡ accepted b → Refuses R (l a b))
    → Refuses (P ∪ Q ∪ R) (v then λ a. k a then l a)
three_rows r h f =
    then_row (wider (λ n p. inl (inl p)) r) λ a e. then_row (wider (λ n q. inl (inr q)) (h a e)) λ b d. wider (λ n. inr) (f a b e d)

-- the conversions: of what is read, and of the output
pub fitting_row : {Row : ℕ → Type 0} {v : Verdict (List ℕ)} (out : List ℕ) → Refuses Row v → Refuses (Row ∪ OutputRow) (fitting v out)
unfolding fitting
fitting_row out r = then_rows r (λ l e. choose_row (ltb (length out) (length l)) (denied refl) granted)

pub grammar_to_block_row : (t out : List ℕ) → Refuses (GrammarSheetRow ∪ OutputRow) (fitting (grammar_to_block t) out)
unfolding grammar_to_block
grammar_to_block_row t out = fitting_row out (then_row (grammar_sheet_row t) (λ g e. granted))

pub grammar_to_sheet_row : (s out : List ℕ) → Refuses (GrammarBlockRow ∪ OutputRow) (fitting (grammar_to_sheet s) out)
unfolding grammar_to_sheet
grammar_to_sheet_row s out = fitting_row out (then_row (marked_block_row s) (λ m e. granted))

pub utterance_to_block_row : (s t out : List ℕ) → Refuses (GrammarBlockRow ∪ UtteranceSheetRow ∪ OutputRow) (fitting (utterance_to_block s t) out)
unfolding utterance_to_block
utterance_to_block_row s t out =
    fitting_row out (then_rows (grammar_block_row s) (λ g e. then_row (utterance_sheet_row g.words t) (λ u f. granted)))

pub utterance_to_sheet_row : (s t out : List ℕ) → Refuses (GrammarBlockRow ∪ UtteranceBlockRow ∪ OutputRow) (fitting (utterance_to_sheet s t) out)
unfolding utterance_to_sheet
utterance_to_sheet_row s t out =
    fitting_row out (then_rows (grammar_block_row s) (λ g e. then_row (utterance_block_row g.words t) (λ u f. granted)))

-- every row lies between 1 and 63
abbrev pub Low : ℕ → Type 0
Low n = Between 1 63 n

pub low_both : {P Q : ℕ → Type 0} → ((n : ℕ) → P n → Low n) → ((n : ℕ) → Q n → Low n) → (n : ℕ) → (P ∪ Q) n → Low n
low_both f g n = ⊎_elim (f n) (g n)
