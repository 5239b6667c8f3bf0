-- Whole blocks and sheets: entries taken up to the end are all that the block or sheet has.
-- Assumes nothing.
use mathlib.Core.Path.{◌≡◌, refl, sym, ap, ◌∙◌}
use mathlib.Core.Bool.{Bool, true, false, false≢true}
use mathlib.Core.List.{List, [], ◌∷◌, append-nil}
use Prim.Native.Nat.{ℕ, ◌+◌, ◌*◌, ◌≤◌}
use native.Mathlib.Nat.{zero-add}
use native.Mathlib.Omega.{arith}
use borrow.Author.Tests.{eqb-true, eq-eqb, ne_eqb, le-ltb}
use lib.Dec.{ltb, eqb}
use lib.ListN.{length, length-map, drop_of_length-le}
use Rattle.bits.specs.Bits.{pick, pack, field, ended}
use Rattle.bits.specs.Fields.{widths, bits_of_all}
use Rattle.bits.proofs.Fields.{holds_block, block_ended, block_is}
use Rattle.packing.specs.Meaning.{Grammar, Marked, grammar_of, Utterance, Reading}
use Rattle.packing.specs.Parse.{Parse, parsed, ◌⟫◌, accepted}
use Rattle.packing.specs.Source.{bytes, numbers, field_at, Entry, entry, values, flds, value_of}
use Rattle.packing.specs.Grammar.{
  block_kind,
  grammar_from,
  numbers_per_rule,
  kind_number,
  marking_of,
  block_by,
  sheet_by,
  marked_block,
  marked_sheet,
  grammar_block,
  marked_entries,
  kind_entry,
  block_of_marked,
  sheet_of_marked,
}
use Rattle.packing.specs.Utterance.{utterance_from, utterance_block, utterance_sheet, utterance_entries, block_of_utterance, sheet_of_utterance}
use Rattle.packing.specs.Reading.{reading_from, reading_entries, block_of_reading}
use Rattle.packing.specs.Valid.{Bytes, InRange, Each, InWidth, Fits, ValidGrammar, ValidMarked, ValidUtterance, ValidReading}
use Rattle.packing.proofs.Parse.{through, granted, accepted_is, finish_out, accepted_else, verdict_out}
use Rattle.packing.proofs.Taking.{field_at_bytes_out}
use Rattle.packing.proofs.Bounds.{field_at_range, length_marked}
use Rattle.packing.proofs.Taken.{Taken, more, taken_fits, taken_held, held_taken, taken_listed, listed_taken}
use Rattle.packing.proofs.Widths.{grammar_room, utterance_room}
use Rattle.packing.proofs.Grammar.{grammar_out, grammar_back, valid_unmarked}
use Rattle.packing.proofs.Utterance.{utterance_out, utterance_back}
use Rattle.packing.proofs.Reading.{reading_out, reading_back}

-- bytes from which entries are taken to the end are the entries packed, and entries packed are so taken
pub taken_block : (missing : ℕ) (s : List ℕ) (es : List Entry) {next : ℕ} → Bytes s → Taken (bytes missing s) 0 es next → ended s next ≡ true
    → s ≡ pack (bits_of_all (flds es))
taken_block missing s es y t e = let n = taken_held missing s (omega arith) t in block_is (flds es) s y n.2 (rw (n.0, zero-add) at e)

pub block_taken : (missing : ℕ) (es : List Entry) → Fits es → Each InWidth es → Taken (bytes missing (pack (bits_of_all (flds es)))) 0 es (widths (flds es))
block_taken missing es f w = rw zero-add at (held_taken missing (pack (bits_of_all (flds es))) 0 es f w (holds_block (flds es)))

-- numbers from which entries are taken to the end are the entries' values, and values are so taken
taken_sheet : (s : List ℕ) (es : List Entry) {next : ℕ} → Taken (numbers s) 0 es next → length s ≡ length es → s ≡ values es
taken_sheet s es {next} t l =
    let (n, d) = taken_listed s t in
    d ∙ rw (drop_of_length-le s {i = next} (omega arith)) (append-nil (values es))

sheet_taken : (es : List Entry) → Fits es → Taken (numbers (values es)) 0 es (length es)
sheet_taken es f = rw zero-add at (listed_taken (values es) 0 es [] f (sym (append-nil (values es))))

-- a block's kind, and what follows it
pub after_kind : (missing kind n : ℕ) (s : List ℕ) {A : Type 0} (k : ℕ → Parse A) {a : A} {next : ℕ} {P : Type 0}
    → (field_at (bytes missing s) 0 (block_kind kind n) ⟫ λ v at. k at) ≡ parsed a next
    → ((at : ℕ) → field_at (bytes missing s) 0 (block_kind kind n) ≡ parsed kind at → k at ≡ parsed a next → P) → P
after_kind missing kind n s k e f =
    through (field_at (bytes missing s) 0 (block_kind kind n)) _ e λ v at p e.
    let v_is : v ≡ kind = omega (arith, field_at_range (block_kind kind n) (bytes missing s) 0 p) in
    f at (rw v_is at p) e

-- grammars of either kind: blocks
module _ (marking : Bool) (s : List ℕ) where
  abbrev kind : ℕ
  kind = kind_number marking

  block_by_out : (m : Marked) → block_by marking s ≡ accepted m
      → (m.marking ≡ marking) × (field s 0 4 ≡ kind) × ValidMarked m × (Bytes s → s ≡ block_of_marked m)
  unfolding block_by block_of_marked
  block_by_out m e =
      let (next, p, end) = finish_out (ended s) 7 _ e in
      after_kind 1 kind 2 s (grammar_from marking (bytes 1 s)) p λ at k q.
      let (b, r) = grammar_out marking (bytes 1 s) at q in
      let k' = rw (← b) at k in
      (b, (field_at_bytes_out 1 s 0 (block_kind kind 2) k).1, (taken_fits r.taken, r.unlike, r.within), λ y. taken_block 1 s _ y (more k' r.taken) end)

block_by_back : (m : Marked) → ValidMarked m → block_by m.marking (block_of_marked m) ≡ accepted m
unfolding block_by block_of_marked
block_by_back m (f, u, w) =
    let es : List Entry = kind_entry m.marking ∷ marked_entries m in
    let (l, h) = kind_fits m.marking in
    go (block_taken 1 es (l, f) (h, grammar_room m f)) (block_ended (flds es))
  where
    kind_fits : (b : Bool) → InRange (block_kind (kind_number b) 2) (kind_number b) × InWidth (block_kind (kind_number b) 2) (kind_number b)
    kind_fits false = ((omega arith, omega arith), omega arith)
    kind_fits true = ((omega arith, omega arith), omega arith)

    go : {s : List ℕ} {next : ℕ} → Taken (bytes 1 s) 0 (kind_entry m.marking ∷ marked_entries m) next → ended s next ≡ true → block_by m.marking s
        ≡ accepted m
    go {s} (more k t) e = rw (k, grammar_back (bytes 1 s) m (record { taken = t; unlike = u; within = w; fit = refl }), e)

-- the kind decides whether rules bear marks
kind_marks : (b : Bool) → eqb (kind_number b) 4 ≡ b
kind_marks false = refl
kind_marks true = refl

pub marked_block_out : (s : List ℕ) (m : Marked) → marked_block s ≡ accepted m → ValidMarked m × (Bytes s → s ≡ block_of_marked m)
unfolding marked_block
marked_block_out s m e = let (_, _, v, p) = block_by_out (marking_of (bytes 1 s)) s m e in (v, p)

pub marked_block_back : (m : Marked) → ValidMarked m → marked_block (block_of_marked m) ≡ accepted m
unfolding marked_block
marked_block_back m v =
    let e = block_by_back m v in
    let (_, k, _, _) = block_by_out m.marking (block_of_marked m) m e in
    rw (k, kind_marks m.marking) e

-- the grammar of a block is valid, and is a valid one of some kind without its marks
pub grammar_block_out : (s : List ℕ) (g : Grammar) → grammar_block s ≡ accepted g
    → ValidGrammar g × ((m : Marked) × (marked_block s ≡ accepted m) × (grammar_of m ≡ g))
unfolding grammar_block
grammar_block_out s g e =
    granted (marked_block s) _ e λ m p q.
    (rw (← accepted_is q) (valid_unmarked m (marked_block_out s m p).0), (m, p, accepted_is q))

-- sheets: a sheet has the length of its grammar
length_grammar : (m : Marked) → length (values (marked_entries m)) ≡ 3 + numbers_per_rule m.marking * length m.rules
unfolding marked_entries
length_grammar m = omega (arith, length_marked m.marking m.symbols m.words m.rules)

fit : (n m : ℕ) → pick (eqb n m) false true ≡ false → n ≡ m
fit n m = go (eqb n m) refl
  where
    go : (b : Bool) → eqb n m ≡ b → pick b false true ≡ false → n ≡ m
    go true p e = eqb-true n m p
    go false p e = absurd (false≢true (sym e))

pub marked_sheet_out : (s : List ℕ) (m : Marked) → marked_sheet s ≡ accepted m → ValidMarked m × (s ≡ sheet_of_marked m)
unfolding marked_sheet sheet_by sheet_of_marked
marked_sheet_out s m e =
    let (l, d) = accepted_else (ltb (length s) 3) 41 _ e in
    let (next, p) = verdict_out (grammar_from (marking_of (numbers s)) (numbers s) 0) d in
    let (b, r) = grammar_out (marking_of (numbers s)) (numbers s) 0 p in (
      (taken_fits r.taken, r.unlike, r.within),
      taken_sheet s (marked_entries m) r.taken (fit _ _ r.fit ∙ sym (length_grammar m) ∙ length-map (marked_entries m) value_of),
    )

-- and its length decides whether rules bear marks, since it has a rule
length_marks : (b : Bool) (R : ℕ) → 1 ≤ R → eqb (3 + numbers_per_rule b * R) (3 + 6 * R) ≡ b
length_marks false R h = ne_eqb (3 + 5 * R) (3 + 6 * R) (λ e. omega arith)
length_marks true R h = eq-eqb (3 + 6 * R) (3 + 6 * R) refl

sheet_marks : (m : Marked) → Fits (marked_entries m) → marking_of (numbers (values (marked_entries m))) ≡ m.marking
unfolding marked_entries
sheet_marks m (a, (b, (c, h))) =
    ap (λ (n : ℕ). eqb n (3 + 6 * length m.rules)) (length_grammar m) ∙ length_marks m.marking (length m.rules) c.0

sheet_by_back : (m : Marked) → ValidMarked m → sheet_by m.marking (values (marked_entries m)) ≡ accepted m
unfolding sheet_by
sheet_by_back m (f, u, w) =
    let es : List Entry = marked_entries m in
    let n = length_grammar m in
    rw (
      le-ltb (length (values es)) 3 (omega arith),
      grammar_back (numbers (values es)) m
          (record { taken = sheet_taken es f; unlike = u; within = w; fit = rw (eq-eqb _ _ n) }),
    )

pub marked_sheet_back : (m : Marked) → ValidMarked m → marked_sheet (sheet_of_marked m) ≡ accepted m
unfolding marked_sheet sheet_of_marked
marked_sheet_back m v = ap (λ (b : Bool). sheet_by b (values (marked_entries m))) (sheet_marks m v.0) ∙ sheet_by_back m v

-- at most 1,283 numbers, and 256 marks
pub sheet_length : (m : Marked) → ValidMarked m → length (sheet_of_marked m) ≤ 1283 + pick m.marking 256 0
unfolding sheet_of_marked marked_entries
sheet_length m ((a, (b, (c, h))), u, w) = rw (length_grammar m) (go m.marking)
  where
    go : (b : Bool) → 3 + numbers_per_rule b * length m.rules ≤ 1283 + pick b 256 0
    go false = omega arith
    go true = omega arith

-- utterances under a grammar of W words
module _ (W : ℕ) where
  pub utterance_block_out : (s : List ℕ) (u : Utterance) → utterance_block W s ≡ accepted u → ValidUtterance W u × (Bytes s → s ≡ block_of_utterance W u)
  unfolding utterance_block block_of_utterance
  utterance_block_out s u e =
      let (next, p, end) = finish_out (ended s) 16 _ e in
      after_kind 11 2 12 s (utterance_from (bytes 11 s) W) p λ at k q.
      let t = utterance_out (bytes 11 s) W at q in
      (taken_fits t, λ y. taken_block 11 s _ y (more k t) end)

  pub utterance_block_back : (u : Utterance) → 1 ≤ W → W ≤ 200 → ValidUtterance W u → utterance_block W (block_of_utterance W u) ≡ accepted u
  unfolding utterance_block block_of_utterance
  utterance_block_back u w l f =
      let es : List Entry = entry (block_kind 2 12) 2 ∷ utterance_entries W u in
      go (block_taken 11 es ((omega arith, omega arith), f) (omega arith, utterance_room W w l u f)) (block_ended (flds es))
    where
      go : {s : List ℕ} {next : ℕ} → Taken (bytes 11 s) 0 (entry (block_kind 2 12) 2 ∷ utterance_entries W u) next → ended s next ≡ true → utterance_block W s
          ≡ accepted u
      go {s} (more k t) e = rw (k, utterance_back (bytes 11 s) W u t, e)

  pub utterance_sheet_out : (s : List ℕ) (u : Utterance) → utterance_sheet W s ≡ accepted u → ValidUtterance W u × (s ≡ sheet_of_utterance W u)
  unfolding utterance_sheet sheet_of_utterance
  utterance_sheet_out s u e =
      let (next, p, end) = finish_out (λ at. eqb at (length s)) 41 _ e in
      let t = utterance_out (numbers s) W 0 p in
      (taken_fits t, taken_sheet s (utterance_entries W u) t (omega (arith, eqb-true next (length s) end, (taken_listed s t).0)))

  pub utterance_sheet_back : (u : Utterance) → ValidUtterance W u → utterance_sheet W (sheet_of_utterance W u) ≡ accepted u
  unfolding utterance_sheet sheet_of_utterance
  utterance_sheet_back u f =
      let es : List Entry = utterance_entries W u in
      let n : length es ≡ length (values es) = sym (length-map es value_of) in
      rw (utterance_back (numbers (values es)) W u (sheet_taken es f), eq-eqb _ _ n)

-- readings of n slots under a grammar of R rules
module _ (R : ℕ) where
  pub reading_block_out : (n : ℕ) (s : List ℕ) (d : Reading) (at : ℕ) → reading_from n R s ≡ parsed d at → ended s at ≡ true
      → ValidReading R d × (d.slots ≡ n) × (Bytes s → s ≡ block_of_reading R d)
  unfolding block_of_reading
  reading_block_out n s d at e end =
      let (t, m, l) = reading_out n R s e in
      ((taken_fits t, (taken_held 31 s (omega arith) t).1, omega arith), m, λ y. taken_block 31 s _ y t end)

  pub reading_block_back : (d : Reading) → ValidReading R d
      → (reading_from d.slots R (block_of_reading R d) ≡ parsed d (widths (flds (reading_entries R d))))
      × (ended (block_of_reading R d) (widths (flds (reading_entries R d))) ≡ true)
  unfolding block_of_reading
  reading_block_back d (f, w, l) =
      let es : List Entry = reading_entries R d in
      (reading_back R (pack (bits_of_all (flds es))) d (block_taken 31 es f w) l, block_ended (flds es))
