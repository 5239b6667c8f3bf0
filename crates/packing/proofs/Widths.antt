-- The widths in use: every value in its range can be written in its field's width, and grammar blocks have at most 1,060 bytes,
-- or 1,028 without marks, utterances 515 and readings 52, since symbols take at most 5 bits, and words and rule numbers at most 8.
-- Assumes nothing.
use mathlib.Core.Path.{◌≡◌, refl}
use mathlib.Core.Bool.{Bool, true, false}
use mathlib.Core.Option.{some}
use mathlib.Core.List.{List, [], ◌∷◌, map-append}
use Prim.Native.Nat.{ℕ, suc, ◌+◌, ◌-◌, ◌*◌, ◌/◌, ◌^◌, ◌≤◌, ◌<◌}
use native.Mathlib.Nat.{mul-le-mul, zero-mul, suc-mul}
use native.Mathlib.Omega.{arith}
use lib.ListN.{length, get_elem?}
use Rattle.bits.specs.Bits.{pick}
use Rattle.bits.specs.Width.{width_of}
use Rattle.bits.specs.Fields.{widths}
use Rattle.bits.proofs.Fields.{widths_append, length_block}
use Rattle.bits.proofs.Width.{width_le, width_room}
use Rattle.packing.specs.Meaning.{Grammar, MarkedRule, marked, Marked, Candidate, candidate, Utterance, Reading}
use Rattle.packing.specs.Source.{fld_of, flds}
use Rattle.packing.specs.Grammar.{rule_entries, grammar_entries, mark_entries, marked_rule_entries, marked_rules_entries, marked_entries, block_of_marked}
use Rattle.packing.specs.Utterance.{candidates_entries, slots_entries, utterance_entries, block_of_utterance}
use Rattle.packing.specs.Reading.{walk_entries, reading_entries, block_of_reading, reading_length}
use Rattle.packing.specs.Valid.{InRange, InWidth, Each, Fits, ValidGrammar, ValidMarked, ValidUtterance, ValidReading}
use Rattle.packing.specs.declared.Rule as R
use Rattle.packing.specs.declared.Rule.TheVariants.{Pair, Word}
use Rattle.packing.proofs.Entries.{each_left, each_right, each_join}

-- symbols, words and rule numbers
pub symbol_width : (S : ℕ) → S ≤ 32 → width_of (S - 1) ≤ 5
symbol_width S h = width_le (S - 1) 5 (omega arith) (omega arith)

-- up to 256 of them
pub byte_width : (n : ℕ) → n ≤ 256 → width_of (n - 1) ≤ 8
byte_width n h = width_le (n - 1) 8 (omega arith) (omega arith)

-- a number below n, written in the width of n - 1
pub number_room : (v n : ℕ) → 1 ≤ n → n ≤ 256 → v ≤ n - 1 → v < 2 ^ width_of (n - 1)
number_room v n l h r = width_room v n (omega arith) (omega arith)

module _ (S W : ℕ) (s : 1 ≤ S) (S≤ : S ≤ 32) (w : 1 ≤ W) (W≤ : W ≤ 200) where
  rule_room : (r : R.Rule) → Fits (rule_entries S W r) → Each InWidth (rule_entries S W r)
  rule_room (Pair h x y v) (a, (b, (c, (d, (e, f))))) =
      let symbol_room : (v : ℕ) → v ≤ S - 1 → v < 2 ^ width_of (S - 1) = λ v. number_room v S s (omega arith) in
      (omega arith, (symbol_room h.0 b.1, (omega arith, (symbol_room x.0 d.1, (symbol_room y.0 e.1, tt)))))
  rule_room (Word h x v) (a, (b, (c, (d, (e, f))))) =
      (omega arith, (number_room h.0 S s (omega arith) b.1, (omega arith, (number_room x.0 W w (omega arith) d.1, (omega arith, tt)))))

  module _ (marking : Bool) where
    marked_room : (x : MarkedRule) → Fits (marked_rule_entries marking S W x) → Each InWidth (marked_rule_entries marking S W x)
    marked_room (marked r m) h =
        let es = rule_entries S W r in
        let ms = mark_entries marking m in
        each_join InWidth es ms (rule_room r (each_left InRange es ms h)) (mark_room marking (each_right InRange es ms h))
      where
        mark_room : (b : Bool) → Fits (mark_entries b m) → Each InWidth (mark_entries b m)
        mark_room false h = tt
        mark_room true (a, h) = (omega arith, tt)

    rules_room : (rs : List MarkedRule) → Fits (marked_rules_entries marking S W rs) → Each InWidth (marked_rules_entries marking S W rs)
    unfolding marked_rules_entries
    rules_room [] h = tt
    rules_room (r ∷ rs) h =
        let es = marked_rule_entries marking S W r in
        let fs = marked_rules_entries marking S W rs in
        each_join InWidth es fs (marked_room r (each_left InRange es fs h)) (rules_room rs (each_right InRange es fs h))

  rule_bits : (r : R.Rule) → widths (flds (rule_entries S W r)) ≤ 32
  unfolding widths
  rule_bits (Pair h x y v) = omega (arith, symbol_width S S≤)
  rule_bits (Word h x v) = omega (arith, symbol_width S S≤, byte_width W (omega arith))

  -- a mark takes one bit more
  marked_bits : (marking : Bool) (x : MarkedRule) → widths (flds (marked_rule_entries marking S W x)) ≤ 32 + pick marking 1 0
  unfolding widths
  marked_bits marking (marked r m) = rw (map-append fld_of (rule_entries S W r) (mark_entries marking m), widths_append) (go marking (rule_bits r))
    where
      go : {n : ℕ} (b : Bool) → n ≤ 32 → n + widths (flds (mark_entries b m)) ≤ 32 + pick b 1 0
      go false h = omega arith
      go true h = omega arith

  rules_bits : (marking : Bool) (rs : List MarkedRule) → widths (flds (marked_rules_entries marking S W rs)) ≤ (32 + pick marking 1 0) * length rs
  unfolding marked_rules_entries widths
  rules_bits marking [] = omega arith
  rules_bits marking (r ∷ rs) =
      rw (map-append fld_of (marked_rule_entries marking S W r) (marked_rules_entries marking S W rs), widths_append)
      (go marking (length rs) (marked_bits marking r) (rules_bits marking rs))
    where
      go : {k l : ℕ} (b : Bool) (n : ℕ) → k ≤ 32 + pick b 1 0 → l ≤ (32 + pick b 1 0) * n → k + l ≤ (32 + pick b 1 0) * suc n
      go false n h i = omega arith
      go true n h i = omega arith

pub grammar_room : (m : Marked) → Fits (marked_entries m) → Each InWidth (marked_entries m)
unfolding marked_entries
grammar_room m (a, (b, (c, h))) =
    (omega arith, (omega arith, (omega arith, rules_room m.symbols m.words a.0 a.1 b.0 b.1 m.marking m.rules h)))

pub valid_words : (g : Grammar) → ValidGrammar g → (1 ≤ g.words) × (g.words ≤ 200)
unfolding grammar_entries
valid_words g v = v.0.1.0

pub grammar_length : (m : Marked) → ValidMarked m → length (block_of_marked m) ≤ 1028 + pick m.marking 32 0
unfolding block_of_marked marked_entries widths
grammar_length m ((a, (b, (c, h))), u, w) =
    rw length_block (go m.marking (rules_bits m.symbols m.words a.0 a.1 b.0 b.1 m.marking m.rules))
  where
    go : {n : ℕ} (b : Bool) → n ≤ (32 + pick b 1 0) * length m.rules → (4 + (6 + (8 + (9 + n))) + 7) / 8 ≤ 1028 + pick b 32 0
    go false i = omega arith
    go true i = omega arith

module _ (W : ℕ) (w : 1 ≤ W) (W≤ : W ≤ 200) where
  candidates_room : (least : ℕ) (cs : List Candidate) → Fits (candidates_entries W least cs) → Each InWidth (candidates_entries W least cs)
  unfolding candidates_entries
  candidates_room least [] h = tt
  candidates_room least (candidate v c ∷ cs) (a, (b, h)) = (number_room v.0 W w (omega arith) a.1, (omega arith, candidates_room (suc v.0) cs h))

  candidates_bits : (least : ℕ) (cs : List Candidate) → widths (flds (candidates_entries W least cs)) ≤ 24 * length cs
  unfolding candidates_entries widths
  candidates_bits least [] = omega arith
  candidates_bits least (candidate v c ∷ cs) = omega (arith, byte_width W (omega arith), candidates_bits (suc v.0) cs)

  slots_room : (u : Utterance) → Fits (slots_entries W u) → Each InWidth (slots_entries W u)
  unfolding slots_entries
  slots_room [] h = tt
  slots_room (cs ∷ u) (a, h) =
      let es = candidates_entries W 0 cs in
      let fs = slots_entries W u in
      (omega arith, each_join InWidth es fs (candidates_room 0 cs (each_left InRange es fs h)) (slots_room u (each_right InRange es fs h)))

  slots_bits_lem : (u : Utterance) → Fits (slots_entries W u) → widths (flds (slots_entries W u)) ≤ 171 * length u
  unfolding slots_entries widths
  slots_bits_lem [] h = omega arith
  slots_bits_lem (cs ∷ u) (a, h) =
      let es = candidates_entries W 0 cs in
      let fs = slots_entries W u in
      rw (map-append fld_of es fs, widths_append) (omega (arith, candidates_bits 0 cs, slots_bits_lem u (each_right InRange es fs h)))

  pub utterance_room : (u : Utterance) → Fits (utterance_entries W u) → Each InWidth (utterance_entries W u)
  unfolding utterance_entries
  utterance_room u (a, h) = (omega arith, slots_room u h)

  pub utterance_length : (u : Utterance) → ValidUtterance W u → length (block_of_utterance W u) ≤ 515
  unfolding block_of_utterance utterance_entries widths
  utterance_length u (a, h) = rw length_block (omega (arith, slots_bits_lem u h))

pub walk_bits : (R : ℕ) (rs : List ℕ) → widths (flds (walk_entries R rs)) ≡ length rs * width_of (R - 1)
unfolding walk_entries widths
walk_bits R [] = simp zero-mul
walk_bits R (r ∷ rs) = rw (walk_bits R rs, suc-mul) (omega arith)

pub length_reading : (R : ℕ) (d : Reading) → length d.walk ≡ 2 * d.slots - 1 → length (block_of_reading R d) ≡ reading_length d.slots R
unfolding block_of_reading reading_entries reading_length widths
length_reading R d e = rw (length_block, walk_bits, e) (omega arith)

pub length_small : (n R : ℕ) → n ≤ 24 → R ≤ 256 → reading_length n R ≤ 52
unfolding reading_length
length_small n R h r =
    let m : (2 * n - 1) * width_of (R - 1) ≤ 47 * 8 = mul-le-mul {n₂ = 47} {m₂ = 8} (omega arith) (byte_width R r) in
    omega arith

pub reading_length_lem : (R : ℕ) (d : Reading) → R ≤ 256 → d.slots ≤ 24 → ValidReading R d → length (block_of_reading R d) ≤ 52
reading_length_lem R d h n v = rw (length_reading R d v.2) (length_small d.slots R n h)

-- rule numbers below R can be written
module _ (R : ℕ) (h : R ≤ 256) where
  walk_fits : (rs : List ℕ) → ((k r : ℕ) → get_elem? rs k ≡ some r → r < R) → Fits (walk_entries R rs) × Each InWidth (walk_entries R rs)
  unfolding walk_entries
  walk_fits [] f = (tt, tt)
  walk_fits (r ∷ rs) f =
      let l = f 0 r refl in
      let (a, b) = walk_fits rs (λ k. f (suc k)) in
      (((omega arith, omega arith), a), (number_room r R (omega arith) h (omega arith), b))

  pub reading_valid : (d : Reading) → d.slots < 2 ^ 6 → d.weight < 2 ^ 24 → length d.walk ≡ 2 * d.slots - 1
      → ((k r : ℕ) → get_elem? d.walk k ≡ some r → r < R) → ValidReading R d
  unfolding reading_entries
  reading_valid d n w l f =
      let (a, b) = walk_fits d.walk f in
      (((omega arith, omega arith), ((omega arith, omega arith), ((omega arith, omega arith), a))), (omega arith, (n, (w, b))), l)
