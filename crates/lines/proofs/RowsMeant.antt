-- Where readings were found, both blocks mean something, and what the listing promises of the output says of each row which derivation's it is.
use mathlib.Core.Path.{◌≡◌, refl, sym, ap, subst, ◌∙◌}
use mathlib.Core.List.{List}
use Prim.Native.Nat.{ℕ, ◌+◌, ◌-◌, ◌*◌, ◌≤◌, ◌<◌}
use native.Mathlib.Nat.{mul-le-mul_right}
use native.Mathlib.Omega.{arith}
use borrow.Author.Tests.{lt-ltb, le-ltb}
use lib.ListN.{length}
use Rattle.packing.specs.Meaning.{Grammar, Marked, grammar_of, Heard, slots, graph}
use Rattle.packing.specs.Parse.{Verdict, accepted, refused}
use Rattle.packing.specs.Grammar.{marked_block, grammar_block}
use Rattle.packing.specs.Heard.{heard_block}
use Rattle.packing.proofs.Parse.{granted, accepted_is, refused≢accepted}
use Rattle.packing.proofs.Whole.{marked_block_out}
use Rattle.packing.proofs.Heard.{heard_block_out}
use Rattle.packing.specs.Reading.{reading_length}
use Rattle.packing.specs.GraphReading.{graph_reading_length}
use Rattle.derivation.specs.Heard.{output_length}
use Rattle.listing.specs.Conditions.{library, asked_listing}
use Rattle.inputs.specs.Answer.{Lists}
use Rattle.listing.specs.Listing.{readings_of, list, output_after}
use Rattle.chart.specs.WorkTable.{work_after}
use Rattle.listing.specs.Demand3.{Demand3}
use Rattle.std.specs.Prelude.{Result, Ok, Err}
use Rattle.packing.specs.Read.{as_verdict, counted}
use Rattle.packing.specs.Refusal.{number}
use Rattle.packing.specs.declared.refusal.Refusal.{Refusal}
use Rattle.packing.proofs.Told.{accepted_told, refused_told}
use Rattle.listing.proofs.Accepted.{Asks, asked_out, list_asked}
use Rattle.traced_readings.proofs.Sizes.{size_is}
use Rattle.reading_rows.specs.Rows.{Rows, room_for, Told}
use Rattle.reading_rows.specs.Model.{size_of, RowsSay}
use Rattle.lines.specs.Shapes.{ShapeOf}
use Rattle.reading_rows.specs.declared.Shape.{Shape}

module _ (grammar heard : List ℕ) (work out : ℕ) where
  -- a refusal of the listing is that of what is asked
  pub asked_refused : {n : ℕ} → refused n ≡ counted (list library grammar heard 8 work out) → asked_listing library grammar heard 8 work out ≡ refused n
  asked_refused e =
      let due = refused_told (list library grammar heard 8 work out) length e in
      refused_told (asked_listing library grammar heard 8 work out) (readings_of 8) (sym due ∙ list_asked library grammar heard 8 work out)

-- a reading has bytes, so where there is no output something is refused
some_bytes : (g : Grammar) (h : Heard) → 1 ≤ output_length g h
unfolding reading_length graph_reading_length
some_bytes g (slots u) = omega arith
some_bytes g (graph h) = omega arith

pub record NoOutput (grammar heard : List ℕ) (work : ℕ) : Type 0 where
  pub number : ℕ
  pub asked : asked_listing library grammar heard 8 work 0 ≡ refused number
  pub due : list library grammar heard 8 work 0 ≡ refused number

pub no_output : (grammar heard : List ℕ) (work : ℕ) → NoOutput grammar heard work
no_output grammar heard work = go (asked_listing library grammar heard 8 work 0) refl
  where
    go : (v : Verdict (Grammar × Heard)) → asked_listing library grammar heard 8 work 0 ≡ v → NoOutput grammar heard work
    go (accepted (g, h)) e =
        let (_, _, asks) = asked_out library grammar heard 8 work 0 e in
        absurd (omega (arith, asks.room, some_bytes g h))
    go (refused n) e = record { number = n; asked = e; due = list_asked library grammar heard 8 work 0 ∙ rw e }

pub room_is : (out shown : List ℕ) → 400 ≤ length shown → room_for (length out) (length shown) ≡ length out
room_is out shown h = rw (le-ltb (length shown) 400 h)

-- what is promised of the answer and of what was lent, where so many bytes of output count
abbrev pub Promised : (grammar heard work out shown : List ℕ) (room : ℕ) → Result ℕ Refusal → (work' out' shown' : List ℕ) → Type 0
Promised grammar heard work out shown room r work' out' shown' =
    Lists work_after output_after (list library grammar heard 8 (length work) room) work out r work' out'
    × Told grammar heard (length work) room (as_verdict r) shown shown'

pub no_room : (grammar heard work out shown : List ℕ) (r : Result ℕ Refusal) {work' : List ℕ} → length shown < 400
    → as_verdict r ≡ counted (list library grammar heard 8 (length work) 0) → work' ≡ work_after (list library grammar heard 8 (length work) 0) work
    → Promised grammar heard work out shown (room_for (length out) (length shown)) r work' out shown
no_room grammar heard work out shown r {work'} short answer after =
    rw (lt-ltb (length shown) 400 short) (told r (rw none.due at answer) (rw none.due at after))
  where
    none : NoOutput grammar heard (length work)
    none = no_output grammar heard (length work)

    told : (r : Result ℕ Refusal) → as_verdict r ≡ refused none.number → work' ≡ work → Promised grammar heard work out shown 0 r work' out shown
    told (Ok m) e k = absurd (refused≢accepted (sym e))
    told (Err r) e k =
        let same : none.number ≡ number r = cc in
        (rw none.due (record { answer = e; work_is = k; output_is = refl }), (none.asked ∙ ap refused same, refl))

-- where readings were found, what both blocks mean
record Meant (grammar heard : List ℕ) (work out : ℕ) : Type 0 where
  pub m : Marked
  pub h : Heard
  pub grammar_means : marked_block grammar ≡ accepted m
  pub heard_means : heard_block m.words heard ≡ accepted h
  pub asks : Asks (grammar_of m) h 8 work out
  pub asked : asked_listing library grammar heard 8 work out ≡ accepted (grammar_of m, h)

module _ (grammar heard rules marks : List ℕ) (s : Shape) (shape : ShapeOf grammar heard rules marks s) (work out : List ℕ) (found : ℕ)
    (answered : accepted found ≡ counted (list library grammar heard 8 (length work) (length out))) where
  meant : Meant grammar heard (length work) (length out)
  unfolding grammar_block
  meant =
      let (ls, e, _) = accepted_told (list library grammar heard 8 (length work) (length out)) length answered in
      granted (asked_listing library grammar heard 8 (length work) (length out)) _
      (sym (list_asked library grammar heard 8 (length work) (length out)) ∙ e) λ (g, h) both _.
      let (p, q, asks) = asked_out library grammar heard 8 (length work) (length out) both in
      granted (marked_block grammar) _ p λ m p' same.
      let is : grammar_of m ≡ g = accepted_is same in
      record {
        m = m;
        h = h;
        grammar_means = p';
        heard_means = rw (← is) at q;
        asks = rw is asks;
        asked = rw is both;
      }

  sized : size_of s ≡ output_length (grammar_of meant.m) meant.h
  sized =
      let (shaped, _, _) = shape.right meant.m meant.h meant.grammar_means meant.heard_means in
      ap size_of shaped ∙ size_is (grammar_of meant.m) meant.h

  pub accepts : (b : Grammar × Heard) × (asked_listing library grammar heard 8 (length work) (length out) ≡ accepted b)
  accepts = ((grammar_of meant.m, meant.h), meant.asked)

  -- the readings lie in the output
  pub room_for_lem : found ≤ 8 → found * size_of s ≤ length out
  room_for_lem few = omega (arith, mul-le-mul_right (size_of s) few, ap (λ (n : ℕ). 8 * n) sized, meant.asks.room)

  module _ (work' out' shown shown' : List ℕ) (demand : Demand3 grammar heard 8 work out (λ m. accepted found ≡ accepted m) work' out')
      (said : RowsSay rules marks s out' found shown shown') where
    pub rows_told : Rows grammar heard found shown shown'
    unfolding grammar_block
    rows_told =
        let m = meant.m in
        let h = meant.h in
        let p = meant.grammar_means in
        let q = meant.heard_means in
        let asks = meant.asks in
        let list = demand (grammar_of m) (rw p) h q asks.positive asks.few asks.table asks.room in
        let same : list.m ≡ found = sym (accepted_is list.accepts) in
        let (shaped, stand, marked) = shape.right m h p q in
        let okm = (marked_block_out grammar m p).0 in
        let okh = (heard_block_out m.words heard h q).0 in
        record {
          m = m;
          h = h;
          grammar_means = p;
          heard_means = q;
          derivations = list.derivations;
          finitely_many = list.finitely_many;
          found_is = sym same ∙ list.m_is;
          rows = λ k l u.
              let (t, ranked, block) = list.readings k l (omega (arith, same)) in
              let first : k - 1 + 1 ≡ k = omega arith in
              (t, ranked, rw first at (said.each (k - 1) (omega arith) m h t okm okh stand marked shaped ranked.derivation (rw sized block)));
          beyond = said.beyond;
        }
