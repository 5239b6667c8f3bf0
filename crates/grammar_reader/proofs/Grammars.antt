-- A grammar is read as its sizes and then its rules, and at the end as the test of what follows says: the ways out of the
-- readers, each over plain values. Assumes nothing.
use mathlib.Core.Path.{◌≡◌, refl, sym, ap, ◌∙◌}
use mathlib.Core.Bool.{Bool, true, false}
use mathlib.Core.List.{List, [], map}
use Prim.Native.Nat.{ℕ, ◌+◌, ◌≤◌}
use native.Mathlib.Omega.{arith}
use lib.ListN.{length, length-map}
use Rattle.std.specs.Prelude.{Result, Ok, Err}
use Rattle.bits.specs.Bits.{pick}
use Rattle.packing.specs.Meaning as meaning
use Rattle.packing.specs.Meaning.{MarkedRule}
use Rattle.packing.specs.Parse.{Parse, parsed, failed, ◌⟫◌, Verdict, accepted, refused, finish}
use Rattle.packing.specs.Source.{Source, field_at}
use Rattle.packing.specs.Refusal.{number}
use Rattle.packing.specs.Read.{as_parse, as_verdict}
use Rattle.packing.specs.Grammar.{size_field, unfit, rules_from, grammar_from}
use Rattle.packing.specs.Flat.{rule_numbers}
use Rattle.packing.specs.declared.refusal.Refusal.{Refusal}
use Rattle.packing.specs.declared.refusal.Refusal.TheVariants.{SheetCount}
use Rattle.packing.proofs.Grammar.{grammar_out}
use Rattle.packing.proofs.Flat.{overlaid_begins}
use Rattle.rules_reader.specs.Rules.{RulesTold}
use Rattle.rules_reader.proofs.Reached.{unreached, reached_out}
use Rattle.grammar_reader.specs.Answer.{sizes, Bounded, MarkedTold}
use Rattle.grammar_reader.specs.Parts.{sizes_from, sizes_in, GrammarTold}
use Rattle.grammar_reader.specs.declared.Sizes.{Sizes}

-- one after the other, and what follows, changed
after_after : {A B C : Type 0} (x : Parse A) (k : A → ℕ → Parse B) (l : B → ℕ → Parse C) → ((x ⟫ k) ⟫ l) ≡ (x ⟫ λ a at. k a at ⟫ l)
after_after (parsed a at) k l = refl
after_after (failed n) k l = refl

after_same : {A B : Type 0} (x : Parse A) (k l : A → ℕ → Parse B) → ((a : A) (at : ℕ) → k a at ≡ l a at) → (x ⟫ k) ≡ (x ⟫ l)
after_same (parsed a at) k l h = h a at
after_same (failed n) k l h = refl

-- what follows the sizes
abbrev rest : Bool → Source → Sizes → ℕ → Parse meaning.Marked
rest marking src z at =
    pick (unfit marking src z.rules) (failed 41)
    (rules_from marking src z.symbols z.words z.rules at [] ⟫ λ rs at.
    parsed (record { marking = marking; symbols = z.symbols; words = z.words; rules = rs }) at)

sizes_first : (marking : Bool) (src : Source) (at : ℕ) → (sizes_from src at ⟫ rest marking src) ≡ grammar_from marking src at
unfolding sizes_from grammar_from
sizes_first marking src at =
    let k = rest marking src in
    after_after (field_at src at (size_field 6 32)) _ k
    ∙ after_same (field_at src at (size_field 6 32)) _ _
    (λ S at. after_after (field_at src at (size_field 8 200)) _ k
    ∙ after_same (field_at src at (size_field 8 200)) _ _ (λ W at. after_after (field_at src at (size_field 9 256)) _ k))

module _ (marking : Bool) (src : Source) (at : ℕ) (before rules marks : List ℕ) where
  -- a refusal leaves the arrays open
  grammar_refused : (r : Result (Sizes × ℕ) Refusal) {n : ℕ} → as_parse r ≡ failed n → failed n ≡ grammar_from marking src at
      → GrammarTold marking src at r before rules marks
  grammar_refused (Ok (z, next)) f e = cc
  grammar_refused (Err r) f e = record { answer = rw (← e) f; stands = rw (← e) tt; near = tt }

  pub sizes_refused : (r : Result (Sizes × ℕ) Refusal) {n : ℕ} → as_parse r ≡ failed n → failed n ≡ sizes_from src at
      → GrammarTold marking src at r before rules marks
  sizes_refused r f told = grammar_refused r f (rw (← told) at (sizes_first marking src at))

  module _ {z : Sizes} {next : ℕ} (told : parsed z next ≡ sizes_from src at) where
    after_sizes : rest marking src z next ≡ grammar_from marking src at
    after_sizes = rw (← told) at (sizes_first marking src at)

    pub sheet_unfit : unfit marking src z.rules ≡ true → GrammarTold marking src at (Err SheetCount) before rules marks
    sheet_unfit u = grammar_refused (Err SheetCount) refl (rw u at after_sizes)

    module _ (u : unfit marking src z.rules ≡ false) where
      -- all rules
      abbrev all : Parse (List MarkedRule)
      all = rules_from marking src z.symbols z.words z.rules next []

      pub rules_refused : {e : Refusal} (r : Result (Sizes × ℕ) Refusal) → as_parse r ≡ failed (number e)
          → RulesTold marking src z.symbols z.words z.rules next (Err e) before rules marks → GrammarTold marking src at r before rules marks
      rules_refused r f t = grammar_refused r f (rw (u, unreached all t.answer) at after_sizes)

      pub rules_read : {end : ℕ} → RulesTold marking src z.symbols z.words z.rules next (Ok end) before rules marks → Bounded z → next ≤ at + 23
          → GrammarTold marking src at (Ok (z, end)) before rules marks
      rules_read {end} t h near =
          let (rs, x) = reached_out all t.answer in
          let (l, rows, borne) = rw x at t.rows in
          let g : meaning.Marked = record { marking = marking; symbols = z.symbols; words = z.words; rules = rs } in
          let w : grammar_from marking src at ≡ parsed g end = rw (u, x) at (sym after_sizes) in
          let size : length (map meaning.rule_in rs) ≡ z.rules = length-map rs meaning.rule_in ∙ l in
          record { answer = rw (w, size); stands = rw w (rows, borne); near = (h, omega (arith, t.near)) }

-- the sizes that were read say that the grammar was
sizes_out : (x : Parse meaning.Marked) {z : Sizes} {next : ℕ} → parsed z next ≡ sizes_in x
    → (m : meaning.Marked) × (x ≡ parsed m next) × (z ≡ sizes (meaning.grammar_of m))
sizes_out (parsed m at) {z} {next} e = let p : at ≡ next = cc in let q : sizes (meaning.grammar_of m) ≡ z = cc in (m, rw p, sym q)
sizes_out (failed n) e = cc

no_sizes : (x : Parse meaning.Marked) {n : ℕ} → failed n ≡ sizes_in x → x ≡ failed n
no_sizes (parsed m at) e = cc
no_sizes (failed n) e = cc

-- the end of a block or a sheet
module _ (marking : Bool) (src : Source) (at : ℕ) (before rules marks : List ℕ) (end : ℕ → Bool) (n : ℕ) where
  -- the verdict that goes with what was read and the end
  abbrev verdict : Verdict meaning.Marked
  verdict = finish end n (grammar_from marking src at)

  pub end_refused : {e : Refusal} (r : Result (Sizes × Bool) Refusal) → as_verdict r ≡ refused (number e)
      → GrammarTold marking src at (Err e) before rules marks → MarkedTold verdict r before rules marks
  end_refused (Ok (z, b)) f t = cc
  end_refused (Err r) f t = let x = no_sizes (grammar_from marking src at) t.answer in record { answer = rw x f; stands = rw x tt; laid = rw x tt; bounds = tt }

  module _ {z : Sizes} {next : ℕ} (t : GrammarTold marking src at (Ok (z, next)) before rules marks) where
    -- what was read has the kind that was asked for
    was_read : (m : meaning.Marked) × (grammar_from marking src at ≡ parsed m next) × (z ≡ sizes (meaning.grammar_of m)) × (marking ≡ m.marking)
    was_read =
        let (m, x, s) = sizes_out (grammar_from marking src at) t.answer in
        (m, x, s, sym (grammar_out marking src at x).0)

    pub end_passed : end next ≡ true → MarkedTold verdict (Ok (z, marking)) before rules marks
    end_passed h =
        let (m, x, s, k) = was_read in
        let (rows, borne) = rw x at t.stands in
        record {
          answer = ap (λ (y : Sizes). accepted (y, marking)) s ∙ ap (λ (y : Bool). accepted (sizes (meaning.grammar_of m), y)) k ∙ rw (x, h);
          stands = rw (x, h) (overlaid_begins (rule_numbers (meaning.grammar_of m)) before rules rows, borne);
          laid = rw (x, h) rows;
          bounds = t.near.0;
        }

    pub end_failed : {e : Refusal} → number e ≡ n → end next ≡ false → MarkedTold verdict (Err e) before rules marks
    end_failed f h =
        let (m, x, s, k) = was_read in
        record { answer = rw (x, h, f); stands = rw (x, h) tt; laid = rw (x, h) tt; bounds = tt }
