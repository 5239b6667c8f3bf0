-- The ways out of the reading of a whole sheet.
use mathlib.Core.Path.{◌≡◌, refl, sym, ◌∙◌}
use mathlib.Core.List.{List, []}
use Prim.Native.Nat.{ℕ, ◌+◌}
use native.Mathlib.Omega.{arith}
use borrow.Author.Tests.{eq-eqb, ne_eqb}
use lib.ListN.{length}
use Rattle.std.specs.Prelude.{Result, Ok, Err}
use Rattle.packing.specs.Parse.{Parse, parsed, failed, ◌⟫◌, accepted, refused}
use Rattle.packing.specs.Source.{numbers, field_at}
use Rattle.packing.specs.Read.{as_verdict}
use Rattle.packing.specs.Grammar.{size_field}
use Rattle.packing.specs.declared.refusal.Refusal.{Refusal}
use Rattle.packing.proofs.Parse.{through, same_parsed}
use Rattle.packing.proofs.Taking.{field_at_numbers_out}
use Rattle.rules_reader.specs.Rules.{place_of}
use Rattle.rules_reader.proofs.Reached.{unreached, reached_out}
use Rattle.grammar_reader.specs.declared.Sizes.{Sizes}
use Rattle.grammar_reader.specs.Parts.{sizes_from}
use Rattle.grammar_reader.specs.Answer.{Bounded, InBounds}
use Rattle.office.specs.Office as O
use Rattle.office.specs.Sheet.{office_rules_from, office_from, office_sheet}
use Rattle.office.specs.Flat.{office_rules_at, behind_all}
use Rattle.office.proofs.Read.{rules_read_lem, length_rules}
use Rattle.office_reader.specs.Answer.{sizes_told}

module _ (s : List ℕ) where
  -- the sizes, then the rules
  abbrev rest : Sizes → ℕ → Parse O.Office
  rest z at = office_rules_from s z.symbols z.words z.rules at [] ⟫ λ rs at. parsed (record { symbols = z.symbols; words = z.words; rules = rs }) at

  by_sizes : office_from s 0 ≡ (sizes_from (numbers s) 0 ⟫ rest)
  unfolding office_from sizes_from
  by_sizes = first (field_at (numbers s) 0 (size_field 6 32))
    where
      third : (S W : ℕ) (x : Parse ℕ) → (x ⟫ λ R at. rest (record { symbols = S; words = W; rules = R }) at)
          ≡ ((x ⟫ λ R at. parsed (record { symbols = S; words = W; rules = R }) at) ⟫ rest)
      third S W (parsed R at) = refl
      third S W (failed n) = refl

      second : (S : ℕ) (x : Parse ℕ) → (x ⟫ λ W at. field_at (numbers s) at (size_field 9 256) ⟫ λ R at. rest (record { symbols = S; words = W; rules = R }) at)
          ≡ ((x ⟫ λ W at. field_at (numbers s) at (size_field 9 256) ⟫ λ R at. parsed (record { symbols = S; words = W; rules = R }) at) ⟫ rest)
      second S (parsed W at) = third S W (field_at (numbers s) at (size_field 9 256))
      second S (failed n) = refl

      first : (x : Parse ℕ) → (x ⟫ λ S at. field_at (numbers s) at (size_field 8 200) ⟫ λ W at. field_at (numbers s) at (size_field 9 256) ⟫ λ R at. rest
          (record { symbols = S; words = W; rules = R }) at)
          ≡ ((x ⟫ λ S at. field_at (numbers s) at (size_field 8 200) ⟫ λ W at. field_at (numbers s) at (size_field 9 256) ⟫ λ R at. parsed
          (record { symbols = S; words = W; rules = R }) at) ⟫ rest)
      first (parsed S at) = second S (field_at (numbers s) at (size_field 8 200))
      first (failed n) = refl

  sizes_end : {z : Sizes} {at : ℕ} → sizes_from (numbers s) 0 ≡ parsed z at → at ≡ 3
  unfolding sizes_from
  sizes_end e =
      through (field_at (numbers s) 0 (size_field 6 32)) _ e λ S a p e. through (field_at (numbers s) a (size_field 8 200)) _ e λ W b q e.
      through (field_at (numbers s) b (size_field 9 256)) _ e λ R c r e.
      let i = (field_at_numbers_out s 0 (size_field 6 32) p).2 in
      let j = (field_at_numbers_out s a (size_field 8 200) q).2 in
      let k = (field_at_numbers_out s b (size_field 9 256) r).2 in
      same_parsed (λ z at. at ≡ 3) e (omega arith)

  -- what the reader promises
  abbrev Told : Result Sizes Refusal → Type 0
  Told r = (as_verdict r ≡ sizes_told (office_sheet s)) × InBounds r

  refused_sheet : {n : ℕ} (r : Result Sizes Refusal) → as_verdict r ≡ refused n → refused n ≡ sizes_told (office_sheet s) → Told r
  refused_sheet (Ok z) f e = cc
  refused_sheet (Err r) f e = (f ∙ e, tt)

  pub no_sizes : {n : ℕ} (r : Result Sizes Refusal) → as_verdict r ≡ refused n → failed n ≡ sizes_from (numbers s) 0 → Told r
  unfolding office_sheet
  no_sizes r f told = refused_sheet r f (rw (by_sizes, ← told))

  module _ {z : Sizes} {at : ℕ} (told : parsed z at ≡ sizes_from (numbers s) 0) where
    -- all rules
    abbrev all : Parse (List O.OfficeRule)
    all = office_rules_from s z.symbols z.words z.rules 3 []

    from_rules : office_from s 0 ≡ rest z 3
    from_rules = let three : at ≡ 3 = sizes_end (sym told) in rw (by_sizes, ← told, three)

    pub no_rules : {n : ℕ} (r : Result Sizes Refusal) → as_verdict r ≡ refused n → failed n ≡ place_of all → Told r
    unfolding office_sheet
    no_rules r f body = refused_sheet r f (rw (from_rules, unreached all body))

    module _ {end : ℕ} (body : parsed end end ≡ place_of all) where
      pub surplus : (end ≡ length s → ⊥) → refused 41 ≡ sizes_told (office_sheet s)
      unfolding office_sheet
      surplus f =
          let (rs, p) = reached_out all body in
          rw (from_rules, p, ne_eqb end (length s) f)

      pub whole : Bounded z → end ≡ length s → accepted z ≡ sizes_told (office_sheet s)
      unfolding office_sheet office_rules_at behind_all
      whole b f =
          let (rs, p) = reached_out all body in
          let is = (rules_read_lem s z.symbols z.words b.some_symbol b.some_word 3 z.rules 0 3 [] p (refl, refl, tt)).0 in
          let plus : z.rules + 0 ≡ z.rules = omega arith in
          let many : length rs ≡ z.rules = rw (is, plus) (length_rules s 3 z.rules) in
          rw (from_rules, p, eq-eqb end (length s) f, many)
