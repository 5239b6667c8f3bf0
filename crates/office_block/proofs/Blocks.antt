-- What the conversion answers tells the block that is to be written: the arrays have the rules and the marks of the converted grammar.
-- Assumes nothing.
use mathlib.Core.Path.{◌≡◌, refl, sym, ap, subst}
use mathlib.Core.Bool.{true}
use mathlib.Core.List.{List}
use Prim.Native.Nat.{ℕ, ◌≤◌}
use native.Mathlib.Omega.{arith}
use lib.ListN.{length, replicate}
use Rattle.packing.specs.Meaning as meaning
use Rattle.packing.specs.Parse.{Verdict, accepted, refused, ◌then◌}
use Rattle.packing.specs.Grammar.{block_of_marked}
use Rattle.packing.specs.Flat.{Begins, rule_numbers}
use Rattle.packing.specs.Ranges.{Ranges}
use Rattle.sheet_writer.specs.Arrays.{grammar_fields, block_of}
use Rattle.grammar_reader.specs.Answer.{sizes}
use Rattle.grammar_reader.specs.declared.Sizes.{Sizes}
use Rattle.grammar_conversion.proofs.Grammars.{block_is}
use Rattle.office.specs.Office.{Office}
use Rattle.office.specs.Conversion.{convert, marks, convert_marked}
use Rattle.office.proofs.Marked.{marked_grammar, marked_marks}
use Rattle.office.proofs.Steps.{result_rules}
use Rattle.office_conversion.specs.Limits.{office_grammar}
use Rattle.office_conversion.specs.Answer.{sizes_told, RulesIn}
use Rattle.office_conversion.proofs.Limits.{limited, some_symbol, words_between, office_first}
use Rattle.office_block.specs.Block.{office_to_block}
use Rattle.office_block.proofs.Marks.{Left, marks_stand}

refused_told : (v : Verdict Office) (k : Office → Verdict (List ℕ)) {n : ℕ} → refused n ≡ sizes_told v → (v then k) ≡ refused n
refused_told (accepted o) k e = cc
refused_told (refused m) k e = cc

-- what holds of each accepted office grammar holds of the sizes answered
of_office : (P : Sizes → ℕ → Type 0) (v : Verdict Office) {z : Sizes} {first : ℕ} → accepted (z, first) ≡ sizes_told v
    → ((o : Office) → v ≡ accepted o → P (sizes (convert o)) (length o.rules)) → P z first
of_office P (accepted o) {z} {first} e h =
    let p : (sizes (convert o), length o.rules) ≡ (z, first) = cc in
    subst (λ (y : Sizes × ℕ). P y.0 y.1) p (h o refl)
of_office P (refused m) e h = cc

-- its block, from the arrays
block_made : (o : Office) (rules array : List ℕ) → Begins (rule_numbers (convert o)) rules → Begins (marks o) array
    → block_of_marked (convert_marked o) ≡ block_of (grammar_fields true (convert o).symbols (convert o).words (length (convert o).rules) rules array)
unfolding convert_marked
block_made o rules array b c =
    subst (λ (g : meaning.Grammar). block_of_marked (convert_marked o) ≡ block_of (grammar_fields true g.symbols g.words (length g.rules) rules array))
    (marked_grammar o)
    (block_is (convert_marked o) rules array (subst (λ (g : meaning.Grammar). Begins (rule_numbers g) rules) (sym (marked_grammar o)) b)
    (subst (λ (l : List ℕ). Begins l array) (sym (marked_marks o)) c))

module _ (s : List ℕ) where
  pub not_converted : {n : ℕ} → refused n ≡ sizes_told (office_grammar s) → office_to_block s ≡ refused n
  unfolding office_to_block
  not_converted e = refused_told (office_grammar s) _ e

  module _ {z : Sizes} {first : ℕ} (e : accepted (z, first) ≡ sizes_told (office_grammar s)) where
    pub marks_room : (first ≤ z.rules) × (z.rules ≤ 256)
    marks_room =
        of_office (λ y f. (f ≤ y.rules) × (y.rules ≤ 256)) (office_grammar s) e
        (λ o q. let l = limited s q in (office_first l, l.rules))

    pub in_ranges : Ranges z.symbols z.words
    in_ranges =
        of_office (λ y f. Ranges y.symbols y.words) (office_grammar s) e
        (λ o q.
        let l = limited s q in
        record { some_symbol = some_symbol l; symbols = l.symbols; some_word = (words_between l).0; words = (words_between l).1 })

    pub block_told : (m : ℕ) → 256 ≤ m → (rules array : List ℕ) → RulesIn (office_grammar s) rules → array ≡ Left z.rules (replicate m 0) first
        → office_to_block s ≡ accepted (block_of (grammar_fields true z.symbols z.words z.rules rules array))
    unfolding office_to_block
    block_told m room rules array b =
        of_office
        (λ y f. array ≡ Left y.rules (replicate m 0) f
        → (office_grammar s then λ o. accepted (block_of_marked (convert_marked o)))
        ≡ accepted (block_of (grammar_fields true y.symbols y.words y.rules rules array)))
        (office_grammar s) e
        (λ o q w.
        let l = limited s q in
        let stand = marks_stand o m (length (convert o).rules) (result_rules o) (omega (arith, l.rules, room)) w in
        rw q (ap accepted (block_made o rules array (rw q at b) stand)))
