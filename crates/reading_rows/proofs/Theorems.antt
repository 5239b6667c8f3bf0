-- What the rows say of an office's grammar: document 02, N5, "The office's derivations and the converted grammar's match one to one, with equal
-- weight. The lister leaves helper nodes out." What `OfficeToBlock` promises of the block that it wrote is what is assumed of the grammar here.
use mathlib.Core.Path.{◌≡◌, sym, ap, subst, ◌∙◌}
use mathlib.Core.List.{List}
use Prim.Native.Nat.{ℕ, ◌≤◌}
use Rattle.packing.specs.Meaning.{Grammar, Marked, grammar_of, symbol_of, Heard, heard_edges, last_place}
use Rattle.packing.specs.Parse.{accepted}
use Rattle.packing.specs.Grammar.{marked_block}
use Rattle.packing.proofs.Parse.{accepted_is}
use Rattle.derivation.specs.Derivation.{Tree, Derivation, weight, walk}
use Rattle.office.specs.Office.{Office}
use Rattle.office.specs.Conversion.{convert, marks, convert_marked}
use Rattle.office.proofs.Marked.{marked_grammar, marked_marks}
use Rattle.office_theory.specs.Derivations.{OfficeTree, office_weight, office_walk}
use Rattle.office_theory.specs.Matching.{OfficeDerivation, Match, without_marked}
use Rattle.reading_rows.specs.Rows.{row, row_of, kth_row, Rows}

module _ (o : Office) (matching : (h : Heard) → Match o h) where
  -- of a derivation of the converted grammar: the row has the office derivation's weight and its own rule numbers
  office_row : (k : ℕ) (h : Heard) (s : Tree) → Derivation (convert o) h s
      → row k (weight (convert o) (heard_edges h) s) (without_marked (marks o) (walk s))
      ≡ row k (office_weight o (heard_edges h) ((matching h).to_office s)) (office_walk ((matching h).to_office s))
  office_row k h s d =
      let m = matching h in
      let t = m.to_office s in
      let own = m.back s d in
      let again : m.to_grammar t ≡ s = m.back_out s d in
      let weighs : weight (convert o) (heard_edges h) s ≡ office_weight o (heard_edges h) t = rw again at (m.weighs t own) in
      let walks : without_marked (marks o) (walk s) ≡ office_walk t = rw again at (m.walks t own) in
      ap (λ (w : ℕ). row k w (without_marked (marks o) (walk s))) weighs ∙ ap (row k (office_weight o (heard_edges h) t)) walks

  pub office_rows : (grammar heard : List ℕ) (found : ℕ) (shown shown' : List ℕ) → marked_block grammar ≡ accepted (convert_marked o)
      → (rows : Rows grammar heard found shown shown') → (k : ℕ) → 1 ≤ k → k ≤ found
      → (t : OfficeTree) × OfficeDerivation o (heard_edges rows.h) (symbol_of 0) 0 (last_place rows.h) t
      × (kth_row k shown' ≡ row k (office_weight o (heard_edges rows.h) t) (office_walk t))
  office_rows grammar heard found shown shown' is rows k l u =
      let (s, ranked, stands) = rows.rows k l u in
      let same : rows.m ≡ convert_marked o = accepted_is (sym rows.grammar_means ∙ is) in
      let d : Derivation (convert o) rows.h s =
      subst (λ (g : Grammar). Derivation g rows.h s) (ap grammar_of same ∙ marked_grammar o) ranked.derivation in
      let whole : kth_row k shown' ≡ row_of k (convert_marked o) rows.h s = stands ∙ ap (λ (m : Marked). row_of k m rows.h s) same in (
        (matching rows.h).to_office s,
        (matching rows.h).back s d,
        rw (marked_grammar o, marked_marks o) at whole ∙ office_row k rows.h s d,
      )
