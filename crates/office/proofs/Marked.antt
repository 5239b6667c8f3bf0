-- The converted grammar of kind 4 is the converted grammar with its marks.
use mathlib.Core.Path.{◌≡◌, refl, ap}
use mathlib.Core.List.{List, [], ◌∷◌, map, map-append}
use Prim.Native.Nat.{ℕ}
use native.Mathlib.Omega.{arith}
use lib.ListN.{length}
use Rattle.packing.specs.declared.Rule as R
use Rattle.packing.specs.Meaning.{marked, rule_in, mark_in, grammar_of}
use Rattle.office.specs.Office.{Office}
use Rattle.office.specs.Conversion.{rules_behind, helpers, helper_rules, convert, marks, convert_marked}
use Rattle.office.proofs.Steps.{rules_length, helpers_length}

rules_in : (m : ℕ) (rs : List R.Rule) → map rule_in (map (λ r. marked r m) rs) ≡ rs
rules_in m [] = refl
rules_in m (r ∷ rs) = ap (λ (l : List R.Rule). r ∷ l) (rules_in m rs)

-- as many marks as there are others
marks_in : {A : Type 0} (m : ℕ) (rs : List R.Rule) (l : List A) → length rs ≡ length l → map mark_in (map (λ r. marked r m) rs) ≡ map (λ x. m) l
marks_in m [] [] e = refl
marks_in m [] (x ∷ l) e = let z : ◌≡◌ {A = ℕ} 0 1 = cc in absurd (omega arith)
marks_in m (r ∷ rs) [] e = let z : ◌≡◌ {A = ℕ} 0 1 = cc in absurd (omega arith)
marks_in m (r ∷ rs) (x ∷ l) e = ap (λ (k : List ℕ). m ∷ k) (marks_in m rs l (omega arith))

pub marked_grammar : (o : Office) → grammar_of (convert_marked o) ≡ convert o
unfolding convert convert_marked
marked_grammar o =
    let qs = rules_behind o.symbols [] o.rules in
    let gs = helper_rules o.symbols 0 (helpers o) in
    rw (map-append rule_in (map (λ r. marked r 0) qs) (map (λ r. marked r 1) gs), rules_in 0 qs, rules_in 1 gs)

pub marked_marks : (o : Office) → map mark_in (convert_marked o).rules ≡ marks o
unfolding convert_marked marks
marked_marks o =
    let qs = rules_behind o.symbols [] o.rules in
    let gs = helper_rules o.symbols 0 (helpers o) in
    rw (
      map-append mark_in (map (λ r. marked r 0) qs) (map (λ r. marked r 1) gs),
      marks_in 0 qs o.rules (rules_length o.symbols [] o.rules),
      marks_in 1 gs (helpers o) (helpers_length o.symbols 0 (helpers o)),
    )
