-- What is printed of a walk: the numbers whose rules are not marked, one behind the other. Below R the array of marks has the grammar's, and a
-- derivation's rules are below R.
use mathlib.Core.Path.{◌≡◌, sym, ap, ◌∙◌}
use mathlib.Core.List.{List, [], ◌∷◌, ◌++◌, map, append-nil}
use Prim.Native.Nat.{ℕ, ◌+◌, ◌-◌, ◌≤◌, ◌<◌}
use native.Mathlib.Numerals.{add-one}
use native.Mathlib.Omega.{arith}
use borrow.Author.Tests.{ne_eqb}
use lib.ListN.{length, length-map, get_or, set, take, drop, take-append-drop}
use lib.Seq.{take-suc, take-suc-set, length-take-le, drop-drop}
use Rattle.packing.specs.declared.Sym.{Sym}
use Rattle.packing.specs.Meaning.{Grammar, Marked, mark_in, rule_in, grammar_of, Edge, Heard, heard_edges}
use Rattle.packing.specs.Flat.{Begins, rule_numbers, mark_numbers}
use Rattle.packing.specs.Valid.{ValidMarked, ValidHeard}
use Rattle.packing.proofs.Flat.{begins_at}
use Rattle.packing.proofs.Grammar.{valid_unmarked}
use Rattle.derivation.specs.Derivation.{Tree, Derives, by_word_rule, by_pair_rule, Derivation, weight, walk}
use Rattle.derivation.specs.Heard.{packed}
use Rattle.derivation.proofs.Lists.{at_length}
use Rattle.office_theory.specs.Matching.{without_marked}
use Rattle.office_theory.proofs.Walks.{without_append}
use Rattle.reading_rows.specs.Rows.{shown_of}
use Rattle.reading_rows.specs.Model.{shape_of, Says, Shown}
use Rattle.reading_rows.specs.declared.Line.{Line}
use Rattle.reading_rows.specs.declared.Shape.{Shape}

-- a rule
module _ (marks shown : List ℕ) (rule k : ℕ) where
  pub shows : get_or marks rule 0 ≡ 0 → k < length shown → take (k + 1) (set shown k rule) ≡ take k shown ++ without_marked marks (rule ∷ [])
  unfolding without_marked
  shows e h = rw (e, add-one k) (take-suc-set shown k rule h)

  pub hides : (get_or marks rule 0 ≡ 0 → ⊥) → take k shown ≡ take k shown ++ without_marked marks (rule ∷ [])
  unfolding without_marked
  hides f = rw (ne_eqb (get_or marks rule 0) 0 f) (sym (append-nil (take k shown)))

-- a walk, rule by rule
module _ (marks walk : List ℕ) where
  pub one_more : (i k n : ℕ) (shown after : List ℕ) → i < length walk → take k shown ≡ without_marked marks (take i walk)
      → take n after ≡ take k shown ++ without_marked marks (get_or walk i 0 ∷ []) → take n after ≡ without_marked marks (take (i + 1) walk)
  one_more i k n shown after h e f =
      f ∙ ap (λ (l : List ℕ). l ++ without_marked marks (get_or walk i 0 ∷ [])) e ∙ sym (without_append marks (take i walk) (get_or walk i 0 ∷ []))
      ∙ ap (without_marked marks) (sym (rw (add-one i) (take-suc walk i 0 h)))

  pub all_shown : (k : ℕ) (shown after : List ℕ) → k ≤ length after → take k after ≡ without_marked marks walk
      → drop k after ≡ drop k shown → Shown marks walk k shown after
  all_shown k shown after h e f = (
    sym (length-take-le k after h) ∙ ap length e,
    sym (take-append-drop k after) ∙ ap (λ (l : List ℕ). l ++ drop k after) e ∙ ap (λ (l : List ℕ). without_marked marks walk ++ l) f,
  )

-- what stands behind stays
pub further : (k n : ℕ) (l l' l'' : List ℕ) → k ≤ n → drop k l ≡ drop k l' → drop n l'' ≡ drop n l → drop n l'' ≡ drop n l'
further k n l l' l'' h e f =
    let more : k + (n - k) ≡ n = omega arith in
    let same : drop n l ≡ drop n l' = rw more at (sym (drop-drop (n - k) k l) ∙ ap (drop (n - k)) e ∙ drop-drop (n - k) k l') in
    f ∙ same

-- a derivation's walk
module _ (g : Grammar) (es : List Edge) (marks ms : List ℕ) (same : (r : ℕ) → r < length g.rules → get_or marks r 0 ≡ get_or ms r 0) where
  same_walk : {A : Sym} {i k : ℕ} {t : Tree} → Derives g es A i k t → without_marked marks (walk t) ≡ without_marked ms (walk t)
  unfolding without_marked walk
  same_walk (by_word_rule {r = r} p o) = rw (same r (at_length g.rules r p))
  same_walk (by_pair_rule {r = r} {s = s} {t = t} p h₁ h₂ d₁ d₂) =
      rw (
        same r (at_length g.rules r p),
        without_append marks (walk s) (walk t),
        without_append ms (walk s) (walk t),
        same_walk d₁,
        same_walk d₂,
      )

-- what the whole line says of a reading, and what is shown of it
pub shown_of_lem : (rules marks : List ℕ) (s : Shape) (block : List ℕ) (line : Line) (walked : List ℕ) → Says rules s block line walked
    → (m : Marked) (h : Heard) (t : Tree) → ValidMarked m → ValidHeard m.words h → Begins (rule_numbers (grammar_of m)) rules → Begins (mark_numbers m) marks
    → s ≡ shape_of (grammar_of m) h → Derivation (grammar_of m) h t → block ≡ packed (grammar_of m) h t
    → (line.weight ≡ weight (grammar_of m) (heard_edges h) t) × (without_marked marks (take line.nodes walked) ≡ shown_of m t)
shown_of_lem rules marks s block line walked say m h t ok valid stand marked shape d is =
    let (a, b, c) = say (grammar_of m) h t (valid_unmarked m ok) valid stand shape d is in
    let w : take line.nodes walked ≡ walk t = rw b c in
    let size : length (map rule_in m.rules) ≡ length (mark_numbers m) = length-map m.rules rule_in ∙ sym (length-map m.rules mark_in) in
    let same : without_marked marks (walk t) ≡ without_marked (mark_numbers m) (walk t) =
    same_walk (grammar_of m) (heard_edges h) marks (mark_numbers m) (λ r l. begins_at (mark_numbers m) marks r marked (omega (arith, size))) d in
    (a, ap (without_marked marks) w ∙ same)
