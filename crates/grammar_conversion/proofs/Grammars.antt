-- The arrays that a grammar was read into give back the grammar: its rules, its block and its sheet.
-- Assumes nothing.
use mathlib.Core.Path.{◌≡◌, refl, sym, ap, subst, ◌∙◌}
use mathlib.Core.Bool.{Bool, true, false}
use mathlib.Core.List.{List, [], ◌∷◌, ◌++◌, map, map-append, append-nil}
use Prim.Native.Nat.{ℕ, suc, ◌+◌, ◌*◌, ◌≤◌, ◌<◌}
use native.Mathlib.Nat.{add-zero, zero-add}
use native.Mathlib.Omega.{arith}
use lib.ListN.{length, length-map, take, get_or}
use Rattle.packing.specs.Meaning as meaning
use Rattle.packing.specs.Meaning.{MarkedRule, marked, rule_in, mark_in, grammar_of}
use Rattle.packing.specs.Parse.{Verdict, accepted, refused, ◌then◌}
use Rattle.packing.specs.Source.{values, value_of}
use Rattle.packing.specs.Grammar.{rule_entries, rules_entries, marked_rules_entries, marked_entries, block_of_marked, sheet_of_marked}
use Rattle.packing.specs.Flat.{Begins, rule_numbers, mark_numbers, MarkedIn}
use Rattle.packing.specs.Store.{store_all}
use Rattle.packing.specs.declared.Rule.TheVariants.{Pair, Word}
use Rattle.packing.proofs.Parse.{accepted_is, refused≢accepted}
use Rattle.packing.proofs.Bounds.{length_rules, length_marked}
use Rattle.packing.proofs.Flat.{begins_at, stored_begins, marked_rules_of}
use Rattle.grammar_reader.specs.Answer.{sizes, marked_sizes}
use Rattle.grammar_reader.specs.declared.Sizes.{Sizes}
use Rattle.sheet_writer.specs.Arrays.{grammar_fields, block_of, marked_row, marked_rows}

-- a sheet without marks has the rules' own numbers
plain_values : (S W : ℕ) (rs : List MarkedRule) → values (marked_rules_entries false S W rs) ≡ values (rules_entries S W (map rule_in rs))
unfolding marked_rules_entries rules_entries
plain_values S W [] = refl
plain_values S W (marked r m ∷ rs) =
    rw (
      append-nil (rule_entries S W r),
      map-append value_of (rule_entries S W r) (marked_rules_entries false S W rs),
      map-append value_of (rule_entries S W r) (rules_entries S W (map rule_in rs)),
      plain_values S W rs,
    )

-- and one with marks has the rows of both arrays
module _ (S W : ℕ) where
  -- from rule k on, the arrays have the numbers and the marks of the rules rs
  pub record From (rs : List MarkedRule) (l marks : List ℕ) (k : ℕ) : Type 0 where
    pub numbers : (i : ℕ) → i < 5 * length rs → get_or l (5 * k + i) 0 ≡ get_or (values (rules_entries S W (map rule_in rs))) i 0
    pub borne : (i : ℕ) → i < length rs → get_or marks (k + i) 0 ≡ get_or (map mark_in rs) i 0

  behind : (a b c d e : ℕ) (r : MarkedRule) (rs : List MarkedRule) (l marks : List ℕ) (k : ℕ)
      → values (rules_entries S W (map rule_in (r ∷ rs))) ≡ a ∷ b ∷ c ∷ d ∷ e ∷ values (rules_entries S W (map rule_in rs)) → From (r ∷ rs) l marks k
      → (marked_row l marks k ≡ a ∷ b ∷ c ∷ d ∷ e ∷ mark_in r ∷ []) × From rs l marks (suc k)
  behind a b c d e r rs l marks k same f =
      let at : (i : ℕ) → i < 5 * suc (length rs) → get_or l (5 * k + i) 0 ≡ get_or (a ∷ b ∷ c ∷ d ∷ e ∷ values (rules_entries S W (map rule_in rs))) i 0 =
      λ i h. f.numbers i h ∙ ap (λ (z : List ℕ). get_or z i 0) same in
      let n0 : get_or l (5 * k) 0 ≡ a = rw add-zero at (at 0 (omega arith)) in
      let n1 : get_or l (5 * k + 1) 0 ≡ b = at 1 (omega arith) in
      let n2 : get_or l (5 * k + 2) 0 ≡ c = at 2 (omega arith) in
      let n3 : get_or l (5 * k + 3) 0 ≡ d = at 3 (omega arith) in
      let n4 : get_or l (5 * k + 4) 0 ≡ e = at 4 (omega arith) in
      let m : get_or marks k 0 ≡ mark_in r = rw add-zero at (f.borne 0 (omega arith)) in
      let s : (i : ℕ) → 5 * suc k + i ≡ 5 * k + suc (suc (suc (suc (suc i)))) = λ i. omega arith in
      let t : (i : ℕ) → suc k + i ≡ k + suc i = λ i. omega arith in (
        rw (n0, n1, n2, n3, n4, m),
        record { numbers = λ i h. rw (s i) (at (suc (suc (suc (suc (suc i))))) (omega arith)); borne = λ i h. rw (t i) (f.borne (suc i) (omega arith)) },
      )

  marked_values : (rs : List MarkedRule) (l marks : List ℕ) (k : ℕ) → From rs l marks k
      → marked_rows l marks k (length rs) ≡ values (marked_rules_entries true S W rs)
  unfolding marked_rows marked_rules_entries rules_entries
  marked_values [] l marks k f = refl
  marked_values (marked (Pair h x y w) m ∷ rs) l marks k f =
      let (row, g) = behind 0 h.0 w x.0 y.0 (marked (Pair h x y w) m) rs l marks k refl f in
      ap (λ (q : List ℕ). q ++ marked_rows l marks (suc k) (length rs)) row
      ∙ ap (λ (q : List ℕ). (0 ∷ h.0 ∷ w ∷ x.0 ∷ y.0 ∷ m ∷ []) ++ q) (marked_values rs l marks (suc k) g)
  marked_values (marked (Word h x w) m ∷ rs) l marks k f =
      let (row, g) = behind 1 h.0 w x.0 0 (marked (Word h x w) m) rs l marks k refl f in
      ap (λ (q : List ℕ). q ++ marked_rows l marks (suc k) (length rs)) row
      ∙ ap (λ (q : List ℕ). (1 ∷ h.0 ∷ w ∷ x.0 ∷ 0 ∷ m ∷ []) ++ q) (marked_values rs l marks (suc k) g)

module _ (m : meaning.Marked) (l marks : List ℕ) (b : Begins (rule_numbers (grammar_of m)) l) (c : Begins (mark_numbers m) marks) where
  size : length (map rule_in m.rules) ≡ length m.rules
  size = length-map m.rules rule_in

  pub block_is : block_of_marked m ≡ block_of (grammar_fields m.marking m.symbols m.words (length (map rule_in m.rules)) l marks)
  unfolding block_of_marked marked_entries
  block_is = rw (size, marked_rules_of m l marks b c)

  plain_is : m.marking ≡ false
      → sheet_of_marked m ≡ (m.symbols ∷ m.words ∷ length (map rule_in m.rules) ∷ []) ++ take (5 * length (map rule_in m.rules)) l
  unfolding sheet_of_marked marked_entries
  plain_is e =
      rw (e, plain_values m.symbols m.words m.rules, ← length_rules m.symbols m.words (map rule_in m.rules), b, size)

  from_first : From m.symbols m.words m.rules l marks 0
  from_first =
      let n = length_rules m.symbols m.words (map rule_in m.rules) in
      let k : length (mark_numbers m) ≡ length m.rules = length-map m.rules mark_in in
      let z : (i : ℕ) → 5 * 0 + i ≡ i = λ i. omega arith in
      record {
        numbers = λ i h. rw (z i) (begins_at (rule_numbers (grammar_of m)) l i b (omega (arith, size)));
        borne = λ i h. rw zero-add (begins_at (mark_numbers m) marks i c (omega arith));
      }

  marked_is : m.marking ≡ true → (joined after : List ℕ) → after ≡ store_all joined 0 (marked_rows l marks 0 (length (map rule_in m.rules)))
      → 6 * length m.rules ≤ length joined
      → sheet_of_marked m ≡ (m.symbols ∷ m.words ∷ length (map rule_in m.rules) ∷ []) ++ take (6 * length (map rule_in m.rules)) after
  unfolding sheet_of_marked marked_entries
  marked_is e joined after stored room =
      let rows : marked_rows l marks 0 (length (map rule_in m.rules)) ≡ values (marked_rules_entries true m.symbols m.words m.rules) =
      ap (marked_rows l marks 0) size ∙ marked_values m.symbols m.words m.rules l marks 0 from_first in
      let n : length (values (marked_rules_entries true m.symbols m.words m.rules)) ≡ 6 * length m.rules =
      length_marked true m.symbols m.words m.rules in
      let begun : take (6 * length m.rules) after ≡ values (marked_rules_entries true m.symbols m.words m.rules) =
      rw (stored, rows, ← n) (stored_begins joined (values (marked_rules_entries true m.symbols m.words m.rules)) (omega (arith, n, room))) in
      rw (e, size, begun)

-- what a reader's answer tells of what is to be written
pub record Told (v : Verdict meaning.Marked) (z : Sizes) (k : Bool) (l marks : List ℕ) : Type 0 where
  pub block : (v then λ m. accepted (block_of_marked m)) ≡ accepted (block_of (grammar_fields k z.symbols z.words z.rules l marks))
  pub plain : k ≡ false → (v then λ m. accepted (sheet_of_marked m)) ≡ accepted ((z.symbols ∷ z.words ∷ z.rules ∷ []) ++ take (5 * z.rules) l)
  pub joined : k ≡ true → (before after : List ℕ) → after ≡ store_all before 0 (marked_rows l marks 0 z.rules) → 6 * z.rules ≤ length before
      → (v then λ m. accepted (sheet_of_marked m)) ≡ accepted ((z.symbols ∷ z.words ∷ z.rules ∷ []) ++ take (6 * z.rules) after)

made : (m : meaning.Marked) (l marks : List ℕ) → Begins (rule_numbers (grammar_of m)) l → Begins (mark_numbers m) marks
    → Told (accepted m) (sizes (grammar_of m)) m.marking l marks
made m l marks b c = record {
  block = ap accepted (block_is m l marks b c);
  plain = λ f. ap accepted (plain_is m l marks b c f);
  joined = λ t before after s room. ap accepted (marked_is m l marks b c t before after s (omega (arith, room, length-map m.rules rule_in)));
}

pub told : (v : Verdict meaning.Marked) {z : Sizes} {k : Bool} → accepted (z, k) ≡ marked_sizes v → (l marks : List ℕ) → MarkedIn v l marks
    → Told v z k l marks
told (accepted m) {z} {k} e l marks (b, c) =
    let s : (sizes (grammar_of m), m.marking) ≡ (z, k) = sym (accepted_is e) in
    subst (λ (y : Sizes × Bool). Told (accepted m) y.0 y.1 l marks) s (made m l marks b c)
told (refused n) e l marks b = absurd (refused≢accepted (sym e))
