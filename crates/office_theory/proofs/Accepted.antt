-- A converted grammar that keeps the limits of symbols and rules is accepted: every field is in its range, and no two rules are
-- alike.
use mathlib.Core.Path.{◌≡◌, refl, sym, subst}
use mathlib.Core.Bool.{Bool, true, false, false≢true, ◌&&◌}
use mathlib.Core.List.{List, [], ◌∷◌, ◌++◌, map, append-nil}
use Prim.Native.Nat.{ℕ, suc, ◌+◌, ◌≤◌, ◌<◌}
use native.Mathlib.Omega.{arith}
use borrow.Author.Tests.{eqb-true}
use lib.ListN.{length}
use Rattle.bits.specs.Bits.{pick}
use Rattle.packing.specs.declared.Sym.{Sym}
use Rattle.packing.specs.declared.Word as W
use Rattle.packing.specs.declared.Rule as R
use Rattle.packing.specs.declared.Rule.TheVariants.{Pair, Word}
use Rattle.packing.specs.Meaning.{MarkedRule, marked}
use Rattle.packing.specs.Alike.{any_like, All}
use Rattle.packing.specs.Grammar.{alike, rule_entries, rules_entries, grammar_entries}
use Rattle.packing.specs.Valid.{InRange, Fits, ValidGrammar, MarkWithin, ValidMarked}
use Rattle.packing.specs.Valid as P
use Rattle.packing.proofs.Entries.{each_join}
use Rattle.packing.proofs.Grammar.{valid_marked}
use Rattle.derivation.specs.Derivation.{At}
use Rattle.derivation.proofs.Lists.{at_length}
use Rattle.derivation.proofs.Trees.{same_sym, same_word}
use Rattle.office.specs.Office.{OfficeRule, Office, Valid, OfficeWithin, OfficeUnlike}
use Rattle.office.proofs.Marked.{marked_grammar}
use Rattle.office.proofs.Steps.{result_symbols, result_words, result_rules}
use Rattle.office.specs.Conversion.{for_word, joins, helper, helpers, convert, rules_behind, helper_rules, convert_marked}
use Rattle.office_theory.proofs.Spelled.{Becomes, word_rule, pair_rule_lem, Meant, for_word_lem, for_items, spells_below}
use Rattle.office_theory.proofs.ConvertedRules.{
  head_of,
  Origin,
  of_office,
  of_word,
  of_joined,
  origin,
  ranges,
  helper_meant,
  Place,
  office,
  helping,
  place,
  spells_one,
}

-- no two rules are alike, said by places
both_out : (a b : Bool) → (a && b) ≡ true → (a ≡ true) × (b ≡ true)
both_out true b e = (refl, e)
both_out false b e = absurd (false≢true e)

any_out : (c : R.Rule) (rs : List R.Rule) → any_like alike c rs ≡ true → (n : ℕ) × (d : R.Rule) × At rs n d × (alike c d ≡ true)
unfolding any_like
any_out c [] e = absurd (false≢true e)
any_out c (d ∷ rs) e = go (alike c d) refl e (any_out c rs)
  where
    go : (b : Bool) → alike c d ≡ b → pick b true (any_like alike c rs) ≡ true
        → (any_like alike c rs ≡ true → (n : ℕ) × (d : R.Rule) × At rs n d × (alike c d ≡ true))
        → (n : ℕ) × (d' : R.Rule) × At (d ∷ rs) n d' × (alike c d' ≡ true)
    go true a e f = (0, d, refl, a)
    go false a e f = let (n, d', p, q) = f e in (suc n, d', p, q)

unlike_of : (rs : List R.Rule)
    → ((m n : ℕ) (c d : R.Rule) → At rs m c → At rs n d → alike c d ≡ true → m ≡ n) → P.Unlike rs
unlike_of [] h = tt
unlike_of (c ∷ rs) h = (
  go (any_like alike c rs) refl,
  unlike_of rs (λ m n c d p q e. let z = h (suc m) (suc n) c d p q e in omega (arith, z)),
)
  where
    go : (b : Bool) → any_like alike c rs ≡ b → any_like alike c rs ≡ false
    go false e = e
    go true e = let (n, d, p, q) = any_out c rs e in let z = h 0 (suc n) c d refl p q in absurd (omega (arith, z))

-- each rule's fields are in range
rules_fit : (S Ws : ℕ) (rs : List R.Rule) → ((n : ℕ) (c : R.Rule) → At rs n c → Fits (rule_entries S Ws c)) → Fits (rules_entries S Ws rs)
unfolding rules_entries
rules_fit S Ws [] h = tt
rules_fit S Ws (c ∷ rs) h =
    each_join InRange (rule_entries S Ws c) (rules_entries S Ws rs) (h 0 c refl) (rules_fit S Ws rs (λ n d p. h (suc n) d p))

word_fits : (S Ws : ℕ) {A : Sym} {x : W.Word} {w : ℕ} → A.0 < S → x.0 < Ws → w ≤ 65535 → Fits (rule_entries S Ws (Word A x w))
word_fits S Ws a b c = omega arith

pair_fits : (S Ws : ℕ) {A B C : Sym} {w : ℕ} → A.0 < S → B.0 < S → C.0 < S → w ≤ 65535 → Fits (rule_entries S Ws (Pair A B C w))
pair_fits S Ws a b c d = omega arith

module _ (o : Office) (v : OfficeWithin o) where
  abbrev n : ℕ
  n = o.symbols + length (helpers o)

  fits : (r : ℕ) (c : R.Rule) → Origin o r c → Fits (rule_entries n o.words c)
  fits r _ (of_office p word_rule) =
      let a = ranges o v r p in word_fits n o.words (omega (arith, a.0)) a.3.0 a.1
  fits r _ (of_office p (pair_rule_lem s t)) =
      let a = ranges o v r p in
      pair_fits n o.words (omega (arith, a.0)) (spells_below o.symbols (helpers o) s) (spells_below o.symbols (helpers o) t)
      a.1
  fits _ _ (of_word {x = x} k a) = go (helper_meant o v k a)
    where
      go : Meant o.symbols (helpers o) o.words (for_word x) → Fits (rule_entries n o.words (Word (helper o.symbols k) x 0))
      go (for_word_lem b) = word_fits n o.words (omega (arith, at_length (helpers o) k a)) b (omega arith)
  fits _ _ (of_joined {X = X} {Y = Y} k a) = go (helper_meant o v k a)
    where
      go : Meant o.symbols (helpers o) o.words (joins X Y) → Fits (rule_entries n o.words (Pair (helper o.symbols k) X Y 0))
      go (for_items s t) =
          pair_fits n o.words (omega (arith, at_length (helpers o) k a)) (spells_below o.symbols (helpers o) s)
          (spells_below o.symbols (helpers o) t) (omega arith)

  -- alike rules have one head; an office's rule has a head below S, and a helper's has the helper
  alike_heads : (c d : R.Rule) → alike c d ≡ true → (head_of c).0 ≡ (head_of d).0
  unfolding head_of
  alike_heads (Pair A B C w) (Pair A' B' C' w') e = eqb-true A.0 A'.0 (both_out _ _ (both_out _ _ e).0).0
  alike_heads (Pair A B C w) (Word A' x' w') e = absurd (false≢true e)
  alike_heads (Word A x w) (Pair A' B' C' w') e = absurd (false≢true e)
  alike_heads (Word A x w) (Word A' x' w') e = eqb-true A.0 A'.0 (both_out _ _ e).0

  module _ (u : OfficeUnlike o.rules) where
    -- office rules that become alike have head and items alike
    office_one : (q r : ℕ) {a b : OfficeRule} {c d : R.Rule} → At o.rules q a → At o.rules r b
        → Becomes o.symbols (helpers o) a c → Becomes o.symbols (helpers o) b d → alike c d ≡ true → q ≡ r
    office_one q r p p' (word_rule {A} {w} {x}) (word_rule {A = A'} {w = w'} {x = x'}) e =
        let h = both_out _ _ e in
        let f : A' ≡ A = sym (same_sym A A' (eqb-true A.0 A'.0 h.0)) in
        let g : x' ≡ x = sym (same_word x x' (eqb-true x.0 x'.0 h.1)) in
        u q r w w' A _ p (rw (f, g) at p')
    office_one q r p p' word_rule (pair_rule_lem s t) e = absurd (false≢true e)
    office_one q r p p' (pair_rule_lem s t) word_rule e = absurd (false≢true e)
    office_one q r p p' (pair_rule_lem {A} {X} {Z} {w} {x} {y} {l} s t) (pair_rule_lem {A = A'} {X = X'} {Z = Z'} {w = w'} {x = x'} {y = y'} {l = l'} s' t') e =
        let h = both_out _ _ e in
        let h' = both_out _ _ h.0 in
        let f : A' ≡ A = sym (same_sym A A' (eqb-true A.0 A'.0 h'.0)) in
        let g : X' ≡ X = sym (same_sym X X' (eqb-true X.0 X'.0 h'.1)) in
        let k : Z' ≡ Z = sym (same_sym Z Z' (eqb-true Z.0 Z'.0 h.1)) in
        let m : x' ∷ [] ≡ x ∷ [] = spells_one o (rw g at s') s in
        let n : y' ∷ l' ≡ y ∷ l = spells_one o (rw k at t') t in
        let items : x' ∷ y' ∷ l' ≡ x ∷ y ∷ l = cc in
        u q r w w' A _ p (rw (f, items) at p')

    alike_one : (q r : ℕ) (c d : R.Rule) → Place o q c → Place o r d → alike c d ≡ true → q ≡ r
    alike_one q r c d (office b p s) (office b' p' t) e = office_one q r p p' s t e
    alike_one q r c d (office b p s) (helping k h m) e = absurd (omega (arith, alike_heads c d e))
    alike_one q r c d (helping k h m) (office b p s) e = absurd (omega (arith, alike_heads c d e))
    alike_one q r c d (helping k h m) (helping k' h' m') e = omega (arith, alike_heads c d e)

-- what is converted is accepted, unless it passes 32 symbols or 256 rules
pub converted_valid : (o : Office) → Valid o → (convert o).symbols ≤ 32 → length (convert o).rules ≤ 256 → ValidGrammar (convert o)
unfolding grammar_entries
converted_valid o v h m = (
  (symbols, (words, (rules, rw (result_words o) (rules_fit (convert o).symbols o.words (convert o).rules all)))),
  unlike_of (convert o).rules (λ q r c d p p' e.
      alike_one o w v.unlike q r c d (place o w q p) (place o w r p') e),
)
  where
    w : OfficeWithin o
    w = v.within

    symbols : (1 ≤ (convert o).symbols) × ((convert o).symbols ≤ 32)
    symbols = (omega (arith, result_symbols o, v.symbols.0), h)

    words : (1 ≤ (convert o).words) × ((convert o).words ≤ 200)
    words = rw (result_words o) v.words

    rules : (1 ≤ length (convert o).rules) × (length (convert o).rules ≤ 256)
    rules = (omega (arith, result_rules o, v.rules.0), m)

    all : (r : ℕ) (c : R.Rule) → At (convert o).rules r c → Fits (rule_entries (convert o).symbols o.words c)
    all r c p = rw (result_symbols o) (fits o w r c (origin o w r p))

-- and so it is with its marks
marks_within : (x : ℕ) → x ≤ 1 → (rs : List R.Rule) (more : List MarkedRule) → All (MarkWithin true) more
    → All (MarkWithin true) (map (λ r. marked r x) rs ++ more)
marks_within x h [] more w = w
marks_within x h (r ∷ rs) more w = (h, marks_within x h rs more w)

all_within : (o : Office) → All (MarkWithin (convert_marked o).marking) (convert_marked o).rules
unfolding convert_marked
all_within o =
    let qs = rules_behind o.symbols [] o.rules in
    let gs = helper_rules o.symbols 0 (helpers o) in
    let helping : All (MarkWithin true) (map (λ r. marked r 1) gs) = rw append-nil at (marks_within 1 (omega arith) gs [] tt) in
    marks_within 0 (omega arith) qs (map (λ r. marked r 1) gs) helping

pub marked_valid : (o : Office) → Valid o → (convert o).symbols ≤ 32 → length (convert o).rules ≤ 256 → ValidMarked (convert_marked o)
marked_valid o v h m = valid_marked (convert_marked o) (subst ValidGrammar (sym (marked_grammar o)) (converted_valid o v h m)) (all_within o)
