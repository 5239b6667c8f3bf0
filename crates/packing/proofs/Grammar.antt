-- A grammar of either kind is read from a source exactly if its entries are taken there and no two of its rules are alike. Without its
-- marks it is valid too.
-- Assumes nothing.
use mathlib.Core.Path.{◌≡◌, refl}
use mathlib.Core.Bool.{Bool, true, false}
use mathlib.Core.List.{List, [], ◌∷◌, map}
use Prim.Native.Nat.{ℕ, zero, suc, ◌≤◌}
use native.Mathlib.Omega.{arith}
use lib.ListN.{length, length-map}
use Rattle.bits.specs.Bits.{pick}
use Rattle.packing.specs.Meaning.{MarkedRule, marked, rule_in, Marked, grammar_of}
use Rattle.packing.specs.Parse.{parsed}
use Rattle.packing.specs.Source.{Source, field_at}
use Rattle.packing.specs.Alike.{any_like, NoTwo, All}
use Rattle.packing.specs.Grammar.{
  rule_kind,
  symbol,
  weight_field,
  nothing,
  first_of,
  second_of,
  rule_of,
  size_field,
  mark_field,
  rule_from,
  alike,
  mark_from,
  marked_rule_from,
  marked_alike,
  rules_from,
  unfit,
  grammar_from,
  rule_entries,
  rules_entries,
  grammar_entries,
  mark_entries,
  marked_rule_entries,
  marked_rules_entries,
  marked_entries,
}
use Rattle.packing.specs.Valid.{InRange, Fits, Unlike, MarkWithin, ValidGrammar, ValidMarked}
use Rattle.packing.specs.declared.Rule as R
use Rattle.packing.specs.declared.Rule.TheVariants.{Pair, Word}
use Rattle.packing.proofs.Parse.{through, same_parsed, parsed_else}
use Rattle.packing.proofs.Entries.{each_left, each_right, each_join}
use Rattle.packing.proofs.Bounds.{field_at_range}
use Rattle.packing.proofs.Taken.{Taken, all, more, taken_join, taken_split}
use Rattle.packing.proofs.Alike.{eqb_sym, unlike_all, all_unlike}

alike_sym : (r s : R.Rule) → alike r s ≡ alike s r
alike_sym (Pair h x y w) (Pair h' x' y' w') = rw (eqb_sym h.0 h'.0, eqb_sym x.0 x'.0, eqb_sym y.0 y'.0)
alike_sym (Pair h x y w) (Word h' x' w') = refl
alike_sym (Word h x w) (Pair h' x' y' w') = refl
alike_sym (Word h x w) (Word h' x' w') = rw (eqb_sym h.0 h'.0, eqb_sym x.0 x'.0)

module _ (src : Source) (S W : ℕ) where
  fields_out : (at kind head w first second a b c d next : ℕ) → field_at src at rule_kind ≡ parsed kind a → field_at src a (symbol S) ≡ parsed head b
      → field_at src b weight_field ≡ parsed w c → field_at src c (first_of S W kind) ≡ parsed first d → field_at src d (second_of S kind) ≡ parsed second next
      → Taken src at (rule_entries S W (rule_of kind head w first second)) next
  fields_out at zero head w first second a b c d next p q r s t = more p (more q (more r (more s (more t all))))
  fields_out at (suc zero) head w first second a b c d next p q r s t =
      let z : second ≡ 0 = omega (arith, field_at_range nothing src d t) in
      more p (more q (more r (more s (more (rw z at t) all))))
  fields_out at (suc (suc k)) head w first second a b c d next p q r s t = absurd (omega (arith, field_at_range rule_kind src at p))

  rule_out : (at : ℕ) {r : R.Rule} {next : ℕ} → rule_from src S W at ≡ parsed r next → Taken src at (rule_entries S W r) next
  unfolding rule_from
  rule_out at e =
      through (field_at src at rule_kind) _ e λ kind a p e. through (field_at src a (symbol S)) _ e λ head b q e.
      through (field_at src b weight_field) _ e λ w c r e. through (field_at src c (first_of S W kind)) _ e λ first d s e.
      through (field_at src d (second_of S kind)) _ e λ second z t e.
      same_parsed (λ r next. Taken src at (rule_entries S W r) next) e (fields_out at kind head w first second a b c d z p q r s t)

  rule_back : {at : ℕ} (r : R.Rule) {next : ℕ} → Taken src at (rule_entries S W r) next → rule_from src S W at ≡ parsed r next
  unfolding rule_from
  rule_back (Pair h x y w) (more a (more b (more c (more d (more e all))))) = rw (a, b, c, d, e)
  rule_back (Word h x w) (more a (more b (more c (more d (more e all))))) = rw (a, b, c, d, e)

  -- a mark, and a rule with its mark
  module _ (marking : Bool) where
    marked_out : (at : ℕ) (x : MarkedRule) (next : ℕ) → marked_rule_from marking src S W at ≡ parsed x next
        → MarkWithin marking x × Taken src at (marked_rule_entries marking S W x) next
    unfolding marked_rule_from
    marked_out at x next e =
        through (rule_from src S W at) _ e λ r mid p e. through (mark_from marking src mid) _ e λ m z q e.
        same_parsed (λ x next. MarkWithin marking x × Taken src at (marked_rule_entries marking S W x) next) e
        (let (o, t) = mark_out marking q in (o, taken_join (rule_out at p) t))
      where
        mark_out : (b : Bool) {mid m z : ℕ} → mark_from b src mid ≡ parsed m z → (m ≤ pick b 1 0) × Taken src mid (mark_entries b m) z
        mark_out false {mid} e = same_parsed (λ m z. (m ≤ 0) × Taken src mid [] z) e (omega arith, all)
        mark_out true {mid} e = ((field_at_range mark_field src mid e).1, more e all)

    marked_back : (at : ℕ) (x : MarkedRule) (next : ℕ) → MarkWithin marking x → Taken src at (marked_rule_entries marking S W x) next
        → marked_rule_from marking src S W at ≡ parsed x next
    unfolding marked_rule_from
    marked_back at (marked r m) next o t =
        let (mid, a, b) = taken_split (rule_entries S W r) t in
        rw (rule_back r a, mark_back marking o b)
      where
        mark_back : (b : Bool) {mid m z : ℕ} → m ≤ pick b 1 0 → Taken src mid (mark_entries b m) z → mark_from b src mid ≡ parsed m z
        mark_back false {m = zero} o all = refl
        mark_back false {m = suc m} o t = absurd (omega arith)
        mark_back true o (more p all) = p

    alike_marked : (x y : MarkedRule) → marked_alike x y ≡ marked_alike y x
    alike_marked (marked r m) (marked r' m') = alike_sym r r'

    rules_out : (n at : ℕ) {rs : List MarkedRule} {next : ℕ} → rules_from marking src S W n at [] ≡ parsed rs next
        → (length rs ≡ n) × NoTwo marked_alike rs × All (MarkWithin marking) rs × Taken src at (marked_rules_entries marking S W rs) next
    unfolding marked_rules_entries
    rules_out =
        unlike_all src (marked_rule_from marking src S W) marked_alike 6 (marked_rule_entries marking S W) (marked_rules_entries marking S W) refl
        (λ r rs. refl)
        (MarkWithin marking) alike_marked marked_out

    rules_back : {at : ℕ} (rs : List MarkedRule) {next : ℕ} → NoTwo marked_alike rs → All (MarkWithin marking) rs
        → Taken src at (marked_rules_entries marking S W rs) next → rules_from marking src S W (length rs) at [] ≡ parsed rs next
    unfolding marked_rules_entries
    rules_back =
        all_unlike src (marked_rule_from marking src S W) marked_alike 6 (marked_rule_entries marking S W) (marked_rules_entries marking S W) refl
        (λ r rs. refl)
        (MarkWithin marking) alike_marked marked_back

-- a grammar stands in the source, from a place to the next
pub record Reads (src : Source) (at : ℕ) (m : Marked) (next : ℕ) : Type 0 where
  pub taken : Taken src at (marked_entries m) next
  pub unlike : NoTwo marked_alike m.rules
  pub within : All (MarkWithin m.marking) m.rules
  pub fit : unfit m.marking src (length m.rules) ≡ false

module _ (marking : Bool) (src : Source) where
  -- what is read has the kind that was asked for
  pub grammar_out : (at : ℕ) {m : Marked} {next : ℕ} → grammar_from marking src at ≡ parsed m next → (m.marking ≡ marking) × Reads src at m next
  unfolding grammar_from marked_entries
  grammar_out at e =
      through (field_at src at (size_field 6 32)) _ e λ S a p e. through (field_at src a (size_field 8 200)) _ e λ W b q e.
      through (field_at src b (size_field 9 256)) _ e λ R c r e.
      let (u, d) = parsed_else (unfit marking src R) _ _ e in
      through (rules_from marking src S W R c []) _ d λ rs z k e.
      let (l, unlike, within, t) = rules_out src S W marking R c k in
      let r' = rw (← l) at r in
      let u' = rw (← l) at u in
      same_parsed (λ m next. (m.marking ≡ marking) × Reads src at m next) e
      (refl, record { taken = more p (more q (more r' t)); unlike = unlike; within = within; fit = u' })

module _ (src : Source) where
  pub grammar_back : {at : ℕ} (m : Marked) {next : ℕ} → Reads src at m next → grammar_from m.marking src at ≡ parsed m next
  unfolding grammar_from marked_entries
  grammar_back m h = go h.taken
    where
      go : {at next : ℕ} → Taken src at (marked_entries m) next → grammar_from m.marking src at ≡ parsed m next
      go (more a (more b (more c t))) =
          rw (a, b, c, h.fit, rules_back src m.symbols m.words m.marking m.rules h.unlike h.within t)

-- without marks
rules_fit : (marking : Bool) (S W : ℕ) (rs : List MarkedRule) → Fits (marked_rules_entries marking S W rs) → Fits (rules_entries S W (map rule_in rs))
unfolding marked_rules_entries rules_entries
rules_fit marking S W [] h = tt
rules_fit marking S W (marked r m ∷ rs) h =
    let es = rule_entries S W r in
    let both = marked_rule_entries marking S W (marked r m) in
    each_join InRange es (rules_entries S W (map rule_in rs)) (each_left InRange es (mark_entries marking m) (each_left InRange both _ h))
    (rules_fit marking S W rs (each_right InRange both (marked_rules_entries marking S W rs) h))

pub like_unmarked : (x : MarkedRule) (l : List MarkedRule) → any_like marked_alike x l ≡ any_like alike (rule_in x) (map rule_in l)
unfolding any_like
like_unmarked x [] = refl
like_unmarked (marked r m) (marked r' m' ∷ l) = rw (like_unmarked (marked r m) l)

unlike_unmarked : (l : List MarkedRule) → NoTwo marked_alike l → Unlike (map rule_in l)
unlike_unmarked [] h = tt
unlike_unmarked (x ∷ l) (p, h) = (rw (← like_unmarked x l) p, unlike_unmarked l h)

pub valid_unmarked : (m : Marked) → ValidMarked m → ValidGrammar (grammar_of m)
unfolding marked_entries grammar_entries
valid_unmarked m ((a, (b, (c, h))), u, w) =
    let n : length m.rules ≡ length (map rule_in m.rules) = rw length-map in
    ((a, (b, (rw n at c, rules_fit m.marking m.symbols m.words m.rules h))), unlike_unmarked m.rules u)

-- and with marks, where each is within its range
mark_fits : (marking : Bool) (m : ℕ) → m ≤ pick marking 1 0 → Fits (mark_entries marking m)
mark_fits false m h = tt
mark_fits true m h = ((omega arith, h), tt)

marked_fit : (marking : Bool) (S W : ℕ) (rs : List MarkedRule) → All (MarkWithin marking) rs → Fits (rules_entries S W (map rule_in rs))
    → Fits (marked_rules_entries marking S W rs)
unfolding marked_rules_entries rules_entries
marked_fit marking S W [] w h = tt
marked_fit marking S W (marked r m ∷ rs) (p, w) h =
    let es = rule_entries S W r in
    each_join InRange (marked_rule_entries marking S W (marked r m)) (marked_rules_entries marking S W rs)
    (each_join InRange es (mark_entries marking m) (each_left InRange es (rules_entries S W (map rule_in rs)) h) (mark_fits marking m p))
    (marked_fit marking S W rs w (each_right InRange es (rules_entries S W (map rule_in rs)) h))

unlike_marked : (l : List MarkedRule) → Unlike (map rule_in l) → NoTwo marked_alike l
unlike_marked [] h = tt
unlike_marked (x ∷ l) (p, h) = (rw (like_unmarked x l) p, unlike_marked l h)

pub valid_marked : (m : Marked) → ValidGrammar (grammar_of m) → All (MarkWithin m.marking) m.rules → ValidMarked m
unfolding marked_entries grammar_entries
valid_marked m ((a, (b, (c, h))), u) w =
    let n : length (map rule_in m.rules) ≡ length m.rules = rw length-map in
    ((a, (b, (rw n at c, marked_fit m.marking m.symbols m.words m.rules w h))), unlike_marked m.rules u, w)
