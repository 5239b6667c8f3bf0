-- An accepted sheet is a valid office grammar, whose rules stand in the sheet from place 3 on.
use mathlib.Core.Path.{◌≡◌, refl, sym, ap, ◌∙◌}
use mathlib.Core.Bool.{Bool, true, false, true≢false}
use mathlib.Core.Option.{some}
use mathlib.Core.List.{List, [], ◌∷◌, ◌++◌}
use Prim.Native.Nat.{ℕ, zero, suc, ◌+◌}
use native.Mathlib.Omega.{arith}
use borrow.Author.Tests.{eq-eqb, eqb-true}
use lib.Dec.{eqb}
use lib.ListN.{length, get_elem?}
use Rattle.bits.specs.Bits.{pick}
use Rattle.packing.specs.declared.Sym.{Sym}
use Rattle.packing.specs.Parse.{parsed, accepted}
use Rattle.packing.specs.Source.{numbers, field_at}
use Rattle.packing.specs.Alike.{any_like, unlike_from}
use Rattle.packing.specs.Grammar.{size_field}
use Rattle.packing.proofs.Parse.{through, same_parsed, finish_out, parsed_else}
use Rattle.packing.proofs.Taking.{field_at_numbers_out}
use Rattle.office.specs.Office.{Item, symbol, spoken, OfficeRule, rule, Office, OfficeUnlike, Valid}
use Rattle.office.specs.Sheet.{items_alike, rule_alike, office_rule_from, office_rules_from, office_from, office_sheet}
use Rattle.office.specs.Flat.{office_rules_at, behind_all}
use Rattle.office.proofs.Read.{rules_read_lem, length_rules}

-- a rule is alike itself under any weight
items_self : (l : List Item) → items_alike l l ≡ true
unfolding items_alike
items_self [] = refl
items_self (symbol A ∷ l) = rw (eq-eqb A.0 A.0 refl) (items_self l)
items_self (spoken x ∷ l) = rw (eq-eqb x.0 x.0 refl) (items_self l)

rule_self : (A : Sym) (u w : ℕ) (l : List Item) → rule_alike (rule A u l) (rule A w l) ≡ true
unfolding rule_alike
rule_self A u w l = rw (eq-eqb A.0 A.0 refl) (items_self l)

-- the rule at a number among rules and one more
at_snoc : {P : Type 0} (qs : List OfficeRule) (x : OfficeRule) (n : ℕ) {y : OfficeRule} → get_elem? (qs ++ (x ∷ [])) n ≡ some y
    → (get_elem? qs n ≡ some y → P) → (n ≡ length qs → x ≡ y → P) → P
at_snoc [] x zero e f g = g refl cc
at_snoc [] x (suc n) e f g = let z : ◌≡◌ {A = ℕ} 0 1 = cc in absurd (omega arith)
at_snoc (q ∷ qs) x zero e f g = f e
at_snoc (q ∷ qs) x (suc n) e f g = at_snoc qs x n e f (λ p h. g (ap suc p) h)

not_among : (r : OfficeRule) (qs : List OfficeRule) (n : ℕ) {q : OfficeRule} → get_elem? qs n ≡ some q → any_like rule_alike r qs ≡ false → rule_alike r q
    ≡ false
unfolding any_like
not_among r [] n e h = let z : ◌≡◌ {A = ℕ} 0 1 = cc in absurd (omega arith)
not_among r (p ∷ qs) n {q} e h = go (rule_alike r p) refl h n e (λ n e h. not_among r qs n e h)
  where
    go : (b : Bool) → rule_alike r p ≡ b → pick b true (any_like rule_alike r qs) ≡ false → (n : ℕ) → get_elem? (p ∷ qs) n ≡ some q
        → ((n : ℕ) → get_elem? qs n ≡ some q → any_like rule_alike r qs ≡ false → rule_alike r q ≡ false) → rule_alike r q ≡ false
    go true t h n e f = let z : ◌≡◌ {A = ℕ} 0 1 = cc in absurd (omega arith)
    go false t h zero e f = let z : p ≡ q = cc in rw (← z) t
    go false t h (suc n) e f = f n e h

unlike_snoc : (qs : List OfficeRule) (x : OfficeRule) → OfficeUnlike qs → any_like rule_alike x qs ≡ false → OfficeUnlike (qs ++ (x ∷ []))
unlike_snoc qs x h new q r u w A l a b =
    at_snoc qs x q a (λ c. at_snoc qs x r b (λ d. h q r u w A l c d) (λ n e. absurd (clash q u w c e)))
    (λ n e. at_snoc qs x r b (λ d. absurd (clash r w u d e)) (λ m f. n ∙ sym m))
  where
    clash : (n v z : ℕ) → get_elem? qs n ≡ some (rule A v l) → x ≡ rule A z l → ⊥
    clash n v z c e = true≢false (sym (rule_self A z v l) ∙ rw e at (not_among x qs n c new))

unlike_read : (s : List ℕ) (S W n at : ℕ) (qs : List OfficeRule) {rs : List OfficeRule} {next : ℕ} → office_rules_from s S W n at qs ≡ parsed rs next
    → OfficeUnlike qs → OfficeUnlike rs
unfolding unlike_from
unlike_read s S W zero at qs e h = same_parsed (λ rs next. OfficeUnlike rs) e h
unlike_read s S W (suc n) at qs e h =
    through (office_rule_from s S W at) _ e λ r a p e.
    let (new, e) = parsed_else (any_like rule_alike r qs) 6 (office_rules_from s S W n a (qs ++ (r ∷ []))) e in
    unlike_read s S W n a (qs ++ (r ∷ [])) e (unlike_snoc qs r h new)

-- what an accepted sheet means, and where its rules stand
pub record Meant (s : List ℕ) (o : Office) : Type 0 where
  pub valid : Valid o
  pub stands : o.rules ≡ office_rules_at s 3 (length o.rules)
  pub whole : length s ≡ behind_all s 3 (length o.rules)

meant_from : (s : List ℕ) {o : Office} {next : ℕ} → office_from s 0 ≡ parsed o next
    → Valid o × (o.rules ≡ office_rules_at s 3 (length o.rules)) × (next ≡ behind_all s 3 (length o.rules))
unfolding office_from office_rules_at behind_all
meant_from s e =
    through (field_at (numbers s) 0 (size_field 6 32)) _ e λ S a p e. through (field_at (numbers s) a (size_field 8 200)) _ e λ W b q e.
    through (field_at (numbers s) b (size_field 9 256)) _ e λ R c r e. through (office_rules_from s S W R c []) _ e λ rs d t e.
    let (_, _, a-is, S-in) = field_at_numbers_out s 0 (size_field 6 32) p in
    let (_, _, b-is, W-in) = field_at_numbers_out s a (size_field 8 200) q in
    let (_, _, c-is, R-in) = field_at_numbers_out s b (size_field 9 256) r in
    let three : c ≡ 3 = omega arith in
    let (rs-is, d_is, rs-in) = rules_read_lem s S W S-in.0 W-in.0 c R 0 c [] t (refl, refl, tt) in
    let plus : R + 0 ≡ R = omega arith in
    let rs_there : rs ≡ office_rules_at s 3 R = rw (plus, three) at rs-is in
    let d_there : d ≡ behind_all s 3 R = rw (plus, three) at d_is in
    let many : length rs ≡ R = rw rs_there (length_rules s 3 R) in
    same_parsed (λ o next. Valid o × (o.rules ≡ office_rules_at s 3 (length o.rules)) × (next ≡ behind_all s 3 (length o.rules))) e (
      record {
        symbols = S-in;
        words = W-in;
        rules = (omega arith, omega arith);
        within = rs-in;
        unlike =
            unlike_read s S W R c [] t (λ q r u w A l f g. none_there q f);
      },
      rw many rs_there,
      rw many d_there,
    )
  where
    none_there : {X : Type 0} (q : ℕ) {y : OfficeRule} → get_elem? {A = OfficeRule} [] q ≡ some y → X
    none_there q e = let z : ◌≡◌ {A = ℕ} 0 1 = cc in absurd (omega arith)

pub accepted_meant : (s : List ℕ) {o : Office} → office_sheet s ≡ accepted o → Meant s o
unfolding office_sheet
accepted_meant s e =
    let (next, p, t) = finish_out (λ at. eqb at (length s)) 41 (office_from s 0) e in
    let (v, st, n) = meant_from s p in
    record { valid = v; stands = st; whole = sym (eqb-true _ _ t) ∙ n }
