-- Two rules are alike where their keys are equal, since each number of a key has room in it. Assumes nothing.
use mathlib.Core.Path.{◌≡◌, refl, sym, ap, ◌∙◌}
use mathlib.Core.Bool.{Bool, true, false, ◌&&◌, ◌||◌}
use mathlib.Core.List.{List, [], ◌∷◌, ◌++◌}
use Prim.Native.Nat.{ℕ, suc, ◌+◌, ◌*◌, ◌≤◌, ◌<◌}
use native.Mathlib.Nat.{mul-le-mul_right}
use native.Mathlib.Numerals.{add-one}
use native.Mathlib.Omega.{arith}
use native.Mathlib.Decide.{ℕ_discrete, dec_lt}
use borrow.Author.Tests.{eq-eqb, ne_eqb}
use lib.Dec.{eqb}
use lib.ListN.{length, get_or, take, set}
use lib.Seq.{take-suc}
use Rattle.bits.specs.Bits.{pick}
use Rattle.packing.specs.Grammar.{alike}
use Rattle.packing.specs.declared.Rule.{Rule}
use Rattle.packing.proofs.Alike.{like_more, Keyed, keyed_more}
use Rattle.rules_reader.specs.declared.rule.RuleNumbers.{RuleNumbers}
use Rattle.rules_reader.specs.Rules.{rule_by, key_of, among}

either : (a b : Bool) → (a || b) ≡ pick b true a
either true true = refl
either true false = refl
either false true = refl
either false false = refl

-- among one more
pub among_more : {found : Bool} (k : ℕ) (xs : List ℕ) (i : ℕ) → i < length xs → found ≡ among k (take i xs)
    → (found || eqb k (get_or xs i 0)) ≡ among k (take (i + 1) xs)
among_more {found} k xs i l p = rw (add-one i, take-suc xs i 0, like_more eqb, ← p) (either found (eqb k (get_or xs i 0)))

-- numbers joined by a factor are equal where their parts are
module _ (m a b x y : ℕ) (hx : x < m) (hy : y < m) where
  parted : (a ≡ b → ⊥) → a * m + x ≡ b * m + y → ⊥
  parted p e = go (dec_lt a b)
    where
      go : Dec (a < b) → ⊥
      go (yes l) = omega (arith, mul-le-mul_right m l)
      go (no l) = let g : suc b ≤ a = omega (arith, p) in omega (arith, mul-le-mul_right m g)

  rest : a ≡ b → (x ≡ y → ⊥) → a * m + x ≡ b * m + y → ⊥
  rest p q e = q (omega (arith, ap (λ (n : ℕ). n * m) p))

  pub joined : eqb (a * m + x) (b * m + y) ≡ (eqb a b && eqb x y)
  joined = go (ℕ_discrete a b) (ℕ_discrete x y)
    where
      go : Dec (a ≡ b) → Dec (x ≡ y) → eqb (a * m + x) (b * m + y) ≡ (eqb a b && eqb x y)
      go (yes p) (yes q) = rw (eq-eqb a b p, eq-eqb x y q) (eq-eqb (a * m + x) (b * m + y) (rw (p, q)))
      go (yes p) (no q) = rw (eq-eqb a b p, ne_eqb x y q) (ne_eqb (a * m + x) (b * m + y) (rest p q))
      go (no p) d = rw (ne_eqb a b p) (ne_eqb (a * m + x) (b * m + y) (parted p))

and_true : (a b : Bool) → b ≡ true → a ≡ (a && b)
and_true true b e = sym e
and_true false b e = refl

module _ (n m : RuleNumbers) where
  key_parts : eqb (key_of n) (key_of m)
      ≡ (eqb n.kind m.kind && eqb n.head m.head && eqb n.first m.first && eqb n.second m.second)
  key_parts =
      rw (
        joined 256 ((n.kind * 32 + n.head) * 256 + n.first) ((m.kind * 32 + m.head) * 256 + m.first) n.second m.second (omega arith) (omega arith),
        joined 256 (n.kind * 32 + n.head) (m.kind * 32 + m.head) n.first m.first (omega arith) (omega arith),
        joined 32 n.kind m.kind n.head m.head (omega arith) (omega arith),
      )

  pub alike_keys : alike (rule_by n) (rule_by m) ≡ eqb (key_of n) (key_of m)
  alike_keys = rw key_parts (go (ℕ_discrete n.kind 0) (ℕ_discrete m.kind 0))
    where
      go : Dec (n.kind ≡ 0) → Dec (m.kind ≡ 0) → alike (rule_by n) (rule_by m)
          ≡ (eqb n.kind m.kind && eqb n.head m.head && eqb n.first m.first && eqb n.second m.second)
      go (yes p) (yes q) = rw (eq-eqb n.kind 0 p, eq-eqb m.kind 0 q, eq-eqb n.kind m.kind (p ∙ sym q))
      go (yes p) (no q) = rw (eq-eqb n.kind 0 p, ne_eqb m.kind 0 q, ne_eqb n.kind m.kind (λ (e : n.kind ≡ m.kind). q (sym e ∙ p)))
      go (no p) (yes q) = rw (ne_eqb n.kind 0 p, eq-eqb m.kind 0 q, ne_eqb n.kind m.kind (λ (e : n.kind ≡ m.kind). p (e ∙ q)))
      go (no p) (no q) =
          rw (ne_eqb n.kind 0 p, ne_eqb m.kind 0 q, eq-eqb n.kind m.kind (omega (arith, p, q)))
          (and_true (eqb n.head m.head && eqb n.first m.first) (eqb n.second m.second) (eq-eqb n.second m.second (omega (arith, p, q))))

-- the keys of the rules read so far tell which of them a rule is alike
abbrev pub RulesKeyed : List Rule → List ℕ → Type 0
RulesKeyed rs keys = Keyed alike rule_by key_of (λ n. Unit {0}) rs keys

pub rules_keyed_more : (rs : List Rule) (keys : List ℕ) (i k : ℕ) (m : RuleNumbers) → i < length keys → k ≡ key_of m → RulesKeyed rs (take i keys)
    → RulesKeyed (rs ++ (rule_by m ∷ [])) (take (i + 1) (set keys i k))
rules_keyed_more rs keys i k m l e h = keyed_more alike rule_by key_of (λ n. Unit {0}) (λ n m _ _. alike_keys n m) rs keys i k m tt l e h
