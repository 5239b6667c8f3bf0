-- The chance of a reading: document 02, N14. Stands on packing's and derivation's definitions, and on the kit's IEEE
-- numbers (lib.Ieee), whose `round` gives the float nearest to a fraction and whose `mul` rounds once.
use Rattle.std.specs.Prelude.{◌≡◌, Bool, true, false, List, [], ◌∷◌, ℕ, ◌+◌, ◌-◌, ◌*◌, ◌^◌, ◌≤◌, ◌<◌, eqb, leb, pos, length, get_or, Float}
use Rattle.std.specs.Float.{fin, binary64}
use Rattle.std.specs.Float.Ieee.{round, mul}
use Rattle.std.specs.Float.Ieee.Exact.{HasValue}
use Rattle.bits.specs.Bits.{pick}
use Rattle.packing.specs.Meaning.{Grammar, Heard}
use Rattle.packing.specs.Parse.{Verdict, accepted, refused, ◌then◌}
use Rattle.packing.specs.Grammar.{grammar_block}
use Rattle.packing.specs.Heard.{heard_block}
use Rattle.derivation.specs.Derivation.{At, Tree, walk, Derivation}
use Rattle.derivation.specs.Heard.{path_length, own_block}

-- "shares for their rules, whole numbers from 1 to 1,024"
abbrev pub is_share : ℕ → Bool
is_share s = pick (leb 1 s) (leb s 1024) false

unfoldable pub are_shares : List ℕ → Bool
are_shares [] = true
are_shares (s ∷ ss) = pick (is_share s) (are_shares ss) false

-- the shares of some rules, one after another
unfoldable pub shares_of : List ℕ → List ℕ → List ℕ
shares_of shares [] = []
shares_of shares (r ∷ rs) = get_or shares r 0 ∷ shares_of shares rs

-- 1.0
abbrev pub one : Float
one = fin false 1 (pos 0)

-- "each a share over 1,024": the nearest float
unfoldable pub factor_of : ℕ → Float
factor_of s = round binary64 false s 1024

-- "The factors .. are multiplied in walk order, every product rounded once"
unfoldable pub product_of : Float → List ℕ → Float
product_of p [] = p
product_of p (s ∷ ss) = product_of (mul binary64 p (factor_of s)) ss

-- "60 the number of shares is not R, after the reading's checks; 61 a share outside 1 to 1,024, next", of what has R rules, whatever it is
abbrev pub with_shares : {A : Type 0} → ℕ → List ℕ → A → Verdict A
with_shares R shares a = pick (eqb (length shares) R) (pick (are_shares shares) (accepted a) (refused 61)) (refused 60)

-- the derivation whose chance is shown, or the refusal, where the check comes to v
unfoldable pub asked_chance : (grammar shares : List ℕ) (v : Verdict Tree) → Verdict Tree
asked_chance grammar shares v = grammar_block grammar then λ g. v then λ t. with_shares (length g.rules) shares t

-- "P the exact product of the whole shares"
unfoldable pub exact_of : List ℕ → ℕ
exact_of [] = 1
exact_of (s ∷ ss) = s * exact_of ss

-- how far two whole numbers are apart
abbrev pub apart : ℕ → ℕ → ℕ
apart a b = (a - b) + (b - a)

-- the float x is the fraction a / c, and "the float times 2 to the power 10m differs from P by at most m × P divided by 2 to the power 52";
-- here times c and 2 to the power 52, over whole numbers
pub record Near (x : Float) (m P : ℕ) : Type 0 where
  pub a : ℕ
  pub c : ℕ
  pub c_pos : 0 < c
  pub value : HasValue x false a c
  pub near : apart (a * 2 ^ (10 * m)) (P * c) * 2 ^ 52 ≤ m * P * c

-- what is to be shown: the reading is the packing of a derivation, and the float is near to the exact product of its nodes' shares; "A
-- reading of one node is exact"
pub record Shown (grammar heard reading shares : List ℕ) (x : Float) : Type 0 where
  pub g : Grammar
  pub h : Heard
  pub t : Tree
  pub grammar_accepted : grammar_block grammar ≡ accepted g
  pub heard_accepted : heard_block g.words heard ≡ accepted h
  pub derivation : Derivation g h t
  pub packing : reading ≡ own_block g h t
  pub one_share_a_rule : length shares ≡ length g.rules
  pub product : x ≡ product_of one (shares_of shares (walk t))
  pub nodes : length (walk t) ≡ 2 * path_length t - 1
  -- "each factor exact": a share over 1,024 is a float
  pub factors : (k s : ℕ) → At (shares_of shares (walk t)) k s → HasValue (factor_of s) false s 1024
  pub near : Near x (length (walk t)) (exact_of (shares_of shares (walk t)))
  pub exact : length (walk t) ≡ 1 → HasValue x false (exact_of (shares_of shares (walk t))) 1024
