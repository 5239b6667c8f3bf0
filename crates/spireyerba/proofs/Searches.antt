-- What the specimen and the next phrase look for, and that they find the least of it. Assumes nothing.
use mathlib.Core.Path.{◌≡◌}
use mathlib.Core.Option.{Option}
use mathlib.Core.List.{List}
use Prim.Native.Nat.{ℕ, zero, suc}
use native.Mathlib.Omega.{arith}
use borrow.Author.Tests.{ne_eqb}
use lib.Dec.{eqb}
use lib.ListN.{length, take}
use Rattle.bits.specs.Bits.{pick}
use Rattle.packing.specs.Meaning.{Grammar}
use Rattle.packing.specs.Valid.{ValidGrammar}
use Rattle.phrases.specs.Phrases.{Phrase}
use Rattle.phrases.specs.Enumeration.{first_phrase, next_phrase}
use Rattle.phrases.proofs.Least.{Property, LeastOrNone}
use Rattle.phrases.proofs.Theorems.{first_phrase_least, next_phrase_least}
use Rattle.spireyerba.specs.Demands as D

-- strings of length n that are sought, and a function that finds the least
pub record Search (n : ℕ) (find : Grammar → Option (List ℕ)) : Type 1 where
  pub Sought : Grammar → Property
  pub as_long : (g : Grammar) (s : List ℕ) → Sought g s → length s ≡ n
  pub least : (g : Grammar) → ValidGrammar g → LeastOrNone (Sought g) (find g)

abbrev pub first_search : (n : ℕ) → Search n (λ g. first_phrase g n)
first_search n = record { Sought = λ g. Phrase g n; as_long = λ g s p. p.0; least = λ g v. first_phrase_least g n v }

abbrev pub next_of : (n call : ℕ) → List ℕ → Grammar → Option (List ℕ)
next_of n call out g = pick (eqb call 0) (next_phrase g n (take n out)) (first_phrase g n)

pub next_long : (n call : ℕ) (out : List ℕ) (g : Grammar) (s : List ℕ) → D.Sought g n call out s → length s ≡ n
next_long n zero out g s p = p.0.0
next_long n (suc k) out g s p = p.0

pub next_least : (n call : ℕ) (out : List ℕ) (g : Grammar) → ValidGrammar g → LeastOrNone (D.Sought g n call out) (next_of n call out g)
next_least n zero out g v = next_phrase_least g n v (take n out)
next_least n (suc k) out g v = rw (ne_eqb (suc k) 0 (λ e. omega arith)) (first_phrase_least g n v)

abbrev pub next_search : (n call : ℕ) (out : List ℕ) → Search n (next_of n call out)
next_search n call out = record { Sought = λ g. D.Sought g n call out; as_long = next_long n call out; least = next_least n call out }
