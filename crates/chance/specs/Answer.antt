-- The chance of a reading as a function that can be run, by the check's. Nobody need believe this page: Chance says what is shown, and proofs/Shown
-- that this is it.
use Rattle.std.specs.Prelude.{List, ℕ, length, Float}
use Rattle.packing.specs.Parse.{Verdict, accepted, refused, ◌then◌}
use Rattle.packing.specs.Grammar.{grammar_block}
use Rattle.derivation.specs.Derivation.{walk}
use Rattle.checker.specs.Check.{check}
use Rattle.chance.specs.Chance.{shares_of, one, product_of, with_shares}

-- of the rules rs
abbrev pub shared_by : ℕ → List ℕ → List ℕ → Verdict Float
shared_by R shares rs = with_shares R shares rs then λ rs. accepted (product_of one (shares_of shares rs))

-- the chance of a reading that passes the check, or the refusal
unfoldable pub chance : List ℕ → List ℕ → List ℕ → List ℕ → Verdict Float
chance grammar heard reading shares =
    grammar_block grammar then λ g. check grammar heard reading then λ t. shared_by (length g.rules) shares (walk t)
