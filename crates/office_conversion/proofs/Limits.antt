-- What is known of an office grammar whose conversion passes no limit: it is a valid one, and the result's sizes are in their ranges.
use mathlib.Core.Path.{◌≡◌, subst}
use mathlib.Core.List.{List}
use Prim.Native.Nat.{ℕ, ◌≤◌}
use native.Mathlib.Omega.{arith}
use borrow.Author.Tests.{ltb-false}
use lib.Dec.{ltb}
use lib.ListN.{length}
use Rattle.packing.specs.Parse.{accepted}
use Rattle.packing.proofs.Parse.{granted, accepted_else, accepted_is}
use Rattle.office.specs.Office.{Office, Valid}
use Rattle.office.specs.Sheet.{office_sheet}
use Rattle.office.specs.Conversion.{convert}
use Rattle.office.proofs.Accepted.{accepted_meant}
use Rattle.office.proofs.Steps.{result_symbols, result_words, result_rules}
use Rattle.office_conversion.specs.Limits.{in_limits, office_grammar}

pub record Limited (s : List ℕ) (o : Office) : Type 0 where
  pub read : office_sheet s ≡ accepted o
  pub valid : Valid o
  pub symbols : (convert o).symbols ≤ 32
  pub rules : length (convert o).rules ≤ 256

pub limited : (s : List ℕ) {o : Office} → office_grammar s ≡ accepted o → Limited s o
unfolding office_grammar in_limits
limited s e =
    granted (office_sheet s) _ e λ o p q.
    let (S, q) = accepted_else (ltb 32 (convert o).symbols) 56 _ q in
    let (R, q) = accepted_else (ltb 256 (length (convert o).rules)) 56 _ q in
    subst (Limited s) (accepted_is q)
    (record { read = p; valid = (accepted_meant s p).valid; symbols = ltb-false 32 _ S; rules = ltb-false 256 _ R })

module _ {s : List ℕ} {o : Office} (l : Limited s o) where
  pub some_symbol : 1 ≤ (convert o).symbols
  some_symbol = omega (arith, result_symbols o, l.valid.symbols.0)

  pub words_between : (1 ≤ (convert o).words) × ((convert o).words ≤ 200)
  words_between = rw (result_words o) l.valid.words

  pub office_first : length o.rules ≤ length (convert o).rules
  office_first = omega (arith, result_rules o)
