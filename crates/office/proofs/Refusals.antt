-- Every refusal of an office sheet is a number of its row (packing's Rows): the refusals of each field are.
use mathlib.Core.Bool.{Bool, true, false}
use mathlib.Core.List.{List, []}
use mathlib.Core.Logic.{inl, inr}
use Prim.Native.Nat.{ℕ, zero, suc}
use native.Mathlib.Omega.{arith}
use lib.Dec.{eqb}
use Rattle.bits.specs.Bits.{pick}
use Rattle.packing.specs.Source.{numbers, field_at, Field}
use Rattle.packing.specs.Grammar as G
use Rattle.packing.specs.Rows.{OfficeSheetRow}
use Rattle.packing.proofs.Refusals.{Stops, going, Refuses, bind, unlike_row, finish_row, InRow, told, ranged, field_at_row}
use Rattle.office.specs.Sheet.{item_from, items_from, office_rule_from, rule_alike, office_from, office_sheet}

short : OfficeSheetRow 41
short = inl (inr (omega arith, omega arith))

wrong : OfficeSheetRow 42
wrong = inl (inr (omega arith, omega arith))

sizes : OfficeSheetRow 3
sizes = inl (inl (omega arith, omega arith))

symbols : OfficeSheetRow 4
symbols = inl (inl (omega arith, omega arith))

words : OfficeSheetRow 5
words = inl (inl (omega arith, omega arith))

again : OfficeSheetRow 6
again = inl (inl (omega arith, omega arith))

count : OfficeSheetRow 54
count = inr (omega arith, omega arith)

alone : OfficeSheetRow 55
alone = inr (omega arith, omega arith)

module _ (s : List ℕ) where
  at_field : (at : ℕ) {f : Field} → InRow OfficeSheetRow (numbers s) f → Stops OfficeSheetRow (field_at (numbers s) at f)
  at_field at t = field_at_row (numbers s) at short t

  number_row : (S W kind at : ℕ) → Stops OfficeSheetRow (field_at (numbers s) at (G.first_of S W kind))
  number_row S W kind at = go (eqb kind 0)
    where
      go : (b : Bool) → Stops OfficeSheetRow (field_at (numbers s) at (pick b (G.symbol S) (G.rule_word W)))
      go true = at_field at (ranged symbols)
      go false = at_field at (ranged words)

  item_row : (S W n at : ℕ) → Stops OfficeSheetRow (item_from s S W n at)
  unfolding item_from
  item_row S W n at = bind (at_field at (told (λ v h. (λ a. wrong, λ b. alone)))) (λ kind at. bind (number_row S W kind at) (λ v at. going))

  items_row : (S W n m at : ℕ) → Stops OfficeSheetRow (items_from s S W n m at)
  unfolding items_from
  items_row S W n zero at = going
  items_row S W n (suc m) at = bind (item_row S W n at) (λ x at. bind (items_row S W n m at) (λ l at. going))

  rule_row : (S W at : ℕ) → Stops OfficeSheetRow (office_rule_from s S W at)
  unfolding office_rule_from
  rule_row S W at =
      bind (at_field at (ranged symbols)) (λ head at. bind (at_field at (ranged wrong)) (λ w at. bind (at_field at (ranged count)) (λ n at.
      bind (items_row S W n n at) (λ l at. going))))

  pub office_row : Refuses OfficeSheetRow (office_sheet s)
  unfolding office_sheet office_from
  office_row =
      finish_row _ 41 short (bind (at_field 0 (ranged sizes)) (λ S at. bind (at_field at (ranged sizes)) (λ W at.
      bind (at_field at (ranged sizes)) (λ R at. bind (unlike_row rule_alike (rule_row S W) again R at []) (λ rs at. going)))))
