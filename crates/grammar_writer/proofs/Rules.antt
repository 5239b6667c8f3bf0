-- The fields of an array's rules, one rule after the other.
-- Assumes nothing.
use mathlib.Core.Path.{◌≡◌}
use mathlib.Core.Bool.{Bool}
use mathlib.Core.List.{List, [], ◌++◌, map-append}
use Prim.Native.Nat.{ℕ, suc, ◌+◌, ◌-◌, ◌≤◌, ◌<◌}
use native.Mathlib.Numerals.{add-one}
use native.Mathlib.Omega.{arith}
use lib.ListN.{get_or}
use Rattle.bits.specs.Fields.{Fld, widths}
use Rattle.bits.proofs.Fields.{widths_append}
use Rattle.packing.specs.Meaning.{marked}
use Rattle.packing.specs.Source.{fld_of, flds}
use Rattle.packing.specs.Grammar.{marked_rule_entries, marked_rules_entries}
use Rattle.packing.specs.Flat.{rule_at, marked_rules_at}
use Rattle.sheet_writer.specs.Arrays.{rules_fields}

module _ (b : Bool) (S W : ℕ) (l marks : List ℕ) (n i : ℕ) where
  pub rules_end : n ≤ i → rules_fields b S W l marks i (n - i) ≡ []
  unfolding marked_rules_at marked_rules_entries
  rules_end h = let z : n - i ≡ 0 = omega arith in rw z

  -- the fields of rule i with its mark
  abbrev pub rule_fields : List Fld
  rule_fields = flds (marked_rule_entries b S W (marked (rule_at l i) (get_or marks i 0)))

  module _ (h : i < n) where
    pub rules_more : rules_fields b S W l marks i (n - i) ≡ rule_fields ++ rules_fields b S W l marks (i + 1) (n - (i + 1))
    unfolding marked_rules_at marked_rules_entries
    rules_more =
        let z : n - i ≡ suc (n - (i + 1)) = omega arith in
        rw (z, add-one i)
        (map-append fld_of (marked_rule_entries b S W (marked (rule_at l i) (get_or marks i 0)))
        (marked_rules_entries b S W (marked_rules_at l marks (suc i) (n - suc i))))

    pub widths_more : widths (rules_fields b S W l marks i (n - i)) ≡ widths rule_fields + widths (rules_fields b S W l marks (i + 1) (n - (i + 1)))
    widths_more = rw rules_more (widths_append rule_fields (rules_fields b S W l marks (i + 1) (n - (i + 1))))
