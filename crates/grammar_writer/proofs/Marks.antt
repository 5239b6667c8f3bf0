-- A rule's fields and then its mark, where rules bear marks.
-- Assumes nothing.
use mathlib.Core.Path.{◌≡◌, sym, ap, ◌∙◌}
use mathlib.Core.Bool.{Bool, true, false}
use mathlib.Core.List.{List, append-nil, map-append}
use Prim.Native.Nat.{ℕ, ◌+◌, ◌≤◌}
use native.Mathlib.Omega.{arith}
use Rattle.bits.specs.Fields.{widths}
use Rattle.bits.specs.Put.{put, puts}
use Rattle.bits.proofs.Fields.{widths_append, puts_append}
use Rattle.packing.specs.Meaning.{marked}
use Rattle.packing.specs.Source.{fld_of, flds}
use Rattle.packing.specs.Grammar.{rule_entries, mark_entries, marked_rule_entries}
use Rattle.packing.specs.declared.Rule.{Rule}
use Rattle.grammar_writer.proofs.Rule.{Stands}

module _ (S W : ℕ) (r : Rule) (m : ℕ) where
  no_mark : flds (marked_rule_entries false S W (marked r m)) ≡ flds (rule_entries S W r)
  no_mark = ap flds (append-nil (rule_entries S W r))

  mark_width : widths (flds (marked_rule_entries true S W (marked r m))) ≡ widths (flds (rule_entries S W r)) + 1
  unfolding widths
  mark_width =
      rw (map-append fld_of (rule_entries S W r) (mark_entries true m), widths_append (flds (rule_entries S W r)) (flds (mark_entries true m))) (omega arith)

  mark_put : (out : List ℕ) (at : ℕ) → puts out at (flds (marked_rule_entries true S W (marked r m)))
      ≡ put (puts out at (flds (rule_entries S W r))) (at + widths (flds (rule_entries S W r))) 1 m
  unfolding puts
  mark_put out at =
      rw (map-append fld_of (rule_entries S W r) (mark_entries true m)) (puts_append out at (flds (rule_entries S W r)) (flds (mark_entries true m)))

  -- how many bits they take
  module _ (b : Bool) {n : ℕ} (e : n ≡ widths (flds (rule_entries S W r))) where
    pub bits_marked : b ≡ true → n + 1 ≡ widths (flds (marked_rule_entries b S W (marked r m)))
    bits_marked t = rw t (omega (arith, e, mark_width))

    pub bits_unmarked : b ≡ false → n ≡ widths (flds (marked_rule_entries b S W (marked r m)))
    bits_unmarked t = rw (t, no_mark) e

  -- the rule needs no more room than it needs with its mark
  pub rule_room : (b : Bool) → widths (flds (rule_entries S W r)) ≤ widths (flds (marked_rule_entries b S W (marked r m)))
  rule_room false = rw no_mark (omega arith)
  rule_room true = omega (arith, mark_width)

  pub mark_room : (b : Bool) → b ≡ true → widths (flds (rule_entries S W r)) + 1 ≤ widths (flds (marked_rule_entries b S W (marked r m)))
  mark_room b t = rw t (omega (arith, mark_width))

  -- the rule with its mark stands in `after`, and ends at `end`
  abbrev StandsMarked : Bool → List ℕ → ℕ → List ℕ → ℕ → Type 0
  StandsMarked b out at after end =
      (end ≡ at + widths (flds (marked_rule_entries b S W (marked r m)))) × (end ≤ at + 42)
      × (after ≡ puts out at (flds (marked_rule_entries b S W (marked r m))))

  module _ (b : Bool) (out : List ℕ) (at : ℕ) {next : ℕ} {after : List ℕ} (s : Stands S W r out at after next) where
    pub mark_stands : b ≡ true → {last : List ℕ} → last ≡ put after next 1 m → StandsMarked b out at last (next + 1)
    mark_stands t w = rw t (omega (arith, s.0, mark_width), omega (arith, s.1), w ∙ rw (s.2, s.0) (sym (mark_put out at)))

    pub unmarked_stands : b ≡ false → StandsMarked b out at after next
    unmarked_stands t = rw (t, no_mark) (s.0, omega (arith, s.1), s.2)
