-- Each way out is one of the node's: no number, no such rule, a pair rule, a word rule with an edge's number or without. Assumes nothing.
use mathlib.Core.Path.{◌≡◌, sym, ap, ◌∙◌}
use mathlib.Core.Option.{some}
use native.Mathlib.Omega.{arith}
use mathlib.Core.List.{List}
use Prim.Native.Nat.{ℕ}
use lib.ListN.{length}
use Rattle.packing.specs.Parse.{Parse, parsed}
use Rattle.packing.specs.Source.{bytes, field_at}
use Rattle.packing.specs.Reading.{rule_number}
use Rattle.packing.specs.GraphReading.{edge_number}
use Rattle.packing.specs.Flat.{rules_of}
use Rattle.packing.proofs.Flat.{rule_of, no_rule_of, length_rules_at}
use Rattle.graph_reading_reader.proofs.Head.{no_number, no_rule, pair_node, no_edge, word_node}
use Rattle.graph_reading_reader.proofs.read_node.Goals as goal

-- the field of a rule's number is that of the rules in the array
module _ (array s : List ℕ) (n at : ℕ) where
  among_rules : {p : Parse ℕ} → p ≡ field_at (bytes 31 s) at (rule_number n)
      → field_at (bytes 31 s) at (rule_number (length (rules_of array n))) ≡ p
  among_rules e = rw (length_rules_at array 0 n) (sym e)

  rule_read : {v next w : ℕ} → parsed v next ≡ field_at (bytes 31 s) at (rule_number n) → w ≡ v
      → field_at (bytes 31 s) at (rule_number (length (rules_of array n))) ≡ parsed w next
  rule_read e q = rw q (among_rules e)

pub returns-in_default : goal.returns-in_default
returns-in_default c =
    let a = c.args in
    let p = among_rules a.rules.now a.block.now a.count a.at c.in_default.ensures.value in
    (_, no_number (rules_of a.rules.now a.count) (bytes 31 a.block.now) a.at p)

pub returns-then-count-rule : goal.returns-then-count-rule
returns-then-count-rule c =
    let a = c.args in
    let p = rule_read a.rules.now a.block.now a.count a.at c.in-Ok.ensures.value c.wide-rule.ensures.0 in (
      34,
      no_rule (rules_of a.rules.now a.count) (bytes 31 a.block.now) a.at c.wide-rule.result _ p
          (no_rule_of a.rules.now 0 a.count c.wide-rule.result c.if-count-rule.true),
    )

pub returns-in_default-read : goal.returns-in_default-read
returns-in_default-read c =
    let a = c.args in
    let p = rule_read a.rules.now a.block.now a.count a.at c.in-Ok.ensures.value c.wide-rule.ensures.0 in
    let there = rule_of a.rules.now a.count c.wide-rule.result c.if-count-rule.false ∙ ap some (sym c.in-Word.ensures) in
    (_, no_edge (rules_of a.rules.now a.count) (bytes 31 a.block.now) a.at c.wide-rule.result _ p there (sym c.in_default-read.ensures.value))

pub returns-in-Pair : goal.returns-in-Pair
returns-in-Pair c =
    let a = c.args in
    let p = rule_read a.rules.now a.block.now a.count a.at c.in-Ok.ensures.value c.wide-rule.ensures.0 in
    let there = rule_of a.rules.now a.count c.wide-rule.result c.if-count-rule.false ∙ ap some (sym c.in-Pair.ensures) in (
      pair_node (rules_of a.rules.now a.count) (bytes 31 a.block.now) a.at c.wide-rule.result _ p there ∙ rw (← c.in-Pair.ensures),
      omega (arith, c.in-Ok.ensures.next),
      c.wide-rule.ensures.1,
      omega arith,
    )

pub returns-in-Ok-read : goal.returns-in-Ok-read
returns-in-Ok-read c =
    let a = c.args in
    let p = rule_read a.rules.now a.block.now a.count a.at c.in-Ok.ensures.value c.wide-rule.ensures.0 in
    let there = rule_of a.rules.now a.count c.wide-rule.result c.if-count-rule.false ∙ ap some (sym c.in-Word.ensures) in
    let q : field_at (bytes 31 a.block.now) c.in-Ok.next edge_number ≡ parsed c.wide-edge.result c.in-Ok-read.end =
    rw c.wide-edge.ensures.0 (sym c.in-Ok-read.ensures.value) in (
      word_node (rules_of a.rules.now a.count) (bytes 31 a.block.now) a.at c.wide-rule.result _ p there q ∙ rw (← c.in-Word.ensures),
      omega (arith, c.in-Ok.ensures.next, c.in-Ok-read.ensures.next),
      c.wide-rule.ensures.1,
      c.wide-edge.ensures.1,
    )
