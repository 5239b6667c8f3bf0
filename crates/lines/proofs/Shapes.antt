-- A block has one meaning, so the shape is that of whatever meaning it is accepted with.
use mathlib.Core.Path.{◌≡◌, sym, ap, ◌∙◌}
use mathlib.Core.Bool.{Bool, false}
use mathlib.Core.List.{List, [], map}
use Prim.Native.Nat.{ℕ, ◌≤◌}
use native.Mathlib.Omega.{arith}
use lib.ListN.{length}
use Rattle.packing.specs.Meaning.{Marked, rule_in, grammar_of, Heard}
use Rattle.packing.specs.Parse.{Verdict, accepted, refused, ◌then◌}
use Rattle.packing.specs.Grammar.{marked_block}
use Rattle.packing.specs.Heard.{heard_block}
use Rattle.packing.specs.Flat.{Begins, rule_numbers, mark_numbers, MarkedIn}
use Rattle.packing.proofs.Parse.{accepted_is, refused≢accepted}
use Rattle.grammar_reader.specs.Answer.{sizes}
use Rattle.grammar_reader.specs.declared.Sizes.{Sizes}
use Rattle.heard_reader.specs.Answer.{heard_size}
use Rattle.heard_reader.specs.declared.HeardSize.{HeardSize}
use Rattle.reading_rows.specs.Model.{Bounded, shape_of}
use Rattle.lines.specs.Shapes.{ShapeOf}
use Rattle.reading_rows.specs.declared.Shape.{Shape}

-- slots, 1 and 1
abbrev least : Shape
least = record { graph = false; last = 1; rules = 1 }

least_bounded : Bounded least
least_bounded = record { some_place = omega arith; places = omega arith; some_rule = omega arith; rules = omega arith }

module _ (grammar heard rules marks : List ℕ) where
  pub no_grammar : {n : ℕ} → marked_block grammar ≡ refused n → ShapeOf grammar heard rules marks least
  no_grammar e = record { bounded = least_bounded; right = λ m h p q. absurd (refused≢accepted (sym e ∙ p)) }

  module _ (m : Marked) (a : marked_block grammar ≡ accepted m) {z : Sizes} (ez : z ≡ sizes (grammar_of m)) where
    pub no_heard : {n : ℕ} → heard_block z.words heard ≡ refused n → ShapeOf grammar heard rules marks least
    no_heard r = record {
      bounded = least_bounded;
      right = λ m' h p q.
          let same : m ≡ m' = accepted_is (sym a ∙ p) in
          absurd (refused≢accepted (sym (rw (ez, same) at r) ∙ q));
    }

    pub both_accepted : (h : Heard) {y : HeardSize} → heard_block z.words heard ≡ accepted h → y ≡ heard_size h → 1 ≤ y.last → y.last ≤ 24
        → 1 ≤ z.rules → z.rules ≤ 256 → MarkedIn (marked_block grammar) rules marks
        → ShapeOf grammar heard rules marks (record { graph = y.graph; last = y.last; rules = z.rules })
    both_accepted h {y} w q l₁ l₂ l₃ l₄ stand = record {
      bounded = record { some_place = l₁; places = l₂; some_rule = l₃; rules = l₄ };
      right = λ m' h' c d.
          let same : m ≡ m' = accepted_is (sym a ∙ c) in
          let one : h ≡ h' = accepted_is (sym (rw (ez, same) at w) ∙ d) in
          let (x, x') = rw c at stand in
          (rw (ez, q, same, one), x, x');
    }
