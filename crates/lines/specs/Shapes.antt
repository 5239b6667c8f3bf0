-- What the arrays and the shape say of both blocks. Nobody need believe this page: the proofs join it to lines' Rows. Assumes nothing.
use Rattle.std.specs.Prelude.{◌≡◌, List, ℕ}
use Rattle.packing.specs.Meaning.{Marked, grammar_of, Heard}
use Rattle.packing.specs.Parse.{accepted}
use Rattle.packing.specs.Grammar.{marked_block}
use Rattle.packing.specs.Heard.{heard_block}
use Rattle.packing.specs.Flat.{Begins, rule_numbers, mark_numbers}
use Rattle.reading_rows.specs.Model.{Bounded, shape_of}
use Rattle.reading_rows.specs.declared.Shape.{Shape}

-- the shape of what both blocks mean, and the rules with their marks
pub record ShapeOf (grammar heard rules marks : List ℕ) (s : Shape) : Type 0 where
  pub bounded : Bounded s
  pub right : (m : Marked) (h : Heard) → marked_block grammar ≡ accepted m → heard_block m.words heard ≡ accepted h
      → (s ≡ shape_of (grammar_of m) h) × Begins (rule_numbers (grammar_of m)) rules × Begins (mark_numbers m) marks
