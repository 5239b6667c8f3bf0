-- What the specimen and the next phrase accept: document 01, the rows grammar block and specimen of "Where each check stands"; document 02, N9.
-- Stands on packing's definitions.
use Rattle.std.specs.Prelude.{List, ℕ, ltb}
use Rattle.bits.specs.Bits.{pick}
use Rattle.packing.specs.Meaning.{Grammar}
use Rattle.packing.specs.Parse.{Verdict, accepted, refused, ◌then◌}
use Rattle.packing.specs.Grammar.{grammar_block}

-- the grammar, or the refusal: the length is from 1 to `most`, and the output not shorter
unfoldable pub asked : (most : ℕ) → List ℕ → ℕ → ℕ → Verdict Grammar
asked most grammar n out =
    grammar_block grammar then λ g.
    pick (ltb n 1) (refused 25) (pick (ltb most n) (refused 25) (pick (ltb out n) (refused 26) (accepted g)))
