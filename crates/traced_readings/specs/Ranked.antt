-- The derivation that a rank stands for: document 01, "The list of demand 3". Stands on derivation's definitions.
use Rattle.std.specs.Prelude.{◌≡◌, ℕ}
use Rattle.packing.specs.Meaning.{Grammar, Heard}
use Rattle.derivation.specs.Derivation.{Tree, Derivation}
use Rattle.derivation.specs.Rank.{Rank}

-- t is the derivation with rank k
pub record Ranked (g : Grammar) (h : Heard) (k : ℕ) (t : Tree) : Type 0 where
  pub derivation : Derivation g h t
  pub rank : Rank g h t k
  pub no_other : (s : Tree) → Derivation g h s → Rank g h s k → s ≡ t
