-- Rules in another order, of the lists of least derivations, of slots and of graphs. Nobody need believe this page: it is about the enumeration of
-- derivation's HeardList; calls' RearrangedCalls has what follows of two calls of the listing.
use Rattle.std.specs.Prelude.{◌≡◌, List, ℕ, ◌<◌, length}
use Rattle.packing.specs.Meaning.{Grammar, Edge, Heard, heard_edges}
use Rattle.derivation.specs.Derivation.{Tree, At, weight}
use Rattle.derivation.specs.Order.{cost_sum}
use Rattle.derivation.specs.Rank.{◌∈◌}
use Rattle.derivation.specs.HeardList.{least_derivations}
use Rattle.rearranged_rules.specs.Rearranged.{Rearranged, SameRenumbered}

-- the lists l of g and l' of g', where N are wanted
pub record SameLists (f : ℕ → ℕ) (g g' : Grammar) (es : List Edge) (N : ℕ) (l l' : List Tree) : Type 0 where
  -- "the lists have equal length"
  pub lengths : length l ≡ length l'
  -- "and equal weight and equal cost sum at every rank"
  pub ranks : (k : ℕ) {t t' : Tree} → At l k t → At l' k t' → (weight g es t ≡ weight g' es t') × (cost_sum es t ≡ cost_sum es t')
  -- "Where a list is shorter than the number wanted, both hold the same derivations after renumbering"
  pub same : length l < N → SameRenumbered f (length g.rules) (λ t. t ∈ l) (λ t. t ∈ l')

abbrev pub RearrangedLists : Type 0
RearrangedLists =
    (f : ℕ → ℕ) (g g' : Grammar) → Rearranged f g g' → (h : Heard) (N : ℕ)
    → SameLists f g g' (heard_edges h) N (least_derivations g h N) (least_derivations g' h N)
