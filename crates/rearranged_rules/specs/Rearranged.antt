-- Rules in another order: document 02, N13: what it is to be rearranged, and to be the same after renumbering. What the listing answers and
-- writes stands in calls' RearrangedCalls. Stands on packing's Meaning and on derivation's Derivation.
use Rattle.std.specs.Prelude.{◌≡◌, ◌↔◌, ℕ, ◌<◌, length}
use Rattle.packing.specs.declared.Rule as R
use Rattle.packing.specs.Meaning.{Grammar}
use Rattle.derivation.specs.Derivation.{Tree, leaf, node, At}

-- "any rearrangement of a grammar's rules": rule r of g is rule f r of g', and of the numbers of rules f is one to one and onto. What f
-- does to other numbers does not matter
pub record Rearranged (f : ℕ → ℕ) (g g' : Grammar) : Type 0 where
  pub symbols : g.symbols ≡ g'.symbols
  pub words : g.words ≡ g'.words
  pub number : length g.rules ≡ length g'.rules
  pub moved : (r : ℕ) {rule : R.Rule} → At g.rules r rule → At g'.rules (f r) rule
  pub one_to_one : (r s : ℕ) → r < length g.rules → s < length g.rules → f r ≡ f s → r ≡ s
  pub onto : (s : ℕ) → s < length g'.rules → (r : ℕ) × (r < length g.rules) × (f r ≡ s)

-- the tree with the other number of each of its rules
unfoldable pub renumber : (ℕ → ℕ) → Tree → Tree
renumber f (leaf r e) = leaf (f r) e
renumber f (node r j s t) = node (f r) j (renumber f s) (renumber f t)

-- each of its rule numbers is below R
abbrev pub RulesBelow : ℕ → Tree → Type 0
RulesBelow R (leaf r e) = r < R
RulesBelow R (node r j s t) = (r < R) × RulesBelow R s × RulesBelow R t

-- "both hold the same derivations after renumbering": of trees over R rules, one holds a tree exactly if the other holds it renumbered, and
-- the other holds nothing else
pub record SameRenumbered (f : ℕ → ℕ) (R : ℕ) (Holds Holds' : Tree → Type 0) : Type 0 where
  pub each : (t : Tree) → RulesBelow R t → Holds t ↔ Holds' (renumber f t)
  pub no_other : (t' : Tree) → Holds' t' → (t : Tree) × Holds t × (t' ≡ renumber f t)
