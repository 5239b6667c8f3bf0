-- Rules in another order: document 02, N13, of two calls of the listing, with grammar blocks whose rules are rearranged and one block of
-- what was heard, slots or a graph. It follows from what every call promises, the record Listing of Demands; proofs/RearrangedCalls has the
-- theorem. `after` and `written` are work table and output after the first call, `after'` and `written'` those after the second.
-- Stands on Demands, and on rearranged_rules' Rearranged for what it is to be rearranged and to be the same after renumbering.
use Rattle.std.specs.Prelude.{◌≡◌, List, ℕ, ◌≤◌, ◌<◌, ℤ, pos, length}
use Rattle.bits.specs.Bits.{field}
use Rattle.packing.specs.Meaning.{Grammar, Heard, heard_edges}
use Rattle.packing.specs.Parse.{accepted}
use Rattle.packing.specs.Grammar.{grammar_block}
use Rattle.packing.specs.Heard.{heard_block}
use Rattle.derivation.specs.Derivation.{Tree, Derivation}
use Rattle.derivation.specs.Order.{cost_sum}
use Rattle.derivation.specs.Heard.{output_length, packed}
use Rattle.traced_readings.specs.Ranked.{Ranked}
use Rattle.listing.specs.Demand3.{kth_bytes}
use Rattle.rearranged_rules.specs.Rearranged.{Rearranged, SameRenumbered}
use Rattle.spireyerba.specs.Demands.{Listing}

-- the weight that a reading holds: 24 bits behind its kind, 4 bits, and its n, 6 bits
abbrev pub weight_held : List ℕ → ℕ
weight_held reading = field reading 10 24

-- the reading of the derivation t is one of the m in an output
abbrev pub Among : Grammar → Heard → ℕ → List ℕ → Tree → Type 0
Among g h m out t = Derivation g h t × (k : ℕ) × (1 ≤ k) × (k ≤ m) × (kth_bytes (output_length g h) k out ≡ packed g h t)

-- what two outputs of m readings hold, where N are wanted
pub record SameReadings (f : ℕ → ℕ) (g g' : Grammar) (h : Heard) (N m : ℕ) (out out' : List ℕ) : Type 0 where
  -- "equal weight .. at every rank", as the readings hold it
  pub weights : (k : ℕ) → 1 ≤ k → k ≤ m → weight_held (kth_bytes (output_length g h) k out) ≡ weight_held (kth_bytes (output_length g' h) k out')
  -- "and equal cost sum", of the derivations with that rank: no reading holds it
  pub costs : (k : ℕ) (t t' : Tree) → Ranked g h k t → Ranked g' h k t' → cost_sum (heard_edges h) t ≡ cost_sum (heard_edges h) t'
  -- "Where a list is shorter than the number wanted, both hold the same derivations after renumbering"
  pub same : m < N → SameRenumbered f (length g.rules) (Among g h m out) (Among g' h m out')

-- The first call answers m. The second, lent no less, answers m too, "the lists have equal length", and what both wrote is the same so far.
abbrev pub RearrangedCalls : Type 0
RearrangedCalls =
    (f : ℕ → ℕ) (g g' : Grammar) (h : Heard) → Rearranged f g g'
    → (grammar grammar' heard : List ℕ) → grammar_block grammar ≡ accepted g → grammar_block grammar' ≡ accepted g'
    → heard_block g.words heard ≡ accepted h
    → (N m : ℕ) (work out after written : List ℕ) → Listing grammar heard N work out (pos m) after written
    → (code : ℤ) (work' out' after' written' : List ℕ) → Listing grammar' heard N work' out' code after' written'
    → length work ≤ length work' → length out ≤ length out'
    → (code ≡ pos m) × SameReadings f g g' h N m written written'
