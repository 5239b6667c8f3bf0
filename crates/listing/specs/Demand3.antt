-- Demand 3, whole: document 01, "Tables" and "The list of demand 3", and document 02, N1, "Demand 3 covers paths too, each reading taken
-- with its zeros", as one claim about what a listing answers and leaves in both slices. Each part stands under the sentence that it
-- renders. The terms are those of specs/Conditions and of derivation's specs: `Derivation g h t` says that t is a derivation of what was
-- heard, slots or a graph, `packed g h t` is its reading as it stands in the output, `outputLength g h` is L, `Before` is the order,
-- `Number P n` says that n things have the property P, and `Rank g h t k` that k is 1 plus the number of derivations that come before t.
use Rattle.std.specs.Prelude.{◌≡◌, ◌⊎◌, ◌↔◌, List, ℕ, ◌-◌, ◌*◌, ◌≤◌, min, length, take, drop, replicate}
use Rattle.packing.specs.Meaning.{Grammar, Heard, last_place, heard_edges}
use Rattle.packing.specs.Parse.{accepted}
use Rattle.packing.specs.Grammar.{grammar_block}
use Rattle.packing.specs.Heard.{heard_block}
use Rattle.derivation.specs.Derivation.{Tree, Derivation}
use Rattle.derivation.specs.Heard.{output_length, packed}
use Rattle.derivation.specs.Order.{Before}
use Rattle.derivation.specs.Rank.{Number}
use Rattle.traced_readings.specs.Ranked.{Ranked}
use Rattle.chart.specs.WorkTable.{table_size}

-- the kth L bytes of an output, k from 1
abbrev pub kth_bytes : ℕ → ℕ → List ℕ → List ℕ
kth_bytes L k out = take L (drop ((k - 1) * L) out)

-- one of the two, and never both
abbrev pub Either : Type 0 → Type 0 → Type 0
Either A B = (A × ¬ B) ⊎ (B × ¬ A)

-- what is to hold for a grammar, what was heard and N, where `AnswerIs m` says that the listing accepted and answered m
pub record RankedList (g : Grammar) (h : Heard) (N : ℕ) (work out : List ℕ) (AnswerIs : ℕ → Type 0) (work' out' : List ℕ) : Type 0 where
  -- "Two derivations are different if their readings differ": and only then, so that trees are counted as readings are
  pub different : (s t : Tree) → Derivation g h s → Derivation g h t → (packed g h s ≡ packed g h t) ↔ (s ≡ t)
  -- "of two different ones, one always comes before the other in the order"
  pub ordered : (s t : Tree) → Derivation g h s → Derivation g h t → ¬ (packed g h s ≡ packed g h t)
      → Either (Before g (heard_edges h) s t) (Before g (heard_edges h) t s)
  -- "There are finitely many."
  pub derivations : ℕ
  pub finitely_many : Number (Derivation g h) derivations
  -- "the listing accepts"
  pub m : ℕ
  pub accepts : AnswerIs m
  -- "m is the lesser of N and the number of all derivations"
  pub m_is : m ≡ min N derivations
  -- "for every k from 1 to m the kth L bytes of the output hold the reading of the derivation with rank k"
  pub readings : (k : ℕ) → 1 ≤ k → k ≤ m → (t : Tree) × Ranked g h k t × (kth_bytes (output_length g h) k out' ≡ packed g h t)
  -- "Output beyond m × L is unchanged"
  pub beyond : drop (m * output_length g h) out' ≡ drop (m * output_length g h) out
  -- "and the work table is all zeros"
  pub zeros : work' ≡ replicate (length work) 0

-- "With both blocks accepted, N from 1 to 256 and both lengths met, .. This goes for whatever both slices held before"
abbrev pub Demand3 : (grammar heard : List ℕ) (N : ℕ) (work out : List ℕ) (AnswerIs : ℕ → Type 0) (work' out' : List ℕ) → Type 0
Demand3 grammar heard N work out AnswerIs work' out' =
    (g : Grammar) → grammar_block grammar ≡ accepted g → (h : Heard) → heard_block g.words heard ≡ accepted h
    → 1 ≤ N → N ≤ 256 → table_size g.symbols (last_place h) N ≤ length work → N * output_length g h ≤ length out
    → RankedList g h N work out AnswerIs work' out'
