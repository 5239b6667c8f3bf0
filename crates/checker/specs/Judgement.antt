-- The check of a reading, of slots or of a graph, by derivations: document 01, "The services" and the rows grammar block, utterance block and reading
-- block of "Where each check stands"; document 02, N1. Stands on packing's and derivation's definitions.
use Rattle.std.specs.Prelude.{◌≡◌, false, List, ℕ, ◌-◌, length}
use Rattle.bits.specs.Bits.{ended}
use Rattle.packing.specs.Meaning.{Grammar, Reading, Heard, slots, graph, heard_edges}
use Rattle.packing.specs.Parse.{Parse, parsed, failed, ◌⟫◌, Verdict, accepted, refused}
use Rattle.packing.specs.Grammar.{grammar_block}
use Rattle.packing.specs.Heard.{heard_block}
use Rattle.packing.specs.Reading.{reading_from}
use Rattle.packing.specs.GraphReading.{GraphHead, graph_head_from, graph_reading_bits, TraceIn}
use Rattle.derivation.specs.Derivation.{Tree, walk, weight, Derivation}
use Rattle.derivation.specs.Heard.{path_length, trace, own_block}

-- what was read of a reading block: of slots all its fields; of a graph n and the weight. Which nodes a graph's reading has is judged by
-- their bits
pub data Fields : Type 0 where
  walked : Reading → Fields
  headed : GraphHead → Fields

abbrev pub weight_read : Fields → ℕ
weight_read (walked d) = d.weight
weight_read (headed d) = d.weight

-- it, and the place behind the reading
unfoldable pub fields_from : Grammar → Heard → List ℕ → Parse Fields
fields_from g (slots u) block = reading_from (length u) (length g.rules) block ⟫ λ d at. parsed (walked d) at
fields_from g (graph h) block =
    let R = length g.rules in
    graph_head_from (h.places - 1) R block ⟫ λ d at. parsed (headed d) (graph_reading_bits d.edges R)

-- a tree has the nodes that were read: the walk; or it has n edges, and the bits of its nodes stand in the block
abbrev pub HasNodes : ℕ → List ℕ → Fields → Tree → Type 0
HasNodes R block (walked d) t = walk t ≡ d.walk
HasNodes R block (headed d) t = (path_length t ≡ d.edges) × TraceIn R (trace t) block

-- what is to pass: the block is the packed reading of a derivation, with its own weight and cut to its own length, of what the grammar
-- block and the block of what was heard mean
abbrev pub OfDerivation : List ℕ → List ℕ → List ℕ → Type 0
OfDerivation grammar heard block =
    (g : Grammar) × (h : Heard) × (t : Tree) × (grammar_block grammar ≡ accepted g) × (heard_block g.words heard ≡ accepted h) × Derivation g h t
    × (block ≡ own_block g h t)

-- both blocks are accepted and the fields of the reading block are read, and so it is of what they mean and of the place behind the reading
pub record FieldsRead (grammar heard block : List ℕ) (So : Grammar → Heard → Fields → ℕ → Type 0) : Type 0 where
  pub g : Grammar
  pub h : Heard
  pub d : Fields
  pub at : ℕ
  pub grammar_accepted : grammar_block grammar ≡ accepted g
  pub heard_accepted : heard_block g.words heard ≡ accepted h
  pub fields : fields_from g h block ≡ parsed d at
  pub so : So g h d at

-- t is a derivation with the nodes that were read
abbrev pub Has : List ℕ → Grammar → Heard → Fields → Tree → Type 0
Has block g h d t = Derivation g h t × HasNodes (length g.rules) block d t

-- 34, "the 2n−1 numbers are not the walk of a derivation"; of a graph, no derivation of n edges has the block's bits
abbrev pub NoWalk : List ℕ → List ℕ → List ℕ → Type 0
NoWalk grammar heard block = FieldsRead grammar heard block (λ g h d at. (t : Tree) → ¬ Has block g h d t)

-- 35, "weight not its own"
abbrev pub OtherWeight : List ℕ → List ℕ → List ℕ → Type 0
OtherWeight grammar heard block =
    FieldsRead grammar heard block (λ g h d at. (t : Tree) × Has block g h d t × ¬ (weight g (heard_edges h) t ≡ weight_read d))

-- 36, "nonzero fill or further bytes"
abbrev pub Surplus : List ℕ → List ℕ → List ℕ → Type 0
Surplus grammar heard block =
    FieldsRead grammar heard block
    (λ g h d at. (t : Tree) × Has block g h d t × (weight g (heard_edges h) t ≡ weight_read d) × (ended block at ≡ false))

-- what is due for three blocks: the derivation whose reading passes, or the refusal. "Places follow this order; within a block a field is read, then
-- checked, before the next", and 34 to 36 stand after all fields
pub data Judgement (grammar heard block : List ℕ) : Verdict Tree → Type 0 where
  grammar_refused : {n : ℕ} → grammar_block grammar ≡ refused n → Judgement grammar heard block (refused n)
  heard_refused : {g : Grammar} {n : ℕ} → grammar_block grammar ≡ accepted g → heard_block g.words heard ≡ refused n
      → Judgement grammar heard block (refused n)
  field_refused : {g : Grammar} {h : Heard} {n : ℕ} → grammar_block grammar ≡ accepted g → heard_block g.words heard ≡ accepted h
      → fields_from g h block ≡ failed n → Judgement grammar heard block (refused n)
  no_walk : NoWalk grammar heard block → Judgement grammar heard block (refused 34)
  other_weight : OtherWeight grammar heard block → Judgement grammar heard block (refused 35)
  surplus : Surplus grammar heard block → Judgement grammar heard block (refused 36)
  passes : {g : Grammar} {h : Heard} {t : Tree} → grammar_block grammar ≡ accepted g → heard_block g.words heard ≡ accepted h → Derivation g h t
      → block ≡ own_block g h t → Judgement grammar heard block (accepted t)
