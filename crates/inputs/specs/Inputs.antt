-- A grammar block, and then a block of what was heard, of either kind or of slots alone: document 01, "Where each check stands", the rows
-- grammar block and utterance block. Nobody need believe this page: the services' own conditions say it of each. Assumes nothing.
use Rattle.std.specs.Prelude.{◌≡◌, List, ◌++◌, ℕ, ◌≤◌, Result, Ok, Err, length, drop, replicate}
use Rattle.packing.specs.Meaning.{Grammar, Heard, heard_edges}
use Rattle.packing.specs.Parse.{Verdict, accepted, refused, ◌then◌}
use Rattle.packing.specs.Grammar.{grammar_block}
use Rattle.packing.specs.Flat.{Overlaid, rule_numbers, edge_numbers}
use Rattle.grammar_reader.specs.Answer.{sizes, Bounded}
use Rattle.heard_reader.specs.Answer.{heard_size}
use Rattle.inputs.specs.declared.Inputs.{Inputs}
use Rattle.packing.specs.Refusal.{number}
use Rattle.packing.specs.declared.refusal.Refusal.{Refusal}

-- a grammar and what was heard, both accepted
pub record Meant : Type 0 where
  pub grammar : Grammar
  pub heard : Heard

abbrev pub both : Grammar → Heard → Meant
both g h = record { grammar = g; heard = h }

-- the verdict on both blocks, where `block` is the one on what was heard
unfoldable pub meant_by : (ℕ → List ℕ → Verdict Heard) → (grammar heard : List ℕ) → Verdict Meant
meant_by block grammar heard = grammar_block grammar then λ g. block g.words heard then λ h. accepted (both g h)

-- what is answered: the sizes of both
abbrev pub inputs_of : Meant → Inputs
inputs_of m = record { sizes = sizes m.grammar; heard = heard_size m.heard }

-- all sizes are in their ranges
pub record Bounds (z : Inputs) : Type 0 where
  pub sizes : Bounded z.sizes
  pub some_place : 1 ≤ z.heard.last
  pub places : z.heard.last ≤ 24
  pub edges : z.heard.edges ≤ 168

-- sizes and arrays as they are once both blocks were read into the arrays rules₀ and edges₀: the arrays hold the numbers of what the blocks mean,
-- and behind these what stood there before
pub record ReadOf (block : ℕ → List ℕ → Verdict Heard) (grammar heard rules₀ edges₀ : List ℕ) (z : Inputs) (rules edges : List ℕ) : Type 0 where
  pub meant : Meant
  pub grammar_is : grammar_block grammar ≡ accepted meant.grammar
  pub heard_is : block meant.grammar.words heard ≡ accepted meant.heard
  pub sizes : z ≡ inputs_of meant
  pub rules_laid : Overlaid (rule_numbers meant.grammar) rules₀ rules
  pub edges_laid : Overlaid (edge_numbers (heard_edges meant.heard)) edges₀ edges
  pub bounds : Bounds z

-- the arrays where zeros were lent: functions of what the blocks mean
abbrev pub rules_array : Grammar → List ℕ
rules_array g = rule_numbers g ++ drop (length (rule_numbers g)) (replicate 1280 0)

abbrev pub edges_array : Heard → List ℕ
edges_array h = edge_numbers (heard_edges h) ++ drop (length (edge_numbers (heard_edges h))) (replicate 672 0)

-- what the readers promise
abbrev pub InputsTold : (ℕ → List ℕ → Verdict Heard) → (grammar heard rules₀ edges₀ : List ℕ) → Result Inputs Refusal → (rules edges : List ℕ) → Type 0
InputsTold block grammar heard rules₀ edges₀ (Ok z) rules edges = ReadOf block grammar heard rules₀ edges₀ z rules edges
InputsTold block grammar heard rules₀ edges₀ (Err r) rules edges = meant_by block grammar heard ≡ refused (number r)
