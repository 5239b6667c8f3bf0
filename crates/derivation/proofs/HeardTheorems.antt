-- Derivations of what was heard, slots or a graph: each theorem renders a sentence of document 02's N1, or of document 01's "Grammars
-- and derivations" and "The list of demand 3" for either kind. The terms are those of specs/Heard, Derivation, Order and List;
-- `ValidGrammar` and `ValidHeard` are packing's, of accepted blocks.
use mathlib.Core.Path.{◌≡◌, refl, sym, ap, ◌∙◌}
use mathlib.Core.Logic.{◌⊎◌, inl, inr, ◌↔◌}
use mathlib.Core.List.{List}
use Prim.Native.Nat.{ℕ, suc, ◌+◌, ◌-◌, ◌*◌, ◌^◌, ◌≤◌, ◌<◌, min, Ordering}
use native.Mathlib.Omega.{arith}
use lib.ListN.{length, length-take}
use Rattle.packing.specs.declared.Sym.{Sym}
use Rattle.packing.specs.Meaning.{symbol_of, Grammar, Utterance, Graph, Heard, slots, graph, last_place, heard_edges, redrawn}
use Rattle.packing.specs.GraphReading.{graph_reading_length}
use Rattle.packing.specs.Parse.{accepted}
use Rattle.packing.specs.Grammar.{grammar_block}
use Rattle.packing.specs.Heard.{heard_block}
use Rattle.packing.specs.Valid.{ValidGrammar, ValidGraph, ValidHeard}
use Rattle.packing.proofs.Whole.{grammar_block_out}
use Rattle.packing.proofs.Heard.{heard_block_out}
use Rattle.derivation.specs.Derivation.{At, Tree, leaf, Derives, weight, walk, Derivation}
use Rattle.derivation.specs.Order.{order, Before}
use Rattle.derivation.specs.Rank.{Number, Rank}
use Rattle.derivation.specs.Heard.{path_length, trace, own_block, output_length, packed}
use Rattle.derivation.specs.HeardList.{derivations, least_derivations}
use Rattle.derivation.proofs.Comparison.{Lawful, lt≢eq, turn_gt}
use Rattle.derivation.proofs.Order.{order_lawful}
use Rattle.derivation.proofs.Lists.{at_take}
use Rattle.derivation.proofs.Sorted.{number_one}
use Rattle.derivation.proofs.Cell.{derives_place}
use Rattle.derivation.proofs.Ranks.{number_all, number_before, place_number}
use Rattle.derivation.proofs.Paths.{walk_path}
use Rattle.derivation.proofs.Trace.{trace_one}
use Rattle.derivation.proofs.HeardReadings.{
  heard_one_edge,
  path,
  heard_weight,
  graph_own_length,
  own_decided,
  packed_decided,
  packed_length,
  output_small,
}

-- "slots .. redrawn as a graph, give the same derivations in the same order".
module _ (g : Grammar) (u : Utterance) where
  last_slot : suc (length u) - 1 ≡ length u
  last_slot = omega arith

  pub redrawn_derivations : derivations g (graph (redrawn u)) ≡ derivations g (slots u)
  redrawn_derivations = rw last_slot

  pub redrawn_derivation : (t : Tree) → Derivation g (graph (redrawn u)) t ↔ Derivation g (slots u) t
  redrawn_derivation t = rw last_slot (λ d. d, λ d. d)

  pub redrawn_rank : (t : Tree) (k : ℕ) → Rank g (graph (redrawn u)) t k ↔ Rank g (slots u) t k
  redrawn_rank t k = rw last_slot (λ r. r, λ r. r)

module _ (g : Grammar) (h : Heard) where
  law : Lawful (order g (heard_edges h))
  law = order_lawful g (heard_edges h)

  -- "There are finitely many": the list has each once and nothing else.
  pub finitely_many : Number (Derivation g h) (length (derivations g h))
  finitely_many = number_all g (heard_edges h) (symbol_of 0) 0 (last_place h)

  -- "of two different ones, one always comes before the other in the order", never itself, and no circle is possible
  pub one_comes_before : (s t : Tree) → (s ≡ t) ⊎ (Before g (heard_edges h) s t ⊎ Before g (heard_edges h) t s)
  one_comes_before s t = go (order g (heard_edges h) s t) refl
    where
      go : (o : Ordering) → order g (heard_edges h) s t ≡ o → (s ≡ t) ⊎ (Before g (heard_edges h) s t ⊎ Before g (heard_edges h) t s)
      go Ordering.lt e = inr (inl e)
      go Ordering.eq e = inl (law.same s t e)
      go Ordering.gt e = inr (inr (turn_gt law s t e))

  pub never_before_itself : (t : Tree) → Before g (heard_edges h) t t → ⊥
  never_before_itself t e = lt≢eq (sym e ∙ law.self t)

  pub before_chains : (s t v : Tree) → Before g (heard_edges h) s t → Before g (heard_edges h) t v → Before g (heard_edges h) s v
  before_chains s t v = law.chain s t v

  pub never_both : (s t : Tree) → Before g (heard_edges h) s t → Before g (heard_edges h) t s → ⊥
  never_both s t a b = never_before_itself s (before_chains s t s a b)

  -- "A derivation's rank is 1 plus the number of derivations that come before it": it has one
  pub has_rank : (t : Tree) → Derivation g h t → (k : ℕ) × Rank g h t k
  has_rank t d =
      let (x, e) = derives_place g (heard_edges h) (symbol_of 0) 0 (last_place h) d in
      (1 + x, (x, number_before g (heard_edges h) (symbol_of 0) 0 (last_place h) t x e, refl))

  pub one_rank : (t : Tree) (k l : ℕ) → Rank g h t k → Rank g h t l → k ≡ l
  one_rank t k l (m, a, p) (n, b, q) = let same : m ≡ n = number_one law a b in omega arith

  -- "m is the lesser of N and the number of all derivations"
  pub least_length : (N m : ℕ) → Number (Derivation g h) m → length (least_derivations g h N) ≡ min N m
  least_length N m all = length-take N (derivations g h) ∙ ap (min N) (number_one law finitely_many all)

  -- "for every k from 1 to m .. the derivation with rank k"
  pub least_element : (N k : ℕ) (t : Tree) → At (least_derivations g h N) k t ↔ (Derivation g h t × Rank g h t (1 + k) × (k < N))
  least_element N k t = (to, from)
    where
      to : At (least_derivations g h N) k t → Derivation g h t × Rank g h t (1 + k) × (k < N)
      to e =
          let (f, b) = (at_take N (derivations g h) k t).0 e in
          let (d, n) = (place_number g (heard_edges h) (symbol_of 0) 0 (last_place h) t k).0 f in
          (d, (k, n, refl), b)

      from : Derivation g h t × Rank g h t (1 + k) × (k < N) → At (least_derivations g h N) k t
      from (d, (x, n, q), b) =
          let same : x ≡ k = omega arith in
          (at_take N (derivations g h) k t).1 ((place_number g (heard_edges h) (symbol_of 0) 0 (last_place h) t k).1 (d, rw same at n), b)

  -- No two derivations have one trace.
  pub one_trace : (s t : Tree) → Derivation g h s → Derivation g h t → trace s ≡ trace t → s ≡ t
  one_trace s t d e = trace_one g (heard_edges h) d e

  -- Of accepted blocks.
  module _ (ok : ValidGrammar g) (valid : ValidHeard g.words h) where
    -- By 15 or by 52, one rule over one span has at most one edge: no tie is left to edge numbers.
    pub one_leaf : (A : Sym) (i k r e f : ℕ) → Derives g (heard_edges h) A i k (leaf r e) → Derives g (heard_edges h) A i k (leaf r f) → e ≡ f
    one_leaf A i k r e f = heard_one_edge g.words h valid

    -- A path has from 1 to P − 1 edges, and a derivation one node less than twice its path's edges.
    pub path_edges : (t : Tree) → Derivation g h t → (1 ≤ path_length t) × (path_length t ≤ last_place h)
    path_edges t d = path g ok h valid t d

    pub heard_nodes : (t : Tree) → Derivation g h t → length (walk t) ≡ 2 * path_length t - 1
    heard_nodes t d = omega (arith, walk_path t)

    -- "The greatest weight is 47 × 65,535 + 24 × 65,535 = 4,652,985", on slots or graphs.
    pub greatest_weight : (t : Tree) → Derivation g h t → weight g (heard_edges h) t ≤ 4652985
    greatest_weight t d = heard_weight g ok h valid t d

    -- "Two derivations are different if their readings differ", "each reading taken with its zeros": and only then; the same of readings
    -- cut to their own length.
    pub readings_differ : (s t : Tree) → Derivation g h s → Derivation g h t → (packed g h s ≡ packed g h t) ↔ (s ≡ t)
    readings_differ s t d e = (packed_decided g ok h valid s t d e, ap (packed g h))

    pub own_readings_differ : (s t : Tree) → Derivation g h s → Derivation g h t → (own_block g h s ≡ own_block g h t) ↔ (s ≡ t)
    own_readings_differ s t d e = (own_decided g ok h valid s t d e, ap (own_block g h))

    -- "In the output each takes the bytes of a P−1 edge reading": L bytes, at most 73.
    pub output_bytes : (t : Tree) → Derivation g h t → length (packed g h t) ≡ output_length g h
    output_bytes t d = packed_length g ok h valid t d

    pub longest_output : output_length g h ≤ 73
    longest_output = output_small g ok h valid

-- Document 02, N10: "no accepted input reaches it, on slots or graphs": of accepted blocks no weight passes document 01's bound, nor 24 bits.
pub weight_fits : (grammar heard : List ℕ) (g : Grammar) (h : Heard) → grammar_block grammar ≡ accepted g → heard_block g.words heard ≡ accepted h
    → (t : Tree) → Derivation g h t → (weight g (heard_edges h) t ≤ 4652985) × (weight g (heard_edges h) t < 2 ^ 24)
weight_fits grammar heard g h p q t d =
    let bound = greatest_weight g h (grammar_block_out grammar g p).0 (heard_block_out g.words heard h q).0 t d in
    (bound, omega (arith, bound))

-- "its own length": that of a reading of its path's edges.
pub own_length : (g : Grammar) → ValidGrammar g → (h : Graph) → ValidGraph g.words h → (t : Tree) → Derivation g (graph h) t
    → length (own_block g (graph h) t) ≡ graph_reading_length (path_length t) (length g.rules)
own_length g ok h valid t d = (graph_own_length g ok h valid t d).0
