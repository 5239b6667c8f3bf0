-- Costs raised in an array of edges are those of the edges raised, and what the nodes of a derivation weigh is what it weighs.
use mathlib.Core.Path.{◌≡◌, refl, ap, ◌∙◌}
use mathlib.Core.List.{List, [], ◌∷◌, ◌++◌}
use Prim.Native.Nat.{ℕ, zero, suc, ◌+◌, ◌*◌, ◌<◌}
use native.Mathlib.Omega.{arith}
use lib.ListN.{length, get_or, set, length-set}
use lib.Seq.{take-set-lt}
use Rattle.packing.specs.declared.Sym.{Sym}
use Rattle.packing.specs.Meaning.{Grammar, Edge, edge, Node}
use Rattle.packing.specs.Flat.{Begins, rule_numbers, edge_numbers}
use Rattle.packing.proofs.Flat.{begins_at, rule_at_lem, length_edges, edge_at_lem}
use Rattle.derivation.specs.Derivation.{Tree, Derives, by_word_rule, by_pair_rule, edge_cost, weight}
use Rattle.derivation.specs.Heard.{trace}
use Rattle.derivation.proofs.Lists.{at_length}
use Rattle.cost_changes.specs.Costs.{edges_of}
use Rattle.cost_changes.specs.Passes.{raise, raised}
use Rattle.rising_costs.specs.Model.{raise_nodes, nodes_weight}

-- one edge
edges_set : (e : ℕ) (es fs : List Edge) → length es ≡ length fs → e < length es
    → edge_numbers (raise e es fs) ≡ set (edge_numbers es) (4 * e + 3) (get_or (edge_numbers fs) (4 * e + 3) 0)
unfolding raise edge_numbers
edges_set e [] fs n h = absurd (omega arith)
edges_set e (a ∷ es) [] n h = absurd (omega arith)
edges_set zero (edge i k x c ∷ es) (edge j l y d ∷ fs) n h = refl
edges_set (suc e) (edge i k x c ∷ es) (edge j l y d ∷ fs) n h =
    let z : 4 * suc e + 3 ≡ suc (suc (suc (suc (4 * e + 3)))) = omega arith in
    rw (z, edges_set e es fs (omega arith) (omega arith))

raise_length : (e : ℕ) (es fs : List Edge) → length (raise e es fs) ≡ length es
unfolding raise
raise_length e [] fs = refl
raise_length e (a ∷ es) [] = refl
raise_length zero (edge i k x c ∷ es) (edge j l y d ∷ fs) = refl
raise_length (suc e) (a ∷ es) (b ∷ fs) = ap suc (raise_length e es fs)

raised_length : (l : List ℕ) (es fs : List Edge) → length (raised l es fs) ≡ length es
unfolding raised
raised_length [] es fs = refl
raised_length (e ∷ l) es fs = raised_length l (raise e es fs) fs ∙ raise_length e es fs

raised_append : (l m : List ℕ) (es fs : List Edge) → raised (l ++ m) es fs ≡ raised m (raised l es fs) fs
unfolding raised
raised_append [] m es fs = refl
raised_append (e ∷ l) m es fs = raised_append l m (raise e es fs) fs

module _ (fs : List Edge) (high : List ℕ) (has-high : Begins (edge_numbers fs) high) where
  raise_begins : (e : ℕ) (es : List Edge) (array : List ℕ) → length es ≡ length fs → e < length es → Begins (edge_numbers es) array
      → Begins (edge_numbers (raise e es fs)) (set array (4 * e + 3) (get_or high (4 * e + 3) 0))
  raise_begins e es array n h b =
      let long = length_edges es in
      let long' = length_edges fs in
      let value = begins_at (edge_numbers fs) high (4 * e + 3) has-high (omega arith) in
      let kept = take-set-lt (length (edge_numbers es)) array (4 * e + 3) (get_or high (4 * e + 3) 0) (omega arith) in
      rw (edges_set e es fs n h, length-set) (kept ∙ rw (b, value))

  raise_append : (xs ys : List Node) (costs : List ℕ) → raise_nodes high costs (xs ++ ys) ≡ raise_nodes high (raise_nodes high costs xs) ys
  unfolding raise_nodes
  raise_append [] ys costs = refl
  raise_append (x ∷ xs) ys costs = raise_append xs ys _

  -- the nodes of a derivation raise its own edges
  pub raise_tree : (g : Grammar) (low : List Edge) → length low ≡ length fs → {A : Sym} {i k : ℕ} {z : Tree} → Derives g low A i k z
      → (es : List Edge) (array : List ℕ) → length es ≡ length fs → Begins (edge_numbers es) array
      → Begins (edge_numbers (raised (edges_of z) es fs)) (raise_nodes high array (trace z))
  unfolding trace edges_of raised raise_nodes
  raise_tree g low n (by_word_rule {e = e} p q) es array m b = raise_begins e es array m (omega (arith, at_length low e q.0)) b
  raise_tree g low n (by_pair_rule {s = s} {t = t} p h₁ h₂ d₁ d₂) es array m b =
      rw (raise_append (trace s) (trace t) array, raised_append (edges_of s) (edges_of t) es fs)
      (raise_tree g low n d₂ (raised (edges_of s) es fs) (raise_nodes high array (trace s)) (raised_length (edges_of s) es fs ∙ m)
      (raise_tree g low n d₁ es array m b))

  -- and weigh what it weighs
  module _ (g : Grammar) (rules : List ℕ) (has_rules : Begins (rule_numbers g) rules) where
    weight_append : (xs ys : List Node) → nodes_weight rules high (xs ++ ys) ≡ nodes_weight rules high xs + nodes_weight rules high ys
    unfolding nodes_weight
    weight_append [] ys = omega arith
    weight_append (x ∷ xs) ys = omega (arith, weight_append xs ys)

    pub tree_weight : (low : List Edge) → length low ≡ length fs → {A : Sym} {i k : ℕ} {z : Tree} → Derives g low A i k z
        → nodes_weight rules high (trace z) ≡ weight g fs z
    unfolding trace nodes_weight weight edge_cost
    tree_weight low n (by_word_rule {r = r} {e = e} p q) =
        let rule = rule_at_lem g rules r has_rules (at_length g.rules r p) in
        let edge = edge_at_lem fs high e has-high (omega (arith, at_length low e q.0)) in
        rw (rule, edge) (omega arith)
    tree_weight low n (by_pair_rule {r = r} {s = s} {t = t} p h₁ h₂ d₁ d₂) =
        let rule = rule_at_lem g rules r has_rules (at_length g.rules r p) in
        rw rule (omega (arith, weight_append (trace s) (trace t), tree_weight low n d₁, tree_weight low n d₂))
