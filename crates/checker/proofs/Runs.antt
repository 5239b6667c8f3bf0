-- The check by the runs: the walk and the weight of the derivation that was found are the run's, and where none is found the run has none.
use mathlib.Core.Path.{◌≡◌, refl, ap, ◌∙◌}
use mathlib.Core.Bool.{Bool, true, false}
use mathlib.Core.List.{List}
use mathlib.Core.Option.{Option, none, some}
use Prim.Native.Nat.{ℕ, ◌-◌, ◌*◌, ◌≤◌}
use native.Mathlib.Omega.{arith}
use lib.Dec.{eqb}
use lib.ListN.{length}
use Rattle.bits.specs.Bits.{pick, field, ended}
use Rattle.packing.specs.Meaning.{Grammar, Utterance, Reading, Edge, Graph, Heard, slots, graph, edges}
use Rattle.packing.specs.Parse.{Parse, parsed, failed, Verdict, accepted, refused, ◌then◌, ◌⟫◌}
use Rattle.packing.specs.Read.{counted}
use Rattle.packing.specs.Flat.{RulesIn, rules_of}
use Rattle.packing.proofs.Flat.{rules_of_lem}
use Rattle.grammar_reader.specs.Answer.{sizes}
use Rattle.grammar_reader.specs.declared.Sizes.{Sizes}
use Rattle.packing.specs.Grammar.{grammar_block}
use Rattle.packing.specs.Utterance.{utterance_block}
use Rattle.packing.specs.Graph.{graph_block}
use Rattle.packing.specs.Heard.{heard_block}
use Rattle.packing.specs.Reading.{reading_from}
use Rattle.packing.specs.GraphReading.{GraphHead, graph_head_from, graph_reading_bits}
use Rattle.packing.specs.Valid.{ValidGrammar, ValidUtterance, ValidGraph}
use Rattle.packing.proofs.Whole.{grammar_block_out, utterance_block_out}
use Rattle.packing.proofs.Heard.{graph_block_out}
use Rattle.packing.proofs.Graph.{valid_edge_count}
use Rattle.derivation.specs.Derivation.{Tree, walk, weight}
use Rattle.derivation.specs.Walk.{walk_weight}
use Rattle.derivation.specs.Path.{path_weight}
use Rattle.derivation.proofs.Ranges.{valid_ascending, valid_rules}
use Rattle.derivation.proofs.Walk.{walk_weight_lem, walk_none}
use Rattle.derivation.proofs.HeardReadings.{heard_forward}
use Rattle.derivation.proofs.Path.{Stands, rules_read_lem, path_weight_lem, path_none}
use Rattle.checker.specs.Judgement.{walked, headed, fields_from, Has}
use Rattle.checker.specs.Check.{derivation_of, judged, after_fields, check, passed}
use Rattle.judgement.specs.Weighed.{weighed}
use Rattle.checker.specs.Run.{by_walk, path_walk, by_path, under_rules}
use Rattle.checker.proofs.Judged.{Found, derivation_found, head_read}

-- the walk of the derivation whose reading passes
abbrev pub walks_of : Verdict Tree → Verdict (List ℕ)
walks_of v = v then λ t. accepted (walk t)

-- so of the code's answers
pub passes_walked : (v : Verdict Tree) {n : ℕ} → accepted n ≡ counted (walks_of v) → accepted tt ≡ passed v
passes_walked (accepted t) e = refl
passes_walked (refused m) e = cc

pub refused_walked : (v : Verdict Tree) {n : ℕ} → refused n ≡ counted (walks_of v) → refused n ≡ passed v
refused_walked (accepted t) e = cc
refused_walked (refused m) e = cc

-- a judgement by the walk and the weight of what was found
judged_weighed : (g : Grammar) (es : List Edge) (block : List ℕ) (w at : ℕ) (t : Tree)
    → walks_of (judged g es block w at (some t)) ≡ weighed block w at (walk t) (some (weight g es t))
judged_weighed g es block w at t = go (eqb (weight g es t) w) (ended block at)
  where
    go : (a b : Bool) → walks_of (pick a (pick b (accepted t) (refused 36)) (refused 35)) ≡ pick a (pick b (accepted (walk t)) (refused 36)) (refused 35)
    go true true = refl
    go true false = refl
    go false b = refl

module _ (g : Grammar) (block : List ℕ) where
  abbrev R : ℕ
  R = length g.rules

  -- of slots
  module _ (u : Utterance) (ok : ValidUtterance g.words u) where
    slots_found : (d : Reading) (at : ℕ) (o : Option Tree) → Found (Has block g (slots u) (walked d)) o
        → walks_of (judged g (edges u) block d.weight at o) ≡ weighed block d.weight at d.walk (walk_weight g.rules u d.walk)
    slots_found d at none f = rw (walk_none g u (valid_ascending g.words u ok) d.walk (λ t c w. f t (c, w)))
    slots_found d at (some t) (c, w) =
        rw ((walk_weight_lem g u (valid_ascending g.words u ok) d.walk (weight g (edges u) t)).1 (t, c, w, refl))
        (judged_weighed g (edges u) block d.weight at t ∙ ap (λ l. weighed block d.weight at l (some (weight g (edges u) t))) w)

    slots_run : walks_of (after_fields g (slots u) block (fields_from g (slots u) block)) ≡ by_walk g.rules u block (reading_from (length u) R block)
    unfolding fields_from
    slots_run = go (reading_from (length u) R block)
      where
        go : (p : Parse Reading) → walks_of (after_fields g (slots u) block (p ⟫ λ d at. parsed (walked d) at)) ≡ by_walk g.rules u block p
        go (failed n) = refl
        go (parsed d at) = slots_found d at (derivation_of g (slots u) block (walked d)) (derivation_found g (slots u) block (walked d))

  -- of a graph
  module _ (okg : ValidGrammar g) (h : Graph) (ok : ValidGraph g.words h) where
    graph_found : (d : GraphHead) (at : ℕ) → 34 ≤ 8 * length block → (o : Option Tree) → Found (Has block g (graph h) (headed d)) o
        → walks_of (judged g h.edges block d.weight at o)
        ≡ weighed block d.weight at (path_walk g.rules d.edges block) (path_weight g.rules h.edges (h.places - 1) d.edges block)
    graph_found d at long none f =
        rw (path_none g h.edges (heard_forward g.words (graph h) ok) (omega (arith, valid_edge_count g.words h ok)) (valid_rules g okg) (h.places - 1)
        d.edges block long
        (λ t s. f t (s.derives, (s.edges, s.nodes))))
    graph_found d at long (some t) (c, (n, m)) =
        let forward = heard_forward g.words (graph h) ok in
        let few : length h.edges ≤ 128 = omega (arith, valid_edge_count g.words h ok) in
        let stands : Stands g h.edges (h.places - 1) d.edges block t = record { derives = c; edges = n; nodes = m } in
        let (next, walks) = rules_read_lem g h.edges forward few (valid_rules g okg) (h.places - 1) d.edges block long stands in
        rw ((path_weight_lem g h.edges forward few (valid_rules g okg) (h.places - 1) d.edges block long (weight g h.edges t)).1 (t, stands, refl), walks)
        (judged_weighed g h.edges block d.weight at t)

    graph_run : walks_of (after_fields g (graph h) block (fields_from g (graph h) block))
        ≡ by_path g.rules h.edges (h.places - 1) block (graph_head_from (h.places - 1) R block)
    unfolding fields_from
    graph_run = go (graph_head_from (h.places - 1) R block) refl
      where
        go : (p : Parse GraphHead) → graph_head_from (h.places - 1) R block ≡ p
            → walks_of (after_fields g (graph h) block (p ⟫ λ d at. parsed (headed d) (graph_reading_bits d.edges R)))
            ≡ by_path g.rules h.edges (h.places - 1) block p
        go (failed n) e = refl
        go (parsed d at) e =
            graph_found d (graph_reading_bits d.edges R) (omega (arith, (head_read (h.places - 1) R block e).3))
            (derivation_of g (graph h) block (headed d)) (derivation_found g (graph h) block (headed d))

-- so the check is what it is under the grammar's rules
pub under_rules_lem : (grammar heard reading : List ℕ) (g : Grammar) → grammar_block grammar ≡ accepted g
    → walks_of (check grammar heard reading) ≡ under_rules g.words g.rules heard reading
unfolding check heard_block
under_rules_lem grammar heard reading g e = rw e (go (eqb (field heard 0 4) 5) (utterance_block g.words heard) refl (graph_block g.words heard) refl)
  where
    after : Heard → Verdict Tree
    after h = after_fields g h reading (fields_from g h reading)

    go : (b : Bool) (v : Verdict Utterance) → utterance_block g.words heard ≡ v → (x : Verdict Graph) → graph_block g.words heard ≡ x
        → walks_of (pick b (x then λ h. accepted (graph h)) (v then λ u. accepted (slots u)) then after)
        ≡ pick b (x then λ h. by_path g.rules h.edges (h.places - 1) reading (graph_head_from (h.places - 1) (length g.rules) reading))
        (v then λ u. by_walk g.rules u reading (reading_from (length u) (length g.rules) reading))
    go true v p (refused n) q = refl
    go true v p (accepted h) q = graph_run g reading (grammar_block_out grammar g e).0 h (graph_block_out g.words heard h q).0
    go false (refused n) p x q = refl
    go false (accepted u) p x q = slots_run g reading u (utterance_block_out g.words heard u p).0

-- and under those of an array that a grammar was read into
pub walks_told : (grammar heard reading array : List ℕ) (g : Grammar) (z : Sizes) → grammar_block grammar ≡ accepted g → z ≡ sizes g
    → RulesIn (grammar_block grammar) array → walks_of (check grammar heard reading) ≡ under_rules z.words (rules_of array z.rules) heard reading
walks_told grammar heard reading array g z p e stands =
    let rules = rules_of_lem g array (rw p at stands) in
    rw (e, rules) (under_rules_lem grammar heard reading g p)
