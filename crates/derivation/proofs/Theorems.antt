-- Readings of slots: each theorem renders a sentence of document 01's "Grammars and derivations" and "The list of demand 3". What holds of
-- slots and of graphs alike, the list and the ranks, stands in HeardTheorems.
-- The terms are those of specs/Derivation; `ValidGrammar` and `ValidUtterance` are packing's, of accepted blocks.
use mathlib.Core.Path.{◌≡◌, sym, ap}
use mathlib.Core.Logic.{◌↔◌}
use mathlib.Core.Option.{some}
use Prim.Native.Nat.{◌-◌, ◌*◌}
use native.Mathlib.Omega.{arith}
use lib.ListN.{length}
use Rattle.packing.specs.Meaning.{Grammar, Utterance, edges, Reading, slots}
use Rattle.packing.specs.Valid.{ValidGrammar, ValidUtterance, ValidReading}
use Rattle.packing.proofs.Widths.{reading_valid}
use Rattle.derivation.specs.Derivation.{Tree, weight, walk, Derivation, reading}
use Rattle.derivation.specs.Walk.{walk_weight}
use Rattle.derivation.proofs.Lists.{at_mem}
use Rattle.derivation.proofs.Ranges.{Ascending, valid_rules, valid_light, valid_ascending, valid_cheap, valid_slots}
use Rattle.derivation.proofs.Slots.{edges_apart, edges_short, edges_cheap}
use Rattle.derivation.proofs.Walk.{walk_weight_lem}
use Rattle.derivation.proofs.Readings.{walk_one, walk_rules, walk_length, weight_bound}

module _ (g : Grammar) (u : Utterance) where
  -- "Two derivations are different if their readings differ": and only then
  pub readings_differ : ValidUtterance g.words u → (s t : Tree) → Derivation g (slots u) s → Derivation g (slots u) t
      → (reading g u s ≡ reading g u t) ↔ (s ≡ t)
  unfolding reading
  readings_differ ok s t a b =
      let apart = edges_apart 0 u (valid_ascending g.words u ok) in
      (λ e. walk_one g (edges u) apart a b (ap (λ (v : Reading). v.walk) e), ap (reading g u))

  -- "It has 2n − 1 nodes."
  pub nodes : (t : Tree) → Derivation g (slots u) t → length (walk t) ≡ 2 * length u - 1
  nodes t d = omega (arith, walk_length g (edges u) (edges_short u) d)

  -- "A derivation's reading is its packed block": it can be packed
  pub reading_packs : ValidGrammar g → ValidUtterance g.words u → (t : Tree) → Derivation g (slots u) t
      → ValidReading (length g.rules) (reading g u t)
  unfolding reading
  reading_packs ok ok' t d =
      let n = valid_slots g.words u ok' in
      let cheap = edges_cheap u (valid_cheap g.words u ok') in
      let w = weight_bound g (edges u) (edges_short u) (valid_light g ok) cheap d in
      reading_valid (length g.rules) (valid_rules g ok) (reading g u t) (omega arith) (omega arith) (nodes t d)
      (λ k r e. walk_rules d (at_mem (walk t) k e))

  -- 34 and 35, "the 2n−1 numbers are not the walk of a derivation", "weight not its own": a reading passes exactly if it is
  -- some derivation's
  pub reading_found : Ascending u → (v : Reading)
      → ((v.slots ≡ length u) × (walk_weight g.rules u v.walk ≡ some v.weight))
      ↔ ((t : Tree) × Derivation g (slots u) t × (v ≡ reading g u t))
  unfolding reading
  reading_found ascending v = (to, from)
    where
      runs : (walk_weight g.rules u v.walk ≡ some v.weight)
          ↔ ((t : Tree) × Derivation g (slots u) t × (walk t ≡ v.walk) × (weight g (edges u) t ≡ v.weight))
      runs = walk_weight_lem g u ascending v.walk v.weight

      to : (v.slots ≡ length u) × (walk_weight g.rules u v.walk ≡ some v.weight)
          → (t : Tree) × Derivation g (slots u) t × (v ≡ reading g u t)
      to (n, p) =
          let (t, d, e, w) = runs.0 p in
          (t, d, λ i. record { slots = n i; weight = sym w i; walk = sym e i })

      from : (t : Tree) × Derivation g (slots u) t × (v ≡ reading g u t)
          → (v.slots ≡ length u) × (walk_weight g.rules u v.walk ≡ some v.weight)
      from (t, d, e) =
          let numbers = sym (ap (λ (r : Reading). r.walk) e) in
          let w = sym (ap (λ (r : Reading). r.weight) e) in
          (ap (λ (r : Reading). r.slots) e, runs.1 (t, d, numbers, w))
