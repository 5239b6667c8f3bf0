-- Whole graph blocks, and blocks of either kind: the first four bits say which.
-- Assumes nothing.
use mathlib.Core.Path.{◌≡◌, refl, sym, ◌∙◌}
use mathlib.Core.Bool.{true}
use mathlib.Core.List.{List, [], ◌∷◌}
use Prim.Native.Nat.{ℕ, ◌+◌, ◌*◌, ◌≤◌, ◌<◌}
use native.Mathlib.Omega.{arith}
use native.Mathlib.Decide.{ℕ_discrete, dec_lt}
use borrow.Author.Tests.{eq-eqb, ne_eqb, lt-ltb, le-ltb, le-leb}
use lib.Dec.{ltb}
use lib.ListN.{length}
use Rattle.bits.specs.Bits.{pick, num, ended, field}
use Rattle.bits.proofs.Fields.{block_ended}
use Rattle.packing.specs.Meaning.{Utterance, Graph, Heard, slots, graph}
use Rattle.packing.specs.Parse.{Parse, parsed, failed, accepted, refused, ◌⟫◌, finish}
use Rattle.packing.specs.Source.{bytes, in_range, field_at, Entry, entry, flds}
use Rattle.packing.specs.Grammar.{block_kind}
use Rattle.packing.specs.Utterance.{utterance_from, utterance_block, block_of_utterance}
use Rattle.packing.specs.Graph.{graph_from, graph_block, graph_entries, block_of_graph}
use Rattle.packing.specs.Heard.{as_graph, as_slots, heard_block, block_of_heard}
use Rattle.packing.specs.Valid.{Bytes, ValidGraph, ValidHeard}
use Rattle.packing.proofs.Parse.{finish_out, accepted_is, granted}
use Rattle.packing.proofs.Taking.{field_at_bytes_out}
use Rattle.packing.proofs.Taken.{Taken, more, taken_fits}
use Rattle.packing.proofs.Whole.{taken_block, block_taken, after_kind, utterance_block_out, utterance_block_back}
use Rattle.packing.proofs.Graph.{graph_out, graph_back, graph_room}

-- the kind of an accepted block
accepted_kind : (kind : ℕ) (s : List ℕ) {A : Type 0} (k : ℕ → Parse A) {a : A}
    → finish (ended s) 16 (field_at (bytes 11 s) 0 (block_kind kind 12) ⟫ λ v at. k at) ≡ accepted a → field s 0 4 ≡ kind
accepted_kind kind s k e =
    let (next, p, end) = finish_out (ended s) 16 _ e in
    after_kind 11 kind 12 s k p λ at h q. (field_at_bytes_out 11 s 0 (block_kind kind 12) h).1

-- a block has a kind unless it is empty; a kind that is not asked for is refused with 12
kind_refused : (kind : ℕ) (s : List ℕ) → 1 ≤ length s → (field s 0 4 ≡ kind → ⊥) → field_at (bytes 11 s) 0 (block_kind kind 12) ≡ failed 12
unfolding field_at in_range
kind_refused kind s l n = rw (le-leb (0 + 4) (8 * length s) (omega arith)) (go (dec_lt kind (field s 0 4)))
  where
    v : ℕ
    v = field s 0 4

    go : Dec (kind < v) → pick (ltb kind v) (failed 12) (pick (ltb v kind) (failed 12) (parsed v 4)) ≡ failed 12
    go (yes h) = rw (lt-ltb kind v h)
    go (no h) = let g : v < kind = omega (arith, n) in rw (le-ltb kind v (omega arith), lt-ltb v kind g)

module _ (W : ℕ) where
  pub graph_block_out : (s : List ℕ) (g : Graph) → graph_block W s ≡ accepted g → ValidGraph W g × (Bytes s → s ≡ block_of_graph W g)
  unfolding graph_block block_of_graph
  graph_block_out s g e =
      let (next, p, end) = finish_out (ended s) 16 _ e in
      after_kind 11 5 12 s (graph_from (bytes 11 s) W) p λ at k q.
      let (t, u) = graph_out (bytes 11 s) W at q in
      ((taken_fits t, u), λ y. taken_block 11 s _ y (more k t) end)

  pub graph_block_back : (g : Graph) → 1 ≤ W → W ≤ 200 → ValidGraph W g → graph_block W (block_of_graph W g) ≡ accepted g
  unfolding graph_block block_of_graph
  graph_block_back g w l (f, u) =
      let es : List Entry = entry (block_kind 5 12) 5 ∷ graph_entries W g in
      go (block_taken 11 es ((omega arith, omega arith), f) (omega arith, graph_room W w l g f)) (block_ended (flds es))
    where
      go : {s : List ℕ} {next : ℕ} → Taken (bytes 11 s) 0 (entry (block_kind 5 12) 5 ∷ graph_entries W g) next → ended s next ≡ true → graph_block W s
          ≡ accepted g
      go {s} (more k t) e = rw (k, graph_back (bytes 11 s) W g (t, u), e)

  graph_kind : (s : List ℕ) {g : Graph} → graph_block W s ≡ accepted g → field s 0 4 ≡ 5
  unfolding graph_block
  graph_kind s e = accepted_kind 5 s (graph_from (bytes 11 s) W) e

  slots_kind : (s : List ℕ) {u : Utterance} → utterance_block W s ≡ accepted u → field s 0 4 ≡ 2
  unfolding utterance_block
  slots_kind s e = accepted_kind 2 s (utterance_from (bytes 11 s) W) e

  -- a block of either kind
  heard_graph : (s : List ℕ) → field s 0 4 ≡ 5 → heard_block W s ≡ as_graph W s
  unfolding heard_block
  heard_graph s k = rw (eq-eqb (field s 0 4) 5 k)

  heard_slots : (s : List ℕ) → (field s 0 4 ≡ 5 → ⊥) → heard_block W s ≡ as_slots W s
  unfolding heard_block
  heard_slots s k = rw (ne_eqb (field s 0 4) 5 k)

  pub heard_block_out : (s : List ℕ) (h : Heard) → heard_block W s ≡ accepted h → ValidHeard W h × (Bytes s → s ≡ block_of_heard W h)
  heard_block_out s h e = go (ℕ_discrete (field s 0 4) 5)
    where
      go : Dec (field s 0 4 ≡ 5) → ValidHeard W h × (Bytes s → s ≡ block_of_heard W h)
      go (yes k) = granted (graph_block W s) _ (sym (heard_graph s k) ∙ e) λ g p q. rw (← accepted_is q) (graph_block_out s g p)
      go (no k) = granted (utterance_block W s) _ (sym (heard_slots s k) ∙ e) λ u p q. rw (← accepted_is q) (utterance_block_out W s u p)

  pub heard_block_back : (h : Heard) → 1 ≤ W → W ≤ 200 → ValidHeard W h → heard_block W (block_of_heard W h) ≡ accepted h
  heard_block_back (slots u) w l v =
      let e = utterance_block_back W u w l v in
      let k : field (block_of_utterance W u) 0 4 ≡ 5 → ⊥ = λ z. omega (arith, slots_kind (block_of_utterance W u) e) in
      heard_slots (block_of_utterance W u) k ∙ rw e
  heard_block_back (graph g) w l v =
      let e = graph_block_back g w l v in
      heard_graph (block_of_graph W g) (graph_kind (block_of_graph W g) e) ∙ rw e

  -- where only slots are taken, another kind is refused; so is a kind other than 2 and 5 where both are taken, and an empty block
  pub slots_refuse : (s : List ℕ) → 1 ≤ length s → (field s 0 4 ≡ 2 → ⊥) → utterance_block W s ≡ refused 12
  unfolding utterance_block
  slots_refuse s l n = rw (kind_refused 2 s l n)

  pub heard_refuses : (s : List ℕ) → 1 ≤ length s → (field s 0 4 ≡ 2 → ⊥) → (field s 0 4 ≡ 5 → ⊥) → heard_block W s ≡ refused 12
  heard_refuses s l two five = heard_slots s five ∙ rw (slots_refuse s l two)

  pub no_block : heard_block W [] ≡ refused 11
  unfolding heard_block utterance_block field_at num
  no_block = refl
