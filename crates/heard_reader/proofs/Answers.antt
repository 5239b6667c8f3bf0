-- What the reader of slots promises, from what the utterance's reader does. Assumes nothing.
use mathlib.Core.Path.{◌≡◌, ap, ◌∙◌}
use mathlib.Core.Bool.{false}
use mathlib.Core.List.{List}
use Prim.Native.Nat.{ℕ, ◌≤◌}
use native.Mathlib.Omega.{arith}
use lib.ListN.{length}
use Rattle.std.specs.Prelude.{Ok}
use Rattle.packing.specs.Meaning.{Utterance, edges}
use Rattle.packing.specs.Parse.{accepted, ◌then◌}
use Rattle.packing.specs.Utterance.{utterance_entries, utterance_block}
use Rattle.packing.specs.Heard.{as_slots}
use Rattle.packing.specs.Flat.{Begins, Overlaid, edge_numbers, SlotsIn, slot_numbers}
use Rattle.packing.specs.Valid.{ValidUtterance}
use Rattle.packing.proofs.Told.{accepted_told}
use Rattle.packing.proofs.Whole.{utterance_block_out}
use Rattle.packing.proofs.Flat.{overlaid_begins}
use Rattle.packing.proofs.Redrawn.{slots_edges}
use Rattle.utterance_edges.specs.Edges.{edges_in}
use Rattle.utterance_edges.proofs.Edges.{edges_in_lem}
use Rattle.utterance_reader.specs.Answer.{utterance_size}
use Rattle.utterance_reader.specs.declared.UtteranceSize.{UtteranceSize}
use Rattle.heard_reader.specs.Answer.{Promised}

-- of slots
slots_few : (W : ℕ) (u : Utterance) → ValidUtterance W u → (1 ≤ length u) × (length u ≤ 24) × (1 ≤ length (edges u)) × (length (edges u) ≤ 168)
unfolding utterance_entries
slots_few W u ((l, m), h) = let few = slots_edges W 0 u h in (l, m, omega arith, omega arith)

module _ (W : ℕ) (s array before after : List ℕ) (z : UtteranceSize) where
  pub slots_accepted : accepted z ≡ (utterance_block W s then λ u. accepted (utterance_size W u)) → SlotsIn W (utterance_block W s) array
      → {found : ℕ} → found ≡ length (edges_in array z.count) → Overlaid (edge_numbers (edges_in array z.count)) before after
      → Promised (as_slots W s) before after (Ok (record { graph = false; last = z.count; edges = found }))
  slots_accepted told h {found} f b =
      let (u, v, k) = accepted_told (utterance_block W s) (utterance_size W) told in
      go u v (ap (λ (y : UtteranceSize). y.count) k) (rw v at h)
    where
      go : (u : Utterance) → utterance_block W s ≡ accepted u → z.count ≡ length u → Begins (slot_numbers W u) array
          → Promised (as_slots W s) before after (Ok (record { graph = false; last = z.count; edges = found }))
      go u v k d =
          let valid = (utterance_block_out W s u v).0 in
          let same : edges_in array z.count ≡ edges u = rw k (edges_in_lem W u array valid d) in
          let n : found ≡ length (edges u) = f ∙ ap length same in
          let laid : Overlaid (edge_numbers (edges u)) before after = rw same at b in
          rw v (record {
            answer = rw (k, n);
            edges = overlaid_begins (edge_numbers (edges u)) before after laid;
            laid = laid;
            sized = rw (k, n) (slots_few W u valid);
          })
