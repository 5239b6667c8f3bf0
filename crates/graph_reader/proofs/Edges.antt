-- An edge is its two places, then a word and its cost as a candidate has them. Assumes nothing.
use mathlib.Core.Path.{◌≡◌, refl}
use Prim.Native.Nat.{ℕ, ◌+◌, ◌≤◌}
use native.Mathlib.Omega.{arith}
use Rattle.packing.specs.Meaning as M
use Rattle.packing.specs.Meaning.{candidate, edge, word}
use Rattle.packing.specs.Parse.{Parse, parsed, failed, ◌⟫◌}
use Rattle.packing.specs.Source.{Source, field_at}
use Rattle.packing.specs.Utterance.{cost}
use Rattle.packing.specs.declared.Word.{Word}
use Rattle.packing.proofs.Bounds.{field_at_range, field_at_next}
use Rattle.packing.proofs.Taken.{Taken, all, more}
use Rattle.packing.proofs.Widths.{byte_width}
use Rattle.slots_reader.specs.Placed.{candidate_from}
use Rattle.packing.specs.Graph.{start_place, end_place, edge_word, edge_from, edge_entries}
use Rattle.packing.proofs.Graph.{edge_out}

module _ (src : Source) (W P : ℕ) where
  -- behind its places it is a candidate
  abbrev by_candidate : ℕ → ℕ → M.Candidate → ℕ → Parse M.Edge
  by_candidate i k (candidate w c) at = parsed (edge i k w c) at

  pub as_candidate : (at i a k b : ℕ) → parsed i a ≡ field_at src at start_place → parsed k b ≡ field_at src a (end_place P i)
      → edge_from src W P at ≡ (candidate_from src W 0 b ⟫ by_candidate i k)
  unfolding edge_from candidate_from
  as_candidate at i a k b e f = rw (← e, ← f) (first (field_at src b (edge_word W)))
    where
      second : (w : ℕ) (x : Parse ℕ) → (x ⟫ λ c at. parsed (edge i k (word w) c) at) ≡ ((x ⟫ λ c at. parsed (candidate (word w) c) at) ⟫ by_candidate i k)
      second w (parsed c at) = refl
      second w (failed m) = refl

      first : (x : Parse ℕ) → (x ⟫ λ w at. field_at src at cost ⟫ λ c at. parsed (edge i k (word w) c) at)
          ≡ ((x ⟫ λ w at. field_at src at cost ⟫ λ c at. parsed (candidate (word w) c) at) ⟫ by_candidate i k)
      first (parsed w at) = second w (field_at src at cost)
      first (failed m) = refl

  -- an edge that was read: its numbers have room in a key, and it takes at most 34 bits
  module _ (few : W ≤ 200) (small : P ≤ 25) where
    near : {at i k c next : ℕ} {x : Word} → Taken src at (edge_entries W P (edge i k x c)) next
        → (i ≤ 31) × (k ≤ 31) × (x.0 ≤ 255) × (next ≤ at + 34)
    near {at} {i} (more {mid = a} p (more {mid = b} q (more {mid = d} r (more s all)))) =
        omega (
          arith,
          field_at_range start_place src at p,
          field_at_next start_place src at 5 (omega arith) (omega arith) p,
          field_at_range (end_place P i) src a q,
          field_at_next (end_place P i) src a 5 (omega arith) (omega arith) q,
          field_at_range (edge_word W) src b r,
          field_at_next (edge_word W) src b 8 (byte_width W (omega arith)) (omega arith) r,
          field_at_next cost src d 16 (omega arith) (omega arith) s,
        )

    pub edge_near : (at : ℕ) {i k c next : ℕ} {x : Word} → edge_from src W P at ≡ parsed (edge i k x c) next
        → (i ≤ 31) × (k ≤ 31) × (x.0 ≤ 255) × (next ≤ at + 34)
    edge_near at e = near (edge_out src W P at e)
