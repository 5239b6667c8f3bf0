-- Every refusal of a graph block is a number of its row: 11 to 14, 16, 51 and 52; and of a block of either kind 15 too. Up to its
-- weight, a reading block of a graph is refused with 31 to 33.
-- Assumes nothing.
use mathlib.Core.List.{List, []}
use mathlib.Core.Logic.{inl, inr, ⊎_elim}
use Prim.Native.Nat.{ℕ, ◌*◌}
use native.Mathlib.Omega.{arith}
use lib.Dec.{ltb, eqb}
use lib.ListN.{length}
use Rattle.bits.specs.Bits.{field}
use Rattle.packing.specs.Parse.{Verdict}
use Rattle.packing.specs.Source.{Source, bytes}
use Rattle.packing.specs.Graph.{edge_from, edges_alike, graph_from, graph_block}
use Rattle.packing.specs.Heard.{heard_block}
use Rattle.packing.specs.GraphReading.{graph_reading_bits, graph_head_from}
use Rattle.packing.specs.Rows.{GraphBlockRow, HeardBlockRow, ReadingFieldsRow}
use Rattle.packing.proofs.Refusals.{
  Stops,
  going,
  Refuses,
  granted,
  denied,
  told,
  bind,
  test,
  unlike_row,
  finish_row,
  field_at_row,
  ranged,
  as_wide,
  then_row,
  choose_row,
  utterance_block_row,
}

module _ (W : ℕ) (s : List ℕ) where
  abbrev src : Source
  src = bytes 11 s

  missing : GraphBlockRow 11
  missing = inl (inl (omega arith, omega arith))

  edge_row : (P at : ℕ) → Stops GraphBlockRow (edge_from src W P at)
  unfolding edge_from
  edge_row P at =
      bind (field_at_row src at missing (as_wide (omega arith))) (λ i at.
      bind (field_at_row src at missing (ranged (inr (omega arith, omega arith)))) (λ k at.
      bind (field_at_row src at missing (told (λ v h. (λ a. inl (inl (omega arith, omega arith)), λ b. absurd (omega arith))))) (λ w at.
      bind (field_at_row src at missing (as_wide (omega arith))) (λ c at. going))))

  pub graph_block_row : Refuses GraphBlockRow (graph_block W s)
  unfolding graph_block graph_from
  graph_block_row =
      let count : GraphBlockRow 13 = inl (inl (omega arith, omega arith)) in
      let repeat : GraphBlockRow 52 = inr (omega arith, omega arith) in
      finish_row _ 16 (inl (inr (omega arith, omega arith)))
      (bind (field_at_row src 0 missing (ranged (inl (inl (omega arith, omega arith))))) (λ kind at.
      bind (field_at_row src at missing (ranged count)) (λ P at. bind (field_at_row src at missing (ranged count)) (λ n at.
      bind (unlike_row edges_alike (edge_row P) repeat n at []) (λ es at. going)))))

  pub heard_block_row : Refuses HeardBlockRow (heard_block W s)
  unfolding heard_block
  heard_block_row =
      choose_row (eqb (field s 0 4) 5)
      (then_row (wider (λ n. ⊎_elim (⊎_elim (λ r. inl (omega (arith, r), omega (arith, r))) (λ r. inl (omega (arith, r), omega (arith, r)))) inr)
      graph_block_row)
      (λ g e. granted))
      (then_row (wider (λ n. inl) (utterance_block_row W s)) (λ u e. granted))
    where
      wider : {P Q : ℕ → Type 0} → ((n : ℕ) → P n → Q n) → {A : Type 0} {v : Verdict A} → Refuses P v → Refuses Q v
      wider f granted = granted
      wider f (denied {n} r) = denied (f n r)

pub graph_head_row : (most R : ℕ) (s : List ℕ) → Stops ReadingFieldsRow (graph_head_from most R s)
unfolding graph_head_from
graph_head_row most R s =
    let src : Source = bytes 31 s in
    let end : ReadingFieldsRow 31 = (omega arith, omega arith) in
    bind (field_at_row src 0 end (ranged (omega arith, omega arith))) (λ kind at.
    bind (field_at_row src at end (ranged (omega arith, omega arith))) (λ n at.
    test (ltb (8 * length s) (graph_reading_bits n R)) 31 (λ e. end)
    (bind (field_at_row src at end (as_wide (omega arith))) (λ w at. going))))
