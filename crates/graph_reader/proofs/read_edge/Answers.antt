-- `graph_reader::read_edge` meets its contract: each field is taken as the definition takes it. Assumes nothing.
use mathlib.Core.Path.{◌≡◌, sym}
use Prim.Native.Nat.{ℕ, ◌+◌, ◌≤◌}
use native.Mathlib.Omega.{arith}
use Rattle.std.proofs.lemmas.Result.{err_from_is_err_and}
use Rattle.packing.specs.Parse.{parsed}
use Rattle.packing.specs.Read.{source_of}
use Rattle.packing.specs.Source.{Source, field_at}
use Rattle.packing.specs.Graph.{start_place, end_place}
use Rattle.packing.proofs.Bounds.{field_at_range, field_at_next}
use Rattle.graph_reader.proofs.Edges.{as_candidate}
use Rattle.graph_reader.proofs.read_edge.Goals as goal

-- the start that was read, in its range
start_near : (src : Source) (at : ℕ) {i next : ℕ} → parsed i next ≡ field_at src at start_place → (i ≤ 31) × (next ≤ at + 5)
start_near src at e =
    omega (arith, field_at_range start_place src at (sym e), field_at_next start_place src at 5 (omega arith) (omega arith) (sym e))

pub end_field-requires : goal.end_field-requires
end_field-requires c = omega (arith, start_near (source_of c.args.src) c.args.at c.in-Ok.ensures)

pub field_at-read-requires-2 : goal.field_at-read-requires-2
field_at-read-requires-2 c = omega (arith, start_near (source_of c.args.src) c.args.at c.in-Ok.ensures)

pub read_candidate-requires : goal.read_candidate-requires
read_candidate-requires c =
    let src = source_of c.args.src in
    let f = end_place c.args.places c.in-Ok.from in
    let end = rw c.end_field.ensures.0 at c.in-Ok-read.ensures in
    omega (
      arith,
      start_near src c.args.at c.in-Ok.ensures,
      field_at_next f src c.in-Ok.next 5 (omega arith) (omega arith) (sym end),
    )

pub returns-in_err-c : goal.returns-in_err-c
returns-in_err-c c =
    let p = err_from_is_err_and c.from_residual.result c.from_residual.ensures.1 in
    let a = c.args in
    let end = rw c.end_field.ensures.0 at c.in-Ok-read.ensures in
    rw (p.1, p.2, as_candidate (source_of a.src) a.words a.places a.at _ _ _ _ c.in-Ok.ensures end, ← c.in_err-c.ensures)

pub returns : goal.returns
returns c =
    let a = c.args in
    let end = rw c.end_field.ensures.0 at c.in-Ok-read.ensures in
    rw (as_candidate (source_of a.src) a.words a.places a.at _ _ _ _ c.in-Ok.ensures end, ← c.in_ok-c.ensures)
