-- What the listing leaves in the output is shown row by row; at most eight readings are found.
use mathlib.Core.Path.{◌≡◌, refl}
use Rattle.std.specs.Prelude.{Err}
use Prim.Native.Nat.{◌≤◌}
use native.Mathlib.Omega.{arith}
use Rattle.listing.specs.Conditions.{library}
use Rattle.listing.proofs.Accepted.{found_few}
use Rattle.lines.proofs.RowsMeant.{asked_refused, accepts, room_for_lem, rows_told}
use borrow.Author.Rules.{rules}
use Rattle.lines.proofs.lines_within.Goals as goal

pub returns-in_err-m : goal.returns-in_err-m
returns-in_err-m c =
    let l = c.in_err-m.ensures in
    let gone : c.from_residual.result ≡ Err c.in_err-m.field-0.0 = search rules in
    rw gone (record { lists = l.lists; told = (asked_refused _ _ _ _ l.lists.answer, refl) })

pub write_rows-requires : goal.write_rows-requires
write_rows-requires c =
    let a = c.args in
    let l = c.in_ok-m.ensures in
    let shape = c.shape_of-s.ensures in
    let few = found_few library _ _ 8 _ _ l.lists.answer in
    let room = room_for_lem a.grammar.now a.heard.now c.shape_of-s.new.rules c.shape_of-s.new.marks c.shape_of-s.result shape a.work.now a.out.now
    _ l.lists.answer few in
    (shape.bounded, few, omega (arith, c.listing.auto, room), c.requires)

pub returns : goal.returns
returns c =
    let a = c.args in
    let l = c.in_ok-m.ensures in
    let shape = c.shape_of-s.ensures in
    record {
      lists = l.lists;
      told = (
        accepts a.grammar.now a.heard.now c.shape_of-s.new.rules c.shape_of-s.new.marks c.shape_of-s.result shape a.work.now a.out.now
            _ l.lists.answer,
        rows_told a.grammar.now a.heard.now c.shape_of-s.new.rules c.shape_of-s.new.marks c.shape_of-s.result shape a.work.now a.out.now
            _ l.lists.answer c.listing.new.work c.listing.new.out a.shown.now c.write_rows.new.shown l.demand3 c.write_rows.ensures,
      );
    }
