-- `slots_reader::read_slots` meets its contract: the slots read so far stand in the array, and what the definition
-- reads behind them is what it reads from the start. Assumes nothing.
use mathlib.Core.Path.{◌≡◌, refl, sym, ◌∙◌}
use mathlib.Core.List.{[], ◌∷◌, ◌++◌}
use Prim.Native.Nat.{◌-◌}
use native.Mathlib.Omega.{arith}
use lib.ListN.{length-append}
use Rattle.std.proofs.lemmas.Result.{err_from_is_err_and}
use Rattle.packing.specs.Read.{source_of}
use Rattle.packing.specs.Utterance.{slots_entries}
use Rattle.packing.specs.Store.{store_all}
use Rattle.slots_reader.proofs.Numbers.{length_numbers, slot_more, slot_stored}
use Rattle.slots_reader.proofs.Slots.{slots_stop, slots_go_on, slots_end, slot_near}
use Rattle.slots_reader.proofs.read_slots.Goals as goal

pub loop-init : goal.loop-init
unfolding store_all slots_entries
loop-init c = let z : c.args.count - 0 ≡ c.args.count = omega arith in
    (omega arith, omega arith, ([], refl, refl, refl, rw z))

pub returns-in_err-p : goal.returns-in_err-p
returns-in_err-p c =
    let l = c.loop in
    let p = err_from_is_err_and c.from_residual.result c.from_residual.ensures.1 in
    rw (p.1, p.2) (sym l.invariant.2.4 ∙ slots_stop (source_of c.args.src) _ _ l.counter l.p.at l.invariant.2.0 c.loop-test.true c.in_err-p.ensures)

pub loop-preserved : goal.loop-preserved
loop-preserved c =
    let l = c.loop in
    let a = c.args in
    let u = l.invariant.2.0 in
    let src = source_of a.src in
    let r = c.in_ok-p.ensures in
    let n = slot_near src a.words (omega arith) l.p.at r.1 in
    let m = length_numbers a.words r.0 in (
      omega arith,
      omega arith,
      (
        u ++ (r.0 ∷ []),
        simp length-append (omega arith),
        rw (slot_more a.words u r.0, length-append) (omega arith),
        slot_stored a.slots.now a.words u r.0 l.invariant.2.2 l.invariant.2.3 r.3,
        sym (slots_go_on src _ _ l.counter l.p.at u c.loop-test.true r.1) ∙ l.invariant.2.4,
      ),
    )

pub returns : goal.returns
returns c =
    let l = c.loop in
    let a = c.args in
    let u = l.invariant.2.0 in (
      u,
      sym l.invariant.2.4 ∙ slots_end (source_of a.src) a.words a.count l.counter l.p.at u (omega arith),
      l.invariant.2.2,
      l.invariant.2.3,
    )
