-- `slots_reader::read_candidates` meets its contract: the candidates read so far stand in the array, and what the
-- definition reads behind them is what it reads from the start. Assumes nothing.
use mathlib.Core.Path.{◌≡◌, refl, sym, ◌∙◌}
use mathlib.Core.List.{[], ◌∷◌, ◌++◌}
use Prim.Native.Nat.{◌-◌}
use native.Mathlib.Omega.{arith}
use lib.ListN.{length-append}
use Rattle.std.proofs.lemmas.Result.{err_from_is_err_and}
use Rattle.packing.specs.Read.{source_of}
use Rattle.packing.specs.Utterance.{candidates_entries}
use Rattle.packing.specs.Store.{store_all}
use Rattle.slots_reader.specs.Placed.{candidate_of}
use Rattle.slots_reader.proofs.Numbers.{length_numbers, candidate_stored}
use Rattle.slots_reader.proofs.Candidates.{candidate_near, candidates_stop, candidates_go_on, candidates_end}
use Rattle.slots_reader.proofs.read_candidates.Goals as goal

pub loop-i-init : goal.loop-i-init
unfolding store_all candidates_entries
loop-i-init c = let z : c.args.count - 0 ≡ c.args.count = omega arith in (omega arith, ([], refl, refl, rw z))

pub returns-in_err-c : goal.returns-in_err-c
returns-in_err-c c =
    let l = c.loop-i in
    let p = err_from_is_err_and c.from_residual.result c.from_residual.ensures.1 in
    rw (p.1, p.2)
    (sym l.invariant.1.3 ∙ candidates_stop (source_of c.args.src) _ _ l.i l.least l.at l.invariant.1.0 c.loop-i-test.true (sym c.in_err-c.ensures))

pub overflow_add-least : goal.overflow_add-least
overflow_add-least c =
    let a = c.args in
    let l = c.loop-i in
    omega (arith, candidate_near (source_of a.src) a.words (omega arith) l.least l.at (sym c.in_ok-c.ensures))

pub loop-i-preserved : goal.loop-i-preserved
loop-i-preserved c =
    let a = c.args in
    let l = c.loop-i in
    let x = c.in_ok-c in
    let cs = l.invariant.1.0 in (
      omega (arith, candidate_near (source_of a.src) a.words (omega arith) l.least l.at (sym x.ensures)),
      (
        cs ++ (candidate_of x.c ∷ []),
        simp length-append (omega arith),
        candidate_stored a.slots.now a.p.to a.words l.i x.c.word x.c.cost cs l.invariant.1.1 l.invariant.1.2 c.store_candidate.ensures,
        sym (candidates_go_on (source_of a.src) _ _ l.i l.least l.at cs c.loop-i-test.true (sym x.ensures)) ∙ l.invariant.1.3,
      ),
    )

pub returns : goal.returns
returns c =
    let l = c.loop-i in
    let a = c.args in
    let cs = l.invariant.1.0 in (
      cs,
      sym l.invariant.1.3 ∙ candidates_end (source_of a.src) a.words a.count l.i l.least l.at cs (omega arith),
      omega (arith, length_numbers a.words cs),
      l.invariant.1.2,
    )
