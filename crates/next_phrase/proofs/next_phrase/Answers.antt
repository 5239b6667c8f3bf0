-- Each way out is one of the definition's conditions; what is left is the answer for an accepted grammar. Assumes nothing.
use mathlib.Core.Path.{ap}
use mathlib.Core.Logic.{⊎_elim}
use Prim.Native.Nat.{◌≤◌}
use native.Mathlib.Omega.{arith}
use lib.ListN.{length}
use Rattle.std.proofs.lemmas.Result.{err_from_is_err_and}
use Rattle.packing.specs.Parse.{accepted}
use Rattle.packing.specs.Grammar.{grammar_block}
use Rattle.packing.proofs.Whole.{grammar_block_out}
use Rattle.grammar_reader.proofs.BlockInversion.{accepted_told, refused_told}
use Rattle.specimen.proofs.Asked.{asked_block, asked_none, asked_many, asked_short, asked_well}
use Rattle.next_phrase.proofs.WaysOut.{next_refused, next_told}
use Rattle.next_phrase.proofs.next_phrase.Goals as goal

pub returns-in_err-sizes : goal.returns-in_err-sizes
returns-in_err-sizes c =
    let p = err_from_is_err_and c.from_residual.result c.from_residual.ensures.1 in
    rw (p.1, p.2) (next_refused _ _ _ _ (asked_block 6 _ _ _ (refused_told (grammar_block c.args.grammar.now) c.in_err-sizes.ensures.0)))

pub returns-then-wanted-lt1 : goal.returns-then-wanted-lt1
returns-then-wanted-lt1 c =
    let (g, e, z) = accepted_told (grammar_block c.args.grammar.now) c.in_ok-sizes.ensures.0 in
    let none = asked_none 6 _ _ _ e in
    let many = asked_many 6 _ _ _ e in
    next_refused _ _ _ _ (⊎_elim none (λ h. many h.0 h.1) c.then-wanted-lt1.either)

pub returns-then-out-n : goal.returns-then-out-n
returns-then-out-n c =
    let (g, e, z) = accepted_told (grammar_block c.args.grammar.now) c.in_ok-sizes.ensures.0 in
    next_refused _ _ _ _ (asked_short 6 _ _ _ e c.if-wanted-lt1.false c.if-wanted-gt-MAX_WANTED.false c.if-out-n.true)

pub returns : goal.returns
returns c =
    let some : 1 ≤ c.args.wanted = omega arith in
    let few : c.args.wanted ≤ 6 = omega arith in
    let room : c.args.wanted ≤ length c.args.out.now = omega arith in
    let (g, e, z) = accepted_told (grammar_block c.args.grammar.now) c.in_ok-sizes.ensures.0 in
    let told = c.answer.ensures g z (grammar_block_out _ g e).0 (rw e at c.in_ok-sizes.ensures.1) in
    rw (next_told _ _ _ _ (asked_well 6 _ _ _ e some few room)) (ap accepted told.0, told.1)
