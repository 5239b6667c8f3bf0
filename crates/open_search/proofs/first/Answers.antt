-- The table's front is filled, and made zeros again unless a reading is handed out.
use mathlib.Core.Path.{◌≡◌, refl, sym}
use native.Mathlib.Omega.{arith}
use lib.ListN.{length, take, drop, replicate, length-append}
use lib.Seq.{length-take-le}
use Rattle.open_search.specs.Model.{first_table}
use Rattle.open_search.proofs.Searched.{reads, reads_not, stays, goes_back, table_first, zeros_again, front_size}
use borrow.Author.Rules.{rules}
use Rattle.open_search.proofs.first.Goals as goal

pub returns-else-ne : goal.returns-else-ne
returns-else-ne c =
    let a = c.args in
    let table = first_table a.rules.now a.edges.now a.plan a.work.now in
    let made = c.enumerate.ensures.t_after in
    let first = table_first a.rules.now a.edges.now a.plan a.work.now c.requires.2 c.requires.3 made in
    stays table a.rules.now a.edges.now a.plan 0 a.work.now a.out.now first c.settle-answer.ensures.0 c.settle-answer.ensures.1
    (reads _ _ _ c.ne.ensures c.if-ne.false refl refl refl)

pub returns-then-ne : goal.returns-then-ne
returns-then-ne c =
    let a = c.args in
    let table = first_table a.rules.now a.edges.now a.plan a.work.now in
    let made = c.enumerate.ensures.t_after in
    let first = table_first a.rules.now a.edges.now a.plan a.work.now c.requires.2 c.requires.3 made in
    goes_back table a.rules.now a.edges.now a.plan 0 a.work.now a.out.now first c.settle-answer.ensures.0
    c.settle-answer.ensures.1 (reads_not _ _ _ c.ne.ensures c.if-ne.true refl refl refl)
    (zeros_again a.rules.now a.edges.now a.plan a.work.now c.requires.2 c.requires.3 made c.enumerate.auto.t
    (c.fill.ensures.after (λ y e. e)) refl)
