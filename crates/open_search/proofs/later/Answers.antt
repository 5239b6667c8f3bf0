-- The journal is empty before the step, so what the step wrote over can be put back.
use mathlib.Core.Path.{refl}
use Prim.Native.Nat.{◌-◌}
use native.Mathlib.Omega.{arith}
use Rattle.open_search.specs.Model.{next_table}
use Rattle.open_search.proofs.Searched.{reads, reads_not, stays, goes_back, table_next, put_back_lem}
use Rattle.open_search.proofs.later.Goals as goal

pub returns-else-ne : goal.returns-else-ne
returns-else-ne c =
    let a = c.args in
    let planned = c.requires.0 in
    let x = a.handed - 1 in
    let made = c.make_index.ensures in
    let next = table_next a.rules.now a.edges.now a.plan planned x a.work.now made c.next_of_root.ensures.t_after in
    stays (next_table a.rules.now a.edges.now a.plan x a.work.now) a.rules.now a.edges.now a.plan a.handed a.work.now
    a.out.now
    next c.settle-answer.ensures.0 c.settle-answer.ensures.1 (reads _ _ _ c.ne.ensures c.if-ne.false refl refl refl)

pub returns-then-ne : goal.returns-then-ne
returns-then-ne c =
    let a = c.args in
    let planned = c.requires.0 in
    let x = a.handed - 1 in
    let made = c.make_index.ensures in
    let next = table_next a.rules.now a.edges.now a.plan planned x a.work.now made c.next_of_root.ensures.t_after in
    goes_back (next_table a.rules.now a.edges.now a.plan x a.work.now) a.rules.now a.edges.now a.plan a.handed a.work.now
    a.out.now
    next c.settle-answer.ensures.0 c.settle-answer.ensures.1 (reads_not _ _ _ c.ne.ensures c.if-ne.true refl refl refl)
    (put_back_lem a.rules.now a.edges.now a.plan planned x a.work.now made c.next_of_root.ensures.t_after (omega arith)
    c.next_of_root.ensures.kept_after c.put_back.ensures)
