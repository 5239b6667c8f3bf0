-- Each call's promise is a part of the model.
use mathlib.Core.Path.{sym, ap, ◌∙◌}
use Prim.Native.Nat.{ℕ}
use lib.ListN.{length, replicate}
use Rattle.word_margins.proofs.Steps.{pass_none, pass_some}
use borrow.Author.Rules.{rules}
use Rattle.word_margins.proofs.pass_margins.Goals as goal

pub enumerate-found-requires : goal.enumerate-found-requires
enumerate-found-requires c =
    (c.requires.0.sized, c.requires.0.some_place, c.requires.0.rules, c.requires.0.edges)

pub returns-then-found-eq0 : goal.returns-then-found-eq0
returns-then-found-eq0 c =
    let told = pass_none c.args.rules.now c.args.edges.now c.args.pass c.args.out.now
    (length c.args.work.now) c.enumerate-found.ensures.t_after c.enumerate-found.ensures.value.0 c.if-found-eq0.true in
    record {
      value = told.0;
      work_after = (
        c.zero.ensures ∙ ap (λ (n : ℕ). replicate n 0) c.enumerate-found.auto.t,
        ap length (sym c.enumerate-found.ensures.t_after) ∙ c.enumerate-found.auto.t,
      );
      out_after = told.1;
    }

pub root_weight-first-requires : goal.root_weight-first-requires
root_weight-first-requires c =
    (c.requires.0.sized, c.requires.0.some_place, c.requires.0.some_rank)

pub use_first-requires : goal.use_first-requires
use_first-requires c =
    (c.requires.0.sized, c.requires.0.some_place, c.requires.1)

pub fill-requires : goal.fill-requires
fill-requires c =
    c.requires.0

pub put_entries-m-requires : goal.put_entries-m-requires
put_entries-m-requires c =
    (c.requires.0, c.requires.2)

pub returns : goal.returns
returns c =
    let told = pass_some c.args.rules.now c.args.edges.now c.args.pass c.args.out.now
    (length c.args.work.now) c.enumerate-found.ensures.t_after c.enumerate-found.ensures.value.0 c.if-found-eq0.false
    c.root_weight-first.ensures c.use_first.ensures c.fill.ensures.0 c.put_entries-m.ensures.value
    c.put_entries-m.ensures.out_after in
    record {
      value = told.0;
      work_after = (
        c.zero-2.ensures ∙ ap (λ (n : ℕ). replicate n 0) (c.fill.auto.t ∙ c.enumerate-found.auto.t),
        ap length (sym c.enumerate-found.ensures.t_after) ∙ c.enumerate-found.auto.t,
      );
      out_after = told.1;
    }
