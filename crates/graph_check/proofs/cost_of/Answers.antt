-- Each way out is the one that the tests on the number, the start, the word and the cost choose. Assumes nothing.
use mathlib.Core.Path.{sym, ◌∙◌}
use Prim.Native.Nat.{◌+◌, ◌*◌}
use borrow.Author.Tests.{eq-eqb, ne_eqb, lt-ltb, le-ltb}
use lib.ListN.{get_or}
use Rattle.graph_check.proofs.Edges.{edge_of, no_edge_of}
use Rattle.graph_check.proofs.cost_of.Goals as goal
use Rattle.graph_check.proofs.cost_of.Goals.{
  else-number_at-place-via-then-number_at-place+then-number_at-wide+else-cost-lt-UNHEARD,
  else-number_at-place-via-then-number_at-place+else-number_at-wide,
  else-number_at-place-via-else-number_at-place,
}

pub returns-then-count-edge : goal.returns-then-count-edge
returns-then-count-edge c =
    let a = c.args in
    (rw (no_edge_of a.edges.now 0 a.count a.edge c.if-count-edge.true), tt)

pub returns-then-cost-lt-UNHEARD : goal.returns-then-cost-lt-UNHEARD
returns-then-cost-lt-UNHEARD c =
    let a = c.args in
    let there = edge_of a.edges.now a.count a.edge c.if-count-edge.false in
    let starts = eq-eqb (get_or a.edges.now (4 * a.edge) 0) a.place (sym c.number_at.ensures.0 ∙ c.if-number_at-place.true) in
    let carries = eq-eqb (get_or a.edges.now (4 * a.edge + 2) 0) a.word.0
    (sym c.number_at-then-number_at-place.ensures.0 ∙ c.if-number_at-wide.true ∙ c.wide.ensures.0) in
    (rw (there, starts, carries, ← c.number_at-cost.ensures.0, lt-ltb _ _ c.if-cost-lt-UNHEARD.true), c.number_at-cost.ensures.1)

pub returns : goal.returns
returns c =
    let a = c.args in
    let there = edge_of a.edges.now a.count a.edge c.if-count-edge.false in
    elim c.else-number_at-place.branch [
      | else-number_at-place-via-then-number_at-place+then-number_at-wide+else-cost-lt-UNHEARD w ↦
          let starts = eq-eqb (get_or a.edges.now (4 * a.edge) 0) a.place (sym c.number_at.ensures.0 ∙ w.if-number_at-place.true) in
          let carries = eq-eqb (get_or a.edges.now (4 * a.edge + 2) 0) a.word.0
          (sym w.number_at-then-number_at-place.ensures.0 ∙ w.if-number_at-wide.true ∙ w.wide.ensures.0) in
          (rw (there, starts, carries, ← c.number_at-cost.ensures.0, le-ltb _ _ w.if-cost-lt-UNHEARD.false), tt)
      | else-number_at-place-via-then-number_at-place+else-number_at-wide w ↦
          let starts = eq-eqb (get_or a.edges.now (4 * a.edge) 0) a.place (sym c.number_at.ensures.0 ∙ w.if-number_at-place.true) in
          let other = ne_eqb (get_or a.edges.now (4 * a.edge + 2) 0) a.word.0
          (λ e. w.if-number_at-wide.false (w.number_at-then-number_at-place.ensures.0 ∙ e ∙ sym w.wide.ensures.0)) in
          (rw (there, starts, other), tt)
      | else-number_at-place-via-else-number_at-place w ↦
          let other = ne_eqb (get_or a.edges.now (4 * a.edge) 0) a.place (λ e. w.if-number_at-place.false (c.number_at.ensures.0 ∙ e)) in
          (rw (there, other), tt)
    ]
