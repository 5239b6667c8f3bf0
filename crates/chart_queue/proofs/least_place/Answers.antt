-- The loop is the iteration over the queue, with the least key so far beside its place.
use mathlib.Core.Path.{refl, sym, ◌∙◌}
use Rattle.packing.specs.Loop.{iter}
use Rattle.packing.proofs.Loop.{iter_more, iter_end}
use Rattle.chart_queue.proofs.Least.{place_less, place_stays, queued_is, dearer_stays}
use Rattle.chart_queue.specs.Queue.{least_place}
use borrow.Author.Rules.{rules}
use Rattle.chart_queue.proofs.least_place.Goals as goal
use Rattle.chart_queue.proofs.least_place.Goals.{then-n-best+then-before, then-n-best+else-before, else-n-best}

pub loop-y-init : goal.loop-y-init
unfolding iter
loop-y-init c = (search rules, search rules, refl, c.queued_key-best.ensures)

pub loop-y-preserved : goal.loop-y-preserved
loop-y-preserved c = (
  search rules,
  elim c.if-n-best.branch [
    | then-n-best+then-before w ↦ rw w.x-is (search rules)
    | then-n-best+else-before w ↦ rw w.x-is c.loop-y.invariant.1
    | else-n-best w ↦ rw w.x-is c.loop-y.invariant.1
  ],
  elim c.if-n-best.branch [
    | then-n-best+then-before w ↦ rw (w.x-is, iter_more, ← c.loop-y.invariant.2)
        (place_less _ _ _ _ _ _ _ (queued_is _ _ _ _ _ c.beside_at-n.ensures.0 w.key_of-key.ensures.0) c.loop-y.invariant.3
        (sym w.before-then-n-best.ensures ∙ w.if-before.true))
    | then-n-best+else-before w ↦ rw (w.x-is, iter_more, ← c.loop-y.invariant.2)
        (place_stays _ _ _ _ _ _ _ (queued_is _ _ _ _ _ c.beside_at-n.ensures.0 w.key_of-key.ensures.0) c.loop-y.invariant.3
        (sym w.before-then-n-best.ensures ∙ w.if-before.false))
    | else-n-best w ↦ rw (w.x-is, iter_more, ← c.loop-y.invariant.2)
        (dearer_stays _ _ _ _ _ _ c.loop-y.best (search rules) c.beside_at-n.ensures.0 c.loop-y.invariant.3 w.if-n-best.false)
  ],
  elim c.if-n-best.branch [
    | then-n-best+then-before w ↦ rw (w.x-is, w.best-is) (queued_is _ _ _ _ _ c.beside_at-n.ensures.0 w.key_of-key.ensures.0)
    | then-n-best+else-before w ↦ rw (w.x-is, w.best-is) c.loop-y.invariant.3
    | else-n-best w ↦ rw (w.x-is, w.best-is) c.loop-y.invariant.3
  ],
)

pub returns : goal.returns
unfolding least_place
returns c = (c.loop-y.invariant.2 ∙ iter_end _ _ _ _ c.loop-y.invariant.0 c.loop-y-test.false, c.loop-y.invariant.1)
