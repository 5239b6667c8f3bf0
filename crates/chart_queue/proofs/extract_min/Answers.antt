-- By whether the queue has a key and whether that is less, as in the definition.
use borrow.Author.Tests.{lt-ltb, le-ltb}
use Rattle.chart_queue.specs.Queue.{extract_min}
use borrow.Author.Rules.{rules}
use Rattle.chart_queue.proofs.extract_min.Goals as goal
use Rattle.chart_queue.proofs.extract_min.Goals.{else-m-gt0-via-then-m-gt0+else-before, else-m-gt0-via-else-m-gt0}

pub push-requires : goal.push-requires
push-requires c = search (rules, c.requires, c.queue_length-m.ensures)

pub returns-then-before : goal.returns-then-before
unfolding extract_min
returns-then-before c = record {
  t_after = simp (
    ← c.queue_length-m.ensures.0,
    ← c.least_place-y.ensures.0,
    ← c.queued_key-key.ensures,
    lt-ltb _ _ c.if-m-gt0.true,
    ← c.before-then-m-gt0.ensures,
    c.if-before.true,
  ) (rw (c.push.ensures, c.replace.ensures, c.put_key.ensures));
  kept_after = simp (← c.queue_length-m.ensures.0, ← c.least_place-y.ensures.0) c.keep_written.ensures;
}

pub returns : goal.returns
unfolding extract_min
returns c = record {
  t_after = rw (c.push-2.ensures, c.put_key-2.ensures) (simp (
    ← c.queue_length-m.ensures.0,
    ← c.least_place-y.ensures.0,
    ← c.queued_key-key.ensures,
  ) (elim c.else-m-gt0.branch [
    | else-m-gt0-via-then-m-gt0+else-before w ↦ simp (lt-ltb _ _ w.if-m-gt0.true, ← w.before-then-m-gt0.ensures, w.if-before.false)
    | else-m-gt0-via-else-m-gt0 w ↦ simp (le-ltb _ _ w.if-m-gt0.false)
  ]));
  kept_after = simp (← c.queue_length-m.ensures.0, ← c.least_place-y.ensures.0) c.keep_written.ensures;
}
