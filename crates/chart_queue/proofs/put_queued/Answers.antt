-- The price and the back pointer are the digits of the key.
use lib.Arith.{digits_div, digits_mod}
use Rattle.chart_keys.specs.Keys.{key_unit}
use Rattle.chart_queue.specs.Queue.{put_queued}
use borrow.Author.Rules.{rules}
use Rattle.chart_queue.proofs.put_queued.Goals as goal

pub returns : goal.returns
unfolding put_queued
returns c =
    rw (
      digits_div c.args.key.price {m = key_unit} {r = c.args.key.back} (search rules),
      digits_mod c.args.key.price {m = key_unit} {r = c.args.key.back} (search rules),
      c.put_beside.ensures,
      c.keep_initial.ensures,
      c.tag_of-tag.ensures.0,
    )
