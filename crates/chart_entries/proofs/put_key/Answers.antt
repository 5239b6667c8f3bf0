-- The price decides whether it is one.
use mathlib.Core.Path.{sym}
use Rattle.chart_entries.proofs.Keys.{put_some, put_none}
use borrow.Author.Rules.{rules}
use Rattle.chart_entries.proofs.put_key.Goals as goal

pub returns-then-key-lt-PRICES : goal.returns-then-key-lt-PRICES
returns-then-key-lt-PRICES c =
    rw (c.put_last_rank.ensures, c.put_found.ensures)
    (sym (put_some _ _ _ _ c.args.key (search rules) c.if-key-lt-PRICES.true))

pub returns-else-key-lt-PRICES : goal.returns-else-key-lt-PRICES
returns-else-key-lt-PRICES c = sym (put_none _ _ _ _ c.args.key (search rules) c.if-key-lt-PRICES.false)
