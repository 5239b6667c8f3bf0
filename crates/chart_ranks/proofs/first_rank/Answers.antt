-- What is found is stored and marked; where nothing is found, there is nothing to store.
use mathlib.Core.Path.{sym}
use Rattle.chart_entries.proofs.Keys.{put_none}
use Rattle.chart_masks.proofs.Covering.{covers_found}
use Rattle.chart_heads.proofs.Members.{ruled_marked}
use borrow.Author.Rules.{rules}
use Rattle.chart_ranks.proofs.first_rank.Goals as goal

pub returns-then-key-lt-PRICES-clause-covers : goal.returns-then-key-lt-PRICES-clause-covers
returns-then-key-lt-PRICES-clause-covers c =
    covers_found c.cell_number.result _ c.requires.0 c.requires.1 c.requires.2 c.cell_number.ensures.0 c.put_key.ensures c.mark.ensures

pub returns-then-key-lt-PRICES-clause-ruled : goal.returns-then-key-lt-PRICES-clause-ruled
returns-then-key-lt-PRICES-clause-ruled c = λ w. ruled_marked c.requires.0.sized.symbols c.requires.1 (search rules) (search rules) w c.mark.ensures

pub returns-else-key-lt-PRICES-clause-t_after : goal.returns-else-key-lt-PRICES-clause-t_after
returns-else-key-lt-PRICES-clause-t_after c =
    rw (← c.first_seeds-key.ensures) (sym (put_none _ _ _ _ c.first_seeds-key.result (search rules) c.if-key-lt-PRICES.false))
