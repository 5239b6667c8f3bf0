-- It is the fourth number of an entry.
use mathlib.Core.Path.{sym, ◌∙◌}
use Rattle.outside_entries.proofs.Views.{fourth_read}
use Rattle.outside_entries.proofs.outside_at.Goals as goal

pub returns : goal.returns
returns c = (c.number_at.ensures.0 ∙ sym (fourth_read c.args.t.now c.args.number), c.number_at.ensures.1)
