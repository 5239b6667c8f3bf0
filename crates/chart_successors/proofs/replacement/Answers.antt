-- What follows one has a split, so the other that follows the same one can be looked for.
use mathlib.Core.Path.{sym, ◌∙◌}
use borrow.Author.Rules.{rules}
use Rattle.chart_successors.proofs.Initial.{inner_split}
use Rattle.chart_successors.proofs.replacement.Goals as goal

pub sibling-requires : goal.sibling-requires
sibling-requires c = search (rules, c.requires, inner_split c.args.last.back (sym c.is_initial.ensures ∙ c.if-is_initial.false))
