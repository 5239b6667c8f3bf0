-- The weight is read from the table that the pass leaves.
use mathlib.Core.Path.{ap, ◌∙◌}
use mathlib.Core.List.{List}
use Prim.Native.Nat.{ℕ}
use borrow.Author.Rules.{rules}
use Rattle.chart.specs.Chart.{root_weight}
use Rattle.cost_ranges.proofs.first_weight.Goals as goal

pub enumerate-requires : goal.enumerate-requires
enumerate-requires c = let p = c.requires in (p.sized, p.some_place, p.rules, p.edges)

pub root_weight-requires : goal.root_weight-requires
root_weight-requires c = let p = c.requires in (p.sized, p.some_place, p.some_rank)

pub returns : goal.returns
returns c =
    let table = c.enumerate.ensures.t_after in
    record { work_after = table; value = c.root_weight.ensures ∙ ap (λ (t : List ℕ). root_weight t c.args.pass.table 0) table }
