-- Where the entries of the last split stand in the table, so do those of the others.
use borrow.Author.Rules.{rules}
use Rattle.chart_seeds.proofs.split_seeds.Goals as goal

pub cell_number-requires : goal.cell_number-requires
cell_number-requires c = rw c.left_part.ensures (search rules)

pub cell_number-requires-then-c : goal.cell_number-requires-then-c
cell_number-requires-then-c c = rw c.right_part.ensures (search rules)

pub split_seeds_within-requires : goal.split_seeds_within-requires
split_seeds_within-requires c = record {
  in_table = (c.requires.0, c.is_small.ensures c.if-is_small.true, c.divides.ensures c.if-divides.true);
  to_in_bounds = (
    rw (← c.left_part.ensures, ← c.cell_number.ensures.0, ← c.entry_of-left.ensures.0) (search rules),
    rw (← c.right_part.ensures, ← c.cell_number-then-c.ensures.0, ← c.entry_of-right.ensures.0) (search rules),
  );
}
