-- How many ranks are looked for at most.
use Prim.Native.Nat.{ℕ, ◌-◌, ◌*◌}
use Rattle.chart_table.specs.declared.Cell.{Cell}

-- over a span, and over its parts
abbrev pub most : Cell → ℕ
most c = 2 * (c.to - c.from) - 1

abbrev pub most_of_parts : Cell → ℕ
most_of_parts c = 2 * (c.to - c.from) - 2
