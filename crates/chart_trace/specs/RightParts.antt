-- The right parts that are still to be traced, the next one first. Nobody need believe this page: no service's promise names it. Assumes
-- nothing.
use Rattle.std.specs.Prelude.{List, [], ◌∷◌, ℕ, zero, suc, get_or, Option, Some, None}
use Rattle.packing.specs.Meaning.{symbol_of}
use Rattle.packing.specs.declared.Sym.{Sym}
use Rattle.chart_table.specs.declared.Part.{Part}
use Rattle.chart_table.specs.Table.{cell}
use Rattle.chart_trace.specs.declared.right_parts.RightPart.{RightPart}
use Rattle.chart_trace.specs.declared.right_parts.Pending.{Pending}

abbrev pub right_part_of : Sym → ℕ → ℕ → RightPart
right_part_of a k x = record { head = a; to = k; rank = x }

-- the first n of an array, the last of them first
unfoldable pub backwards : List RightPart → ℕ → List RightPart
backwards parts zero = []
backwards parts (suc n) = get_or parts n (right_part_of (symbol_of 0) 0 0) ∷ backwards parts n

abbrev pub pending : Pending → List RightPart
pending p = backwards p.parts p.count

-- a part that begins at a place
abbrev pub part_from : ℕ → RightPart → Part
part_from from p = record { cell = cell p.head from p.to; rank = p.rank }

-- the first of them, and the others
abbrev pub popped : ℕ → List RightPart → Option Part
popped from [] = None
popped from (p ∷ ps) = Some (part_from from p)

abbrev pub left_pending : List RightPart → List RightPart
left_pending [] = []
left_pending (p ∷ ps) = ps
