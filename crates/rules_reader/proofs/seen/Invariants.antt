-- `rules_reader::seen` meets its contract: the flag says whether the key is among those passed. Assumes nothing.
use mathlib.Core.Path.{◌≡◌}
use lib.ListN.{take}
use Rattle.rules_reader.specs.Rules.{among}
use Rattle.rules_reader.proofs.seen.Given as goal

abbrev pub invariant-loop-k : goal.invariant-loop-k
invariant-loop-k l = l.found ≡ among l.key (take l.k-index l.keys)
