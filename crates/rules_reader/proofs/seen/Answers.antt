-- `rules_reader::seen` meets its contract: the flag says whether the key is among those passed. Assumes nothing.
use mathlib.Core.Path.{refl}
use native.Mathlib.Omega.{arith}
use Rattle.packing.specs.Alike.{any_like}
use Rattle.rules_reader.proofs.Keys.{among_more}
use Rattle.rules_reader.proofs.seen.Goals as goal

pub loop-k-init : goal.loop-k-init
unfolding any_like
loop-k-init c = refl

pub loop-k-preserved : goal.loop-k-preserved
loop-k-preserved c = among_more c.args.key c.args.keys.now c.loop-k.k-index (omega arith) c.loop-k.invariant
