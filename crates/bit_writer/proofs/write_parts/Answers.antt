-- After each turn the bits put are the upper ones of the value, and each part is put within one byte.
use mathlib.Core.Path.{refl}
use native.Mathlib.Omega.{arith}
use Rattle.bits.specs.Put.{put}
use Rattle.bits.proofs.Put.{put_more, put_all}
use Rattle.bit_writer.proofs.write_parts.Goals as goal

pub loop-done-init : goal.loop-done-init
unfolding put
loop-done-init c = (omega arith, refl, refl)

pub loop-done-preserved : goal.loop-done-preserved
loop-done-preserved c =
    let l = c.loop-done in
    let a = c.args in (
      omega arith,
      omega arith,
      put_more a.out.now a.at a.width a.value l.done c.min-part.result (omega arith) l.invariant.2 c.write_part.ensures,
    )

pub returns : goal.returns
returns c =
    let a = c.args in put_all a.out.now a.at a.width a.value c.loop-done.done (omega arith) c.loop-done.invariant.2
