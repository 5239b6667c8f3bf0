-- After i turns the rule numbers read stand in front, and what is left of the walk is read from the loop's place.
use mathlib.Core.Path.{◌≡◌, refl, sym, ◌∙◌}
use Prim.Native.Nat.{◌-◌, ◌*◌, ◌<◌, ◌≤◌}
use native.Mathlib.Omega.{arith}
use lib.ListN.{length, take}
use lib.Seq.{length-take-le}
use Rattle.std.proofs.lemmas.List.{take-append-le}
use Rattle.reading_reader.proofs.Reading.{read_behind, walk_end, walk_failed, walk_more}
use Rattle.reading_reader.proofs.read_reading.Goals as goal

pub returns-in_default-read-3 : goal.returns-in_default-read-3
returns-in_default-read-3 c =
    let a = c.args in
    let s = a.block.now in
    let l = c.loop-number in
    let long = length-take-le (2 * a.n - 1) a.walk.now (omega arith) in
    let more : l.number-index < 2 * a.n - 1 = omega arith in
    let gone : c.in_default-read-3.field-0 ≡ c.unwrap_err-in_default-read-3.result = cc in
    let f = walk_failed a.rules s (2 * a.n - 1) l.number-index l.at l.number-items more (rw gone at c.in_default-read-3.ensures.value) in
    let h = read_behind a.n a.rules s c.in-Ok.ensures.value c.in-Ok-read.ensures.value c.in-Ok-read-2.ensures.value
    (sym (rw long at l.invariant.1) ∙ f) in
    rw h (refl, tt, tt)

pub loop-number-preserved : goal.loop-number-preserved
loop-number-preserved c =
    let a = c.args in
    let l = c.loop-number in
    let long = length-take-le (2 * a.n - 1) a.walk.now (omega arith) in
    let more : l.number-index < 2 * a.n - 1 = omega arith in
    let next = c.in-Ok-read-3.ensures.next in (
      omega arith,
      rw long
          (walk_more a.rules a.block.now (2 * a.n - 1) l.number-index l.at l.number-items more (omega arith) c.in-Ok-read-3.ensures.value
          ∙ rw long at l.invariant.1),
    )

pub returns : goal.returns
returns c =
    let a = c.args in
    let s = a.block.now in
    let l = c.loop-number in
    let long = length-take-le (2 * a.n - 1) a.walk.now (omega arith) in
    let done : 2 * a.n - 1 ≤ l.number-index = omega arith in
    let f = walk_end a.rules s (2 * a.n - 1) l.number-index l.at l.number-items done in
    let h = read_behind a.n a.rules s c.in-Ok.ensures.value c.in-Ok-read.ensures.value c.in-Ok-read-2.ensures.value
    (sym (rw long at l.invariant.1) ∙ f) in
    let n = length-take-le l.number-index l.number-items (omega arith) in
    let short : l.number-index ≤ length l.number-items = omega arith in
    rw h (refl, rw (n, take-append-le) refl, omega arith)
