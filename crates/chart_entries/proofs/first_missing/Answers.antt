-- What is missing from the rank looked at on is what is missing from the first on.
use mathlib.Core.Path.{◌≡◌, sym, ◌∙◌}
use Prim.Native.Nat.{◌-◌}
use native.Mathlib.Omega.{arith}
use Rattle.chart_table.specs.Table.{first_missing}
use Rattle.chart_entries.proofs.Missing.{missing_end, missing_here, missing_behind}
use Rattle.chart_entries.proofs.first_missing.Goals as goal

pub loop-x-init : goal.loop-x-init
unfolding first_missing
loop-x-init c = let all : c.args.d.ranks - 0 ≡ c.args.d.ranks = omega arith in (omega arith, rw all)

pub returns-then-price_at-eq0 : goal.returns-then-price_at-eq0
returns-then-price_at-eq0 c =
    let a = c.args in (
      sym (c.loop-x.invariant.1 ∙ missing_here a.t.now a.d a.number a.d.ranks c.loop-x.x c.loop-x-test.true
          (rw (← c.price_at.ensures.0) c.if-price_at-eq0.true)),
      omega arith,
    )

pub loop-x-preserved : goal.loop-x-preserved
loop-x-preserved c =
    let a = c.args in (
      omega arith,
      c.loop-x.invariant.1 ∙ missing_behind a.t.now a.d a.number a.d.ranks c.loop-x.x c.loop-x-test.true
          (rw (← c.price_at.ensures.0) c.if-price_at-eq0.false),
    )

pub returns : goal.returns
returns c =
    let a = c.args in (
      sym (c.loop-x.invariant.1 ∙ missing_end a.t.now a.d a.number a.d.ranks
          c.loop-x.x c.loop-x.invariant.0 c.loop-x-test.false),
      omega arith,
    )
