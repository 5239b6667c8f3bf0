-- The array has room for one more.
use native.Mathlib.Omega.{arith}
use Rattle.chart_trace.proofs.RightParts.{length-backwards, pushed}
use Rattle.chart_trace.proofs.right_parts.Pending.push.Goals as goal

pub bounds-self-self : goal.bounds-self-self
bounds-self-self c = let h = length-backwards c.args.self.now.parts c.args.self.now.count in omega arith

pub invariant_of-self : goal.invariant_of-self
invariant_of-self c = let h = length-backwards c.args.self.now.parts c.args.self.now.count in record { few = omega arith }

pub returns : goal.returns
returns c = let h = length-backwards c.args.self.now.parts c.args.self.now.count in pushed _ _ _ (omega arith)
