-- `office_conversion::put_chain` meets its contract: the links that are left, stored, give the whole chain.
use mathlib.Core.Path.{◌≡◌}
use Rattle.office_conversion.proofs.Chains.{Left}
use Rattle.office_conversion.proofs.put_chain.Given as goal

abbrev pub invariant-loop-j : goal.invariant-loop-j
invariant-loop-j l =
    Left l.sheet l.places l.base.symbols l.base.rules l.k l.p l.n l.rules l.j
    ≡ Left l.sheet l.places l.base.symbols l.base.rules l.k l.p l.n l.initial.rules 0
