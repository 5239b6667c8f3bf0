-- `office_conversion::put_chain` meets its contract: the links that are left, stored, give the whole chain.
use mathlib.Core.Path.{refl, ◌∙◌}
use native.Mathlib.Omega.{arith}
use Rattle.office_conversion.proofs.Chains.{chain_start, chain_turn, chain_end}
use Rattle.office_conversion.proofs.put_chain.Goals as goal

pub loop-j-init : goal.loop-j-init
loop-j-init c = refl

pub wide-requires : goal.wide-requires
wide-requires c = tt

pub wide-requires-in-loop-j : goal.wide-requires-in-loop-j
wide-requires-in-loop-j c = tt

pub loop-j-preserved : goal.loop-j-preserved
loop-j-preserved c =
    let first = rw c.wide.ensures.0 at c.symbol_of-first.ensures in
    let rest = rw c.wide.ensures.0 at c.top_of-rest.ensures in
    let new = rw c.wide-in-loop-j.ensures.0 at c.put_rule.ensures in
    chain_turn c.args.sheet.now c.args.places.now c.args.base.symbols c.args.base.rules c.args.k
    c.args.p c.args.n c.loop-j.rules c.loop-j.j (omega arith) first rest new ∙ c.loop-j.invariant

pub returns : goal.returns
returns c =
    chain_end c.args.sheet.now c.args.places.now c.args.base.symbols c.args.base.rules c.args.k
    c.args.p c.args.n c.loop-j.rules c.loop-j.j (omega arith) (omega arith) ∙ c.loop-j.invariant
    ∙ chain_start c.args.sheet.now c.args.places.now c.args.base.symbols c.args.base.rules
    c.args.k c.args.p c.args.n c.args.rules.now
