-- What the test of each edge says decides.
use borrow.Author.Rules.{rules}
use borrow.Author.Tests.{tests}
use Rattle.std.proofs.Common.{◌≡◌, true, false, refl}
use Rattle.std.proofs.lemmas.Iterator.{cases_from_all, YieldsList-from_range}
use native.Mathlib.Omega.{arith}
use Rattle.rising_costs.specs.Model.{edge_rises}
use Rattle.rising_costs.proofs.Rise.{rise_told}
use Rattle.rising_costs.proofs.edges_rise.Goals as goal

pub returns : goal.returns
returns c =
    let a = c.args in
    rise_told a.low.now a.high.now a.count (cases_from_all _ _ _ (λ e. edge_rises a.low.now a.high.now e ≡ true)
    (λ e. edge_rises a.low.now a.high.now e ≡ false) c.all.ensures.ran (YieldsList-from_range 0 a.count a.count refl (omega arith))
    (λ x q k. search (rules, tests)) (λ x q k. search (rules, tests)))
