-- What is left to put back, put back, is all of it put back.
use mathlib.Core.Path.{◌≡◌, refl, ◌∙◌}
use mathlib.Core.List.{List}
use Prim.Native.Nat.{ℕ, zero, suc, ◌-◌, ◌<◌}
use native.Mathlib.Omega.{arith}
use Rattle.chart_journal.specs.Journal.{restore_entry, restore_all}
use Rattle.chart_journal.proofs.put_back.Goals as goal

restore_less : (k : List ℕ) (n : ℕ) (t : List ℕ) → 0 < n → restore_all k (n - 1) (restore_entry k (n - 1) t) ≡ restore_all k n t
unfolding restore_all
restore_less k zero t h = absurd (omega arith)
restore_less k (suc n) t h = let e : suc n - 1 ≡ n = omega arith in rw e refl

none_left : (k : List ℕ) (n : ℕ) (t : List ℕ) → n ≡ 0 → t ≡ restore_all k n t
unfolding restore_all
none_left k n t e = rw e refl

pub loop-x-preserved : goal.loop-x-preserved
loop-x-preserved c = rw c.restore_entry.ensures (restore_less _ _ _ c.loop-x-test.true ∙ c.loop-x.invariant)

pub returns : goal.returns
returns c = none_left _ _ _ (omega (arith, c.loop-x-test.false)) ∙ c.loop-x.invariant ∙ rw c.number_at-x.ensures.0
