-- What the exported function for costs known within ranges answers and writes is the verdict's, case by case; so the demands are met.
use mathlib.Core.Path.{◌≡◌, refl, sym, subst, ap, ◌∙◌}
use mathlib.Core.List.{List}
use Prim.Native.Nat.{ℕ, ◌<◌}
use native.Mathlib.Omega.{arith}
use lib.IntN.{ℤ, pos, neg_ℤ}
use lib.ListN.{length}
use mir.Syntax.{w32}
use mir.Val.{to_z, of_z}
use Rattle.packing.specs.Parse.{Verdict, accepted, refused}
use Rattle.packing.proofs.Refusals.{Refuses, granted, denied, Low, wider, low_both}
use Rattle.cost_changes.specs.Ranges.{Answer, nothing, outweighed, stands}
use Rattle.cost_changes.specs.Passes.{answer}
use Rattle.cost_ranges.specs.Conditions.{asked_ranges}
use Rattle.chart.specs.WorkTable.{work_after}
use Rattle.cost_ranges.specs.CostRanges.{answered, ranges, ranged_of}
use Rattle.cost_ranges.specs.declared.Ranged.{Ranged}
use Rattle.cost_ranges.specs.declared.Ranged.TheVariants.{Nothing, Outweighed, Stands}
use Rattle.cost_ranges.proofs.Refused.{ranges_asked, ranges_row}
use Rattle.cost_ranges.proofs.WaysOut.{answers_asked}
use Rattle.codes.specs.Code.{code_of}
use Rattle.spireyerba.specs.Code.{ranges_code, least_after, greatest_after, RangedAs}
use Rattle.spireyerba.specs.Demands as D
use Rattle.spireyerba.specs.Demands.{ranges_number, least_of, greatest_of}
use Rattle.spireyerba.proofs.Codes.{Small, small_size, small_refusal, told_code, told_number}
use Rattle.spireyerba.proofs.Demands.{asked_first}

-- the number of an answer, and what is written
abbrev pub ranged_number : Ranged → ℕ
ranged_number Nothing = 0
ranged_number (Outweighed w) = 1
ranged_number (Stands w) = 2

abbrev pub least_by : Verdict Ranged → ℕ → ℕ
least_by (accepted Nothing) before = before
least_by (accepted (Outweighed w)) before = w.least
least_by (accepted (Stands w)) before = w.least
least_by (refused n) before = before

abbrev pub greatest_by : Verdict Ranged → ℕ → ℕ
greatest_by (accepted Nothing) before = before
greatest_by (accepted (Outweighed w)) before = w.greatest
greatest_by (accepted (Stands w)) before = w.greatest
greatest_by (refused n) before = before

-- of an answer over all choices, and of a verdict
answer_number : (a : Answer) → ranged_number (answered a) ≡ ranges_number a
answer_number nothing = refl
answer_number (outweighed l h) = refl
answer_number (stands l h) = refl

least_same : (v : Verdict Answer) (before : ℕ) → least_by (ranged_of v) before ≡ least_after v before
least_same (accepted nothing) before = refl
least_same (accepted (outweighed l h)) before = refl
least_same (accepted (stands l h)) before = refl
least_same (refused n) before = refl

greatest_same : (v : Verdict Answer) (before : ℕ) → greatest_by (ranged_of v) before ≡ greatest_after v before
greatest_same (accepted nothing) before = refl
greatest_same (accepted (outweighed l h)) before = refl
greatest_same (accepted (stands l h)) before = refl
greatest_same (refused n) before = refl

low_answer : (a : Answer) → ranges_number a < 2147483648
low_answer nothing = omega arith
low_answer (outweighed l h) = omega arith
low_answer (stands l h) = omega arith

module _ (grammar low high work : List ℕ) where
  abbrev due : Verdict Answer
  due = ranges grammar low high (length work)

  ranges_small : Small ranges_number due
  ranges_small =
      go (wider (low_both (low_both (λ n r. omega (arith, r)) (λ n r. omega (arith, r))) (low_both (λ n r. omega (arith, r)) (λ n r. omega (arith, r))))
      (ranges_row grammar low high (length work)))
    where
      go : {v : Verdict Answer} → Refuses Low v → Small ranges_number v
      go (granted {a}) = small_size {a = a} (low_answer a)
      go (denied {n} l) = small_refusal {n = n} (omega arith)

  module _ {w : Verdict Ranged} (e : w ≡ ranged_of due) where
    pub ranged_code : code_of ranged_number w ≡ ranges_code due
    ranged_code = told_code ranges_number answered ranged_number answer_number due e

    pub ranged_refusal : {z : ℤ} → z ≡ code_of ranged_number w → to_z w32 (of_z w32 z) ≡ ranges_code due
    ranged_refusal p = told_number ranges_number answered ranged_number answer_number due e ranges_small p

    module _ (least greatest : ℕ) where
      least_told : least_by w least ≡ least_after due least
      least_told = ap (λ (x : Verdict Ranged). least_by x least) e ∙ least_same due least

      greatest_told : greatest_by w greatest ≡ greatest_after due greatest
      greatest_told = ap (λ (x : Verdict Ranged). greatest_by x greatest) e ∙ greatest_same due greatest

      -- of every way out
      pub ranges_told : {code : ℤ} {work' : List ℕ} → code ≡ ranges_code due → work' ≡ work_after due work
          → RangedAs due work least greatest code work' (least_by w least) (greatest_by w greatest)
          × D.CostRanges grammar low high work least greatest code work' (least_by w least) (greatest_by w greatest)
      ranges_told ec ew =
          let l = least_told in
          let h = greatest_told in (
            record { code_is = ec; work_is = ew; least_is = l; greatest_is = h },
            record {
              demand_1 = asked_first ranges_number (asked_ranges grammar low high (length work)) (λ b. answer b.0 b.1 b.2)
                  (ranges_asked grammar low high (length work)) (ranges_row grammar low high (length work)) ec
                  (λ b p q. (
                    answer b.0 b.1 b.2,
                    answers_asked grammar low high work (length work) p,
                    refl,
                    l ∙ ap (λ (v : Verdict Answer). least_after v least) q,
                    h ∙ ap (λ (v : Verdict Answer). greatest_after v greatest) q,
                    ew ∙ ap (λ (v : Verdict Answer). work_after v work) q,
                  ))
                  (λ n p. (
                    ew ∙ ap (λ (v : Verdict Answer). work_after v work) p,
                    l ∙ ap (λ (v : Verdict Answer). least_after v least) p,
                    h ∙ ap (λ (v : Verdict Answer). greatest_after v greatest) p,
                  ));
            },
          )
