-- What the exported function for words to listen to again answers and leaves behind is the verdict's; so the demands are met.
use mathlib.Core.Path.{◌≡◌, refl, ap, ◌∙◌}
use mathlib.Core.List.{List}
use lib.IntN.{ℤ}
use lib.ListN.{length}
use Prim.Native.Nat.{ℕ}
use Rattle.packing.specs.Parse.{Verdict}
use Rattle.cost_changes.specs.Margins.{MarginEntry}
use Rattle.cost_changes.specs.Listed.{margins_of}
use Rattle.chart.specs.WorkTable.{work_after}
use Rattle.word_margins.specs.Conditions.{asked_margins}
use Rattle.word_margins.specs.WordMargins.{margins, output_after}
use Rattle.word_margins.proofs.Refused.{margins_asked, margins_row}
use Rattle.word_margins.proofs.WaysOut.{margins_listed}
use Rattle.codes.specs.Code.{code_of}
use Rattle.spireyerba.specs.Demands as D
use Rattle.spireyerba.proofs.Demands.{asked_first}

module _ (grammar utterance work out : List ℕ) where
  abbrev due : Verdict (List MarginEntry)
  due = margins grammar utterance (length work) (length out)

  pub margins_told : {code : ℤ} {work' out' : List ℕ} → code ≡ code_of length due → work' ≡ work_after due work → out' ≡ output_after due out
      → D.WordMargins grammar utterance work out code work' out'
  margins_told ec ew eo = record {
    demand_1 = asked_first length (asked_margins grammar utterance (length work) (length out)) (λ b. margins_of b.0 b.1)
        (margins_asked grammar utterance (length work) (length out)) (margins_row grammar utterance (length work) (length out)) ec
        (λ b p q. (
          margins_of b.0 b.1,
          margins_listed grammar utterance work out (length work) (length out) p,
          refl,
          eo
              ∙ ap (λ (v : Verdict (List MarginEntry)). output_after v out) q,
          ew ∙ ap (λ (v : Verdict (List MarginEntry)). work_after v work) q,
        ))
        (λ n p. (ew ∙ ap (λ (v : Verdict (List MarginEntry)). work_after v work) p, eo ∙ ap (λ (v : Verdict (List MarginEntry)). output_after v out) p));
  }
