-- The answers of the services, as functions that can be run, as C numbers: 0 or more is the answer, less than 0 is minus the refusal's number. Nobody
-- need believe this page: the exported functions' contracts have the equations with what is computed beside the records of Demands, which say what it means.
use Rattle.std.specs.Prelude.{◌≡◌, List, ℕ, Float, ℤ, length}
use Rattle.packing.specs.Parse.{Verdict, accepted, refused}
use Rattle.derivation.specs.Derivation.{Tree}
use Rattle.chart.specs.WorkTable.{work_after}
use Rattle.cost_changes.specs.Ranges.{Answer}
use Rattle.cost_changes.specs.Margins.{MarginEntry}
use Rattle.codes.specs.Code.{code_of}
use Rattle.spireyerba.specs.Demands.{ranges_number, least_of, greatest_of}

-- the check: 0 for a reading that passes
abbrev pub check_code : Verdict Tree → ℤ
check_code v = code_of (λ t. 0) v

-- a chance is written where there is one
abbrev pub chance_after : Verdict Float → Float → Float
chance_after (accepted x) before = x
chance_after (refused n) before = before

-- costs known within ranges
abbrev pub ranges_code : Verdict Answer → ℤ
ranges_code v = code_of ranges_number v

abbrev pub least_after : Verdict Answer → ℕ → ℕ
least_after (accepted a) before = least_of a before
least_after (refused n) before = before

abbrev pub greatest_after : Verdict Answer → ℕ → ℕ
greatest_after (accepted a) before = greatest_of a before
greatest_after (refused n) before = before

-- What a call answers and leaves, of what is due: an equation for its code, which is the answer's size, and one for each slice that it was lent. The size
-- of a block, a sheet or a list is its length, that of a chance is 0.
pub record AnsweredAs {A B : Type 0} (size : A → ℕ) (after : Verdict A → B → B) (due : Verdict A) (lent : B) (code : ℤ) (left : B) : Type 0 where
  pub code_is : code ≡ code_of size due
  pub left_is : left ≡ after due lent

-- a list in the output, beside a work table
pub record ListedAs {A : Type 0} (after : Verdict (List A) → List ℕ → List ℕ) (due : Verdict (List A)) (work out : List ℕ) (code : ℤ) (work' out' : List ℕ)
    : Type 0 where
  pub code_is : code ≡ code_of length due
  pub work_is : work' ≡ work_after due work
  pub output_is : out' ≡ after due out

-- two weights, beside a work table
pub record RangedAs (due : Verdict Answer) (work : List ℕ) (least greatest : ℕ) (code : ℤ) (work' : List ℕ) (least' greatest' : ℕ) : Type 0 where
  pub code_is : code ≡ ranges_code due
  pub work_is : work' ≡ work_after due work
  pub least_is : least' ≡ least_after due least
  pub greatest_is : greatest' ≡ greatest_after due greatest
