-- What is left where a rank of the root was looked for: the new table, or the old one. Of a later call it is put back from the journal, of a first
-- call the front is made zeros again, which it was. Where none was looked for, the table is taken as it is.
use mathlib.Core.Path.{◌≡◌, refl, sym, ap, ◌∙◌}
use mathlib.Core.Bool.{Bool, true, false, not, false≢true}
use mathlib.Core.List.{List, ◌++◌}
use Prim.Native.Nat.{ℕ, ◌-◌, ◌*◌, ◌≤◌}
use native.Mathlib.Nat.{le_refl}
use native.Mathlib.Omega.{arith}
use lib.ListN.{length, take, drop, replicate, take-append-drop}
use lib.Seq.{length-take-le, take_at, drop_at}
use Rattle.std.specs.Prelude.{Result, Ok, Err}
use Rattle.std.specs.Result.{result_eq}
use Rattle.packing.specs.declared.refusal.Refusal.{Refusal}
use Rattle.open_answer.specs.declared.Answer as code
use Rattle.open_answer.specs.declared.Answer.TheVariants as V
use Rattle.bits.specs.Bits.{pick}
use Rattle.chart_classes.specs.Classes.{index_numbers}
use Rattle.chart_index.specs.Build.{make_index}
use Rattle.chart_journal.specs.Journal.{most_kept, kept_at, put_back}
use Rattle.chart_search.specs.Search.{next_of_root, keep_of_root}
use Rattle.chart.specs.Chart.{enumerate, root_found}
use Rattle.chart_theory.proofs.Plane.{single}
use Rattle.chart_steps.proofs.Undo.{search_undone}
use Rattle.open_answer.specs.Model.{Planned, told, is_reading, settled, output_by}
use Rattle.open_search.specs.Model.{zeros, first_table, next_table, Answered, Searched}
use Rattle.open_answer.specs.declared.Plan.{Plan}
use Rattle.open_answer.specs.Answer as A
use Rattle.open_search.proofs.Zeros.{zeros_are}

-- whether an answer of the code is a reading, as the test has it
module _ (E : code.Answer → code.Answer → Bool) (F : Refusal → Refusal → Bool) where
  is_told : (r : Result code.Answer Refusal) → E V.Reading V.Reading ≡ true → E V.NoMore V.Reading ≡ false → E V.Full V.Reading ≡ false
      → result_eq E F r (Ok V.Reading) ≡ is_reading (told r)
  is_told (Ok V.Reading) p q l = p
  is_told (Ok V.NoMore) p q l = q
  is_told (Ok V.Full) p q l = l
  is_told (Err e) p q l = refl

  pub reads : (r : Result code.Answer Refusal) {b : Bool} → b ≡ not (result_eq E F r (Ok V.Reading)) → b ≡ false
      → E V.Reading V.Reading ≡ true → E V.NoMore V.Reading ≡ false → E V.Full V.Reading ≡ false → is_reading (told r) ≡ true
  reads r e f p q l = go (is_reading (told r)) (sym f ∙ e ∙ ap not (is_told r p q l))
    where
      go : (x : Bool) → false ≡ not x → x ≡ true
      go true e = refl
      go false e = absurd (false≢true e)

  pub reads_not : (r : Result code.Answer Refusal) {b : Bool} → b ≡ not (result_eq E F r (Ok V.Reading)) → b ≡ true
      → E V.Reading V.Reading ≡ true → E V.NoMore V.Reading ≡ false → E V.Full V.Reading ≡ false → is_reading (told r) ≡ false
  reads_not r e f p q l = go (is_reading (told r)) (sym f ∙ e ∙ ap not (is_told r p q l))
    where
      go : (x : Bool) → true ≡ not x → x ≡ false
      go true e = absurd (false≢true (sym e))
      go false e = refl

-- the new table stays where a reading is handed out, and something else where not
module _ (table rules edges : List ℕ) (p : Plan) (x : ℕ) (work out : List ℕ) where
  pub stays : {r : A.CallAnswer} {t out' : List ℕ} → t ≡ table → r ≡ settled t rules edges p x (root_found t p.layout x)
      → out' ≡ output_by (is_reading r) t rules p x out → is_reading r ≡ true → Searched table rules edges p x work out r t out'
  stays {r} e answer output reading = record {
    answer = answer ∙ ap (λ (t : List ℕ). settled t rules edges p x (root_found t p.layout x)) e;
    left = e ∙ rw reading;
    output = output ∙ ap (λ (t : List ℕ). output_by (is_reading r) t rules p x out) e;
  }

  pub goes_back : {r : A.CallAnswer} {t work' out' : List ℕ} → t ≡ table → r ≡ settled t rules edges p x (root_found t p.layout x)
      → out' ≡ output_by (is_reading r) t rules p x out → is_reading r ≡ false → work' ≡ work → Searched table rules edges p x work out r work' out'
  goes_back {r} e answer output reading back = record {
    answer = answer ∙ ap (λ (t : List ℕ). settled t rules edges p x (root_found t p.layout x)) e;
    left = back ∙ rw reading;
    output = output ∙ ap (λ (t : List ℕ). output_by (is_reading r) t rules p x out) e;
  }

-- of a later call
module _ (rules edges : List ℕ) (p : Plan) {limit : ℕ} (planned : Planned limit p) (x : ℕ) (work : List ℕ) {index t : List ℕ}
    (made : index ≡ make_index rules p.form.rules p.layout.symbols edges p.edges p.layout.last (replicate index_numbers 0))
    (stepped : t ≡ next_of_root rules edges index p.layout work x) where
  pub table_next : t ≡ next_table rules edges p x work
  unfolding next_table
  table_next = stepped ∙ ap (λ (i : List ℕ). next_of_root rules edges i p.layout work x) made

  -- the journal has room for what is kept of a path within the limit
  pub put_back_lem : 4 * (2 * limit - 1) ≤ most_kept → {kept work' : List ℕ}
      → kept ≡ keep_of_root rules edges index p.layout work (replicate (kept_at most_kept) 0) x → work' ≡ put_back kept t → work' ≡ work
  put_back_lem few keeps e =
      e ∙ rw (keeps, stepped) (search_undone rules edges index p.layout work x (kept_at most_kept) (omega (arith, planned.form.some_place))
      (omega (arith, few, planned.form.places)) (le_refl _))

-- of a table that is taken as it stands
pub as_it_stands : (rules edges : List ℕ) (p : Plan) (work out : List ℕ) (x : ℕ) {r : A.CallAnswer} {out' : List ℕ} → r ≡ settled work rules edges p x true
    → out' ≡ output_by (is_reading r) work rules p x out → Answered true work rules edges p x work out r work out'
as_it_stands rules edges p work out x {r} answer output = record { answer = answer; left = either (is_reading r); output = output }
  where
    either : (b : Bool) → work ≡ pick b work work
    either true = refl
    either false = refl

-- the table has its front
pub front_fits : {limit : ℕ} (p : Plan) → Planned limit p → {r n : ℕ} → r ≡ 4 * p.layout.cells * p.layout.ranks → r ≤ n → 4 * p.layout.cells ≤ n
front_fits p planned e room = omega (arith, rw planned.all_ranks at e, room)

-- of a first call
module _ (rules edges : List ℕ) (p : Plan) (work : List ℕ) (fits : 4 * p.layout.cells ≤ length work) where
  abbrev front : ℕ
  front = 4 * p.layout.cells

  pub front_size : length (take front work) ≡ front
  front_size = length-take-le front work fits

  module _ (clear : zeros (take front work) ≡ true) {e : List ℕ}
      (made : e ≡ enumerate rules p.form.rules edges p.edges (single p.layout) (length (take front work))) where
    pub table_first : e ++ drop front work ≡ first_table rules edges p work
    unfolding first_table
    table_first = rw (made, front_size)

    -- the front was zeros
    pub zeros_again : length e ≡ length (take front work) → {z work' : List ℕ} → z ≡ replicate (length (take front (e ++ drop front work))) 0
        → work' ≡ z ++ drop front (e ++ drop front work) → work' ≡ work
    zeros_again size is left =
        let same : length e ≡ front = size ∙ front_size in
        let taken : length (take front (e ++ drop front work)) ≡ front = rw (take_at e (drop front work) front same) same in
        let were : take front work ≡ replicate front 0 = rw front_size at (zeros_are (take front work) clear) in
        left ∙ rw (is, taken, drop_at e (drop front work) front same, ← were) (take-append-drop front work)
