-- What the calls of an open listing answer, case by case. Assumes nothing.
use mathlib.Core.Path.{◌≡◌, refl, sym, ap, ◌∙◌}
use mathlib.Core.List.{List}
use mathlib.Core.Logic.{inl, inr}
use Prim.Native.Nat.{ℕ, ◌≤◌, ◌<◌}
use native.Mathlib.Omega.{arith}
use lib.IntN.{ℤ, pos, neg_ℤ}
use lib.ListN.{length}
use mir.Syntax.{w32}
use mir.Val.{to_z, of_z}
use Rattle.packing.specs.Parse.{Verdict, accepted, refused}
use Rattle.packing.specs.Rows.{◌∪◌, GrammarBlockRow, HeardBlockRow, OpenRow, CallRow}
use Rattle.packing.proofs.Parse.{refused≢accepted}
use Rattle.packing.proofs.Refusals.{refusal_number}
use Rattle.open_listing.specs.Open as S
use Rattle.open_search.specs.declared.Place.{Place}
use Rattle.open_answer.specs.Answer as A
use Rattle.open_answer.specs.Answer.{Reading, Refused}
use Rattle.open_listing.proofs.Refused.{opening_row, refused_row, reading_below}
use Rattle.open_search.specs.Model.{As}
use Rattle.open_listing.specs.Model.{next_of}
use Rattle.codes.specs.Demand1.{answers, refuses}
use Rattle.codes.proofs.Signed.{back, fits_neg}
use Rattle.open_calls.specs.OneByOne.{place_at, next_code, Returned, returned, Open, Next}
use Rattle.open_calls.specs.Model.{open_code, place_opened, OpenedAs, CalledAs}

-- a refusal is small, and not 0
pub low_open : (n : ℕ) → (GrammarBlockRow ∪ HeardBlockRow ∪ OpenRow) n → (1 ≤ n) × (n < 2147483648)
low_open n (inl (inl r)) = (omega (arith, r), omega (arith, r))
low_open n (inl (inr (inl r))) = (omega (arith, r), omega (arith, r))
low_open n (inl (inr (inr r))) = (omega (arith, r), omega (arith, r))
low_open n (inr r) = (omega (arith, r), omega (arith, r))

pub low_call : (n : ℕ) → (GrammarBlockRow ∪ HeardBlockRow ∪ CallRow) n → (1 ≤ n) × (n < 2147483648)
low_call n (inl (inl r)) = (omega (arith, r), omega (arith, r))
low_call n (inl (inr (inl r))) = (omega (arith, r), omega (arith, r))
low_call n (inl (inr (inr r))) = (omega (arith, r), omega (arith, r))
low_call n (inr (inl r)) = (omega (arith, r), omega (arith, r))
low_call n (inr (inr r)) = (omega (arith, r), omega (arith, r))

-- opening
module _ (grammar heard work : List ℕ) where
  abbrev due : Verdict S.Blocks
  due = S.opening grammar heard (length work)

  told_open : (v : Verdict S.Blocks) → accepted tt ≡ S.opened_of v → (b : S.Blocks) × (v ≡ accepted b)
  told_open (accepted b) e = (b, refl)
  told_open (refused n) e = absurd (refused≢accepted (sym e))

  told_refused : (v : Verdict S.Blocks) {n : ℕ} → refused n ≡ S.opened_of v → v ≡ refused n
  told_refused (accepted b) e = absurd (refused≢accepted e)
  told_refused (refused m) {n = n} e = let same : m ≡ n = cc in ap refused same

  -- what is promised: the equations, and the record
  abbrev pub OpenTold : Place → Returned → Type 0
  OpenTold p t = OpenedAs due p work t × Open grammar heard p work t

  module _ (p : Place) {work' : List ℕ} (left : work' ≡ S.table_opened due work) where
    pub opened : accepted tt ≡ S.opened_of due → OpenTold p (returned (pos 0) (place_at 0 1) work')
    opened e =
        let (b, is) = told_open due e in
        let zeros = left ∙ ap (λ (v : Verdict S.Blocks). S.table_opened v work) is in
        let told : OpenedAs due p work (returned (pos 0) (place_at 0 1) work') =
        record { code = ap open_code (sym is); place = ap (λ (v : Verdict S.Blocks). place_opened v p) (sym is); table = left } in
        (told, answers is (refl, refl, zeros))

    pub not_opened : {n : ℕ} {z : ℤ} → refused n ≡ S.opened_of due → z ≡ neg_ℤ (pos n) → OpenTold p (returned (to_z w32 (of_z w32 z)) p work')
    not_opened {n} e is =
        let v = told_refused due e in
        let row = refusal_number (opening_row grammar heard (length work)) v in
        let same = left ∙ ap (λ (v : Verdict S.Blocks). S.table_opened v work) v in
        let told : OpenedAs due p work (returned (neg_ℤ (pos n)) p work') =
        record { code = ap open_code (sym v); place = ap (λ (v : Verdict S.Blocks). place_opened v p) (sym v); table = left } in
        rw (back (neg_ℤ (pos n)) (fits_neg n (low_open n row).1) is) (told, refuses v row (refl, same))

-- a call
module _ (grammar heard : List ℕ) (p : Place) (work out : List ℕ) where
  abbrev lent : S.Lent
  lent = S.lent grammar heard p work out

  abbrev made : S.Left
  made = next_of grammar heard p work out

  -- what is promised: the equations, and the record
  abbrev pub NextTold : S.Search → Returned → List ℕ → Type 0
  NextTold search t out' = CalledAs made p t out' × Next search lent t out'

  module _ {search : S.Search} {a : A.CallAnswer} {work' out' : List ℕ} (called : S.Called search lent (S.left a work' out'))
      (kept : S.Kept search lent (S.left a work' out')) (is : As made a work' out') (size : length work' ≡ length work) where
    pub call_refusal : {n : ℕ} → a ≡ Refused n → n < 2147483648
    call_refusal {n} f = (low_call n (refused_row called n f)).1

    pub call_reading : a ≡ Reading → p.handed < 256
    call_reading = reading_below called

    -- an answer that is none of a refusal, and a refusal
    pub answered : (b : A.CallAnswer) → a ≡ b → NextTold search (returned (next_code b) (S.place_after b p) work') out'
    answered b same =
        let due : b ≡ made.answer = sym same ∙ is.answer in
        let place : A.CallAnswer → Place = λ x. S.place_after x p in (
          record { code = ap next_code due; place = ap place due; table = is.table; output = is.output },
          record {
            answer = a;
            code_is = ap next_code (sym same);
            place_is = ap place (sym same);
            called = called;
            row = refused_row called;
            kept = kept;
            size = size;
          },
        )

    pub turned_away : {n : ℕ} {z : ℤ} → a ≡ Refused n → z ≡ neg_ℤ (pos n) → NextTold search (returned (to_z w32 (of_z w32 z)) p work') out'
    turned_away {n} f same = rw (back (neg_ℤ (pos n)) (fits_neg n (call_refusal f)) same) (answered (Refused n) f)
