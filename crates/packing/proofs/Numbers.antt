-- A refusal is known by its number, and so an answer by the verdict that tells it: what a contract says of the verdict it says of the answer.
-- Assumes nothing.
use mathlib.Core.Path.{◌≡◌, refl, sym, ap, ◌∙◌}
use Prim.Native.Nat.{ℕ}
use native.Mathlib.Omega.{arith}
use Rattle.std.specs.Prelude.{Result, Ok, Err, eqb}
use Rattle.bits.specs.Bits.{pick}
use Rattle.packing.specs.Refusal.{number}
use Rattle.packing.specs.Read.{as_verdict}
use Rattle.packing.specs.declared.refusal.Refusal.{Refusal}
use Rattle.packing.specs.declared.refusal.Refusal.TheVariants.{
  GrammarEnd,
  GrammarKind,
  GrammarRange,
  GrammarSymbol,
  GrammarWord,
  GrammarRepeat,
  GrammarFill,
  UtteranceEnd,
  UtteranceKind,
  UtteranceRange,
  UtteranceWord,
  UtteranceOrder,
  UtteranceFill,
  ListingWanted,
  ListingWork,
  ListingOutput,
  SpecimenLength,
  SpecimenOutput,
  ReadingEnd,
  ReadingKind,
  ReadingSlots,
  ReadingWalk,
  ReadingWeight,
  ReadingFill,
  SheetCount,
  SheetValue,
  OutputShort,
  EdgePlaces,
  EdgeRepeat,
  OpenAltered,
  ItemCount,
  ItemAlone,
  OfficeSize,
  PanelSlots,
  PanelWanted,
  CostRanges,
  SharesCount,
  ShareRange,
}

-- the refusal of a number
abbrev refusal_of : ℕ → Refusal
refusal_of n =
    pick (eqb n 1) GrammarEnd (
    pick (eqb n 2) GrammarKind (
    pick (eqb n 3) GrammarRange (
    pick (eqb n 4) GrammarSymbol (
    pick (eqb n 5) GrammarWord (
    pick (eqb n 6) GrammarRepeat (
    pick (eqb n 7) GrammarFill (
    pick (eqb n 11) UtteranceEnd (
    pick (eqb n 12) UtteranceKind (
    pick (eqb n 13) UtteranceRange (
    pick (eqb n 14) UtteranceWord (
    pick (eqb n 15) UtteranceOrder (
    pick (eqb n 16) UtteranceFill (
    pick (eqb n 21) ListingWanted (
    pick (eqb n 22) ListingWork (
    pick (eqb n 23) ListingOutput (
    pick (eqb n 25) SpecimenLength (
    pick (eqb n 26) SpecimenOutput (
    pick (eqb n 31) ReadingEnd (
    pick (eqb n 32) ReadingKind (
    pick (eqb n 33) ReadingSlots (
    pick (eqb n 34) ReadingWalk (
    pick (eqb n 35) ReadingWeight (
    pick (eqb n 36) ReadingFill (
    pick (eqb n 41) SheetCount (
    pick (eqb n 42) SheetValue (
    pick (eqb n 43) OutputShort (
    pick (eqb n 51) EdgePlaces (
    pick (eqb n 52) EdgeRepeat (
    pick (eqb n 53) OpenAltered (
    pick (eqb n 54) ItemCount (
    pick (eqb n 55) ItemAlone (
    pick (eqb n 56) OfficeSize (
    pick (eqb n 57) PanelSlots (
    pick (eqb n 58) PanelWanted (
    pick (eqb n 59) CostRanges (
    pick (eqb n 60) SharesCount (
    ShareRange)))))))))))))))))))))))))))))))))))))

numbered : (r : Refusal) → refusal_of (number r) ≡ r
numbered GrammarEnd = refl
numbered GrammarKind = refl
numbered GrammarRange = refl
numbered GrammarSymbol = refl
numbered GrammarWord = refl
numbered GrammarRepeat = refl
numbered GrammarFill = refl
numbered UtteranceEnd = refl
numbered UtteranceKind = refl
numbered UtteranceRange = refl
numbered UtteranceWord = refl
numbered UtteranceOrder = refl
numbered UtteranceFill = refl
numbered ListingWanted = refl
numbered ListingWork = refl
numbered ListingOutput = refl
numbered SpecimenLength = refl
numbered SpecimenOutput = refl
numbered ReadingEnd = refl
numbered ReadingKind = refl
numbered ReadingSlots = refl
numbered ReadingWalk = refl
numbered ReadingWeight = refl
numbered ReadingFill = refl
numbered SheetCount = refl
numbered SheetValue = refl
numbered OutputShort = refl
numbered EdgePlaces = refl
numbered EdgeRepeat = refl
numbered OpenAltered = refl
numbered ItemCount = refl
numbered ItemAlone = refl
numbered OfficeSize = refl
numbered PanelSlots = refl
numbered PanelWanted = refl
numbered CostRanges = refl
numbered SharesCount = refl
numbered ShareRange = refl

pub same_number : {r s : Refusal} → number r ≡ number s → r ≡ s
same_number {r} {s} e = sym (numbered r) ∙ ap refusal_of e ∙ numbered s

-- so no two answers are told as one verdict
pub same_verdict : {A : Type 0} (x y : Result A Refusal) → as_verdict x ≡ as_verdict y → x ≡ y
same_verdict (Ok a) (Ok b) e = let p : a ≡ b = cc in ap Ok p
same_verdict (Ok a) (Err s) e = let z : ◌≡◌ {A = ℕ} 0 1 = cc in absurd (omega arith)
same_verdict (Err r) (Ok b) e = let z : ◌≡◌ {A = ℕ} 0 1 = cc in absurd (omega arith)
same_verdict (Err r) (Err s) e = let p : number r ≡ number s = cc in ap Err (same_number p)
