-- The numbers of the code's refusals: document 01, "Where each check stands", and document 02. Nobody need believe this page: no service's promise
-- names it. Assumes nothing.
use Rattle.std.specs.Prelude.{ℕ}
use Rattle.packing.specs.declared.refusal.Refusal.{Refusal}
use Rattle.packing.specs.declared.refusal.Refusal.TheVariants.{
  GrammarEnd,
  GrammarKind,
  GrammarRange,
  GrammarSymbol,
  GrammarWord,
  GrammarRepeat,
  GrammarFill,
  UtteranceEnd,
  UtteranceKind,
  UtteranceRange,
  UtteranceWord,
  UtteranceOrder,
  UtteranceFill,
  ListingWanted,
  ListingWork,
  ListingOutput,
  SpecimenLength,
  SpecimenOutput,
  ReadingEnd,
  ReadingKind,
  ReadingSlots,
  ReadingWalk,
  ReadingWeight,
  ReadingFill,
  SheetCount,
  SheetValue,
  OutputShort,
  EdgePlaces,
  EdgeRepeat,
  OpenAltered,
  ItemCount,
  ItemAlone,
  OfficeSize,
  PanelSlots,
  PanelWanted,
  CostRanges,
  SharesCount,
  ShareRange,
}

abbrev pub number : Refusal → ℕ
number GrammarEnd = 1
number GrammarKind = 2
number GrammarRange = 3
number GrammarSymbol = 4
number GrammarWord = 5
number GrammarRepeat = 6
number GrammarFill = 7
number UtteranceEnd = 11
number UtteranceKind = 12
number UtteranceRange = 13
number UtteranceWord = 14
number UtteranceOrder = 15
number UtteranceFill = 16
number ListingWanted = 21
number ListingWork = 22
number ListingOutput = 23
number SpecimenLength = 25
number SpecimenOutput = 26
number ReadingEnd = 31
number ReadingKind = 32
number ReadingSlots = 33
number ReadingWalk = 34
number ReadingWeight = 35
number ReadingFill = 36
number SheetCount = 41
number SheetValue = 42
number OutputShort = 43
number EdgePlaces = 51
number EdgeRepeat = 52
number OpenAltered = 53
number ItemCount = 54
number ItemAlone = 55
number OfficeSize = 56
number PanelSlots = 57
number PanelWanted = 58
number CostRanges = 59
number SharesCount = 60
number ShareRange = 61

-- the greatest of them
abbrev pub most : ℕ
most = 61
