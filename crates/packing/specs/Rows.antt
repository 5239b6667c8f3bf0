-- The numbers that each place can refuse with: document 01's table "Where each check stands", row by row, and document 02, N1, of word
-- graphs, N5, of office sheets, N8, of the panel, N11, of costs known within ranges, and N14, of chances. Assumes nothing.
use Rattle.std.specs.Prelude.{◌⊎◌, ◌≡◌, ℕ, ◌≤◌}

infixl 2 ◌∪◌
-- from one number to another
abbrev pub Between : ℕ → ℕ → ℕ → Type 0
Between least most n = (least ≤ n) × (n ≤ most)

-- of one row or of another
abbrev pub ◌∪◌ : (ℕ → Type 0) → (ℕ → Type 0) → ℕ → Type 0
(P ∪ Q) n = P n ⊎ Q n

abbrev pub GrammarBlockRow : ℕ → Type 0
GrammarBlockRow n = Between 1 7 n

abbrev pub UtteranceBlockRow : ℕ → Type 0
UtteranceBlockRow n = Between 11 16 n

-- of a graph "11 to 14, 16 .. apply likewise", with 51 and 52 for an edge; where slots and graphs are taken, the numbers of both
abbrev pub EdgeRow : ℕ → Type 0
EdgeRow n = Between 51 52 n

abbrev pub GraphBlockRow : ℕ → Type 0
GraphBlockRow n = (Between 11 14 ∪ Between 16 16 ∪ EdgeRow) n

abbrev pub HeardBlockRow : ℕ → Type 0
HeardBlockRow n = (UtteranceBlockRow ∪ EdgeRow) n

abbrev pub ListingRow : ℕ → Type 0
ListingRow n = Between 21 23 n

-- the panel's listing: what it turns away beyond its limits, 57 before 21 and 58 behind it, and the listing's own
abbrev pub PanelRow : ℕ → Type 0
PanelRow n = (ListingRow ∪ Between 57 58) n

-- an open listing: "Opening refuses for the blocks, then with 22"; a call has "22 for that table and 23 for one reading; 53 .. last of all"
abbrev pub OpenRow : ℕ → Type 0
OpenRow n = n ≡ 22

abbrev pub CallRow : ℕ → Type 0
CallRow n = (Between 22 23 ∪ Between 53 53) n

abbrev pub SpecimenRow : ℕ → Type 0
SpecimenRow n = Between 25 26 n

-- up to the last field, and whole
abbrev pub ReadingFieldsRow : ℕ → Type 0
ReadingFieldsRow n = Between 31 33 n

abbrev pub ReadingBlockRow : ℕ → Type 0
ReadingBlockRow n = Between 31 36 n

-- "41 ..; 42 ..; else 3 to 6 or 13 to 15 as in blocks"
abbrev pub GrammarSheetRow : ℕ → Type 0
GrammarSheetRow n = (Between 3 6 ∪ Between 41 42) n

abbrev pub UtteranceSheetRow : ℕ → Type 0
UtteranceSheetRow n = (Between 13 15 ∪ Between 41 42) n

-- "3 to 5, 41 and 42 stand at their fields", 6, 54 and 55, and then 56
abbrev pub OfficeSheetRow : ℕ → Type 0
OfficeSheetRow n = (GrammarSheetRow ∪ Between 54 55) n

abbrev pub OfficeSizeRow : ℕ → Type 0
OfficeSizeRow n = n ≡ 56

abbrev pub OutputRow : ℕ → Type 0
OutputRow n = n ≡ 43

-- "60 the number of shares is not R ..; 61 a share outside 1 to 1,024"
abbrev pub SharesRow : ℕ → Type 0
SharesRow n = Between 60 61 n

-- "59 the blocks differ elsewhere than in costs, a cost falls from low to high, or 65,535 stands in one only, .. and before 22 for one reading"
abbrev pub RangesRow : ℕ → Type 0
RangesRow n = (n ≡ 59) ⊎ (n ≡ 22)
