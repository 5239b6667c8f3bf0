-- What the code's values say: a field, a source, and what a function answers that can refuse. Nobody need believe this page: no service's
-- promise names it. Assumes nothing.
use Rattle.std.specs.Prelude.{List, ℕ, Result, Ok, Err, length}
use Rattle.packing.specs.Parse.{Parse, parsed, failed, Verdict, accepted, refused, ◌then◌}
use Rattle.packing.specs.Source.{Field, Source, bytes, numbers}
use Rattle.packing.specs.Refusal.{number}
use Rattle.packing.specs.declared.Field as F
use Rattle.packing.specs.declared.Source as S
use Rattle.packing.specs.declared.refusal.Refusal.{Refusal}

abbrev pub field_of : F.Field → Field
field_of f = record { width = f.width; least = f.least; most = f.most; below = number f.below; above = number f.above }

abbrev pub source_of : S.Source → Source
source_of (S.TheVariants.Block block missing) = bytes (number missing) block.now
source_of (S.TheVariants.Sheet sheet) = numbers sheet.now

-- a value of what f makes of what was read, with the next place, or a refusal
abbrev pub as_parse_by : {A B : Type 0} → (A → B) → Result (A × ℕ) Refusal → Parse B
as_parse_by f (Ok (a, at)) = parsed (f a) at
as_parse_by f (Err r) = failed (number r)

abbrev pub as_parse : {A : Type 0} → Result (A × ℕ) Refusal → Parse A
as_parse r = as_parse_by (λ a. a) r

-- the same at the end, where no place is left
abbrev pub as_verdict_by : {A B : Type 0} → (A → B) → Result A Refusal → Verdict B
as_verdict_by f (Ok a) = accepted (f a)
as_verdict_by f (Err r) = refused (number r)

abbrev pub as_verdict : {A : Type 0} → Result A Refusal → Verdict A
as_verdict r = as_verdict_by (λ a. a) r

-- a list that is told by its length
abbrev pub counted : {A : Type 0} → Verdict (List A) → Verdict ℕ
counted v = v then λ l. accepted (length l)
