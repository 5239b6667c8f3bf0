-- The sizes that the listing computes with are small, and what is beyond the limits or short decides between a refusal and acceptance.
use mathlib.Core.Path.{◌≡◌, refl, sym}
use mathlib.Core.Bool.{Bool, true, false}
use Prim.Native.Nat.{ℕ, ◌+◌, ◌-◌, ◌*◌, ◌/◌, ◌≤◌}
use native.Mathlib.Nat.{mul-le-mul}
use native.Mathlib.Omega.{arith}
use lib.Dec.{ltb}
use borrow.Author.Tests.{ltb-false}
use Rattle.bits.specs.Bits.{pick}
use Rattle.packing.specs.Meaning.{Grammar, Heard, slots, last_place}
use Rattle.packing.specs.Parse.{accepted, refused, ◌then◌}
use Rattle.packing.proofs.Parse.{refused≢accepted}
use Rattle.derivation.specs.Heard.{output_length}
use Rattle.chart.specs.WorkTable.{table_size}
use Rattle.listing.specs.Conditions.{conditions}
use Rattle.listing.specs.Listing.{listed}
use Rattle.traced_readings.specs.Model.{size_of}
use Rattle.traced_readings.proofs.Sizes.{longest_is, size_within}
use Rattle.listing_limits.specs.Shortage.{first_refusal, verdict_on, shortage}
use Rattle.listing_limits.specs.declared.Asked.{Asked}
use Rattle.listing_limits.specs.declared.Limits.{Limits}

-- Within limits nothing needs more than the limits themselves do: of the table, with 32 symbols, and of a reading, with 256 rules, in a graph, whose
-- readings are the longer ones.
abbrev pub most_numbers : Limits → ℕ
most_numbers l = table_size 32 l.slots l.readings

abbrev pub most_bytes : Limits → ℕ
most_bytes l = l.readings * ((34 + (2 * l.slots - 1) * 8 + 7 * l.slots + 7) / 8)

pub table_within : (l : Limits) {S n N : ℕ} → S ≤ 32 → n ≤ l.slots → N ≤ l.readings → table_size S n N ≤ most_numbers l
unfolding table_size
table_within l {S} {n} h p q =
    let spans : n * (n + 1) ≤ l.slots * (l.slots + 1) = mul-le-mul p (omega arith) in
    let halved : n * (n + 1) / 2 ≤ l.slots * (l.slots + 1) / 2 = omega (arith, spans) in
    let cells : 4 * S * (n * (n + 1) / 2) ≤ 4 * 32 * (l.slots * (l.slots + 1) / 2) = mul-le-mul (omega arith) halved in
    mul-le-mul cells q

pub output_within : (l : Limits) (b : Bool) {n R N : ℕ} → n ≤ l.slots → R ≤ 256 → N ≤ l.readings → N * size_of b n R ≤ most_bytes l
output_within l b h r q = mul-le-mul q (rw (longest_is l.slots) at (size_within l.slots b h r))

-- where nothing is short
pub record Met (asked : Asked) (S n L work out : ℕ) : Type 0 where
  pub slots : n ≤ asked.limits.slots
  pub positive : 1 ≤ asked.wanted
  pub few : asked.wanted ≤ 256
  pub readings : asked.wanted ≤ asked.limits.readings
  pub table : table_size S n asked.wanted ≤ work
  pub room : asked.wanted * L ≤ out

pub all_met : (asked : Asked) (S n L work out : ℕ) → accepted tt ≡ verdict_on (shortage asked S n L work out) → Met asked S n L work out
unfolding shortage
all_met asked S n L work out =
    go (ltb asked.limits.slots n) (ltb asked.wanted 1) (ltb 256 asked.wanted) (ltb asked.limits.readings asked.wanted)
    (ltb work (table_size S n asked.wanted)) (ltb out (asked.wanted * L))
    refl refl refl refl refl refl
  where
    go : (a b c d e f : Bool) → ltb asked.limits.slots n ≡ a → ltb asked.wanted 1 ≡ b → ltb 256 asked.wanted ≡ c
        → ltb asked.limits.readings asked.wanted ≡ d
        → ltb work (table_size S n asked.wanted) ≡ e → ltb out (asked.wanted * L) ≡ f → accepted tt ≡ verdict_on (first_refusal a b c d e f)
        → Met asked S n L work out
    go true b c d e f p q r s t u none = absurd (refused≢accepted (sym none))
    go false true c d e f p q r s t u none = absurd (refused≢accepted (sym none))
    go false false true d e f p q r s t u none = absurd (refused≢accepted (sym none))
    go false false false true e f p q r s t u none = absurd (refused≢accepted (sym none))
    go false false false false true f p q r s t u none = absurd (refused≢accepted (sym none))
    go false false false false false true p q r s t u none = absurd (refused≢accepted (sym none))
    go false false false false false false p q r s t u none = record {
      slots = ltb-false _ _ p;
      positive = ltb-false _ _ q;
      few = ltb-false _ _ r;
      readings = ltb-false _ _ s;
      table = ltb-false _ _ t;
      room = ltb-false _ _ u;
    }

-- what the code refuses is what the conditions do
picks : {A : Type 0} (x : A) (a b c d e f : Bool)
    → pick a (refused 57) (pick b (refused 21) (pick c (refused 21) (pick d (refused 58) (pick e (refused 22) (pick f (refused 23) (accepted x))))))
    ≡ (verdict_on (first_refusal a b c d e f) then λ u. accepted x)
picks x true b c d e f = refl
picks x false true c d e f = refl
picks x false false true d e f = refl
picks x false false false true e f = refl
picks x false false false false true f = refl
picks x false false false false false true = refl
picks x false false false false false false = refl

conditions_told : (asked : Asked) (g : Grammar) (h : Heard) (work out : ℕ)
    → conditions asked.limits g h asked.wanted work out
    ≡ (verdict_on (shortage asked g.symbols (last_place h) (output_length g h) work out) then λ u. accepted (g, h))
unfolding shortage conditions
conditions_told asked g h work out =
    picks (g, h) (ltb asked.limits.slots (last_place h)) (ltb asked.wanted 1) (ltb 256 asked.wanted) (ltb asked.limits.readings asked.wanted)
    (ltb work (table_size g.symbols (last_place h) asked.wanted)) (ltb out (asked.wanted * output_length g h))

pub short : (asked : Asked) (g : Grammar) (h : Heard) (work out : ℕ) {n : ℕ}
    → refused n ≡ verdict_on (shortage asked g.symbols (last_place h) (output_length g h) work out)
    → listed asked.limits g h asked.wanted work out ≡ refused n
unfolding listed
short asked g h work out e = rw (conditions_told asked g h work out, ← e)
