-- Within the limits and with enough work table and output the listing accepts. Of a valid grammar and what was heard, valid too, every reading has the length
-- L, since each in the list is a derivation's.
use mathlib.Core.Path.{◌≡◌, refl, sym, subst, ◌∙◌}
use mathlib.Core.List.{List, [], ◌∷◌}
use Prim.Native.Nat.{ℕ, suc, ◌*◌, ◌≤◌, min}
use native.Mathlib.Omega.{arith}
use lib.Dec.{ltb}
use lib.ListN.{length, length-map, length-take}
use borrow.Author.Tests.{le-ltb, ltb-false}
use Rattle.packing.specs.Meaning.{Grammar, Heard, last_place}
use Rattle.packing.specs.Parse.{Verdict, accepted, refused, ◌then◌}
use Rattle.packing.specs.Read.{counted}
use Rattle.packing.proofs.Told.{accepted_told}
use Rattle.packing.specs.Grammar.{grammar_block}
use Rattle.packing.specs.Heard.{heard_block}
use Rattle.packing.specs.Valid.{ValidGrammar, ValidHeard}
use Rattle.packing.proofs.Parse.{granted, accepted_else, accepted_is}
use Rattle.derivation.specs.Derivation.{At, Derivation}
use Rattle.derivation.specs.Heard.{output_length, packed}
use Rattle.derivation.specs.HeardList.{least_derivations}
use Rattle.derivation.specs.Rank.{Number}
use Rattle.derivation.proofs.Lists.{map_at}
use Rattle.derivation.proofs.Ranges.{All}
use Rattle.derivation.proofs.HeardTheorems.{least_length, least_element, output_bytes}
use Rattle.chart.specs.WorkTable.{table_size}
use Rattle.listing.specs.Conditions.{conditions, asked_listing}
use Rattle.listing.specs.Listing.{readings_of, listed, list}
use Rattle.listing_limits.specs.declared.Limits.{Limits}
use Rattle.listing.proofs.Joined.{Sized}
use Rattle.inputs.proofs.Due.{then_within}

at_all : {A : Type 0} (P : A → Type 0) (l : List A) → ((k : ℕ) (x : A) → At l k x → P x) → All P l
at_all P [] h = tt
at_all P (x ∷ l) h = (h 0 x refl, at_all P l (λ k. h (suc k)))

module _ (g : Grammar) (h : Heard) (N : ℕ) where
  -- the N least readings, packed
  abbrev pub blocks : List (List ℕ)
  blocks = readings_of N (g, h)

  pub count_blocks : (all : ℕ) → Number (Derivation g h) all → length blocks ≡ min N all
  count_blocks all number = length-map (least_derivations g h N) (packed g h) ∙ least_length g h N all number

  module _ (okg : ValidGrammar g) (okh : ValidHeard g.words h) where
    pub sized_blocks : Sized (output_length g h) blocks
    sized_blocks = at_all _ blocks λ k b e.
        let (t, at, is) = map_at (packed g h) (least_derivations g h N) k e in
        rw is (output_bytes g h okg okh t ((least_element g h N k t).0 at).0)

  pub listing_accepts : (l : Limits) (work out : ℕ) → last_place h ≤ l.slots → N ≤ l.readings → 1 ≤ N → N ≤ 256
      → table_size g.symbols (last_place h) N ≤ work → N * output_length g h ≤ out → listed l g h N work out ≡ accepted blocks
  unfolding listed conditions
  listing_accepts l work out slots readings h₁ h₂ h₃ h₄ = rw (
    le-ltb l.slots (last_place h) slots,
    le-ltb N 1 h₁,
    le-ltb 256 N h₂,
    le-ltb l.readings N readings,
    le-ltb work (table_size g.symbols (last_place h) N) h₃,
    le-ltb out (N * output_length g h) h₄,
  )

-- what was asked for and lent, where the listing accepted
pub record Asks (g : Grammar) (h : Heard) (N work out : ℕ) : Type 0 where
  pub positive : 1 ≤ N
  pub few : N ≤ 256
  pub table : table_size g.symbols (last_place h) N ≤ work
  pub room : N * output_length g h ≤ out

pub conditions_asks : (l : Limits) (g : Grammar) (h : Heard) (N work out : ℕ) {b : Grammar × Heard} → conditions l g h N work out ≡ accepted b
    → Asks g h N work out × ((g, h) ≡ b)
unfolding conditions
conditions_asks l g h N work out e =
    let (_, e₀) = accepted_else (ltb l.slots (last_place h)) 57 _ e in
    let (n₁, e₁) = accepted_else (ltb N 1) 21 _ e₀ in
    let (n₂, e₂) = accepted_else (ltb 256 N) 21 _ e₁ in
    let (_, e₃) = accepted_else (ltb l.readings N) 58 _ e₂ in
    let (n₄, e₄) = accepted_else (ltb work (table_size g.symbols (last_place h) N)) 22 _ e₃ in
    let (n₅, e₅) = accepted_else (ltb out (N * output_length g h)) 23 _ e₄ in (
      record { positive = ltb-false _ _ n₁; few = ltb-false _ _ n₂; table = ltb-false _ _ n₄; room = ltb-false _ _ n₅ },
      accepted_is e₅,
    )

-- what is accepted are both blocks' meanings, asked for and lent enough
pub asked_out : (l : Limits) (grammar heard : List ℕ) (N work out : ℕ) {g : Grammar} {h : Heard} → asked_listing l grammar heard N work out ≡ accepted (g, h)
    → (grammar_block grammar ≡ accepted g) × (heard_block g.words heard ≡ accepted h) × Asks g h N work out
unfolding asked_listing
asked_out l grammar heard N work out {g} {h} e =
    granted (grammar_block grammar) _ e λ f p e.
    granted (heard_block f.words heard) _ e λ k q e.
    let (asks, same) = conditions_asks l f k N work out e in
    subst (λ (b : Grammar × Heard). (grammar_block grammar ≡ accepted b.0) × (heard_block b.0.words heard ≡ accepted b.1)
    × Asks b.0 b.1 N work out)
    same (p, q, asks)

-- what is due is made of what is asked
pub list_asked : (l : Limits) (grammar heard : List ℕ) (N work out : ℕ)
    → list l grammar heard N work out ≡ (asked_listing l grammar heard N work out then λ b. accepted (readings_of N b))
unfolding list listed asked_listing
list_asked l grammar heard N work out =
    then_within (grammar_block grammar) (λ g. heard_block g.words heard then λ h. conditions l g h N work out) (λ b. accepted (readings_of N b)) λ g.
    then_within (heard_block g.words heard) (λ h. conditions l g h N work out) (λ b. accepted (readings_of N b)) λ h. refl

-- what the listing answers that it found is never more than was asked for, and that at most 256
pub accepted_few : (l : Limits) (grammar heard : List ℕ) (N work out : ℕ) {ls : List (List ℕ)} → list l grammar heard N work out ≡ accepted ls
    → (length ls ≤ N) × (N ≤ 256)
accepted_few l grammar heard N work out e =
    granted (asked_listing l grammar heard N work out) _ (sym (list_asked l grammar heard N work out) ∙ e) λ (g, h) p q.
    let (_, _, asks) = asked_out l grammar heard N work out p in
    (rw (← accepted_is q) (simp (length-map, length-take) (omega arith)), asks.few)

pub found_few : (l : Limits) (grammar heard : List ℕ) (N work out : ℕ) {m : ℕ} → accepted m ≡ counted (list l grammar heard N work out) → m ≤ N
found_few l grammar heard N work out e =
    let (ls, is, same) = accepted_told (list l grammar heard N work out) length e in
    rw same (accepted_few l grammar heard N work out is).0
