-- Readings one by one: document 02, N2, of the calls of an open listing: of one call, as Demands has them of the others, and of whole sequences of
-- calls, from opening on. `search` says which table a call makes (Open). Stands on open_listing's Open and Stands.
use Rattle.std.specs.Prelude.{◌≡◌, List, ◌++◌, ℕ, suc, ◌≤◌, ◌<◌, ℤ, pos, neg_ℤ, length, drop, replicate}
use Rattle.packing.specs.Parse.{accepted}
use Rattle.packing.specs.Rows.{◌∪◌, GrammarBlockRow, HeardBlockRow, OpenRow, CallRow}
use Rattle.derivation.specs.Derivation.{Tree, Derivation}
use Rattle.derivation.specs.Heard.{output_length, packed}
use Rattle.derivation.specs.Rank.{Number}
use Rattle.traced_readings.specs.Ranked.{Ranked}
use Rattle.open_listing.specs.Stands.{Standing}
use Rattle.open_listing.specs.Open.{Blocks, opening, place_after, Search, Lent, lent, left, Called, Kept}
use Rattle.open_search.specs.declared.Place.{Place}
use Rattle.open_answer.specs.Answer as A
use Rattle.open_answer.specs.Answer.{Reading, NoMore, Full, Refused}
use Rattle.codes.specs.Demand1.{Demand1}

-- a place
abbrev pub place_at : ℕ → ℕ → Place
place_at handed opened = record { handed = handed; opened = opened }

-- the code of an answer: 1 a reading, 0 "no more", 2 "full"
abbrev pub next_code : A.CallAnswer → ℤ
next_code Reading = pos 1
next_code NoMore = pos 0
next_code Full = pos 2
next_code (Refused n) = neg_ℤ (pos n)

-- what a call answers, with place and work table afterwards
pub record Returned : Type 0 where
  pub code : ℤ
  pub place : Place
  pub work : List ℕ

abbrev pub returned : ℤ → Place → List ℕ → Returned
returned code p work = record { code = code; place = p; work = work }

-- Opening: the place of no readings handed out, and the table zeroed; or a refusal, which changes nothing.
abbrev pub Open : (grammar heard : List ℕ) (p : Place) (work : List ℕ) (r : Returned) → Type 0
Open grammar heard p work r =
    Demand1 (opening grammar heard (length work)) (λ b n. (n ≡ 0) × (r.place ≡ place_at 0 1) × (r.work ≡ replicate (length work) 0))
    (GrammarBlockRow ∪ HeardBlockRow ∪ OpenRow) ((r.place ≡ p) × (r.work ≡ work)) r.code

-- One call, and the output afterwards. `Called` has what holds whatever place and table are, `Kept` what holds of those that come back as they were left.
pub record Next (search : Search) (l : Lent) (r : Returned) (out' : List ℕ) : Type 0 where
  pub answer : A.CallAnswer
  pub code_is : r.code ≡ next_code answer
  pub place_is : r.place ≡ place_after answer l.place
  pub called : Called search l (left answer r.work out')
  pub row : (n : ℕ) → answer ≡ Refused n → (GrammarBlockRow ∪ HeardBlockRow ∪ CallRow) n
  pub kept : Kept search l (left answer r.work out')
  pub size : length r.work ≡ length l.work

-- A call that opens, and then calls one after another, each with blocks, place and work table as the call before left them: `place k` and `work k` are lent
-- to call k, from 0, and left by the one before. `out k` is the output that is lent to call k, and `written k` what that call leaves of it.
pub record Sequence : Type 0 where
  pub grammar : List ℕ
  pub heard : List ℕ
  pub calls : ℕ
  pub place : ℕ → Place
  pub work : ℕ → List ℕ
  pub out : ℕ → List ℕ
  pub written : ℕ → List ℕ
  pub code : ℕ → ℤ

pub record CallsInTurn (search : Search) (s : Sequence) : Type 0 where
  pub place_before : Place
  pub work_before : List ℕ
  pub opens : Open s.grammar s.heard place_before work_before (returned (pos 0) (s.place 0) (s.work 0))
  pub call : (k : ℕ) → k < s.calls
      → Next search (lent s.grammar s.heard (s.place k) (s.work k) (s.out k)) (returned (s.code k) (s.place (suc k)) (s.work (suc k)))
      (s.written k)

-- call k hands out the reading with rank n
pub record HandsOut (b : Blocks) (s : Sequence) (k n : ℕ) : Type 0 where
  pub tree : Tree
  pub ranked : Ranked b.grammar b.heard n tree
  pub answers : s.code k ≡ pos 1
  pub place : s.place (suc k) ≡ place_at n 1
  pub written : s.written k ≡ packed b.grammar b.heard tree ++ drop (output_length b.grammar b.heard) (s.out k)
  pub stands : Standing b.grammar b.heard (s.work (suc k))

-- call k answers so and changes nothing
pub record Idle (s : Sequence) (k : ℕ) (code : ℤ) : Type 0 where
  pub answers : s.code k ≡ code
  pub place : s.place (suc k) ≡ s.place k
  pub work : s.work (suc k) ≡ s.work k
  pub output : s.written k ≡ s.out k

-- the output of call k has room for a reading
abbrev pub Room : Blocks → Sequence → ℕ → Type 0
Room b s k = output_length b.grammar b.heard ≤ length (s.out k)

-- The calls hand out the readings of the listing, each at its place: "For k up to 256 a call that is not refused, made after k−1 readings were handed out,
-- gives the kth of the listing, or no more exactly if fewer than k exist; after 256 readings every call not refused says full." `(place k).handed` readings
-- were handed out before call k. A call without room is refused with 23, and the next goes on as if there had been none.
pub record OneByOne (b : Blocks) (s : Sequence) : Type 0 where
  pub derivations : ℕ
  pub finitely_many : Number (Derivation b.grammar b.heard) derivations
  pub none_before : s.place 0 ≡ place_at 0 1
  pub gives : (k : ℕ) → k < s.calls → Room b s k → (s.place k).handed < 256 → (s.place k).handed < derivations → HandsOut b s k (suc (s.place k).handed)
  pub no_more : (k : ℕ) → k < s.calls → Room b s k → (s.place k).handed < 256 → derivations ≤ (s.place k).handed → Idle s k (pos 0)
  pub full : (k : ℕ) → k < s.calls → Room b s k → 256 ≤ (s.place k).handed → Idle s k (pos 2)
  pub no_room : (k : ℕ) → k < s.calls → ¬ Room b s k → Idle s k (neg_ℤ (pos 23))

-- so of every sequence of calls, whatever their search
abbrev pub EveryReading : Type 0
EveryReading =
    (search : Search) (s : Sequence) → CallsInTurn search s → (b : Blocks) × (opening s.grammar s.heard (length (s.work 0)) ≡ accepted b) × OneByOne b s

-- What is promised of a call leaves nothing open, whatever place and table are: not the number, not the place and no byte of what was lent.
abbrev pub EveryCall : Type 0
EveryCall =
    (search : Search) (l : Lent) (r r' : Returned) (out out' : List ℕ) → Next search l r out → Next search l r' out'
    → (r.code ≡ r'.code) × (r.place ≡ r'.place) × (r.work ≡ r'.work) × (out ≡ out')
