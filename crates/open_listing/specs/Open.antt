-- Readings one by one: document 02, N2, with the rows grammar block, utterance block and listing of document 01's "Where each check stands".
-- Stands on packing's and derivation's definitions, on traced_readings' Ranked, on the chart's size of a table, on open_search's Left, and on
-- specs/Stands: what stands in it.
use Rattle.std.specs.Prelude.{◌≡◌, List, ◌++◌, ℕ, zero, suc, ◌+◌, ◌-◌, ◌*◌, ◌≤◌, ◌<◌, ltb, length, take, drop, replicate}
use Rattle.std.proofs.Math.Option.{none, some}
use Rattle.bits.specs.Bits.{pick}
use Rattle.packing.specs.Meaning.{symbol_of, Grammar, Heard, last_place}
use Rattle.packing.specs.Parse.{Verdict, accepted, refused, ◌then◌}
use Rattle.packing.specs.Grammar.{grammar_block}
use Rattle.packing.specs.Heard.{heard_block}
use Rattle.packing.specs.declared.Sym.{Sym}
use Rattle.derivation.specs.Derivation.{Tree, Derivation}
use Rattle.derivation.specs.Heard.{output_length, packed}
use Rattle.derivation.specs.Rank.{Number}
use Rattle.chart.specs.WorkTable.{table_size}
use Rattle.traced_readings.specs.Ranked.{Ranked}
pub use Rattle.open_search.specs.Left.{Left, left}
use Rattle.open_listing.specs.Stands.{TableEntry, front, entry, Found, Over, found_over, found_ranks, SpelledReading, Standing}
use Rattle.open_search.specs.declared.Place.{Place}
use Rattle.open_answer.specs.Answer as A
use Rattle.open_answer.specs.Answer.{Reading, NoMore, Full, Refused}

-- a grammar and what was heard, both accepted
pub record Blocks : Type 0 where
  pub grammar : Grammar
  pub heard : Heard

-- "Opening refuses for the blocks, then with 22", for a work table of this length, "sized for 256"
unfoldable pub opening : List ℕ → List ℕ → ℕ → Verdict Blocks
opening grammar heard work =
    grammar_block grammar then λ g. heard_block g.words heard then λ h.
    pick (ltb work (table_size g.symbols (last_place h) 256)) (refused 22) (accepted (record { grammar = g; heard = h }))

-- and a call likewise: "22 for that table and 23 for one reading", for a work table and an output of these lengths
unfoldable pub calling : List ℕ → List ℕ → ℕ → ℕ → Verdict Blocks
unfolding opening
calling grammar heard work out =
    opening grammar heard work then λ b. pick (ltb out (output_length b.grammar b.heard)) (refused 23) (accepted b)

-- the answer to opening, and the table afterwards, "zeroed on opening"
abbrev pub opened_of : Verdict Blocks → Verdict (Unit {0})
opened_of v = v then λ b. accepted tt

abbrev pub table_opened : Verdict Blocks → List ℕ → List ℕ
table_opened (accepted b) work = replicate (length work) 0
table_opened (refused n) work = work

-- the place afterwards: one more reading was handed out, or nothing was
abbrev pub place_after : A.CallAnswer → Place → Place
place_after Reading p = record { handed = p.handed + 1; opened = p.opened }
place_after NoMore p = p
place_after Full p = p
place_after (Refused n) p = p

-- A search says which table a call makes, of a place and a work table, where it looks for one more reading: the rank of the whole, from 0, behind those that
-- were handed out. The services name theirs (`searched`, on the page Model); of altered tables these papers fix no more of it than what is said here
abbrev pub Search : Type 0
Search = Grammar → Heard → Place → List ℕ → List ℕ

-- the first ranks of all spans and heads are zeros, as opening leaves them
abbrev pub FrontZero : Grammar → Heard → List ℕ → Type 0
FrontZero g h work = take (front g h) work ≡ replicate (front g h) 0

-- That rank is looked for at an opened place, by a first call if the table's front is zeros. Elsewhere the table is taken as it stands: a mark other than 1
-- and a front that is not zeros are altered numbers like others
pub record LooksFor (g : Grammar) (h : Heard) (p : Place) (work : List ℕ) : Type 0 where
  pub opened : p.opened ≡ 1
  pub front_zero : p.handed ≡ 0 → FrontZero g h work

-- a work table before a call, and the table that the search makes of it
module _ (g : Grammar) (h : Heard) (p : Place) (work table : List ℕ) where
  -- what looking for one more leaves and what it adds
  pub record Looked : Type 0 where
    -- a rank that is found stays as it is
    pub stays : (A : Sym) (i k x : ℕ) → Over g h A i k → (e : TableEntry) → entry g h work A i k x ≡ some e → entry g h table A i k x ≡ some e
    -- "The call that gives the first reading adds at most one found rank for each span and head."
    pub first_adds : p.handed ≡ 0 → (A : Sym) (i k : ℕ) → Over g h A i k → found_over g h table A i k ≤ found_over g h work A i k + 1
    -- "After it, a call adds at most 2n−1 found ranks (n being P−1 in a graph) over all spans and heads, counted from the table itself."
    pub later_adds : 1 ≤ p.handed → found_ranks g h table ≤ found_ranks g h work + (2 * last_place h - 1)
    pub as_it_stands : (LooksFor g h p work → ⊥) → table ≡ work

  -- the rank that is asked for is found
  abbrev pub AskedFound : Type 0
  AskedFound = Found g h table (symbol_of 0) 0 (last_place h) p.handed

  -- that rank spells no reading that passes; where it was looked for, it is found
  pub record Misspelled : Type 0 where
    pub looked : Looked
    pub none_passes : (z : Tree) → Derivation g h z → SpelledReading g h table p.handed z → ⊥
    pub found : LooksFor g h p work → AskedFound

  -- that rank was looked for and is not found
  pub record Missing : Type 0 where
    pub looked : Looked
    pub sought : LooksFor g h p work
    pub missing : entry g h table (symbol_of 0) 0 (last_place h) p.handed ≡ none

-- what a call is lent
pub record Lent : Type 0 where
  pub grammar : List ℕ
  pub heard : List ℕ
  pub place : Place
  pub work : List ℕ
  pub out : List ℕ

abbrev pub lent : (grammar heard : List ℕ) → Place → (work out : List ℕ) → Lent
lent grammar heard p work out = record { grammar = grammar; heard = heard; place = p; work = work; out = out }

-- what is refused before the search, or the blocks
abbrev pub asked : Lent → Verdict Blocks
asked l = calling l.grammar l.heard (length l.work) (length l.out)

-- the table that the search makes of what was lent
abbrev pub made : Search → Blocks → Lent → List ℕ
made search b l = search b.grammar b.heard l.place l.work

pub record Unchanged (l : Lent) (r : Left) : Type 0 where
  pub table : r.table ≡ l.work
  pub output : r.output ≡ l.out

-- one more reading was handed out
pub record OneMore (search : Search) (b : Blocks) (l : Lent) (r : Left) : Type 0 where
  -- "what it hands out passes the check": a derivation's reading, of a graph with its zeros
  pub tree : Tree
  pub derivation : Derivation b.grammar b.heard tree
  pub written : r.output ≡ packed b.grammar b.heard tree ++ drop (output_length b.grammar b.heard) l.out
  -- "what a call hands out is spelled from found ranks alone": that rank of the whole, from 0, spells the tree in the table
  pub spelled : SpelledReading b.grammar b.heard r.table l.place.handed tree
  pub looked : Looked b.grammar b.heard l.place l.work r.table
  pub table_is : r.table ≡ made search b l

-- what a call answers that is asked for one more reading: "These two answers change nothing", nor does a refusal. "53 the walk that altered numbers spell is
-- not a reading that passes, last of all"
pub data NextAnswer (search : Search) (b : Blocks) (l : Lent) (r : Left) : Type 0 where
  altered : Misspelled b.grammar b.heard l.place l.work (made search b l) → r.answer ≡ Refused 53 → Unchanged l r → NextAnswer search b l r
  no_more : Missing b.grammar b.heard l.place l.work (made search b l) → r.answer ≡ NoMore → Unchanged l r → NextAnswer search b l r
  one_more : r.answer ≡ Reading → OneMore search b l r → NextAnswer search b l r

-- Whatever place and table are: one more reading is asked for where fewer than 256 were handed out
pub data Called (search : Search) (l : Lent) (r : Left) : Type 0 where
  turned_away : {n : ℕ} → asked l ≡ refused n → r.answer ≡ Refused n → Unchanged l r → Called search l r
  full : {b : Blocks} → asked l ≡ accepted b → 256 ≤ l.place.handed → r.answer ≡ Full → Unchanged l r → Called search l r
  asks : {b : Blocks} → asked l ≡ accepted b → l.place.handed < 256 → NextAnswer search b l r → Called search l r

-- the place after k readings, and the table of `size` numbers: zeros, and then each time what the search makes
abbrev pub place_of : ℕ → Place
place_of k = record { handed = k; opened = 1 }

abbrev pub table_after : Search → Grammar → Heard → (size k : ℕ) → List ℕ
table_after search g h size zero = replicate size 0
table_after search g h size (suc k) = search g h (place_of k) (table_after search g h size k)

-- place and table as they were left after k readings
pub record AsLeft (search : Search) (b : Blocks) (k : ℕ) (p : Place) (work : List ℕ) : Type 0 where
  pub size : ℕ
  pub enough : table_size b.grammar.symbols (last_place b.heard) 256 ≤ size
  pub place : p ≡ place_of k
  pub table : work ≡ table_after search b.grammar b.heard size k

-- after k readings the one with rank k + 1 was handed out
pub record Gives (search : Search) (b : Blocks) (k : ℕ) (l : Lent) (r : Left) : Type 0 where
  pub tree : Tree
  pub ranked : Ranked b.grammar b.heard (suc k) tree
  pub reads : r.answer ≡ Reading
  pub written : r.output ≡ packed b.grammar b.heard tree ++ drop (output_length b.grammar b.heard) l.out
  pub as_left : AsLeft search b (suc k) (place_after r.answer l.place) r.table
  pub stands : Standing b.grammar b.heard r.table

-- "For k up to 256 a call that is not refused, made after k−1 readings were handed out, gives the kth of the listing, or no more exactly if
-- fewer than k exist .. while blocks, place and table come back as they were left." Here k is one less, and n exist
pub record After (search : Search) (b : Blocks) (k : ℕ) (l : Lent) (r : Left) : Type 0 where
  pub gives : (n : ℕ) → Number (Derivation b.grammar b.heard) n → k < n → Gives search b k l r
  pub says_no_more : (n : ℕ) → Number (Derivation b.grammar b.heard) n → n ≤ k → r.answer ≡ NoMore

abbrev pub Kept : Search → Lent → Left → Type 0
Kept search l r =
    (b : Blocks) → asked l ≡ accepted b → (k : ℕ) → k < 256 → AsLeft search b k l.place l.work → After search b k l r
