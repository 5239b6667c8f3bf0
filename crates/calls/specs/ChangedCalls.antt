-- Costs that change, and slots redrawn as a graph, of several calls: document 02, N12, "each entry must hold when the cost is changed and the listing run
-- afresh"; N11, "both of them reached"; N1, "slots .., redrawn as a graph, give the same derivations in the same order". Each follows from what every
-- call promises, the records of Demands; proofs/ChangedCalls has the theorems. Stands on Demands, on RearrangedCalls for the weight that a reading
-- holds, and on cost_changes' Margins and Ranges for what it is to lower a cost and to choose costs.
use Rattle.std.specs.Prelude.{◌≡◌, ◌↔◌, List, ℕ, ◌*◌, ◌≤◌, ◌<◌, ℤ, pos, length, take, drop}
use Rattle.packing.specs.Meaning.{not_heard, word, Grammar, Utterance, Candidate, candidate, Heard, slots, graph, last_place, redrawn}
use Rattle.packing.specs.Parse.{accepted}
use Rattle.packing.specs.Grammar.{grammar_block}
use Rattle.packing.specs.Utterance.{utterance_block}
use Rattle.packing.specs.Heard.{heard_block}
use Rattle.derivation.specs.Derivation.{At, Tree}
use Rattle.derivation.specs.Heard.{output_length, packed}
use Rattle.derivation.specs.Rank.{◌∈◌}
use Rattle.chart.specs.WorkTable.{table_size}
use Rattle.traced_readings.specs.Ranked.{Ranked}
use Rattle.listing.specs.Demand3.{kth_bytes}
use Rattle.cost_changes.specs.Costs.{First}
use Rattle.cost_changes.specs.Ranges.{Choice}
use Rattle.cost_changes.specs.Margins.{lower_word, UsesWord, entry, entry_numbers}
use Rattle.spireyerba.specs.Demands.{Listing, CostRanges, WordMargins}
use Rattle.calls.specs.RearrangedCalls.{weight_held}

-- a call of the listing on blocks of g and h, asked for N readings, from 1 to 256, and lent enough for them: its code, and the output that it leaves
pub record ListingCall (g : Grammar) (h : Heard) (N : ℕ) (code : ℤ) (written : List ℕ) : Type 0 where
  pub grammar : List ℕ
  pub heard : List ℕ
  pub grammar_is : grammar_block grammar ≡ accepted g
  pub heard_is : heard_block g.words heard ≡ accepted h
  pub asked : (1 ≤ N) × (N ≤ 256)
  pub work : List ℕ
  pub out : List ℕ
  pub enough : (table_size g.symbols (last_place h) N ≤ length work) × (N * output_length g h ≤ length out)
  pub work' : List ℕ
  pub call : Listing grammar heard N work out code work' written

-- the weight that the first reading of an output holds
abbrev pub first_held : Grammar → Heard → List ℕ → ℕ
first_held g h out = weight_held (kth_bytes (output_length g h) 1 out)

-- N12. A call on blocks of g and u that answers m, and the output that it leaves
pub record MarginsCall (g : Grammar) (u : Utterance) (m : ℕ) (written : List ℕ) : Type 0 where
  pub grammar : List ℕ
  pub utterance : List ℕ
  pub grammar_is : grammar_block grammar ≡ accepted g
  pub utterance_is : utterance_block g.words utterance ≡ accepted u
  pub work : List ℕ
  pub out : List ℕ
  pub work' : List ℕ
  pub call : WordMargins grammar utterance work out (pos m) work' written

-- among the m entries of an output there is one of amount d for word x in slot s
abbrev pub HasEntry : (m : ℕ) (out : List ℕ) (s x d : ℕ) → Type 0
HasEntry m out s x d = (k v : ℕ) × (k < m) × (take 4 (drop (4 * k) out) ≡ entry_numbers (entry d s x v))

-- slot s offers word x at cost c
abbrev pub Offers : Utterance → (s x c : ℕ) → Type 0
Offers u s x c = (slot : List Candidate) × At u s slot × (candidate (word x) c ∈ slot) × (c < not_heard)

-- "each entry must hold when the cost is changed and the listing run afresh, and a fall smaller by one must bring none": where the cost of an offered word
-- falls by f, the listing run afresh answers as many readings, and its first weight is less than that of the listing before exactly if the word's entry is
-- of no more than f. For a word without an entry, which the first reading does not use there, it never is.
abbrev pub AfreshCalls : Type 0
AfreshCalls =
    (g : Grammar) (u : Utterance) (m : ℕ) (entries : List ℕ) → MarginsCall g u m entries
    → (s x c f : ℕ) → Offers u s x c → f ≤ c → (u' : Utterance) → u' ≡ lower_word f s (word x) u
    → (N : ℕ) (code code' : ℤ) (out out' : List ℕ) → ListingCall g (slots u) N code out → ListingCall g (slots u') N code' out'
    → (n : ℕ) × (code ≡ pos n) × (code' ≡ pos n)
    × ((d : ℕ) → HasEntry m entries s x d → (1 ≤ n) × ((first_held g (slots u') out' < first_held g (slots u) out) ↔ (d ≤ f)))
    × (((d : ℕ) → ¬ HasEntry m entries s x d) → ((t : Tree) → First g u t → ¬ UsesWord u t s (word x)) → 1 ≤ n
    → ¬ (first_held g (slots u') out' < first_held g (slots u) out))

-- N11. A call on blocks of g, low and high that answers 1 or 2, and the two weights that it writes
pub record RangesCall (g : Grammar) (low high : Utterance) (least greatest : ℕ) : Type 0 where
  pub grammar : List ℕ
  pub low_block : List ℕ
  pub high_block : List ℕ
  pub grammar_is : grammar_block grammar ≡ accepted g
  pub low_is : utterance_block g.words low_block ≡ accepted low
  pub high_is : utterance_block g.words high_block ≡ accepted high
  pub work : List ℕ
  pub before : ℕ
  pub before' : ℕ
  pub answer : ℕ
  pub some_reading : 1 ≤ answer
  pub work' : List ℕ
  pub call : CostRanges grammar low_block high_block work before before' (pos answer) work' least greatest

-- "the least and the greatest first weight over all choices between low and high, both of them reached": a listing under any choice of costs answers at
-- least one reading, and its first weight is from least to greatest; under all low it is the least, under all high the greatest.
abbrev pub ReachedCalls : Type 0
ReachedCalls =
    (g : Grammar) (low high : Utterance) (least greatest : ℕ) → RangesCall g low high least greatest
    → (c : Utterance) → Choice low high c → (N : ℕ) (code : ℤ) (out : List ℕ) → ListingCall g (slots c) N code out
    → (n : ℕ) × (code ≡ pos n) × (1 ≤ n) × (least ≤ first_held g (slots c) out) × (first_held g (slots c) out ≤ greatest)
    × (c ≡ low → first_held g (slots c) out ≡ least) × (c ≡ high → first_held g (slots c) out ≡ greatest)

-- N1. "slots with at most 96 words in all, redrawn as a graph, give the same derivations in the same order": of slots with more no block is their graph's.
-- Both listings answer the same number, and at each rank they hold the reading of one derivation, as slots have it and as a graph does.
abbrev pub RedrawnCalls : Type 0
RedrawnCalls =
    (g : Grammar) (u : Utterance) (N : ℕ) (code code' : ℤ) (out out' : List ℕ)
    → ListingCall g (slots u) N code out → ListingCall g (graph (redrawn u)) N code' out'
    → (n : ℕ) × (code ≡ pos n) × (code' ≡ pos n)
    × ((k : ℕ) → 1 ≤ k → k ≤ n → (t : Tree) × Ranked g (slots u) k t × Ranked g (graph (redrawn u)) k t
    × (kth_bytes (output_length g (slots u)) k out ≡ packed g (slots u) t)
    × (kth_bytes (output_length g (graph (redrawn u))) k out' ≡ packed g (graph (redrawn u)) t))
