-- The rows of the lister: document 01, "Checked examples": for each reading rank, weight, node rule numbers; of slots and of graphs alike (document
-- 02, N1); and "the lister leaves helper nodes out" (N5). Stands on packing's and derivation's definitions, on listing's Conditions and on
-- office_theory's Matching.
use Rattle.std.specs.Prelude.{◌≡◌, List, ◌∷◌, ◌++◌, map, ℕ, ◌-◌, ◌*◌, ◌≤◌, min, ltb, length, take, drop, replicate}
use Rattle.bits.specs.Bits.{pick}
use Rattle.packing.specs.Meaning.{Grammar, Marked, mark_in, grammar_of, Heard, heard_edges}
use Rattle.packing.specs.Parse.{Verdict, accepted, refused}
use Rattle.packing.specs.Grammar.{marked_block}
use Rattle.packing.specs.Heard.{heard_block}
use Rattle.derivation.specs.Derivation.{Tree, Derivation, weight, walk}
use Rattle.derivation.specs.Rank.{Number}
use Rattle.traced_readings.specs.Ranked.{Ranked}
use Rattle.listing.specs.Conditions.{library, asked_listing}
use Rattle.office_theory.specs.Matching.{without_marked}

-- a row of 50 numbers: rank, weight, how many rule numbers, these, and zeros; no derivation has more than 47 nodes
abbrev pub row : (rank weight : ℕ) (numbers : List ℕ) → List ℕ
row rank w l = rank ∷ w ∷ length l ∷ l ++ replicate (47 - length l) 0

-- the rule numbers of a derivation's nodes, without those whose rules are marked
abbrev pub shown_of : Marked → Tree → List ℕ
shown_of m t = without_marked (map mark_in m.rules) (walk t)

abbrev pub row_of : (rank : ℕ) → Marked → Heard → Tree → List ℕ
row_of rank m h t = row rank (weight (grammar_of m) (heard_edges h) t) (shown_of m t)

-- the kth 50 numbers, k from 1
abbrev pub kth_row : ℕ → List ℕ → List ℕ
kth_row k shown = take 50 (drop ((k - 1) * 50) shown)

-- what both blocks mean; the lesser of 8 and the number of derivations is found; for every k from 1 to it the row of the derivation with rank k
-- stands there; and what stands beyond is unchanged
pub record Rows (grammar heard : List ℕ) (found : ℕ) (shown shown' : List ℕ) : Type 0 where
  pub m : Marked
  pub h : Heard
  pub grammar_means : marked_block grammar ≡ accepted m
  pub heard_means : heard_block m.words heard ≡ accepted h
  pub derivations : ℕ
  pub finitely_many : Number (Derivation (grammar_of m) h) derivations
  pub found_is : found ≡ min 8 derivations
  pub rows : (k : ℕ) → 1 ≤ k → k ≤ found → (t : Tree) × Ranked (grammar_of m) h k t × (kth_row k shown' ≡ row_of k m h t)
  pub beyond : drop (found * 50) shown' ≡ drop (found * 50) shown

-- the bytes of output that count: where the rows of eight readings have no room, none do, and so 23 is due where nothing else is
abbrev pub room_for : (out shown : ℕ) → ℕ
room_for out shown = pick (ltb shown 400) 0 out

-- what an answer says: eight readings are asked of the listing, for a work table and an output of these lengths; a refusal is the listing's, and changes
-- nothing
abbrev pub Told : (grammar heard : List ℕ) (work room : ℕ) → Verdict ℕ → (shown shown' : List ℕ) → Type 0
Told grammar heard work room (accepted found) shown shown' =
    ((b : Grammar × Heard) × (asked_listing library grammar heard 8 work room ≡ accepted b)) × Rows grammar heard found shown shown'
Told grammar heard work room (refused n) shown shown' = (asked_listing library grammar heard 8 work room ≡ refused n) × (shown' ≡ shown)
