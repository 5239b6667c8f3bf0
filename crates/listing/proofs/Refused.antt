-- The refusals of the listing are of the rows grammar block, utterance block with those of graphs, and listing, in the panel with 57 and 58:
-- where the numbers asked for and lent suffice the listing accepts (Accepted). In the library 57 and 58 never come: every accepted
-- block is within its slots, and an N beyond its readings is refused with 21 before. Of any limits, a work table and an output that suffice for the
-- limits themselves are never short.
use mathlib.Core.Path.{◌≡◌, refl}
use mathlib.Core.Bool.{Bool, true, false}
use mathlib.Core.List.{List}
use mathlib.Core.Logic.{inl, inr}
use Prim.Native.Nat.{ℕ, ◌*◌, ◌≤◌, ◌<◌}
use native.Mathlib.Omega.{arith}
use borrow.Author.Tests.{ltb-true, ltb-false}
use lib.Dec.{ltb}
use Rattle.packing.specs.Meaning.{Grammar, Heard, last_place}
use Rattle.packing.specs.Rows.{Between, ◌∪◌, GrammarBlockRow, HeardBlockRow, ListingRow, PanelRow}
use Rattle.packing.specs.Valid.{ValidGrammar, ValidHeard}
use Rattle.packing.proofs.Refusals.{Refuses, granted, denied, three_rows, grammar_block_row}
use Rattle.packing.proofs.GraphRefusals.{heard_block_row}
use Rattle.packing.proofs.Heard.{heard_block_out}
use Rattle.packing.proofs.Whole.{grammar_block_out}
use Rattle.derivation.specs.Heard.{output_length}
use Rattle.derivation.proofs.HeardReadings.{heard_last}
use Rattle.derivation.proofs.Ranges.{valid_sizes, valid_rules}
use Rattle.heard_reader.specs.Answer.{is_graph}
use Rattle.chart.specs.WorkTable.{table_size}
use Rattle.listing.specs.Conditions.{library, panel, conditions}
use Rattle.listing.specs.Listing.{listed, list}
use Rattle.listing_limits.specs.declared.Limits.{Limits}
use Rattle.traced_readings.proofs.Sizes.{size_is}
use Rattle.listing.proofs.Sizes.{most_numbers, most_bytes, table_within, output_within}
use Rattle.listing.proofs.Accepted.{listing_accepts}

-- a row has the numbers of the conditions that hold
pub record Turned (Row : ℕ → Type 0) (l : Limits) (g : Grammar) (h : Heard) (N work out : ℕ) : Type 0 where
  pub long : l.slots < last_place h → Row 57
  pub wanted : Row 21
  pub beyond : l.readings < N → N ≤ 256 → Row 58
  pub table : last_place h ≤ l.slots → N ≤ l.readings → work < table_size g.symbols (last_place h) N → Row 22
  pub room : last_place h ≤ l.slots → N ≤ l.readings → out < N * output_length g h → Row 23

module _ (Row : ℕ → Type 0) (l : Limits) where
  listed_row : (g : Grammar) (h : Heard) (N work out : ℕ) → Turned Row l g h N work out → Refuses Row (listed l g h N work out)
  unfolding listed conditions
  listed_row g h N work out turned =
      go (ltb l.slots (last_place h)) (ltb N 1) (ltb 256 N) (ltb l.readings N) (ltb work (table_size g.symbols (last_place h) N))
      (ltb out (N * output_length g h)) refl refl refl refl refl refl
    where
      go : (a b c d e f : Bool) → ltb l.slots (last_place h) ≡ a → ltb N 1 ≡ b → ltb 256 N ≡ c → ltb l.readings N ≡ d
          → ltb work (table_size g.symbols (last_place h) N) ≡ e → ltb out (N * output_length g h) ≡ f → Refuses Row (listed l g h N work out)
      go true b c d e f p q r s t u = rw p (denied {n = 57} (turned.long (ltb-true _ _ p)))
      go false true c d e f p q r s t u = rw (p, q) (denied {n = 21} turned.wanted)
      go false false true d e f p q r s t u = rw (p, q, r) (denied {n = 21} turned.wanted)
      go false false false true e f p q r s t u = rw (p, q, r, s) (denied {n = 58} (turned.beyond (ltb-true _ _ s) (ltb-false _ _ r)))
      go false false false false true f p q r s t u =
          rw (p, q, r, s, t) (denied {n = 22} (turned.table (ltb-false _ _ p) (ltb-false _ _ s) (ltb-true _ _ t)))
      go false false false false false true p q r s t u =
          rw (p, q, r, s, t, u) (denied {n = 23} (turned.room (ltb-false _ _ p) (ltb-false _ _ s) (ltb-true _ _ u)))
      go false false false false false false p q r s t u =
          rw (listing_accepts g h N l work out (ltb-false _ _ p) (ltb-false _ _ s) (ltb-false _ _ q) (ltb-false _ _ r) (ltb-false _ _ t) (ltb-false _ _ u))
          granted

  -- a refusal is a number of its row
  list_row : (grammar heard : List ℕ) (N work out : ℕ)
      → ((g : Grammar) (h : Heard) → ValidGrammar g → ValidHeard g.words h → Turned Row l g h N work out)
      → Refuses (GrammarBlockRow ∪ HeardBlockRow ∪ Row) (list l grammar heard N work out)
  unfolding list
  list_row grammar heard N work out turned =
      three_rows (grammar_block_row grammar) (λ g e. heard_block_row g.words heard) (λ g h e f.
      listed_row g h N work out (turned g h (grammar_block_out grammar g e).0 (heard_block_out g.words heard h f).0))

module _ (grammar heard : List ℕ) (N work out : ℕ) where
  pub library_row : Refuses (GrammarBlockRow ∪ HeardBlockRow ∪ ListingRow) (list library grammar heard N work out)
  library_row = list_row ListingRow library grammar heard N work out λ g h okg okh. record {
    long = λ long. absurd (omega (arith, heard_last g.words h okh, long));
    wanted = (omega arith, omega arith);
    beyond = λ beyond few. absurd (omega arith);
    table = λ p q short. (omega arith, omega arith);
    room = λ p q short. (omega arith, omega arith);
  }

  pub panel_row : Refuses (GrammarBlockRow ∪ HeardBlockRow ∪ PanelRow) (list panel grammar heard N work out)
  panel_row = list_row PanelRow panel grammar heard N work out λ g h okg okh. record {
    long = λ long. inr (omega arith, omega arith);
    wanted = inl (omega arith, omega arith);
    beyond = λ beyond few. inr (omega arith, omega arith);
    table = λ p q short. inl (omega arith, omega arith);
    room = λ p q short. inl (omega arith, omega arith);
  }

  -- what the limits themselves need is never short: 22 and 23 do not come
  pub enough_row : (l : Limits) → most_numbers l ≤ work → most_bytes l ≤ out
      → Refuses (GrammarBlockRow ∪ HeardBlockRow ∪ (Between 21 21 ∪ Between 57 58)) (list l grammar heard N work out)
  enough_row l numbers bytes = list_row (Between 21 21 ∪ Between 57 58) l grammar heard N work out λ g h okg okh. record {
    long = λ long. inr (omega arith, omega arith);
    wanted = inl (omega arith, omega arith);
    beyond = λ beyond few. inr (omega arith, omega arith);
    table = λ p q short. absurd (omega (arith, table_within l (valid_sizes g okg).1 p q));
    room = λ p q short.
        let few = rw (size_is g h) at (output_within l (is_graph h) p (valid_rules g okg) q) in
        absurd (omega (arith, few, short));
  }
