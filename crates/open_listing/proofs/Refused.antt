-- The refusals of opening are of the rows grammar block and utterance block with those of graphs, then 22; those of a call have 23 and 53 besides.
use mathlib.Core.Path.{◌≡◌, refl}
use mathlib.Core.Logic.{inl, inr}
use mathlib.Core.List.{List}
use Prim.Native.Nat.{ℕ, ◌<◌}
use native.Mathlib.Omega.{arith}
use lib.Dec.{ltb}
use lib.ListN.{length}
use Rattle.packing.specs.Meaning.{last_place}
use Rattle.packing.specs.Rows.{◌∪◌, GrammarBlockRow, HeardBlockRow, OpenRow, CallRow}
use Rattle.packing.proofs.Refusals.{Refuses, granted, denied, refusal_number, wider, then_row, choose_row, grammar_block_row}
use Rattle.packing.proofs.GraphRefusals.{heard_block_row}
use Rattle.derivation.specs.Heard.{output_length}
use Rattle.chart.specs.WorkTable.{table_size}
use Rattle.open_listing.specs.Open as S
use Rattle.open_listing.specs.Open.{opening, calling}
use Rattle.open_answer.specs.Answer.{Reading, Refused}

pub opening_row : (grammar heard : List ℕ) (work : ℕ) → Refuses (GrammarBlockRow ∪ HeardBlockRow ∪ OpenRow) (opening grammar heard work)
unfolding opening
opening_row grammar heard work =
    then_row (wider (λ n r. inl (inl r)) (grammar_block_row grammar)) λ g e.
    then_row (wider (λ n r. inl (inr r)) (heard_block_row g.words heard)) λ h f.
    choose_row (ltb work (table_size g.symbols (last_place h) 256)) (denied {n = 22} (inr refl)) granted

pub calling_row : (grammar heard : List ℕ) (work out : ℕ) → Refuses (GrammarBlockRow ∪ HeardBlockRow ∪ CallRow) (calling grammar heard work out)
unfolding calling opening
calling_row grammar heard work out =
    then_row (then_row (wider (λ n r. inl (inl r)) (grammar_block_row grammar)) λ g e.
    then_row (wider (λ n r. inl (inr r)) (heard_block_row g.words heard)) λ h f.
    choose_row (ltb work (table_size g.symbols (last_place h) 256)) (denied {n = 22} (inr (inl (omega arith, omega arith)))) granted) λ b k.
    choose_row (ltb out (output_length b.grammar b.heard)) (denied {n = 23} (inr (inl (omega arith, omega arith)))) granted

-- of a call's answer
module _ {search : S.Search} {l : S.Lent} {r : S.Left} where
  pub refused_row : S.Called search l r → (n : ℕ) → r.answer ≡ Refused n → (GrammarBlockRow ∪ HeardBlockRow ∪ CallRow) n
  refused_row (S.turned_away {n = m} e is same) n f =
      let equal : m ≡ n = cc in
      refusal_number (calling_row l.grammar l.heard (length l.work) (length l.out)) (rw equal at e)
  refused_row (S.full e many is same) n f = let z : ◌≡◌ {A = ℕ} 0 1 = cc in absurd (omega arith)
  refused_row (S.asks e below (S.altered misspelled is same)) n f = let equal : 53 ≡ n = cc in rw (← equal) (inr (inr (omega arith, omega arith)))
  refused_row (S.asks e below (S.no_more missing is same)) n f = let z : ◌≡◌ {A = ℕ} 0 1 = cc in absurd (omega arith)
  refused_row (S.asks e below (S.one_more is more)) n f = let z : ◌≡◌ {A = ℕ} 0 1 = cc in absurd (omega arith)

  pub reading_below : S.Called search l r → r.answer ≡ Reading → l.place.handed < 256
  reading_below (S.turned_away e is same) f = let z : ◌≡◌ {A = ℕ} 0 1 = cc in absurd (omega arith)
  reading_below (S.full e many is same) f = let z : ◌≡◌ {A = ℕ} 0 1 = cc in absurd (omega arith)
  reading_below (S.asks e below (S.altered misspelled is same)) f = below
  reading_below (S.asks e below (S.no_more missing is same)) f = below
  reading_below (S.asks e below (S.one_more is more)) f = below
