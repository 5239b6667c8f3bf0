-- When a block is too short, and the stages of a node: each way out of the reader is one of them. Assumes nothing.
use mathlib.Core.Path.{◌≡◌}
use mathlib.Core.List.{List}
use mathlib.Core.Option.{none, some}
use Prim.Native.Nat.{ℕ, ◌+◌, ◌*◌, ◌/◌, ◌<◌}
use native.Mathlib.Omega.{arith}
use native.Mathlib.Decide.{dec_lt}
use borrow.Author.Tests.{lt-ltb, le-ltb}
use lib.Dec.{ltb}
use lib.ListN.{length, get_elem?}
use Rattle.packing.specs.Meaning.{by_pair, by_word}
use Rattle.packing.specs.declared.Sym.{Sym}
use Rattle.packing.specs.declared.Word as W
use Rattle.packing.specs.declared.Rule as R
use Rattle.packing.specs.declared.Rule.TheVariants.{Pair, Word}
use Rattle.packing.specs.Parse.{parsed, failed}
use Rattle.packing.specs.Source.{Source, field_at}
use Rattle.packing.specs.Reading.{rule_number}
use Rattle.packing.specs.GraphReading.{edge_number}
use Rattle.derivation.specs.Path.{node_by, node_from}

-- whole bytes are too few exactly when their bits are
pub bytes_lack : (m n : ℕ) → ltb m ((n + 7) / 8) ≡ ltb (8 * m) n
bytes_lack m n = go (dec_lt (8 * m) n)
  where
    go : Dec (8 * m < n) → ltb m ((n + 7) / 8) ≡ ltb (8 * m) n
    go (yes h) = rw (lt-ltb (8 * m) n h, lt-ltb m ((n + 7) / 8) (omega arith))
    go (no h) = rw (le-ltb (8 * m) n (omega arith), le-ltb m ((n + 7) / 8) (omega arith))

-- a node
module _ (rules : List R.Rule) (src : Source) (at : ℕ) where
  pub no_number : {n : ℕ} → field_at src at (rule_number (length rules)) ≡ failed n → node_from rules src at ≡ failed n
  unfolding node_from
  no_number p = rw p

  module _ (r mid : ℕ) (p : field_at src at (rule_number (length rules)) ≡ parsed r mid) where
    pub no_rule : get_elem? rules r ≡ none → node_from rules src at ≡ failed 34
    unfolding node_from node_by
    no_rule o = rw (p, o)

    pub pair_node : {A B C : Sym} {w : ℕ} → get_elem? rules r ≡ some (Pair A B C w) → node_from rules src at ≡ parsed (by_pair r) mid
    unfolding node_from node_by
    pair_node o = rw (p, o)

    pub no_edge : {A : Sym} {x : W.Word} {w n : ℕ} → get_elem? rules r ≡ some (Word A x w) → field_at src mid edge_number ≡ failed n
        → node_from rules src at ≡ failed n
    unfolding node_from node_by
    no_edge o q = rw (p, o, q)

    pub word_node : {A : Sym} {x : W.Word} {w e next : ℕ} → get_elem? rules r ≡ some (Word A x w) → field_at src mid edge_number ≡ parsed e next
        → node_from rules src at ≡ parsed (by_word r e) next
    unfolding node_from node_by
    word_node o q = rw (p, o, q)
