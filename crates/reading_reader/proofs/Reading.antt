-- A number that was read ends where the next place is, and rule numbers are read one after the other.
-- Assumes nothing.
use mathlib.Core.Path.{◌≡◌, refl, sym, ◌∙◌}
use mathlib.Core.List.{List, []}
use Prim.Native.Nat.{ℕ, suc, ◌+◌, ◌-◌, ◌*◌, ◌≤◌, ◌<◌}
use native.Mathlib.Numerals.{add-one}
use native.Mathlib.Omega.{arith}
use lib.ListN.{length, set, take}
use lib.Seq.{take-suc-set}
use Rattle.std.proofs.Common.{Result, Ok, Err, IfOk}
use Rattle.packing.specs.Parse.{Parse, parsed, failed, ◌⟫◌}
use Rattle.packing.specs.Source.{bytes, field_at}
use Rattle.packing.specs.Read.{field_of, as_parse}
use Rattle.packing.specs.Grammar.{block_kind}
use Rattle.packing.specs.Reading.{reading_slots, reading_weight, rule_number, walk_from, reading_from}
use Rattle.packing.specs.declared.Field.{Field}
use Rattle.packing.specs.declared.refusal.Refusal.{Refusal}
use Rattle.packing.proofs.Taking.{field_at_bytes_out}

pub number_next : (s : List ℕ) (at : ℕ) (f : Field) (r : Result (ℕ × ℕ) Refusal) → as_parse r ≡ field_at (bytes 31 s) at (field_of f)
    → IfOk r (λ read. read.1 ≡ at + f.width)
number_next s at f (Ok (v, next)) e = let n = (field_at_bytes_out 31 s at (field_of f) (sym e)).2 in sym n
number_next s at f (Err n) e = tt

-- the turns of the loop over the rule numbers, which stand in front of the array
module _ (R : ℕ) (s : List ℕ) (count i at : ℕ) (array : List ℕ) where
  pub walk_end : count ≤ i → walk_from (bytes 31 s) R (count - i) at (take i array) ≡ parsed (take i array) at
  unfolding walk_from
  walk_end l = let z : count - i ≡ 0 = omega arith in rw z

  module _ (l : i < count) where
    pub walk_failed : {m : ℕ} → failed m ≡ field_at (bytes 31 s) at (rule_number R) → walk_from (bytes 31 s) R (count - i) at (take i array) ≡ failed m
    unfolding walk_from
    walk_failed e = let z : count - i ≡ suc (count - (i + 1)) = omega arith in rw (z, ← e)

    pub walk_more : {r next : ℕ} → i < length array → parsed r next ≡ field_at (bytes 31 s) at (rule_number R)
        → walk_from (bytes 31 s) R (count - (i + 1)) next (take (i + 1) (set array i r)) ≡ walk_from (bytes 31 s) R (count - i) at (take i array)
    unfolding walk_from
    walk_more h e = let z : count - i ≡ suc (count - (i + 1)) = omega arith in rw (z, ← e, add-one i, take-suc-set)

-- and behind the head
pub read_behind : (n R : ℕ) (s : List ℕ) {kind m w a b c : ℕ} {p : Parse (List ℕ)} → parsed kind a ≡ field_at (bytes 31 s) 0 (block_kind 3 32)
    → parsed m b ≡ field_at (bytes 31 s) a (reading_slots n) → parsed w c ≡ field_at (bytes 31 s) b reading_weight
    → walk_from (bytes 31 s) R (2 * n - 1) c [] ≡ p → reading_from n R s ≡ (p ⟫ λ rs at. parsed (record { slots = n; weight = w; walk = rs }) at)
unfolding reading_from
read_behind n R s e f g h = rw (← e, ← f, ← g, h)
