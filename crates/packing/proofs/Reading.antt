-- A reading of n slots is read from a block's bytes exactly if its entries are taken there.
-- Assumes nothing.
use mathlib.Core.Path.{◌≡◌, refl, sym, ap}
use mathlib.Core.List.{List, [], ◌∷◌, ◌++◌, append_assoc, append-nil}
use Prim.Native.Nat.{ℕ, zero, suc, ◌-◌, ◌*◌}
use native.Mathlib.Omega.{arith}
use lib.ListN.{length}
use Rattle.packing.specs.Meaning.{Reading}
use Rattle.packing.specs.Parse.{parsed}
use Rattle.packing.specs.Source.{Source, bytes, field_at}
use Rattle.packing.specs.Grammar.{block_kind}
use Rattle.packing.specs.Reading.{reading_slots, reading_weight, rule_number, walk_from, reading_from, walk_entries, reading_entries}
use Rattle.packing.proofs.Parse.{through, same_parsed}
use Rattle.packing.proofs.Bounds.{field_at_range}
use Rattle.packing.proofs.Taken.{Taken, all, more}

module _ (src : Source) (R : ℕ) where
  -- m rule numbers behind the earlier ones
  abbrev Walk : ℕ → List ℕ → ℕ → List ℕ → ℕ → Type 0
  Walk at rs m ts next = (new : List ℕ) × (ts ≡ rs ++ new) × (length new ≡ m) × Taken src at (walk_entries R new) next

  walk_out : (m at : ℕ) (rs : List ℕ) {ts : List ℕ} {next : ℕ} → walk_from src R m at rs ≡ parsed ts next → Walk at rs m ts next
  unfolding walk_from walk_entries
  walk_out zero at rs e = same_parsed (Walk at rs 0) e ([], sym (append-nil rs), refl, all)
  walk_out (suc m) at rs e =
      through (field_at src at (rule_number R)) _ e λ r a p e.
      let (new, x, l, t) = walk_out m a (rs ++ (r ∷ [])) e in
      (r ∷ new, rw append_assoc at x, ap suc l, more p t)

  walk_back : {at : ℕ} (rs new : List ℕ) {next : ℕ} → Taken src at (walk_entries R new) next → walk_from src R (length new) at rs ≡ parsed (rs ++ new) next
  unfolding walk_from walk_entries
  walk_back rs [] all = rw append-nil
  walk_back rs (r ∷ new) (more p t) = rw (p, walk_back (rs ++ (r ∷ [])) new t, append_assoc)

-- a reading of n slots stands in the source, up to a place
abbrev pub Reads : ℕ → Source → ℕ → Reading → ℕ → Type 0
Reads n src R d next = Taken src 0 (reading_entries R d) next × (d.slots ≡ n) × (length d.walk ≡ 2 * n - 1)

module _ (n R : ℕ) (s : List ℕ) where
  pub reading_out : {d : Reading} {next : ℕ} → reading_from n R s ≡ parsed d next → Reads n (bytes 31 s) R d next
  unfolding reading_from reading_entries
  reading_out e =
      let src : Source = bytes 31 s in
      through (field_at src 0 (block_kind 3 32)) _ e λ kind a p e. through (field_at src a (reading_slots n)) _ e λ m b q e.
      through (field_at src b reading_weight) _ e λ w c r e. through (walk_from src R (2 * n - 1) c []) _ e λ rs z k e.
      let (new, x, l, t) = walk_out src R (2 * n - 1) c [] k in
      let kind_is : kind ≡ 3 = omega (arith, field_at_range (block_kind 3 32) src 0 p) in
      let slots_is : m ≡ n = omega (arith, field_at_range (reading_slots n) src a q) in
      let y : Reads n src R (record { slots = n; weight = w; walk = rs }) z =
      rw x (more (rw kind_is at p) (more (rw slots_is at q) (more r t)), refl, l) in
      same_parsed (Reads n src R) e y

pub reading_back : (R : ℕ) (s : List ℕ) (d : Reading) {next : ℕ} → Taken (bytes 31 s) 0 (reading_entries R d) next → length d.walk ≡ 2 * d.slots - 1
    → reading_from d.slots R s ≡ parsed d next
unfolding reading_from reading_entries
reading_back R s d (more p (more q (more r t))) l = rw (p, q, r, ← l, walk_back (bytes 31 s) R [] d.walk t)
