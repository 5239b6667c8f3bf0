-- The number at the start's cell tells the answer: the least phrase above s, or the least, or that there is none. Assumes nothing.
use mathlib.Core.Path.{◌≡◌, refl, ap}
use mathlib.Core.Bool.{Bool, true, false}
use mathlib.Core.Option.{Option}
use mathlib.Core.List.{List, ◌++◌}
use Prim.Native.Nat.{ℕ, ◌≤◌, ◌<◌}
use native.Mathlib.Omega.{arith}
use lib.Dec.{eqb}
use lib.ListN.{length, take, drop, replicate, length-replicate, get_or-replicate}
use lib.Seq.{length-take-le}
use Rattle.bits.specs.Bits.{pick}
use Rattle.packing.specs.Flat.{Begins, rule_numbers}
use Rattle.packing.specs.Meaning.{Grammar, symbol_of}
use Rattle.packing.specs.Parse.{accepted}
use Rattle.packing.specs.Valid.{ValidGrammar}
use Rattle.derivation.proofs.Ranges.{valid_sizes}
use Rattle.grammar_reader.specs.declared.Sizes.{Sizes}
use Rattle.grammar_reader.specs.Answer.{sizes}
use Rattle.phrases.specs.Phrases.{Phrase, Precedes}
use Rattle.phrases.specs.Enumeration.{first_phrase, next_phrase}
use Rattle.phrases.specs.Numbers.{placed, no_number, Bytes}
use Rattle.phrases.proofs.Yields.{says_yields, yields_says}
use Rattle.phrases.proofs.Least.{Property, LeastOrNone, first, least_unique}
use Rattle.phrases.proofs.Theorems.{yields_below, first_phrase_least, next_phrase_least}
use Rattle.phrases.proofs.Cell.{Of}
use Rattle.phrases.proofs.Numbers.{Kept, kept_same, kept_nothing, kept_first, below_bytes}
use Rattle.specimen.specs.Specimen.{string_length, output_of}
use Rattle.next_phrase.specs.Table.{cell_over, no_cell, cell_at, fill_table, asked_of}
use Rattle.next_phrase.specs.declared.Cell.{Cell}
use Rattle.next_phrase.proofs.Cells.{Holds}
use Rattle.next_phrase.proofs.Right.{start_holds}

-- o is the least string of n bytes with some property, or none, and c keeps it
record Finds (n : ℕ) (o : Option (List ℕ)) (c : ℕ) : Type 1 where
  P : Property
  sized : (t : List ℕ) → P t → (length t ≡ n) × Bytes t
  least : LeastOrNone P o
  kept : Kept 6 P c

module _ (n : ℕ) (h : n ≤ 6) {o : Option (List ℕ)} {c : ℕ} (f : Finds n o c) (out : List ℕ) where
  nothing_told : no_number ≤ c → (0 ≡ string_length o) × (out ≡ output_of (accepted o) out)
  nothing_told b = rw (least_unique f.least (kept_nothing n h f.sized f.kept b)) (refl, refl)

  written_told : c < no_number → {exit : List ℕ} → ((t : List ℕ) → length t ≡ n → Bytes t → c ≡ placed 6 t → exit ≡ t ++ drop n out)
      → (n ≡ string_length o) × (exit ≡ output_of (accepted o) out)
  written_told b w =
      let (t, m, e) = kept_first n h f.sized f.kept b in
      let (z, y) = f.sized t m.0 in
      rw (least_unique f.least (first m), z) (refl, w t z y e)

module _ (g : Grammar) (v : ValidGrammar g) where
  phrase_sized : (n : ℕ) (t : List ℕ) → Phrase g n t → (length t ≡ n) × Bytes t
  phrase_sized n t (l, y) = (l, below_bytes g.words (let few = (valid_sizes g v).3 in omega arith) t (yields_below g v (says_yields g t y)))

  finds_above : (s : List ℕ) (c : Cell) → Holds 6 s (Of g (symbol_of 0) (length s)) c → Finds (length s) (next_phrase g (length s) s) c.above
  finds_above s c (a, b, d) = record {
    P = λ t. Phrase g (length s) t × Precedes s t;
    sized = λ t z. phrase_sized (length s) t z.0;
    least = next_phrase_least g (length s) v s;
    kept = kept_same (λ t z. ((z.0.0, yields_says g t z.0.1), z.1)) (λ t z. ((z.0.0, says_yields g t z.0.1), z.1)) b;
  }

  finds_least : (s : List ℕ) (c : Cell) → Holds 6 s (Of g (symbol_of 0) (length s)) c → Finds (length s) (first_phrase g (length s)) c.least
  finds_least s c (a, b, d) = record {
    P = Phrase g (length s);
    sized = phrase_sized (length s);
    least = first_phrase_least g (length s) v;
    kept = kept_same (λ t z. (z.0, yields_says g t z.1)) (λ t z. (z.0, says_yields g t z.1)) d;
  }

  finds_asked : (call : ℕ) (s : List ℕ) (c : Cell) → Holds 6 s (Of g (symbol_of 0) (length s)) c
      → Finds (length s) (pick (eqb call 0) (next_phrase g (length s) s) (first_phrase g (length s))) (asked_of call c)
  finds_asked call s c k = go (eqb call 0)
    where
      go : (x : Bool) → Finds (length s) (pick x (next_phrase g (length s) s) (first_phrase g (length s))) (pick x c.above c.least)
      go true = finds_above s c k
      go false = finds_least s c k

-- from what the code knows: the table, the start's cell, and what is asked for of it
module _ (n call : ℕ) (pos : 0 < n) (most : n ≤ 6) (out : List ℕ) (room : n ≤ length out) (z : Sizes) (rules : List ℕ)
    {full : List Cell} (p : full ≡ fill_table rules z.rules (take n out) (replicate 1152 no_cell))
    {at : ℕ} (q : at ≡ cell_over (symbol_of 0) 0 n) {cell : Cell} (r : cell ≡ cell_at full at) {found : ℕ} (f : found ≡ asked_of call cell)
    (g : Grammar) (e : z ≡ sizes g) (v : ValidGrammar g) (begins : Begins (rule_numbers g) rules) where
  finds : Finds n (pick (eqb call 0) (next_phrase g n (take n out)) (first_phrase g n)) found
  finds =
      let size = length-take-le n out room in
      let k = start_holds g v rules begins (take n out) (omega (arith, size)) (replicate 1152 no_cell) (length-replicate 1152 no_cell)
      (λ y l. get_or-replicate 1152 y no_cell _ l) (omega (arith, size)) in
      let w : fill_table rules z.rules (take n out) (replicate 1152 no_cell) ≡ fill_table rules (length g.rules) (take n out) (replicate 1152 no_cell) =
      ap (λ (y : Sizes). fill_table rules y.rules (take n out) (replicate 1152 no_cell)) e in
      rw (f, r, q, p, w) (rw size at (finds_asked g v call (take n out) _ k))

  pub nothing_said : no_number ≤ found
      → (0 ≡ string_length (pick (eqb call 0) (next_phrase g n (take n out)) (first_phrase g n)))
      × (out ≡ output_of (accepted (pick (eqb call 0) (next_phrase g n (take n out)) (first_phrase g n))) out)
  nothing_said l = nothing_told n most finds out l

  pub string_said : found < no_number → {exit : List ℕ} → ((t : List ℕ) → length t ≡ n → Bytes t → found ≡ placed 6 t → exit ≡ t ++ drop n out)
      → (n ≡ string_length (pick (eqb call 0) (next_phrase g n (take n out)) (first_phrase g n)))
      × (exit ≡ output_of (accepted (pick (eqb call 0) (next_phrase g n (take n out)) (first_phrase g n))) out)
  string_said l w = written_told n most finds out l w
