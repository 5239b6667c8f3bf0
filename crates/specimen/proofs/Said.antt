-- The string at the start's cell tells the answer: none, or the first phrase of the length. Assumes nothing.
use mathlib.Core.Path.{◌≡◌, refl, sym, ap, ◌∙◌}
use mathlib.Core.Bool.{Bool, true, false}
use mathlib.Core.Option.{Option, none, some}
use mathlib.Core.List.{List, ◌++◌}
use Prim.Native.Nat.{ℕ, ◌+◌, ◌-◌, ◌*◌, ◌≤◌, ◌<◌}
use native.Mathlib.Omega.{arith}
use borrow.Author.Tests.{eqb-true, eqb-false}
use lib.Dec.{eqb}
use lib.ListN.{length, get_or, take, drop, replicate}
use lib.Seq.{take_at}
use Rattle.bits.specs.Bits.{pick}
use Rattle.packing.specs.Meaning.{Grammar, symbol_of}
use Rattle.packing.specs.Parse.{accepted}
use Rattle.packing.specs.Flat.{Begins, rule_numbers, rule_at}
use Rattle.packing.specs.Valid.{ValidGrammar}
use Rattle.packing.proofs.Flat.{rule_at_lem}
use Rattle.grammar_reader.specs.declared.Sizes.{Sizes}
use Rattle.grammar_reader.specs.Answer.{sizes}
use Rattle.derivation.proofs.Ranges.{Within, all_at, valid_sizes, valid_within}
use Rattle.phrases.specs.Enumeration.{first_phrase}
use Rattle.phrases.specs.Recursion.{cell_of}
use Rattle.phrases.proofs.Yields.{says_yields}
use Rattle.phrases.proofs.Theorems.{yields_below, first_phrase_least}
use Rattle.phrases.proofs.Cell.{Stored}
use Rattle.phrases.proofs.Keeping.{Sized, Each, string, each}
use Rattle.phrases.proofs.Padded.{Pads, word_first, first_filled}
use Rattle.phrases.specs.Padded.{string_at}
use Rattle.specimen.specs.Specimen.{string_length, output_of}
use Rattle.specimen.specs.Table.{fitted_at, fill_table}
use Rattle.specimen.proofs.Parts.{fitted_is}

-- the answer and the output, from the padded string that stands for o
module _ (W n : ℕ) (w : W ≤ 200) (pos : 0 < n) where
  nothing_told : (o : Option (List ℕ)) (c out : List ℕ) → Each (Sized W n) o → Pads n o c → get_or c 0 0 ≡ 255
      → (0 ≡ string_length o) × (out ≡ output_of (accepted o) out)
  nothing_told none c out s e h = (refl, refl)
  nothing_told (some t) c out (string s) e h =
      let l = word_first W w n t (replicate (24 - n) 0) pos s in
      let z : get_or (t ++ replicate (24 - n) 0) 0 0 ≡ 255 = rw e at h in
      absurd (omega arith)

  written_told : (o : Option (List ℕ)) (c out : List ℕ) → Each (Sized W n) o → Pads n o c → (get_or c 0 0 ≡ 255 → ⊥) → {x : List ℕ} → x ≡ take n c
      → (n ≡ string_length o) × (x ++ drop n out ≡ output_of (accepted o) out)
  written_told none c out s e h p = absurd (h (ap (λ (l : List ℕ). get_or l 0 0) e))
  written_told (some t) c out (string s) e h p = (sym s.0, rw (p, e, take_at t (replicate (24 - n) 0) n s.0, s.0))

module _ (g : Grammar) (v : ValidGrammar g) (rules : List ℕ) (b : Begins (rule_numbers g) rules) where
  pub stored : Stored g (fitted_at rules)
  stored r h =
      let at = rule_at_lem g rules r b h in
      let few = valid_sizes g v in
      rw (fitted_is g.symbols g.words few.1 few.3 (rule_at rules r) (all_at (Within g.symbols g.words) g.rules r (valid_within g v) at)) at

  -- from what the code knows: the table, and where the start's string begins
  module _ (n : ℕ) (pos : 0 < n) (most : n ≤ 24) (z : Sizes) (e : z ≡ sizes g) (t : List (List ℕ)) (room : length t ≡ 768)
      {full : List (List ℕ)} (p : full ≡ fill_table rules z.rules n t) {at : ℕ} (q : at ≡ cell_of (symbol_of 0) n) where
    found : Pads n (first_phrase g n) (string_at full at)
    found =
        let h = first_filled g v (fitted_at rules) stored n pos most t (omega arith) in
        let f : full ≡ fill_table rules (length g.rules) n t = p ∙ ap (λ (y : Sizes). fill_table rules y.rules n t) e in
        rw (q, f) h

    all_sized : Each (Sized g.words n) (first_phrase g n)
    all_sized = each (λ t p. (p.0, yields_below g v (says_yields g t p.1))) (first_phrase_least g n v)

    nothing_said : (out : List ℕ) → get_or (string_at full at) 0 0 ≡ 255
        → (0 ≡ string_length (first_phrase g n)) × (out ≡ output_of (accepted (first_phrase g n)) out)
    nothing_said out h = nothing_told g.words n (valid_sizes g v).3 pos (first_phrase g n) _ out all_sized found h

    string_said : (out : List ℕ) {x : List ℕ} → (get_or (string_at full at) 0 0 ≡ 255 → ⊥) → x ≡ take n (string_at full at)
        → (n ≡ string_length (first_phrase g n)) × (x ++ drop n out ≡ output_of (accepted (first_phrase g n)) out)
    string_said out h p = written_told g.words n (valid_sizes g v).3 pos (first_phrase g n) _ out all_sized found h p

    pub said : (out : List ℕ) {m : ℕ} {exit : List ℕ} → m ≡ pick (eqb (get_or (string_at full at) 0 0) 255) 0 n
        → exit ≡ pick (eqb (get_or (string_at full at) 0 0) 255) out (take n (string_at full at) ++ drop n out)
        → (m ≡ string_length (first_phrase g n)) × (exit ≡ output_of (accepted (first_phrase g n)) out)
    said out {m} {exit} p q = go (eqb (get_or (string_at full at) 0 0) 255) refl p q
      where
        go : (b : Bool) → eqb (get_or (string_at full at) 0 0) 255 ≡ b → m ≡ pick b 0 n → exit ≡ pick b out (take n (string_at full at) ++ drop n out)
            → (m ≡ string_length (first_phrase g n)) × (exit ≡ output_of (accepted (first_phrase g n)) out)
        go true e p q = let (x, y) = nothing_said out (eqb-true _ _ e) in (p ∙ x, q ∙ y)
        go false e p q = let (x, y) = string_said out (eqb-false _ _ e) refl in (p ∙ x, q ∙ y)
