-- The array that an utterance was read into gives back its fields, how many bits they take, its block and its sheet.
-- Assumes nothing.
use mathlib.Core.Path.{◌≡◌, refl, sym, ap, subst}
use mathlib.Core.List.{List, [], ◌∷◌, ◌++◌, map-append}
use Prim.Native.Nat.{ℕ, suc, ◌+◌, ◌-◌, ◌*◌, ◌/◌, ◌≤◌}
use native.Mathlib.Nat.{zero-mul, suc-mul, add-mul}
use native.Mathlib.Omega.{arith}
use lib.ListN.{length, take, length-append, length-map}
use Rattle.bits.specs.Width.{width_of}
use Rattle.bits.specs.Fields.{widths}
use Rattle.bits.proofs.Fields.{widths_append}
use Rattle.packing.specs.Meaning.{Candidate, candidate, Utterance}
use Rattle.packing.specs.Parse.{Verdict, accepted, refused, ◌then◌}
use Rattle.packing.specs.Source.{fld_of, flds}
use Rattle.packing.specs.Utterance.{candidates_entries, slots_entries, utterance_entries, block_of_utterance, sheet_of_utterance}
use Rattle.packing.specs.Flat.{Begins, slot_numbers, SlotsIn}
use Rattle.packing.proofs.Flat.{slots_of_lem}
use Rattle.packing.proofs.Bounds.{length_candidates}
use Rattle.packing.proofs.Parse.{accepted_is, refused≢accepted}
use Rattle.utterance_reader.specs.Answer.{utterance_size}
use Rattle.utterance_reader.specs.declared.UtteranceSize.{UtteranceSize}
use Rattle.sheet_writer.specs.Arrays.{slots_fields, slots_bits, utterance_fields, block_of}

module _ (W : ℕ) where
  slots_in : (u : Utterance) (l : List ℕ) → Begins (slot_numbers W u) l → slots_fields W l 0 (length u) ≡ flds (slots_entries W u)
  slots_in u l b = ap (λ (v : Utterance). flds (slots_entries W v)) (slots_of_lem W u l b)

  -- each slot has one number and three bits, and two numbers, and a word's and 16 bits, for each candidate
  candidates_bits : (cs : List Candidate) (least : ℕ) → widths (flds (candidates_entries W least cs)) ≡ length cs * (width_of (W - 1) + 16)
  unfolding candidates_entries widths
  candidates_bits [] least = rw zero-mul
  candidates_bits (candidate w c ∷ cs) least = rw (candidates_bits cs (suc w.0), suc-mul) (omega arith)

  counted : (u : Utterance)
      → (k : ℕ) × (length (slot_numbers W u) ≡ length u + 2 * k) × (widths (flds (slots_entries W u)) ≡ 3 * length u + k * (width_of (W - 1) + 16))
  unfolding slots_entries widths
  counted [] = (0, refl, rw zero-mul)
  counted (cs ∷ u) =
      let es = candidates_entries W 0 cs in
      let (k, n, b) = counted u in (
        length cs + k,
        simp (length-append, length-map, length_candidates) (omega (arith, rw length-map at n)),
        rw (map-append fld_of es (slots_entries W u), widths_append, candidates_bits cs 0, add-mul) (omega arith),
      )

  slots_bits_lem : (u : Utterance) → (length u ≤ length (slot_numbers W u))
      × (widths (flds (slots_entries W u)) ≡ slots_bits W (length u) (length (slot_numbers W u)))
  slots_bits_lem u =
      let (k, n, b) = counted u in
      let h : (length (slot_numbers W u) - length u) / 2 ≡ k = omega arith in
      (omega arith, rw h b)

  -- what a reader's answer tells of what is to be written, from an array l that begins with the numbers
  pub record Told (v : Verdict Utterance) (z : UtteranceSize) (l : List ℕ) : Type 0 where
    pub size : z.count ≤ z.numbers
    pub bits : widths (slots_fields W l 0 z.count) ≡ slots_bits W z.count z.numbers
    pub block : (v then λ u. accepted (block_of_utterance W u)) ≡ accepted (block_of (utterance_fields W z.count l))
    pub sheet : (v then λ u. accepted (sheet_of_utterance W u)) ≡ accepted ((z.count ∷ []) ++ take z.numbers l)

  made : (u : Utterance) (l : List ℕ) → Begins (slot_numbers W u) l → Told (accepted u) (utterance_size W u) l
  unfolding block_of_utterance sheet_of_utterance utterance_entries
  made u l b = record {
    size = (slots_bits_lem u).0;
    bits = rw (slots_in u l b) (slots_bits_lem u).1;
    block = rw (slots_in u l b);
    sheet = rw b;
  }

  pub told : (v : Verdict Utterance) {z : UtteranceSize} → accepted z ≡ (v then λ u. accepted (utterance_size W u)) → (l : List ℕ) → SlotsIn W v l
      → Told v z l
  told (accepted u) {z} e l b =
      let s : utterance_size W u ≡ z = sym (accepted_is e) in subst (λ (y : UtteranceSize). Told (accepted u) y l) s (made u l b)
  told (refused n) e l b = absurd (refused≢accepted (sym e))
