-- Calls one after another hand out every phrase once, ascending, and then say "end": call k answers phrase k, and above phrase k comes
-- phrase k + 1. Assumes nothing.
use mathlib.Core.Path.{◌≡◌, refl, sym, ap, ◌∙◌}
use mathlib.Core.Option.{Option, none, some}
use mathlib.Core.List.{List, [], ◌∷◌, ◌++◌}
use Prim.Native.Nat.{ℕ, zero, suc, ◌≤◌}
use native.Mathlib.Omega.{arith}
use borrow.Author.Tests.{ne_eqb}
use lib.IntN.{ℤ, pos}
use lib.ListN.{length, take, drop, get_elem?, length-append, length-drop}
use lib.Seq.{take_at, drop_at}
use Rattle.packing.specs.Meaning.{Grammar}
use Rattle.packing.specs.Parse.{accepted}
use Rattle.packing.specs.Valid.{ValidGrammar}
use Rattle.packing.proofs.Whole.{grammar_block_out}
use Rattle.derivation.proofs.Comparison.{compare_lt}
use Rattle.derivation.proofs.Lists.{at_mem, none≢some}
use Rattle.derivation.proofs.Sorted.{at_order}
use Rattle.phrases.specs.Enumeration.{phrases, next_phrase}
use Rattle.phrases.proofs.Order.{order_lawful}
use Rattle.phrases.proofs.Theorems.{phrases_exactly, phrases_ascending, first_at, next_at, next_none}
use Rattle.specimen.specs.Conditions.{asked}
use Rattle.specimen.specs.Specimen.{output_of}
use Rattle.specimen.proofs.Asked.{asked_out}
use Rattle.specimen.specs.Specimen.{string_length}
use Rattle.spireyerba.specs.Demands.{Calls, HandedOut, EveryPhrase}
use Rattle.spireyerba.proofs.Searches.{next_of}
use Rattle.spireyerba.proofs.Strings.{continued}

-- behind the end of a list there is nothing
at_none : {A : Type 0} (l : List A) (k : ℕ) → get_elem? l k ≡ none → get_elem? l (suc k) ≡ none
at_none [] k e = refl
at_none (x ∷ l) zero e = absurd (none≢some (sym e))
at_none (x ∷ l) (suc k) e = at_none l k e

at_end : {A : Type 0} (l : List A) (k : ℕ) → length l ≤ k → get_elem? l k ≡ none
at_end [] k h = refl
at_end (x ∷ l) zero h = absurd (omega arith)
at_end (x ∷ l) (suc k) h = at_end l k (omega arith)

module _ (grammar : List ℕ) (g : Grammar) (n K : ℕ) (code : ℕ → ℤ) (out : ℕ → List ℕ) (due : asked 6 grammar n (length (out 0)) ≡ accepted g)
    (calls : Calls grammar n K code out) where
  valid : ValidGrammar g
  valid = (grammar_block_out grammar g (asked_out 6 grammar n (length (out 0)) g due).0).0

  -- what the output is after a call that answered phrase k, and what comes above it
  abbrev Left : ℕ → List ℕ → Type 0
  Left k after =
      (length after ≡ length (out 0)) × (drop n after ≡ drop n (out 0)) × (next_phrase g n (take n after) ≡ get_elem? (phrases g n) (suc k))

  left : (k : ℕ) (before after : List ℕ) → after ≡ output_of (accepted (get_elem? (phrases g n) k)) before → length before ≡ length (out 0)
      → drop n before ≡ drop n (out 0) → (get_elem? (phrases g n) k ≡ none → next_phrase g n (take n before) ≡ none) → Left k after
  left k before after w size rest none_above = go (get_elem? (phrases g n) k) refl w
    where
      go : (o : Option (List ℕ)) → get_elem? (phrases g n) k ≡ o → after ≡ output_of (accepted o) before → Left k after
      go none e w = rw w (size, rest, none_above e ∙ sym (at_none (phrases g n) k e))
      go (some s) e w =
          let long : length s ≡ n = ((phrases_exactly g n valid s).0 (at_mem (phrases g n) k e)).0 in
          let room = (asked_out 6 grammar n (length (out 0)) g due).2 in
          rw w (
            length-append s (drop (length s) before) ∙ (let d = length-drop (length s) before in omega arith),
            drop_at s (drop (length s) before) n long ∙ ap (λ (m : ℕ). drop m before) long ∙ rest,
            rw (take_at s (drop (length s) before) n long) (next_at g n k s e),
          )

  abbrev Handed : ℕ → Type 0
  Handed k =
      (code k ≡ pos (string_length (get_elem? (phrases g n) k)))
      × (out (suc k) ≡ output_of (accepted (get_elem? (phrases g n) k)) (out k))
      × Left k (out (suc k))

  handed : (k : ℕ) → k ≤ K → Handed k
  handed zero h =
      let (f, call) = calls.first_call in
      let is : next_of n (suc f) (out 0) g ≡ get_elem? (phrases g n) 0 = rw (ne_eqb (suc f) 0 (λ e. omega arith)) (first_at g n) in
      let (c, w) = rw is at (continued grammar n (suc f) (out 0) due call) in
      (c, w, left 0 (out 0) (out 1) w refl refl (λ e. next_none g n (take n (out 0)) e))
  handed (suc k) h =
      let (_, _, (size, rest, above)) = handed k (omega arith) in
      let is : next_of n 0 (out (suc k)) g ≡ get_elem? (phrases g n) (suc k) = above in
      let due' : asked 6 grammar n (length (out (suc k))) ≡ accepted g = rw size due in
      let (c, w) = rw is at (continued grammar n 0 (out (suc k)) due' (calls.later_call k (omega arith))) in
      (c, w, left (suc k) (out (suc k)) (out (suc (suc k))) w size rest (λ e. above ∙ e))

  rest_same : (k : ℕ) → k ≤ K → drop n (out k) ≡ drop n (out 0)
  rest_same zero h = refl
  rest_same (suc k) h = (handed k (omega arith)).2.1

  pub handed_out : HandedOut g n K code out
  handed_out = record {
    strings = phrases g n;
    every = phrases_exactly g n valid;
    ascending = λ j k s t a b h. at_order order_lawful (phrases g n) j k s t (phrases_ascending g n) a b ∙ compare_lt j k h;
    handed = λ k s h e.
        let long : length s ≡ n = ((phrases_exactly g n valid s).0 (at_mem (phrases g n) k e)).0 in
        let (c, w, _) = handed k h in
        let c' : code k ≡ pos (length s) = rw e at c in
        let w' : out (suc k) ≡ s ++ drop (length s) (out k) = rw e at w in
        (c' ∙ ap pos long, w' ∙ ap (λ (l : List ℕ). s ++ l) (ap (λ (m : ℕ). drop m (out k)) long ∙ rest_same k h));
    ended = λ k h e.
        let (c, w, _) = handed k h in
        let is = at_end (phrases g n) k e in
        (rw is at c, rw is at w);
  }

-- N9, of many calls.
pub every_phrase : EveryPhrase
every_phrase grammar g n K code out due calls = handed_out grammar g n K code out due calls
