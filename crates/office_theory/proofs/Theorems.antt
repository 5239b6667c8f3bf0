-- What document 02 says of request N5's conversion: each theorem below renders a sentence. The terms are those of office's
-- Office and Conversion, and of specs/Matching.
use mathlib.Core.Path.{◌≡◌, refl, ap}
use mathlib.Core.Option.{some}
use mathlib.Core.List.{List}
use Prim.Native.Nat.{ℕ, ◌+◌, ◌≤◌}
use native.Mathlib.Omega.{arith}
use lib.ListN.{length}
use Rattle.packing.specs.declared.Sym.{Sym}
use Rattle.packing.specs.declared.Rule as R
use Rattle.packing.specs.Meaning.{symbol_of, Heard, heard_edges, last_place}
use Rattle.packing.specs.Parse.{accepted}
use Rattle.packing.specs.Grammar.{marked_block, block_of_marked}
use Rattle.packing.proofs.Whole.{marked_block_back}
use Rattle.derivation.specs.Derivation.{At, rule_weight}
use Rattle.office.specs.Office.{Item, rule, Office, Valid}
use Rattle.office.specs.Conversion.{Helper, helper, helpers, helper_rule, convert, convert_marked}
use Rattle.office_theory.specs.Matching.{Match}
use Rattle.office_theory.proofs.Spelled.{Becomes, word_rule, pair_rule_lem}
use Rattle.office_theory.proofs.ConvertedRules.{head_of, helper_rule_lem, Place, office, helping, place, office_rule}
use Rattle.office_theory.proofs.Matching.{one_to_one}
use Rattle.office_theory.proofs.Accepted.{marked_valid}

module _ (o : Office) (v : Valid o) where
  -- "Office rules keep their numbers and weights": and their heads
  pub office_rules_keep : (r : ℕ) {A : Sym} {w : ℕ} {l : List Item} → At o.rules r (rule A w l)
      → (c : R.Rule) × At (convert o).rules r c × (head_of c ≡ A) × (rule_weight (some c) ≡ w)
  unfolding head_of rule_weight
  office_rules_keep r p = let (c, a, b) = office_rule o v.within r p in let (h, u) = go b in (c, a, h, u)
    where
      go : {A : Sym} {w : ℕ} {l : List Item} {c : R.Rule} → Becomes o.symbols (helpers o) (rule A w l) c
          → (head_of c ≡ A) × (rule_weight (some c) ≡ w)
      go word_rule = (refl, refl)
      go (pair_rule_lem s t) = (refl, refl)

  -- "helper rules follow by helper number, weight 0": helper S + k has rule R + k
  pub helper_rules_follow : (k : ℕ) {h : Helper} → At (helpers o) k h
      → At (convert o).rules (length o.rules + k) (helper_rule (helper o.symbols k) h)
  helper_rules_follow k e = helper_rule_lem o k e

  -- and no other
  pub helper_one_rule : (k r : ℕ) {c : R.Rule} → At (convert o).rules r c → head_of c ≡ helper o.symbols k
      → r ≡ length o.rules + k
  helper_one_rule k r {c} p e = go (place o v.within r p)
    where
      number : (head_of c).0 ≡ o.symbols + k
      number = ap (λ (A : Sym). A.0) e

      go : Place o r c → r ≡ length o.rules + k
      go (office b q s) = absurd (omega (arith, number))
      go (helping m h n) = omega (arith, number)

  -- "The office's derivations and the converted grammar's match one to one, with equal weight": of slots and of graphs. "The lister leaves helper
  -- nodes out": what is left is the office's own walk
  pub derivations_match : (h : Heard) → Match o h
  derivations_match h = one_to_one o v.within (heard_edges h) (symbol_of 0) 0 (last_place h) v.symbols.0

  -- "The result is a packed grammar of kind 4": what does not pass 32 symbols or 256 rules is accepted as one
  pub result_accepted : (convert o).symbols ≤ 32 → length (convert o).rules ≤ 256
      → marked_block (block_of_marked (convert_marked o)) ≡ accepted (convert_marked o)
  result_accepted h m = marked_block_back (convert_marked o) (marked_valid o v h m)
