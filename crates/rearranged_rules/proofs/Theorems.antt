-- Rules in another order (specs/Rearranged). The key of a tree is its weight and its cost sum; the order compares them first, and
-- renumbering keeps them. So the ranked lists of both grammars are matched one to one with keys kept, and have equal keys at every rank
-- (Ranks).
use mathlib.Core.Path.{◌≡◌, refl, sym, ap, ◌∙◌}
use mathlib.Core.Logic.{◌↔◌}
use mathlib.Core.List.{List}
use Prim.Native.Nat.{ℕ, min, compare, Ordering}
use native.Mathlib.Omega.{arith}
use lib.ListN.{length, take, length-take}
use lib.Seq.{take_all}
use Rattle.packing.specs.Meaning.{symbol_of, Grammar, Edge, Heard, last_place, heard_edges}
use Rattle.derivation.specs.Derivation.{At, Tree, leaf, node, weight, Derivation}
use Rattle.derivation.specs.Order.{◌▸◌, cost_sum, order}
use Rattle.derivation.specs.Rank.{◌∈◌, Distinct}
use Rattle.derivation.specs.HeardList.{derivations}
use Rattle.derivation.proofs.Comparison.{
  Lawful,
  turned,
  compare_self,
  compare_same,
  compare_turn,
  compare_below,
  compare_lawful,
  ▸-eq,
  ▸-first,
  number_turn,
  number_chain,
}
use Rattle.derivation.proofs.Lists.{at_take}
use Rattle.derivation.proofs.Order.{order_lawful}
use Rattle.derivation.proofs.Sorted.{ascending_distinct}
use Rattle.derivation.proofs.Cell.{ranked_derives, ranked_ascending, ranked_order}
use Rattle.derivation.proofs.Rows.{Price, price, weight_in, costs_in, price_of}
use Rattle.rearranged_rules.specs.Lists.{RearrangedLists}
use Rattle.rearranged_rules.specs.Rearranged.{Rearranged, renumber, SameRenumbered}
use Rattle.rearranged_rules.proofs.Ranks.{Climbs, Into, same_length, same_keys}
use Rattle.rearranged_rules.proofs.Renumber.{
  derives_below,
  renumber_injective,
  renumber_derives,
  derives_renumbered,
  derives_both,
  renumber_weight,
  renumber_costs,
}

-- by weight, then by cost sum
unfoldable price_order : Price → Price → Ordering
price_order (price w c) (price w' c') = compare w w' ▸ compare c c'

price_self : (x : Price) → price_order x x ≡ Ordering.eq
unfolding price_order ◌▸◌
price_self (price w c) = simp compare_self

price_same : (x y : Price) → price_order x y ≡ Ordering.eq → x ≡ y
unfolding price_order
price_same (price w c) (price w' c') h =
    let (p, q) = ▸-eq (compare w w') (compare c c') h in
    rw (compare_same w w' p, compare_same c c' q)

price_turn : (x y : Price) → price_order y x ≡ turned (price_order x y)
unfolding price_order
price_turn (price w c) (price w' c') = number_turn w w' _ (compare_turn c c')

price_chain : (x y z : Price) → price_order x y ≡ Ordering.lt → price_order y z ≡ Ordering.lt → price_order x z ≡ Ordering.lt
unfolding price_order
price_chain (price w c) (price w' c') (price w'' c'') = number_chain w w' w'' (compare_lawful.chain c c' c'')

price_lawful : Lawful price_order
price_lawful = record { self = price_self; same = price_same; turn = price_turn; chain = price_chain }

-- the order compares it first
▸-more : (a b c : Ordering) → a ▸ b ≡ Ordering.lt → a ▸ b ▸ c ≡ Ordering.lt
unfolding ◌▸◌
▸-more Ordering.lt b c h = refl
▸-more Ordering.eq b c h = ▸-first b c h
▸-more Ordering.gt b c h = h

order_first : (g : Grammar) (es : List Edge) (s t : Tree) → price_order (price_of g es s) (price_of g es t) ≡ Ordering.lt
    → order g es s t ≡ Ordering.lt
unfolding order price_order
order_first g es (leaf r e) (leaf s f) h = ▸-more _ _ _ h
order_first g es (leaf r e) (node s k c d) h = ▸-more _ _ _ h
order_first g es (node r j a b) (leaf s f) h = ▸-more _ _ _ h
order_first g es (node r j a b) (node s k c d) h = ▸-more _ _ _ h

-- all derivations, the least first
module _ (g : Grammar) (h : Heard) where
  all_derive : (t : Tree) → t ∈ derivations g h ↔ Derivation g h t
  all_derive = ranked_derives g (heard_edges h) (symbol_of 0) 0 (last_place h)

  all_once : Distinct (derivations g h)
  all_once =
      ascending_distinct (order_lawful g (heard_edges h)) (derivations g h) (ranked_ascending g (heard_edges h) (symbol_of 0) 0 (last_place h))

  all_climb : Climbs price_order (price_of g (heard_edges h)) (derivations g h)
  all_climb m n s t e f less =
      compare_below m n
      (sym (ranked_order g (heard_edges h) (symbol_of 0) 0 (last_place h) m n e f) ∙ order_first g (heard_edges h) s t less)

module _ {f : ℕ → ℕ} {g g' : Grammar} (re : Rearranged f g g') (h : Heard) where
  abbrev l : List Tree
  l = derivations g h

  abbrev l' : List Tree
  l' = derivations g' h

  -- a derivation and itself renumbered
  abbrev Both : Tree → Tree → Type 0
  Both t t' = Derivation g h t × (t' ≡ renumber f t)

  keeps : (t t' : Tree) → Both t t' → price_of g (heard_edges h) t ≡ price_of g' (heard_edges h) t'
  keeps t t' (d, p) = rw (p, renumber_weight re (heard_edges h) d, renumber_costs f (heard_edges h) t)

  into : Into Both (price_of g (heard_edges h)) (price_of g' (heard_edges h)) l l'
  into = record {
    once = all_once g h;
    found = λ t m.
        let d = (all_derive g h t).0 m in
        (renumber f t, (all_derive g' h (renumber f t)).1 (renumber_derives re (heard_edges h) d), (d, refl));
    one = λ s t t' (d, p) (e, q). renumber_injective re s t (derives_below d) (derives_below e) (sym p ∙ q);
    keeps = keeps;
  }

  back : Into (λ t' t. Both t t') (price_of g' (heard_edges h)) (price_of g (heard_edges h)) l' l
  back = record {
    once = all_once g' h;
    found = λ t' m.
        let (t, d, p) = derives_renumbered re (heard_edges h) ((all_derive g' h t').0 m) in
        (t, (all_derive g h t).1 d, (d, p));
    one = λ s' t' t (d, p) (e, q). p ∙ sym q;
    keeps = λ t' t b. sym (keeps t t' b);
  }

  -- the derivations of both are the same after renumbering
  pub same_derivations : SameRenumbered f (length g.rules) (Derivation g h) (Derivation g' h)
  same_derivations = record { each = derives_both re (heard_edges h); no_other = λ t' d. derives_renumbered re (heard_edges h) d }

  module _ (N : ℕ) where
    -- of lists that are whole
    whole_lists : take N l ≡ l → take N l' ≡ l' → SameRenumbered f (length g.rules) (λ t. t ∈ take N l) (λ t. t ∈ take N l')
    whole_lists whole whole' =
        rw (whole, whole') record {
          each = λ t b. (
            (λ m. (all_derive g' h (renumber f t)).1 ((same_derivations.each t b).0 ((all_derive g h t).0 m))),
            (λ m. (all_derive g h t).1 ((same_derivations.each t b).1 ((all_derive g' h (renumber f t)).0 m))),
          );
          no_other = λ t' m. let (t, o, b) = back.found t' m in (t, o, b.1);
        }

    equal_ranks : (k : ℕ) {t t' : Tree} → At (take N l) k t → At (take N l') k t'
        → (weight g (heard_edges h) t ≡ weight g' (heard_edges h) t') × (cost_sum (heard_edges h) t ≡ cost_sum (heard_edges h) t')
    equal_ranks k {t} {t'} e e' =
        let same = same_keys into back price_lawful (all_climb g h) (all_climb g' h) k ((at_take N l k t).0 e).0 ((at_take N l' k t').0 e').0 in
        (ap weight_in same, ap costs_in same)

    equal_lengths : length (take N l) ≡ length (take N l')
    equal_lengths = length-take N l ∙ ap (min N) (same_length into back) ∙ sym (length-take N l')

-- N13, of the lists of least derivations: one that is shorter than what is wanted is whole.
pub rearranged_lists : RearrangedLists
rearranged_lists f g g' re h N =
    let count = length-take N (derivations g h) in
    record {
      lengths = equal_lengths re h N;
      ranks = equal_ranks re h N;
      same = λ short.
          whole_lists re h N (take_all N (derivations g h) (omega (arith, count)))
          (take_all N (derivations g' h) (omega (arith, count, same_length (into re h) (back re h))));
    }
