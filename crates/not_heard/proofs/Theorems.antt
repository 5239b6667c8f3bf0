-- What was heard, and the same without the words that were not (specs/NotHeard): the same derivations at the same ranks; and a slot of only such words
-- leaves none, since each derivation has a leaf over each slot.
use mathlib.Core.Path.{◌≡◌, refl, sym, ap, ◌∙◌, subst}
use mathlib.Core.Logic.{◌↔◌}
use mathlib.Core.Bool.{Bool, true, false}
use mathlib.Core.List.{List}
use Prim.Native.Nat.{ℕ, ◌≤◌, ◌<◌}
use native.Mathlib.Omega.{arith}
use lib.Dec.{ltb}
use lib.ListN.{length-map}
use borrow.Author.Tests.{ltb-true, ltb-false}
use Rattle.packing.specs.declared.Sym.{Sym}
use Rattle.packing.specs.Meaning.{symbol_of, Grammar, Utterance, Candidate, candidate, Edge, edges, Heard, slots, graph, heard_edges, last_place}
use Rattle.derivation.specs.Derivation.{At, Tree, Derives, by_word_rule, by_pair_rule, Derivation}
use Rattle.derivation.specs.Order.{order, Before}
use Rattle.derivation.specs.Rank.{◌∈◌, Number, Rank}
use Rattle.derivation.specs.Struck.{heard}
use Rattle.derivation.proofs.Order.{order_lawful}
use Rattle.derivation.proofs.Lists.{at_length}
use Rattle.derivation.proofs.Cell.{derives_place}
use Rattle.derivation.proofs.Ranks.{place_number}
use Rattle.derivation.proofs.Sorted.{number_one}
use Rattle.derivation.proofs.Slots.{edge_slot}
use Rattle.not_heard.specs.NotHeard.{heard_only, struck, numbered, SameLeft, Unheard, NotHeard}
use Rattle.not_heard.proofs.Edges.{edges_left}
use Rattle.not_heard.proofs.Numbers.{walk_kept, derives_left, left_derives, weight_kept, order_kept, numbered_injective, number_map}

-- over any edges, of derivations with head A over a span
module _ (g : Grammar) (es : List Edge) (A : Sym) (i k : ℕ) where
  abbrev Ahead : List Edge → Tree → Tree → Type 0
  Ahead fs t s = Derives g fs A i k s × Before g fs s t

  ahead_left : (t : Tree) → Derives g es A i k t → {n : ℕ} → Number (Ahead es t) n → Number (Ahead (heard_only es) (numbered es t)) n
  ahead_left t d = number_map (numbered es)
      (λ s (c, b). (derives_left g es c, order_kept g es c d ∙ b))
      (λ s' (c, b). let (s, c₀, q) = left_derives g es c in
      (s, (c₀, sym (order_kept g es c₀ d) ∙ ap (λ (z : Tree). order g (heard_only es) z (numbered es t)) (sym q) ∙ b), q))
      (λ s s' (c, b) (c', b') q. numbered_injective g es c c' q)

  left_ahead : (t : Tree) → Derives g es A i k t → {n : ℕ} → Number (Ahead (heard_only es) (numbered es t)) n → Number (Ahead es t) n
  left_ahead t d {n} a =
      let (m, b, _) = ranked_place in
      let same : m ≡ n = number_one (order_lawful g (heard_only es)) (ahead_left t d b) a in
      subst (Number (Ahead es t)) same b
    where
      ranked_place : (m : ℕ) × Number (Ahead es t) m × Unit {0}
      ranked_place = let (m, e) = derives_place g es A i k d in (m, ((place_number g es A i k t m).0 e).1, tt)

-- where the edges that are left, and the last place, are those of another
module _ (g : Grammar) (h h' : Heard) (left : heard_edges h' ≡ heard_only (heard_edges h)) (last : last_place h' ≡ last_place h) where
  abbrev again : Tree → Tree
  again = numbered (heard_edges h)

  is_left : {t : Tree} → Derives g (heard_only (heard_edges h)) (symbol_of 0) 0 (last_place h) t → Derivation g h' t
  is_left d = rw (left, last) d

  from_left : {t : Tree} → Derivation g h' t → Derives g (heard_only (heard_edges h)) (symbol_of 0) 0 (last_place h) t
  from_left d = rw (left, last) at d

  ranks_left : (t : Tree) (k : ℕ) → Derivation g h t → Rank g h t k ↔ Rank g h' (again t) k
  ranks_left t k d = (
    (λ (n, a, e). (n, rw (left, last) (ahead_left g (heard_edges h) (symbol_of 0) 0 (last_place h) t d a), e)),
    (λ (n, a, e). (n, left_ahead g (heard_edges h) (symbol_of 0) 0 (last_place h) t d (rw (left, last) at a), e)),
  )

-- "The comparison with document 001 is made after those candidates are struck out."
struck_same : (g : Grammar) (h : Heard) → SameLeft g h
struck_same g h = record {
  each = λ t d. is_left g h (struck h) (edges_are h) (last_is h) (derives_left g (heard_edges h) d);
  no_other = λ t' d. left_derives g (heard_edges h) (from_left g h (struck h) (edges_are h) (last_is h) d);
  ranks = λ t k d. ranks_left g h (struck h) (edges_are h) (last_is h) t k d;
  weights = λ t d. rw (edges_are h) (weight_kept g (heard_edges h) d);
  walks = λ t. walk_kept (heard_edges h) t;
}
  where
    edges_are : (h : Heard) → heard_edges (struck h) ≡ heard_only (heard_edges h)
    edges_are (slots u) = sym (edges_left u)
    edges_are (graph x) = refl

    last_is : (h : Heard) → last_place (struck h) ≡ last_place h
    last_is (slots u) = length-map u heard
    last_is (graph x) = refl

-- "a slot may hold only such words and then no derivation uses it": and there is none, for each would have a leaf there
module _ (g : Grammar) (u : Utterance) (s : ℕ) {slot : List Candidate} (there : At u s slot) (unheard : Unheard slot) where
  no_tree : {A : Sym} {i k : ℕ} {t : Tree} → Derives g (edges u) A i k t → i ≤ s → s < k → ⊥
  no_tree (by_word_rule {x = x} {e = e} {c = c} {i = i} p (at, cheap)) l m =
      let (slot', here, offers, short) = edge_slot u e at in
      let place : i ≡ s = omega arith in
      let here' : At u s slot' = subst (λ (n : ℕ). At u n slot') place here in
      let same : slot' ≡ slot = cc in
      omega (arith, unheard x c (subst (λ (l : List Candidate). candidate x c ∈ l) same offers))
  no_tree (by_pair_rule {j = j} p l m d d') from upto =
      go (ltb s j) refl (no_tree d from) (λ h. no_tree d' h upto)
    where
      go : (b : Bool) → ltb s j ≡ b → (s < j → ⊥) → (j ≤ s → ⊥) → ⊥
      go true e left right = left (ltb-true s j e)
      go false e left right = right (ltb-false s j e)

  no_derivation : (t : Tree) → ¬ Derivation g (slots u) t
  no_derivation t d = no_tree d (omega arith) (at_length u s there)

pub not_heard_lem : NotHeard
not_heard_lem = record { same = struck_same; none_left = λ g u s there unheard. no_derivation g u s there unheard }
