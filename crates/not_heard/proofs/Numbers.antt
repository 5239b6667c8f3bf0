-- Derivations by their new edge numbers: over any list of edges, one for one, with weight, cost sum and order kept; so as many come before each.
use mathlib.Core.Path.{◌≡◌, refl, sym, ap, ◌∙◌}
use mathlib.Core.Logic.{⊎_elim}
use mathlib.Core.List.Memᴰ
use mathlib.Core.List.{List, [], ◌∷◌, map}
use Prim.Native.Nat.{ℕ, compare, Ordering}
use lib.ListN.{length-map}
use Rattle.packing.specs.declared.Sym.{Sym}
use Rattle.packing.specs.Meaning.{Grammar, Edge}
use Rattle.derivation.specs.Derivation.{Tree, leaf, node, Derives, by_word_rule, by_pair_rule, edge_cost, weight, walk}
use Rattle.derivation.specs.Order.{◌▸◌, cost_sum, order}
use Rattle.derivation.specs.Rank.{◌∈◌, Distinct, Number}
use Rattle.derivation.proofs.Order.{order_lawful}
use Rattle.not_heard.specs.NotHeard.{heard_only, numbered}
use Rattle.not_heard.proofs.Edges.{kept, left_from, same_order}

pub walk_kept : (es : List Edge) (t : Tree) → walk (numbered es t) ≡ walk t
unfolding numbered walk
walk_kept es (leaf r e) = refl
walk_kept es (node r j s t) = rw (walk_kept es s, walk_kept es t)

module _ (g : Grammar) (es : List Edge) where
  pub derives_left : {A : Sym} {i k : ℕ} {t : Tree} → Derives g es A i k t → Derives g (heard_only es) A i k (numbered es t)
  unfolding numbered
  derives_left (by_word_rule {e = e} p o) = by_word_rule p (kept es e o, o.1)
  derives_left (by_pair_rule p l m d d') = by_pair_rule p l m (derives_left d) (derives_left d')

  pub left_derives : {A : Sym} {i k : ℕ} {t' : Tree} → Derives g (heard_only es) A i k t' → (t : Tree) × Derives g es A i k t × (t' ≡ numbered es t)
  unfolding numbered
  left_derives (by_word_rule {r = r} {e = n} p (at, h)) =
      let (e, o, q) = left_from es n at in
      (leaf r e, by_word_rule p o, ap (leaf r) q)
  left_derives (by_pair_rule {r = r} {j = j} {t = b} p l m d d') =
      let (s, c, q) = left_derives d in
      let (t, c', q') = left_derives d' in
      (node r j s t, by_pair_rule p l m c c', ap (λ (z : Tree). node r j z b) q ∙ ap (node r j (numbered es s)) q')

  pub costs_kept : {A : Sym} {i k : ℕ} {t : Tree} → Derives g es A i k t → cost_sum (heard_only es) (numbered es t) ≡ cost_sum es t
  unfolding cost_sum numbered
  costs_kept (by_word_rule {e = e} p o) = rw (kept es e o, o.0)
  costs_kept (by_pair_rule p l m d d') = rw (costs_kept d, costs_kept d')

  pub weight_kept : {A : Sym} {i k : ℕ} {t : Tree} → Derives g es A i k t → weight g (heard_only es) (numbered es t) ≡ weight g es t
  unfolding weight edge_cost numbered
  weight_kept (by_word_rule {e = e} p o) = rw (kept es e o, o.0)
  weight_kept (by_pair_rule p l m d d') = rw (weight_kept d, weight_kept d')

  -- weights and cost sums compare as before, and so does what follows
  prices_kept : {A A' : Sym} {i k i' k' : ℕ} {s t : Tree} → Derives g es A i k s → Derives g es A' i' k' t → {b b' : Ordering} → b ≡ b'
      → compare (weight g (heard_only es) (numbered es s)) (weight g (heard_only es) (numbered es t))
      ▸ compare (cost_sum (heard_only es) (numbered es s)) (cost_sum (heard_only es) (numbered es t)) ▸ b
      ≡ compare (weight g es s) (weight g es t) ▸ compare (cost_sum es s) (cost_sum es t) ▸ b'
  prices_kept c d q = rw (weight_kept c, weight_kept d, costs_kept c, costs_kept d, q)

  pub order_kept : {A A' : Sym} {i k i' k' : ℕ} {s t : Tree} → Derives g es A i k s → Derives g es A' i' k' t
      → order g (heard_only es) (numbered es s) (numbered es t) ≡ order g es s t
  unfolding order numbered
  order_kept (by_word_rule {r = r} {e = e} p o) (by_word_rule {r = r'} {e = f} p' o') =
      prices_kept (by_word_rule p o) (by_word_rule p' o') (ap (λ (z : Ordering). compare r r' ▸ z) (same_order es e f o o'))
  order_kept (by_word_rule p o) (by_pair_rule p' l m d d') = prices_kept (by_word_rule p o) (by_pair_rule p' l m d d') refl
  order_kept (by_pair_rule p l m c c') (by_word_rule p' o') = prices_kept (by_pair_rule p l m c c') (by_word_rule p' o') refl
  order_kept (by_pair_rule {r = r} {j = j} p l m c c') (by_pair_rule {r = r'} {j = j'} p' l' m' d d') =
      prices_kept (by_pair_rule p l m c c') (by_pair_rule p' l' m' d d')
      (ap (λ (z : Ordering). compare r r' ▸ compare j j' ▸ z) (rw (order_kept c d, order_kept c' d')))

  -- no two derivations become one
  pub numbered_injective : {A A' : Sym} {i k i' k' : ℕ} {s t : Tree} → Derives g es A i k s → Derives g es A' i' k' t
      → numbered es s ≡ numbered es t → s ≡ t
  numbered_injective {s = s} {t} c d q =
      (order_lawful g es).same s t (sym (order_kept c d) ∙ ap (λ (z : Tree). order g (heard_only es) z (numbered es t)) q
      ∙ (order_lawful g (heard_only es)).self (numbered es t))

-- as many things have a property as have the one that it becomes by a map that takes no two to one
mem_map : {A B : Type 0} (f : A → B) (l : List A) {y : B} → y ∈ map f l → (x : A) × (x ∈ l) × (y ≡ f x)
mem_map f [] m = absurd (Memᴰ.not-nil m)
mem_map f (a ∷ l) m =
    ⊎_elim (λ e. (a, Memᴰ.head refl, e)) (λ n. let (x, k, e) = mem_map f l n in (x, Memᴰ.tail k, e)) (Memᴰ.cases_cons m)

map_mem : {A B : Type 0} (f : A → B) {x : A} {l : List A} → x ∈ l → f x ∈ map f l
map_mem f (Memᴰ.head e) = Memᴰ.head (ap f e)
map_mem f (Memᴰ.tail m) = Memᴰ.tail (map_mem f m)

map_distinct : {A B : Type 0} (f : A → B) (l : List A) → ((x y : A) → x ∈ l → y ∈ l → f x ≡ f y → x ≡ y) → Distinct l → Distinct (map f l)
map_distinct f [] one d = tt
map_distinct f (a ∷ l) one (n, d) = (
  (λ m. let (x, k, e) = mem_map f l m in n (Memᴰ.cast (one a x (Memᴰ.head refl) (Memᴰ.tail k) e) k)),
  map_distinct f l (λ x y p q. one x y (Memᴰ.tail p) (Memᴰ.tail q)) d,
)

pub number_map : {A B : Type 0} {P : A → Type 0} {Q : B → Type 0} (f : A → B) → ((x : A) → P x → Q (f x))
    → ((y : B) → Q y → (x : A) × P x × (y ≡ f x)) → ((x y : A) → P x → P y → f x ≡ f y → x ≡ y) → {n : ℕ} → Number P n → Number Q n
number_map {Q = Q} f to from one a = record {
  elements = map f a.elements;
  once = map_distinct f a.elements (λ x y i j. one x y ((a.those x).0 i) ((a.those y).0 j)) a.once;
  those = λ y. (
    (λ i. let (x, k, e) = mem_map f a.elements i in rw e (to x ((a.those x).0 k))),
    (λ q. let (x, p, e) = from y q in Memᴰ.cast e (map_mem f ((a.those x).1 p))),
  );
  number_is = length-map a.elements f ∙ a.number_is;
}
