-- A derivation is decided by its trace: the next rule number decides between leaf and node, and a leaf's edge is written. Its nodes are
-- by rules and over edges that are there, as many as its path says, and a rule's number says whether a node is a leaf.
use mathlib.Core.Path.{◌≡◌, refl, sym, ap, ◌∙◌}
use mathlib.Core.Bool.{Bool, true, false}
use mathlib.Core.Option.{Option, none, some}
use mathlib.Core.List.{List, [], ◌∷◌, ◌++◌, append_assoc}
use Prim.Native.Nat.{ℕ, suc, ◌+◌, ◌*◌, ◌≤◌}
use native.Mathlib.Omega.{arith}
use lib.ListN.{length, get_elem?, length-append}
use Rattle.packing.specs.declared.Sym.{Sym}
use Rattle.packing.specs.declared.Rule as R
use Rattle.packing.specs.declared.Rule.TheVariants.{Pair, Word}
use Rattle.packing.specs.Meaning.{Grammar, Edge, Node, by_pair, by_word}
use Rattle.packing.specs.GraphReading.{word_nodes}
use Rattle.packing.proofs.GraphReading.{NodesBelow, Kinded}
use Rattle.derivation.specs.Derivation.{Tree, leaf, node, Derives, by_word_rule, by_pair_rule}
use Rattle.derivation.specs.Heard.{path_length, trace}
use Rattle.derivation.proofs.Lists.{at_length}

record Same (s t : Tree) (k l : ℕ) (a b : List Node) : Type 0 where
  tree : s ≡ t
  end : k ≡ l
  rest : a ≡ b

module _ (g : Grammar) (es : List Edge) where
  trace_decides : {A : Sym} {i k l : ℕ} {s t : Tree} → Derives g es A i k s → Derives g es A i l t → (a b : List Node)
      → trace s ++ a ≡ trace t ++ b → Same s t k l a b
  unfolding trace
  trace_decides (by_word_rule {r = r} {e = e} p q) (by_word_rule {r = r'} {e = e'} p' q') a b h =
      let hr : r ≡ r' = cc in
      let he : e ≡ e' = cc in
      let qe = q.0 in
      let qe' = q'.0 in
      record { tree = rw (hr, he); end = cc; rest = cc }
  trace_decides (by_word_rule p q) (by_pair_rule p' h₁ h₂ d₁ d₂) a b h = let z : ◌≡◌ {A = ℕ} 0 1 = cc in absurd (omega arith)
  trace_decides (by_pair_rule p h₁ h₂ d₁ d₂) (by_word_rule p' q') a b h = let z : ◌≡◌ {A = ℕ} 0 1 = cc in absurd (omega arith)
  trace_decides (by_pair_rule {A} {B} {C} {r} {w} {i} {j} {k} {s} {t} p h₁ h₂ d₁ d₂)
      (by_pair_rule {B = B'} {C = C'} {r = r'} {j = j'} {s = s'} {t = t'} p' h₁' h₂' d₁' d₂') a b h =
      let hr : r ≡ r' = cc in
      let h_b : B' ≡ B = cc in
      let h_c : C' ≡ C = cc in
      let hw : (trace s ++ trace t) ++ a ≡ (trace s' ++ trace t') ++ b = cc in
      let one = trace_decides d₁ (rw h_b at d₁') (trace t ++ a) (trace t' ++ b)
      (sym (append_assoc (trace s) (trace t) a) ∙ hw ∙ append_assoc (trace s') (trace t') b) in
      let hj : j' ≡ j = sym one.end in
      let two = trace_decides d₂ (rw (h_c, hj) at d₂') a b one.rest in
      record { tree = rw (hr, one.end, one.tree, two.tree); end = two.end; rest = two.rest }

  pub trace_one : {A : Sym} {i k l : ℕ} {s t : Tree} → Derives g es A i k s → Derives g es A i l t → trace s ≡ trace t → s ≡ t
  trace_one d e h = (trace_decides d e [] [] (ap (λ l. l ++ []) h)).tree

-- how many nodes it has, and leaves
pub trace_length : (t : Tree) → suc (length (trace t)) ≡ 2 * path_length t
unfolding trace path_length
trace_length (leaf r e) = refl
trace_length (node r j s t) = omega (arith, trace_length s, trace_length t, length-append (trace s) (trace t))

words_append : (xs ys : List Node) → word_nodes (xs ++ ys) ≡ word_nodes xs + word_nodes ys
unfolding word_nodes
words_append [] ys = omega arith
words_append (by_pair r ∷ xs) ys = words_append xs ys
words_append (by_word r e ∷ xs) ys = rw (words_append xs ys) (omega arith)

pub trace_words : (t : Tree) → word_nodes (trace t) ≡ path_length t
unfolding trace word_nodes path_length
trace_words (leaf r e) = refl
trace_words (node r j s t) = words_append (trace s) (trace t) ∙ rw (trace_words s, trace_words t)

-- what holds of two lists of nodes holds of both together
below_append : (R : ℕ) (xs ys : List Node) → NodesBelow R xs → NodesBelow R ys → NodesBelow R (xs ++ ys)
below_append R [] ys a b = b
below_append R (by_pair r ∷ xs) ys (l, a) b = (l, below_append R xs ys a b)
below_append R (by_word r e ∷ xs) ys (l, m, a) b = (l, m, below_append R xs ys a b)

kinded_append : (f : ℕ → Bool) (xs ys : List Node) → Kinded f xs → Kinded f ys → Kinded f (xs ++ ys)
kinded_append f [] ys a b = b
kinded_append f (by_pair r ∷ xs) ys (k, a) b = (k, kinded_append f xs ys a b)
kinded_append f (by_word r e ∷ xs) ys (k, a) b = (k, kinded_append f xs ys a b)

abbrev word_rule : Option R.Rule → Bool
word_rule none = false
word_rule (some (Pair A B C w)) = false
word_rule (some (Word A x w)) = true

-- whether rule r is a word rule
abbrev pub is_word_rule : Grammar → ℕ → Bool
is_word_rule g r = word_rule (get_elem? g.rules r)

module _ (g : Grammar) (es : List Edge) where
  pub trace_below : length es ≤ 128 → {A : Sym} {i k : ℕ} {t : Tree} → Derives g es A i k t → NodesBelow (length g.rules) (trace t)
  unfolding trace
  trace_below few (by_word_rule {r = r} {e = e} p q) = (at_length g.rules r p, omega (arith, at_length es e q.0), tt)
  trace_below few (by_pair_rule {r = r} {s = s} {t = t} p h₁ h₂ d₁ d₂) =
      (at_length g.rules r p, below_append (length g.rules) (trace s) (trace t) (trace_below few d₁) (trace_below few d₂))

  pub trace_kinded : {A : Sym} {i k : ℕ} {t : Tree} → Derives g es A i k t → Kinded (is_word_rule g) (trace t)
  unfolding trace
  trace_kinded (by_word_rule p q) = (ap word_rule p, tt)
  trace_kinded (by_pair_rule {s = s} {t = t} p h₁ h₂ d₁ d₂) =
      (ap word_rule p, kinded_append (is_word_rule g) (trace s) (trace t) (trace_kinded d₁) (trace_kinded d₂))
