-- What a symbol derives, string by string: the same as `Derives` over the utterance that offers just that string.
-- Assumes nothing.
use mathlib.Core.Path.{◌≡◌, refl, ap, ◌∙◌}
use mathlib.Core.Option.{some}
use mathlib.Core.List.{List, [], ◌∷◌, ◌++◌, append_assoc, append-nil}
use Prim.Native.Nat.{ℕ, zero, suc, ◌+◌, ◌-◌, ◌≤◌, ◌<◌}
use native.Mathlib.Nat.{add-zero, zero-add}
use native.Mathlib.Omega.{arith}
use lib.ListN.{length, get_elem?, take, drop, length-append}
use lib.Seq.{take-length, take-add, drop-drop}
use Rattle.packing.specs.Meaning.{Grammar, edge, slot_edges, edges_from, edges, word, symbol_of}
use Rattle.packing.specs.declared.Sym.{Sym}
use Rattle.packing.specs.declared.Word as W
use Rattle.packing.specs.declared.Rule.TheVariants.{Pair, Word}
use Rattle.derivation.proofs.Lists.{at_length}
use Rattle.derivation.specs.Derivation.{Tree, leaf, node, At, Derives, by_word_rule, by_pair_rule}
use Rattle.phrases.specs.Phrases.{plain, Says}

-- symbol A derives the words ws, in g
pub data Yields (g : Grammar) : Sym → List ℕ → Type 0 where
  one : {A : Sym} {x : ℕ} (r w : ℕ) → At g.rules r (Word A (word x) w) → Yields g A (x ∷ [])
  two : {A B C : Sym} {us vs : List ℕ} (r w : ℕ) → At g.rules r (Pair A B C w) → Yields g B us → Yields g C vs → Yields g A (us ++ vs)

-- edge e of a string goes from place e to the next, by word e
edge_at_lem : (i : ℕ) (us : List ℕ) (x : ℕ) (vs : List ℕ)
    → At (edges_from i (plain (us ++ x ∷ vs))) (length us) (edge (i + length us) (suc (i + length us)) (word x) 0)
unfolding edges_from slot_edges plain
edge_at_lem i [] x vs = ap some (rw add-zero)
edge_at_lem i (y ∷ us) x vs = let e : i + suc (length us) ≡ suc i + length us = omega arith in rw e (edge_at_lem (suc i) us x vs)

edge_is : (a : ℕ) (ws : List ℕ) (e i k : ℕ) (x : W.Word) (c : ℕ) → At (edges_from a (plain ws)) e (edge i k x c) → (i ≡ a + e) × (k ≡ suc i)
    × (get_elem? ws e ≡ some x.0)
unfolding edges_from slot_edges plain
edge_is a [] e i k x c h = let z : ◌≡◌ {A = ℕ} 0 1 = cc in absurd (omega arith)
edge_is a (y ∷ ws) zero i k x c h = (
  omega (arith, let z : i ≡ a = cc in z),
  (let z : k ≡ suc a = cc in let z₂ : i ≡ a = cc in omega arith),
  (let z : word y ≡ x = cc in rw (← z)),
)
edge_is a (y ∷ ws) (suc e) i k x c h = let (p, q, r) = edge_is (suc a) ws e i k x c h in (omega arith, q, r)

-- element e of a list, and the part from i to k as the part to j and the part from j
drop_at : (ws : List ℕ) (e x : ℕ) → get_elem? ws e ≡ some x → take 1 (drop e ws) ≡ x ∷ []
drop_at [] e x h = let z : ◌≡◌ {A = ℕ} 0 1 = cc in absurd (omega arith)
drop_at (y ∷ ws) zero x h = cc
drop_at (y ∷ ws) (suc e) x h = drop_at ws e x h

take_drop_join : (ws : List ℕ) (i j k : ℕ) → i < j → j < k → k ≤ length ws → take (k - i) (drop i ws) ≡ take (j - i) (drop i ws) ++ take (k - j) (drop j ws)
take_drop_join ws i j k h₁ h₂ h₃ =
    let e : k - i ≡ (j - i) + (k - j) = omega arith in
    let n : i + (j - i) ≡ j = omega arith in
    let d : drop (j - i) (drop i ws) ≡ drop j ws = drop-drop (j - i) i ws ∙ ap (λ (m : ℕ). drop m ws) n in
    rw (e, take-add (j - i) (k - j) (drop i ws), d)

length_plain : (ws : List ℕ) → length (plain ws) ≡ length ws
unfolding plain
length_plain [] = refl
length_plain (x ∷ ws) = ap suc (length_plain ws)

module _ (g : Grammar) where
  -- a string derived, with whatever stands before and behind it
  pub yields_derives : {A : Sym} {ws : List ℕ} → Yields g A ws → (us vs : List ℕ) → (0 < length ws)
      × ((t : Tree) × Derives g (edges (plain (us ++ (ws ++ vs)))) A (length us) (length us + length ws) t)
  yields_derives (one {x = x} r w h) us vs =
      let e = edge_at_lem 0 us x vs in
      let n : length us + 1 ≡ suc (length us) = omega arith in (
        omega arith,
        (
          leaf r (length us),
          rw n
              (by_word_rule {e = length us} {w = w} {c = 0} {i = length us} {k = suc (length us)} h (rw zero-add at e, omega arith)),
        ),
      )
  yields_derives (two {us = bs} {vs = cs} r w h l m) us vs =
      let (p, (s, d)) = yields_derives l us (cs ++ vs) in
      let (q, (t, f)) = yields_derives m (us ++ bs) vs in
      let i = length us in
      let j = length us + length bs in
      let k = length us + length bs + length cs in
      let n : length us + length (bs ++ cs) ≡ k = simp length-append (omega arith) in
      let f' = rw (append_assoc us bs (cs ++ vs), length-append) at f in
      let whole = by_pair_rule {w = w} {i = i} {j = j} {k = k} {s = s} {t = t} h (omega arith) (omega arith) d f' in
      (simp length-append (omega arith), (node r j s t, rw (n, append_assoc bs cs vs) whole))

  -- and a derivation over a part of a string: what stands before, the part, and what stands behind
  derives_yields : (ws : List ℕ) {A : Sym} {i k : ℕ} {t : Tree} → Derives g (edges (plain ws)) A i k t → (i < k) × (k ≤ length ws)
      × Yields g A (take (k - i) (drop i ws))
  derives_yields ws (by_word_rule {x = x} {r} {e} {w} {c} {i} {k} h q) =
      let (p₁, p₂, p₃) = edge_is 0 ws e i k x c q.0 in
      let n : i ≡ e = omega arith in
      let m : k - i ≡ 1 = omega arith in
      let l = at_length ws e p₃ in
      (omega arith, omega arith, rw (m, n, drop_at ws e x.0 p₃) (one r w h))
  derives_yields ws (by_pair_rule {r = r} {w = w} {i = i} {j = j} {k = k} h h₁ h₂ d f) =
      let (a₁, a₂, a₃) = derives_yields ws d in
      let (b₁, b₂, b₃) = derives_yields ws f in
      (omega arith, b₂, rw (take_drop_join ws i j k a₁ b₁ b₂) (two r w h a₃ b₃))

  -- a grammar says the strings that its start yields
  pub says_yields : (ws : List ℕ) → Says g ws → Yields g (symbol_of 0) ws
  says_yields ws (t, d) = let (p, q, y) = derives_yields ws (rw length_plain at d) in let n : length ws - 0 ≡ length ws = omega arith in
      rw (n, take-length) at y

  pub yields_says : (ws : List ℕ) → Yields g (symbol_of 0) ws → Says g ws
  yields_says ws y = let (p, (t, d)) = yields_derives y [] [] in (t, rw length_plain (rw (append-nil, zero-add) at d))
