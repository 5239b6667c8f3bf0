-- The run over rule numbers accepts exactly the walks of derivations, with their weight: a state's heads are covered, from
-- its place on, by one tree each.
-- No tree is shorter than a slot, so the test for room never turns a walk away, and no more heads are kept than slots are
-- left.
use mathlib.Core.Path.{◌≡◌, refl, sym, ap, ◌∙◌, subst}
use mathlib.Core.Logic.{◌↔◌, ⊎_elim}
use mathlib.Core.Bool.{Bool, true, false}
use mathlib.Core.Option.{Option, none, some, some-injective}
use mathlib.Core.List.Memᴰ
use mathlib.Core.List.{List, [], ◌∷◌, ◌++◌, append-nil, append_assoc}
use Prim.Native.Nat.{ℕ, zero, suc, ◌+◌, ◌≤◌, ◌<◌}
use native.Mathlib.Omega.{arith}
use borrow.Author.Tests.{eqb-true, ltb-true, eq-eqb, ne_eqb, lt-ltb}
use lib.Dec.{eqb, ltb}
use lib.ListN.{length, drop, get_elem?, length-drop}
use lib.Seq.{drop-length}
use Rattle.bits.specs.Bits.{pick}
use Rattle.packing.specs.declared.Sym.{Sym}
use Rattle.packing.specs.declared.Word as W
use Rattle.packing.specs.declared.Rule as R
use Rattle.packing.specs.declared.Rule.TheVariants.{Pair, Word}
use Rattle.packing.specs.Meaning as M
use Rattle.packing.specs.Meaning.{not_heard, symbol_of, Grammar, Utterance, Candidate, candidate, edges}
use Rattle.derivation.specs.Derivation.{At, Tree, node, Derives, by_word_rule, by_pair_rule, weight, walk, Derivation}
use Rattle.derivation.specs.Rank.{◌∈◌}
use Rattle.derivation.specs.Walk.{State, onward, stuck, cost_of, leaf_step, rule_step, step, run, finished, walk_weight}
use Rattle.derivation.proofs.Lists.{none≢some, mem_at, at_length}
use Rattle.derivation.proofs.Ranges.{all_at, AscendingFrom, Ascending}
use Rattle.derivation.proofs.Readings.{span}
use Rattle.derivation.proofs.Rows.{leaf_weight, node_weight_lem}
use Rattle.derivation.proofs.Slots.{ascending_least, edges_in_lem, edge_slot, edges_short}
use Rattle.derivation.proofs.Trees.{same_sym, same_word}

-- a cost that is found is offered, and where words ascend one that is offered is found
cost_out : (x : W.Word) (slot : List Candidate) {c : ℕ} → cost_of x slot ≡ some c → candidate x c ∈ slot × (c < not_heard)
unfolding cost_of
cost_out x [] e = absurd (none≢some e)
cost_out x (candidate y d ∷ slot) {c} e = go (eqb y.0 x.0) refl (ltb d not_heard) refl (cost_out x slot) e
  where
    go : (t : Bool) → eqb y.0 x.0 ≡ t → (b : Bool) → ltb d not_heard ≡ b
        → (cost_of x slot ≡ some c → candidate x c ∈ slot × (c < not_heard))
        → pick t (pick b (some d) none) (cost_of x slot) ≡ some c → candidate x c ∈ (candidate y d ∷ slot) × (c < not_heard)
    go true h true l more f =
        let p : x ≡ y = sym (same_word y x (eqb-true y.0 x.0 h)) in
        let r : d ≡ c = cc in
        let q : candidate x c ≡ candidate y d = cc in
        (Memᴰ.head q, omega (arith, ltb-true d not_heard l))
    go true h false l more f = absurd (none≢some f)
    go false h b l more f = let r = more f in (Memᴰ.tail r.0, r.1)

cost_in : (b : ℕ) (x : W.Word) (slot : List Candidate) {c : ℕ} → AscendingFrom b slot → candidate x c ∈ slot → c < not_heard
    → cost_of x slot ≡ some c
unfolding cost_of
cost_in b x [] a m o = absurd (Memᴰ.not-nil m)
cost_in b x (candidate y d ∷ slot) {c} (h, a) m o =
    ⊎_elim here (later (λ n. cost_in (suc y.0) x slot a n o)) (Memᴰ.cases_cons m)
  where
    here : candidate x c ≡ candidate y d → pick (eqb y.0 x.0) (pick (ltb d not_heard) (some d) none) (cost_of x slot) ≡ some c
    here e =
        let p : y ≡ x = cc in
        let q : d ≡ c = cc in
        rw (eq-eqb y.0 x.0 (ap (λ (z : W.Word). z.0) p), q, lt-ltb c not_heard o)

    later : (candidate x c ∈ slot → cost_of x slot ≡ some c) → candidate x c ∈ slot
        → pick (eqb y.0 x.0) (pick (ltb d not_heard) (some d) none) (cost_of x slot) ≡ some c
    later more n = rw (ne_eqb y.0 x.0 (λ e. omega (arith, ascending_least (suc y.0) slot a n))) (more n)

-- the slots from place i on
drop_cons_at : (u : Utterance) (i : ℕ) {slot : List Candidate} → At u i slot → drop i u ≡ slot ∷ drop (suc i) u
drop_cons_at [] i e = absurd (none≢some e)
drop_cons_at (s ∷ u) zero e = cc
drop_cons_at (s ∷ u) (suc i) e = drop_cons_at u i e

drop_out : (u : Utterance) (i : ℕ) {slot : List Candidate} {more : Utterance} → drop i u ≡ slot ∷ more
    → At u i slot × (drop (suc i) u ≡ more)
drop_out [] zero e = let z : ◌≡◌ {A = ℕ} 0 1 = cc in absurd (omega arith)
drop_out [] (suc i) e = let z : ◌≡◌ {A = ℕ} 0 1 = cc in absurd (omega arith)
drop_out (s ∷ u) zero e = (cc, cc)
drop_out (s ∷ u) (suc i) e = drop_out u i e

pub run_stuck : (rules : List R.Rule) (numbers : List ℕ) → run rules stuck numbers ≡ stuck
unfolding run
run_stuck rules [] = refl
run_stuck rules (r ∷ numbers) = run_stuck rules numbers

module _ (g : Grammar) where
  -- what one number does
  module _ (slots : Utterance) (A : Sym) (heads : List Sym) (w r : ℕ) where
    pub data Stepped : State → Type 0 where
      lost : Stepped stuck
      paired : {B C : Sym} {v : ℕ} → At g.rules r (Pair A B C v) → suc (length heads) < length slots
          → Stepped (onward slots (B ∷ C ∷ heads) (w + v))
      worded : {x : W.Word} {v c : ℕ} {slot : List Candidate} {more : Utterance} → At g.rules r (Word A x v)
          → slots ≡ slot ∷ more → candidate x c ∈ slot × (c < not_heard) → Stepped (onward more heads (w + v + c))

    pair_stepped : (H B C : Sym) (v : ℕ) → At g.rules r (Pair H B C v)
        → Stepped (rule_step slots A heads w (some (Pair H B C v)))
    unfolding rule_step
    pair_stepped H B C v p = go (eqb H.0 A.0) refl (ltb (suc (length heads)) (length slots)) refl
      where
        go : (t : Bool) → eqb H.0 A.0 ≡ t → (t' : Bool) → ltb (suc (length heads)) (length slots) ≡ t'
            → Stepped (pick t (pick t' (onward slots (B ∷ C ∷ heads) (w + v)) stuck) stuck)
        go false e t' f = lost
        go true e false f = lost
        go true e true f =
            paired (rw (same_sym H A (eqb-true H.0 A.0 e)) at p) (ltb-true (suc (length heads)) (length slots) f)

    word_stepped : (slot : List Candidate) (more : Utterance) (H : Sym) (x : W.Word) (v : ℕ) → slots ≡ slot ∷ more
        → At g.rules r (Word H x v) → Stepped (rule_step (slot ∷ more) A heads w (some (Word H x v)))
    unfolding rule_step leaf_step
    word_stepped slot more H x v h p = go (eqb H.0 A.0) refl (cost_of x slot) refl
      where
        go : (t : Bool) → eqb H.0 A.0 ≡ t → (o : Option ℕ) → cost_of x slot ≡ o
            → Stepped (pick t (leaf_step more heads (w + v) o) stuck)
        go false e o f = lost
        go true e none f = lost
        go true e (some c) f = worded (rw (same_sym H A (eqb-true H.0 A.0 e)) at p) h (cost_out x slot f)

  stepped : (slots : Utterance) (A : Sym) (heads : List Sym) (w r : ℕ)
      → Stepped slots A heads w r (step g.rules (onward slots (A ∷ heads) w) r)
  unfolding step rule_step
  stepped slots A heads w r = go slots refl (get_elem? g.rules r) refl
    where
      go : (s : Utterance) → slots ≡ s → (o : Option R.Rule) → get_elem? g.rules r ≡ o
          → Stepped slots A heads w r (rule_step s A heads w o)
      go s h none e = lost
      go s h (some (Pair H B C v)) e =
          subst (λ s. Stepped slots A heads w r (rule_step s A heads w (some (Pair H B C v)))) h
          (pair_stepped slots A heads w r H B C v e)
      go [] h (some (Word H x v)) e = lost
      go (slot ∷ more) h (some (Word H x v)) e = word_stepped slots A heads w r slot more H x v h e

module _ (g : Grammar) (u : Utterance) where
  -- one tree for each head, one after the other up to the last place, with their walks and their weights put together
  data Covers : List Sym → ℕ → List ℕ → ℕ → Type 0 where
    done : Covers [] (length u) [] 0
    also : {A : Sym} {heads : List Sym} {i j w : ℕ} {t : Tree} {numbers : List ℕ} → Derives g (edges u) A i j t
        → Covers heads j numbers w → Covers (A ∷ heads) i (walk t ++ numbers) (weight g (edges u) t + w)

  cover_pair : {A B C : Sym} {heads : List Sym} {i v w : ℕ} {numbers : List ℕ} (r : ℕ) → At g.rules r (Pair A B C v)
      → Covers (B ∷ C ∷ heads) i numbers w → Covers (A ∷ heads) i (r ∷ numbers) (v + w)
  unfolding walk
  cover_pair {v = v} r p (also {j = j} {t = s} d₁ (also {w = w} {t = t} {numbers = numbers} d₂ c)) =
      let whole = also (by_pair_rule p (span (edges_short u) d₁) (span (edges_short u) d₂) d₁ d₂) c in
      let n : walk s ++ walk t ++ numbers ≡ walk s ++ (walk t ++ numbers) = append_assoc (walk s) (walk t) numbers in
      let m : weight g (edges u) (node r j s t) + w ≡ v + (weight g (edges u) s + (weight g (edges u) t + w)) =
      rw (node_weight_lem g (edges u) r j s t p) (omega arith) in
      rw (n, m) at whole

  cover_word : {A : Sym} {x : W.Word} {heads : List Sym} {i v c w : ℕ} {numbers : List ℕ} {slot : List Candidate} (r : ℕ)
      → At g.rules r (Word A x v) → At u i slot → candidate x c ∈ slot × (c < not_heard) → Covers heads (suc i) numbers w
      → Covers (A ∷ heads) i (r ∷ numbers) (v + c + w)
  unfolding walk
  cover_word {i = i} {v} {c} {w} r p h m rest =
      let z : 0 + i ≡ i = omega arith in
      let (e, q) = mem_at (rw z at (edges_in_lem 0 u i h m.0)) in
      let whole = also (by_word_rule p (q, m.1)) rest in
      rw (leaf_weight g (edges u) r e p (q, m.1)) at whole

  -- what the run accepts is covered
  abbrev Sound : List ℕ → Type 0
  Sound numbers =
      (slots : Utterance) (heads : List Sym) (w w' i : ℕ) → drop i u ≡ slots → i ≤ length u
      → finished (run g.rules (onward slots heads w) numbers) ≡ some w' → (v : ℕ) × Covers heads i numbers v × (w + v ≡ w')

  sound_step : (slots : Utterance) (A : Sym) (heads : List Sym) (w w' i r : ℕ) (numbers : List ℕ) → Sound numbers
      → drop i u ≡ slots → i ≤ length u → (s : State) → Stepped g slots A heads w r s
      → finished (run g.rules s numbers) ≡ some w' → (v : ℕ) × Covers (A ∷ heads) i (r ∷ numbers) v × (w + v ≡ w')
  unfolding finished
  sound_step slots A heads w w' i r numbers below e b _ lost h = absurd (none≢some (rw (run_stuck g.rules numbers) at h))
  sound_step slots A heads w w' i r numbers below e b _ (paired {B} {C} {v} p room) h =
      let (v', c, n) = below slots (B ∷ C ∷ heads) (w + v) w' i e b h in
      (v + v', cover_pair r p c, omega arith)
  sound_step slots A heads w w' i r numbers below e b _ (worded {v = v} {c = c} {slot} {more} p split m) h =
      let (there, rest) = drop_out u i (e ∙ split) in
      let (v', cover, n) = below more heads (w + v + c) w' (suc i) rest (at_length u i there) h in
      (v + c + v', cover_word r p there m cover, omega arith)

  sound : (numbers : List ℕ) → Sound numbers
  unfolding run step finished
  sound [] [] [] w w' i e b h =
      let z : length u ≡ i = omega (arith, length-drop i u, ap length e) in
      let n : w + 0 ≡ w' = omega (arith, some-injective _ _ h) in
      (0, subst (λ j. Covers [] j [] 0) z done, n)
  sound [] [] (A ∷ heads) w w' i e b h = absurd (none≢some h)
  sound [] (slot ∷ slots) heads w w' i e b h = absurd (none≢some h)
  sound (r ∷ numbers) slots [] w w' i e b h = absurd (none≢some (rw (run_stuck g.rules numbers) at h))
  sound (r ∷ numbers) slots (A ∷ heads) w w' i e b h =
      sound_step slots A heads w w' i r numbers (sound numbers) e b _ (stepped g slots A heads w r) h

  -- where words ascend, a derivation's walk takes the run over it
  word_step_lem : {A : Sym} {x : W.Word} {v c : ℕ} (slot : List Candidate) (slots : Utterance) (heads : List Sym) (w r : ℕ)
      → At g.rules r (Word A x v) → cost_of x slot ≡ some c
      → step g.rules (onward (slot ∷ slots) (A ∷ heads) w) r ≡ onward slots heads (w + v + c)
  unfolding step rule_step leaf_step
  word_step_lem {A} slot slots heads w r p q = rw (p, eq-eqb A.0 A.0 refl, q)

  pair_step_lem : {A B C : Sym} {v : ℕ} (slots : Utterance) (heads : List Sym) (w r : ℕ) → At g.rules r (Pair A B C v)
      → suc (length heads) < length slots
      → step g.rules (onward slots (A ∷ heads) w) r ≡ onward slots (B ∷ C ∷ heads) (w + v)
  unfolding step rule_step
  pair_step_lem {A} slots heads w r p room = rw (p, eq-eqb A.0 A.0 refl, lt-ltb (suc (length heads)) (length slots) room)

  module _ (ascending : Ascending u) where
    complete : {A : Sym} {i k : ℕ} {t : Tree} → Derives g (edges u) A i k t → (heads : List Sym) (w : ℕ) (numbers : List ℕ)
        → k + length heads ≤ length u
        → run g.rules (onward (drop i u) (A ∷ heads) w) (walk t ++ numbers)
        ≡ run g.rules (onward (drop k u) heads (w + weight g (edges u) t)) numbers
    unfolding walk run
    complete (by_word_rule {x = x} {r = r} {e = e} {w = v} {c = c} {i = i} {k = k} p q) heads w numbers b =
        let (slot, there, offers, end) = edge_slot u e q.0 in
        let cost = cost_in 0 x slot (all_at (AscendingFrom 0) u i ascending there) offers q.1 in
        let sum : w + (v + c) ≡ w + v + c = omega arith in
        let leaves = leaf_weight g (edges u) r e p q in
        rw (drop_cons_at u i there, word_step_lem slot (drop (suc i) u) heads w r p cost, leaves, end, sum)
    complete (by_pair_rule {A} {B} {C} {r} {w = v} {i} {j} {k} {s} {t} p h₁ h₂ d₁ d₂) heads w numbers b =
        let room : suc (length heads) < length (drop i u) = rw (length-drop i u) (omega arith) in
        let sum : w + v + weight g (edges u) s + weight g (edges u) t ≡ w + weight g (edges u) (node r j s t) =
        rw (node_weight_lem g (edges u) r j s t p) (omega arith) in
        ap (λ (z : State). run g.rules z (walk s ++ walk t ++ numbers)) (pair_step_lem (drop i u) heads w r p room)
        ∙ ap (run g.rules (onward (drop i u) (B ∷ C ∷ heads) (w + v))) (append_assoc (walk s) (walk t) numbers)
        ∙ complete d₁ (C ∷ heads) (w + v) (walk t ++ numbers) (omega arith)
        ∙ complete d₂ heads (w + v + weight g (edges u) s) numbers b
        ∙ ap (λ (m : ℕ). run g.rules (onward (drop k u) heads m) numbers) sum

    whole : {numbers : List ℕ} {v : ℕ} → Covers (symbol_of 0 ∷ []) 0 numbers v
        → (t : Tree) × Derivation g (M.slots u) t × (walk t ≡ numbers) × (weight g (edges u) t ≡ v)
    whole (also {t = t} d done) = (t, d, sym (append-nil (walk t)), omega arith)

    -- the run accepts exactly the walks of derivations, with their weight
    pub walk_weight_lem : (numbers : List ℕ) (w : ℕ) → (walk_weight g.rules u numbers ≡ some w)
        ↔ ((t : Tree) × Derivation g (M.slots u) t × (walk t ≡ numbers) × (weight g (edges u) t ≡ w))
    unfolding walk_weight
    walk_weight_lem numbers w = (to, from)
      where
        to : walk_weight g.rules u numbers ≡ some w → (t : Tree) × Derivation g (M.slots u) t × (walk t ≡ numbers) × (weight g (edges u) t ≡ w)
        to h =
            let (v, c, n) = sound numbers u (symbol_of 0 ∷ []) 0 w 0 refl (omega arith) h in let (t, d, n', e) = whole c in
            (t, d, n', omega arith)

        from : (t : Tree) × Derivation g (M.slots u) t × (walk t ≡ numbers) × (weight g (edges u) t ≡ w)
            → walk_weight g.rules u numbers ≡ some w
        from (t, d, n, e) =
            let at_end : drop (length u) u ≡ [] = drop-length u in
            let w' : 0 + weight g (edges u) t ≡ w = omega arith in
            rw (← n, ← append-nil (walk t)) (ap finished (complete d [] 0 [] (omega arith)) ∙ rw (at_end, w'))

    -- and nothing else
    pub walk_none : (numbers : List ℕ) → ((t : Tree) → Derivation g (M.slots u) t → walk t ≡ numbers → ⊥) → walk_weight g.rules u numbers ≡ none
    walk_none numbers h = go (walk_weight g.rules u numbers) refl
      where
        go : (o : Option ℕ) → walk_weight g.rules u numbers ≡ o → walk_weight g.rules u numbers ≡ none
        go none e = e
        go (some w) e = let (t, d, n, p) = (walk_weight_lem numbers w).0 e in absurd (h t d n)
