-- The run over a graph's reading accepts exactly the derivations whose nodes stand in the block, with their weight: a state's heads are
-- covered, from its place and its bit on, by one tree each, whose paths have the edges that are left.
-- No path is without an edge, so the test for room never turns a derivation away.
use mathlib.Core.Path.{◌≡◌, refl, sym, ap, ◌∙◌}
use mathlib.Core.Logic.{◌↔◌}
use mathlib.Core.Bool.{Bool, true, false}
use mathlib.Core.Option.{Option, none, some, some-injective}
use mathlib.Core.List.{List, [], ◌∷◌, ◌++◌, append_assoc, append-nil}
use Prim.Native.Nat.{ℕ, zero, suc, ◌+◌, ◌-◌, ◌*◌, ◌≤◌, ◌<◌}
use native.Mathlib.Omega.{arith}
use borrow.Author.Tests.{eqb-true, ltb-true, eq-eqb, lt-ltb}
use lib.Dec.{eqb, ltb}
use lib.ListN.{length, get_elem?, length-append}
use Rattle.bits.specs.Bits.{pick}
use Rattle.packing.specs.declared.Sym.{Sym}
use Rattle.packing.specs.declared.Word as W
use Rattle.packing.specs.declared.Rule as R
use Rattle.packing.specs.declared.Rule.TheVariants.{Pair, Word}
use Rattle.packing.specs.Meaning.{not_heard, symbol_of, Grammar, Edge, edge, Node, by_pair, by_word}
use Rattle.packing.specs.Parse.{Parse, parsed, failed, ◌⟫◌}
use Rattle.packing.specs.Source.{Source, bytes, field_at}
use Rattle.packing.specs.Reading.{rule_number}
use Rattle.packing.specs.GraphReading.{edge_number, node_entries, trace_entries, TraceIn}
use Rattle.packing.proofs.Parse.{through, same_parsed}
use Rattle.packing.proofs.Taken.{Taken, all, more, taken_join, taken_split, taken_held, held_taken}
use Rattle.packing.proofs.GraphReading.{trace_fits, trace_decided}
use Rattle.derivation.specs.Derivation.{At, Offered, Tree, node, Derives, by_word_rule, by_pair_rule, weight, walk}
use Rattle.derivation.specs.Heard.{path_length, trace}
use Rattle.derivation.specs.Path.{
  State,
  onward,
  stuck,
  edge_step,
  pair_step,
  word_step,
  step,
  node_by,
  node_from,
  rules_read,
  run_from,
  finished,
  weight_at,
  path_weight,
}
use Rattle.derivation.proofs.Lists.{none≢some}
use Rattle.derivation.proofs.Rows.{leaf_weight, node_weight_lem}
use Rattle.derivation.proofs.Trees.{same_sym, same_word}
use Rattle.derivation.proofs.Paths.{Forward, path_bound}
use Rattle.derivation.proofs.Trace.{is_word_rule, trace_one, trace_length, trace_below, trace_kinded}

pub stuck_none : (rules : List R.Rule) (es : List Edge) (src : Source) (last m at : ℕ) → weight_at last (run_from rules es src m stuck at) ≡ none
unfolding run_from step finished
stuck_none rules es src last zero at = refl
stuck_none rules es src last (suc m) at = go (node_from rules src at) (stuck_none rules es src last m)
  where
    go : (p : Parse Node) → ((at : ℕ) → weight_at last (run_from rules es src m stuck at) ≡ none)
        → weight_at last (p ⟫ λ x at. run_from rules es src m (step rules es stuck x) at) ≡ none
    go (parsed x next) below = below next
    go (failed n) below = refl

pub trace_append : (R : ℕ) (xs ys : List Node) → trace_entries R (xs ++ ys) ≡ trace_entries R xs ++ trace_entries R ys
unfolding trace_entries
trace_append R [] ys = refl
trace_append R (x ∷ xs) ys = rw (trace_append R xs ys) (sym (append_assoc (node_entries R x) (trace_entries R xs) (trace_entries R ys)))

module _ (g : Grammar) (es : List Edge) (src : Source) where
  abbrev count : ℕ
  count = length g.rules

  abbrev runs : ℕ → State → ℕ → Parse State
  runs = run_from g.rules es src

  -- what one node does
  module _ (place left : ℕ) (A : Sym) (heads : List Sym) (w : ℕ) where
    data Stepped : Node → State → Type 0 where
      lost : {x : Node} → Stepped x stuck
      paired : {B C : Sym} {v r : ℕ} → At g.rules r (Pair A B C v) → Stepped (by_pair r) (onward place left (B ∷ C ∷ heads) (w + v))
      worded : {x : W.Word} {v c k l r e : ℕ} → At g.rules r (Word A x v) → Offered es e (edge place k x c) → left ≡ suc l
          → Stepped (by_word r e) (onward k l heads (w + v + c))

    pair_stepped : (r : ℕ) (o : Option R.Rule) → get_elem? g.rules r ≡ o → Stepped (by_pair r) (pair_step place left A heads w o)
    unfolding pair_step
    pair_stepped r none p = lost
    pair_stepped r (some (Word H x v)) p = lost
    pair_stepped r (some (Pair H B C v)) p = go (eqb H.0 A.0) refl (ltb (suc (length heads)) left)
      where
        go : (t : Bool) → eqb H.0 A.0 ≡ t → (t' : Bool)
            → Stepped (by_pair r) (pick t (pick t' (onward place left (B ∷ C ∷ heads) (w + v)) stuck) stuck)
        go false e t' = lost
        go true e false = lost
        go true e true = paired (rw (same_sym H A (eqb-true H.0 A.0 e)) at p)

    edge_stepped : (l r e v : ℕ) (x : W.Word) → left ≡ suc l → At g.rules r (Word A x v) → (o : Option Edge) → get_elem? es e ≡ o
        → Stepped (by_word r e) (edge_step x place l heads (w + v) o)
    unfolding edge_step
    edge_stepped l r e v x h p none q = lost
    edge_stepped l r e v x h p (some (edge i k y c)) q = go (eqb i place) refl (eqb y.0 x.0) refl (ltb c not_heard) refl
      where
        go : (a : Bool) → eqb i place ≡ a → (b : Bool) → eqb y.0 x.0 ≡ b → (d : Bool) → ltb c not_heard ≡ d
            → Stepped (by_word r e) (pick a (pick b (pick d (onward k l heads (w + v + c)) stuck) stuck) stuck)
        go false ha b hb d hd = lost
        go true ha false hb d hd = lost
        go true ha true hb false hd = lost
        go true ha true hb true hd =
            worded p (rw (eqb-true i place ha, same_word y x (eqb-true y.0 x.0 hb)) at q, ltb-true c not_heard hd) h

    word_stepped : (r e : ℕ) (o : Option R.Rule) → get_elem? g.rules r ≡ o → (l : ℕ) → left ≡ l
        → Stepped (by_word r e) (word_step place l A heads w o (get_elem? es e))
    unfolding word_step
    word_stepped r e none p l h = lost
    word_stepped r e (some (Pair H B C v)) p l h = lost
    word_stepped r e (some (Word H x v)) p zero h = lost
    word_stepped r e (some (Word H x v)) p (suc l) h = go (eqb H.0 A.0) refl
      where
        go : (t : Bool) → eqb H.0 A.0 ≡ t → Stepped (by_word r e) (pick t (edge_step x place l heads (w + v) (get_elem? es e)) stuck)
        go false f = lost
        go true f = edge_stepped l r e v x h (rw (same_sym H A (eqb-true H.0 A.0 f)) at p) (get_elem? es e) refl

    stepped : (x : Node) → Stepped x (step g.rules es (onward place left (A ∷ heads) w) x)
    unfolding step
    stepped (by_pair r) = pair_stepped r (get_elem? g.rules r) refl
    stepped (by_word r e) = word_stepped r e (get_elem? g.rules r) refl left refl

  -- a node that was read is taken
  node_taken : (at : ℕ) {x : Node} {next : ℕ} → node_from g.rules src at ≡ parsed x next → Taken src at (node_entries count x) next
  unfolding node_from node_by
  node_taken at e = through (field_at src at (rule_number count)) _ e λ r mid p q. go r mid p (get_elem? g.rules r) q
    where
      go : (r mid : ℕ) → field_at src at (rule_number count) ≡ parsed r mid → (o : Option R.Rule) {x : Node} {next : ℕ} → node_by src r mid o ≡ parsed x next
          → Taken src at (node_entries count x) next
      go r mid p none q = let z : ◌≡◌ {A = ℕ} 0 1 = cc in absurd (omega arith)
      go r mid p (some (Pair H B C v)) q = same_parsed (λ x next. Taken src at (node_entries count x) next) q (more p all)
      go r mid p (some (Word H y v)) q =
          through (field_at src mid edge_number) _ q λ e end h k. same_parsed (λ x next. Taken src at (node_entries count x) next) k (more p (more h all))

  module _ (forward : Forward es) (last : ℕ) where
    -- one tree for each head, one after the other up to the last place, with their edges, nodes and weights put together
    data Covers : List Sym → ℕ → ℕ → ℕ → ℕ → Type 0 where
      done : {at : ℕ} → Covers [] last 0 at 0
      also : {A : Sym} {heads : List Sym} {i j n at mid w : ℕ} {t : Tree} → Derives g es A i j t → Taken src at (trace_entries count (trace t)) mid
          → Covers heads j n mid w → Covers (A ∷ heads) i (path_length t + n) at (weight g es t + w)

    cover_pair : {A B C : Sym} {heads : List Sym} {i n at mid v w : ℕ} (r : ℕ) → At g.rules r (Pair A B C v)
        → Taken src at (node_entries count (by_pair r)) mid
        → Covers (B ∷ C ∷ heads) i n mid w → Covers (A ∷ heads) i n at (v + w)
    unfolding trace trace_entries path_length
    cover_pair {i = i} {at = at} {v = v} r p q (also {j = j} {t = s} d₁ t₁ (also {j = k} {n = n} {mid = end} {w = w} {t = t} d₂ t₂ c)) =
        let nodes : Taken src at (trace_entries count (trace (node r j s t))) end =
        rw (trace_append count (trace s) (trace t)) (taken_join q (taken_join t₁ t₂)) in
        let whole = also (by_pair_rule {i = i} {j = j} {k = k} p (omega (arith, path_bound g es forward d₁)) (omega (arith, path_bound g es forward d₂)) d₁
        d₂) nodes
        c in
        let l : path_length s + path_length t + n ≡ path_length s + (path_length t + n) = omega arith in
        let m : weight g es (node r j s t) + w ≡ v + (weight g es s + (weight g es t + w)) = rw (node_weight_lem g es r j s t p) (omega arith) in
        rw (l, m) at whole

    cover_word : {A : Sym} {x : W.Word} {heads : List Sym} {i k n at mid v c w : ℕ} (r e : ℕ) → At g.rules r (Word A x v) → Offered es e (edge i k x c)
        → Taken src at (node_entries count (by_word r e)) mid → Covers heads k n mid w → Covers (A ∷ heads) i (suc n) at (v + c + w)
    unfolding trace trace_entries path_length
    cover_word {n = n} r e p q k rest =
        let whole = also (by_word_rule p q) k rest in
        let l : 1 + n ≡ suc n = omega arith in
        rw (l, leaf_weight g es r e p q) at whole

    -- what the run accepts is covered
    abbrev Sound : ℕ → Type 0
    Sound m =
        (place left : ℕ) (heads : List Sym) (w w' at : ℕ) → weight_at last (runs m (onward place left heads w) at) ≡ some w'
        → (v : ℕ) × Covers heads place left at v × (w + v ≡ w')

    sound_step : (m place left : ℕ) (A : Sym) (heads : List Sym) (w w' at next : ℕ) (x : Node) → Sound m → Taken src at (node_entries count x) next
        → (s : State)
        → Stepped place left A heads w x s → weight_at last (runs m s next) ≡ some w' → (v : ℕ) × Covers (A ∷ heads) place left at v × (w + v ≡ w')
    sound_step m place left A heads w w' at next _ below k _ lost h = absurd (none≢some (sym (stuck_none g.rules es src last m next) ∙ h))
    sound_step m place left A heads w w' at next _ below k _ (paired {B} {C} {v} {r} p) h =
        let (v', c, n) = below place left (B ∷ C ∷ heads) (w + v) w' next h in
        (v + v', cover_pair r p k c, omega arith)
    sound_step m place left A heads w w' at next _ below k _ (worded {v = v} {c = c} {k = end} {l = l} {r = r} {e = e} p q s) h =
        let (v', cover, n) = below end l heads (w + v + c) w' next h in
        (v + c + v', rw s (cover_word r e p q k cover), omega arith)

    sound : (m : ℕ) → Sound m
    unfolding run_from finished step
    sound zero place (suc left) heads w w' at h = absurd (none≢some h)
    sound zero place zero (A ∷ heads) w w' at h = absurd (none≢some h)
    sound zero place zero [] w w' at h = go (eqb place last) refl h
      where
        go : (b : Bool) → eqb place last ≡ b → pick b (some w) none ≡ some w' → (v : ℕ) × Covers [] place 0 at v × (w + v ≡ w')
        go false e f = absurd (none≢some f)
        go true e f =
            let n : w + 0 ≡ w' = omega (arith, some-injective _ _ f) in
            (0, rw (eqb-true place last e) done, n)
    sound (suc m) place left [] w w' at h = go (node_from g.rules src at) h
      where
        go : (p : Parse Node) → weight_at last (p ⟫ λ x at. runs m (step g.rules es (onward place left [] w) x) at) ≡ some w'
            → (v : ℕ) × Covers [] place left at v × (w + v ≡ w')
        go (parsed x next) f = absurd (none≢some (sym (stuck_none g.rules es src last m next) ∙ f))
        go (failed n) f = absurd (none≢some f)
    sound (suc m) place left (A ∷ heads) w w' at h = go (node_from g.rules src at) refl (sound m) h
      where
        go : (p : Parse Node) → node_from g.rules src at ≡ p → Sound m
            → weight_at last (p ⟫ λ x at. runs m (step g.rules es (onward place left (A ∷ heads) w) x) at) ≡ some w'
            → (v : ℕ) × Covers (A ∷ heads) place left at v × (w + v ≡ w')
        go (failed n) e below f = absurd (none≢some f)
        go (parsed x next) e below f = sound_step m place left A heads w w' at next x below (node_taken at e) _ (stepped place left A heads w x) f

    -- a derivation's nodes take the run over them
    pair_read : {A B C : Sym} {v r mid : ℕ} (at : ℕ) → At g.rules r (Pair A B C v) → field_at src at (rule_number count) ≡ parsed r mid
        → node_from g.rules src at ≡ parsed (by_pair r) mid
    unfolding node_from node_by
    pair_read at p q = rw (q, p)

    word_read : {A : Sym} {x : W.Word} {v r e mid next : ℕ} (at : ℕ) → At g.rules r (Word A x v) → field_at src at (rule_number count) ≡ parsed r mid
        → field_at src mid edge_number ≡ parsed e next → node_from g.rules src at ≡ parsed (by_word r e) next
    unfolding node_from node_by
    word_read at p q s = rw (q, p, s)

    pair_step_lem : {A B C : Sym} {v : ℕ} (place left r : ℕ) (heads : List Sym) (w : ℕ) → At g.rules r (Pair A B C v) → suc (length heads) < left
        → step g.rules es (onward place left (A ∷ heads) w) (by_pair r) ≡ onward place left (B ∷ C ∷ heads) (w + v)
    unfolding step pair_step
    pair_step_lem {A} place left r heads w p room = rw (p, eq-eqb A.0 A.0 refl, lt-ltb (suc (length heads)) left room)

    word_step_lem : {A : Sym} {x : W.Word} {v c k : ℕ} (place left r e : ℕ) (heads : List Sym) (w : ℕ) → At g.rules r (Word A x v)
        → Offered es e (edge place k x c) → step g.rules es (onward place (suc left) (A ∷ heads) w) (by_word r e) ≡ onward k left heads (w + v + c)
    unfolding step word_step edge_step
    word_step_lem {A} {x} {c = c} place left r e heads w p o =
        rw (p, o.0, eq-eqb A.0 A.0 refl, eq-eqb place place refl, eq-eqb x.0 x.0 refl, lt-ltb c not_heard o.1)

    run_node : {x : Node} {s : State} {mid : ℕ} (m : ℕ) (from : State) (at : ℕ) → node_from g.rules src at ≡ parsed x mid → step g.rules es from x ≡ s
        → runs (suc m) from at ≡ runs m s mid
    unfolding run_from
    run_node m from at p q = rw (p, q)

    complete : {A : Sym} {i k : ℕ} {t : Tree} → Derives g es A i k t → {at mid : ℕ} → Taken src at (trace_entries count (trace t)) mid
        → (heads : List Sym) (w n m : ℕ)
        → length heads ≤ n
        → runs (length (trace t) + m) (onward i (path_length t + n) (A ∷ heads) w) at ≡ runs m (onward k n heads (w + weight g es t)) mid
    unfolding trace trace_entries path_length
    complete {i = i} {k = k} (by_word_rule {r = r} {e = e} {w = v} {c = c} p o) {at} (more q (more s all)) heads w n m room =
        let a : 1 + m ≡ suc m = omega arith in
        let b : 1 + n ≡ suc n = omega arith in
        let sum : w + (v + c) ≡ w + v + c = omega arith in
        rw (a, b, leaf_weight g es r e p o, sum) (run_node m (onward i (suc n) (_ ∷ heads) w) at (word_read at p q s) (word_step_lem i n r e heads w p o))
    complete (by_pair_rule {A} {B} {C} {r} {w = v} {i} {j} {k} {s} {t} p h₁ h₂ d₁ d₂) {at = at} {mid = end} (more {mid = mid} q rest) heads w n m room =
        let (split, t₁, t₂) = taken_split (trace_entries count (trace s)) (rw (trace_append count (trace s) (trace t)) at rest) in
        let steps : suc (length (trace s ++ trace t)) + m ≡ suc (length (trace s) + (length (trace t) + m)) =
        rw (length-append (trace s) (trace t)) (omega arith) in
        let edges : path_length s + path_length t + n ≡ path_length s + (path_length t + n) = omega arith in
        let sum : w + v + weight g es s + weight g es t ≡ w + weight g es (node r j s t) = rw (node_weight_lem g es r j s t p) (omega arith) in
        let l₁ = path_bound g es forward d₁ in
        let l₂ = path_bound g es forward d₂ in
        rw (steps, edges)
        (run_node (length (trace s) + (length (trace t) + m)) (onward i (path_length s + (path_length t + n)) (A ∷ heads) w) at (pair_read at p q)
        (pair_step_lem i (path_length s + (path_length t + n)) r heads w p (omega arith))
        ∙ complete d₁ t₁ (C ∷ heads) (w + v) (path_length t + n) (length (trace t) + m) (omega arith)
        ∙ complete d₂ t₂ heads (w + v + weight g es s) n m room
        ∙ ap (λ (x : ℕ). runs m (onward k n heads x) end) sum)

-- the nodes of a derivation are read as its walk
module _ (g : Grammar) (es : List Edge) (src : Source) where
  abbrev reads : ℕ → ℕ → Parse (List ℕ)
  reads = rules_read g.rules src

  abbrev behind : List ℕ → Parse (List ℕ) → Parse (List ℕ)
  behind front p = p ⟫ λ l at. parsed (front ++ l) at

  behind_join : (front next : List ℕ) (p : Parse (List ℕ)) → behind front (behind next p) ≡ behind (front ++ next) p
  behind_join front next (parsed l at) = rw append_assoc
  behind_join front next (failed n) = refl

  walks : {A : Sym} {i k : ℕ} {t : Tree} → Derives g es A i k t → {at mid : ℕ} → Taken src at (trace_entries (length g.rules) (trace t)) mid → (m : ℕ)
      → reads (length (trace t) + m) at ≡ behind (walk t) (reads m mid)
  unfolding trace trace_entries walk rules_read node_from node_by
  walks (by_word_rule p o) (more q (more s all)) m =
      let a : 1 + m ≡ suc m = omega arith in
      rw (a, q, p, s)
  walks (by_pair_rule {r = r} {s = s} {t = t} p h₁ h₂ d₁ d₂) {mid = end} (more q rest) m =
      let R : ℕ = length g.rules in
      let (split, t₁, t₂) = taken_split (trace_entries R (trace s)) (rw (trace_append R (trace s) (trace t)) at rest) in
      let steps : suc (length (trace s ++ trace t)) + m ≡ suc (length (trace s) + (length (trace t) + m)) =
      rw (length-append (trace s) (trace t)) (omega arith) in
      rw (steps, q, p, walks d₁ t₁ (length (trace t) + m), walks d₂ t₂ m, behind_join (walk s) (walk t) (reads m end))
      (behind_join (r ∷ []) (walk s ++ walk t) (reads m end))

  pub walk_read : {A : Sym} {i k : ℕ} {t : Tree} → Derives g es A i k t → {at mid : ℕ} → Taken src at (trace_entries (length g.rules) (trace t)) mid → (m : ℕ)
      → m ≡ 2 * path_length t - 1 → reads m at ≡ parsed (walk t) mid
  unfolding rules_read
  walk_read {t = t} d k m e =
      let size : m ≡ length (trace t) + 0 = omega (arith, trace_length t) in
      rw size (walks d k 0 ∙ rw append-nil)

-- t is a tree from the first place to the last, of n edges, and its nodes stand in the block from bit 34 on
pub record Stands (g : Grammar) (es : List Edge) (last n : ℕ) (s : List ℕ) (t : Tree) : Type 0 where
  pub derives : Derives g es (symbol_of 0) 0 last t
  pub edges : path_length t ≡ n
  pub nodes : TraceIn (length g.rules) (trace t) s

module _ (g : Grammar) (es : List Edge) (forward : Forward es) (few : length es ≤ 128) (small : length g.rules ≤ 256) (last n : ℕ) (s : List ℕ)
    (long : 34 ≤ 8 * length s) where
  abbrev src : Source
  src = bytes 31 s

  nodes_taken : {A : Sym} {i k : ℕ} {t : Tree} → Derives g es A i k t → TraceIn (length g.rules) (trace t) s
      → (next : ℕ) × Taken src 34 (trace_entries (length g.rules) (trace t)) next
  nodes_taken {t = t} d h =
      let (f, w) = trace_fits (length g.rules) small (trace t) (trace_below g es few d) in
      (_, held_taken 31 s 34 (trace_entries (length g.rules) (trace t)) f w h)

  -- the rule numbers that are read are its walk
  pub rules_read_lem : {t : Tree} → Stands g es last n s t → (next : ℕ) × (rules_read g.rules src (2 * n - 1) 34 ≡ parsed (walk t) next)
  rules_read_lem d =
      let (next, k) = nodes_taken d.derives d.nodes in
      (next, walk_read g es src d.derives k (2 * n - 1) (rw d.edges))

  whole : {v : ℕ} → Covers g es src forward last (symbol_of 0 ∷ []) 0 n 34 v → (t : Tree) × Stands g es last n s t × (weight g es t ≡ v)
  whole c = go n refl c
    where
      go : (m : ℕ) → m ≡ n → {v : ℕ} → Covers g es src forward last (symbol_of 0 ∷ []) 0 m 34 v → (t : Tree) × Stands g es last n s t × (weight g es t ≡ v)
      go _ e (also {t = t} d k done) = (t, record { derives = d; edges = omega arith; nodes = (taken_held 31 s long k).2 }, omega arith)

  -- the run accepts exactly these trees, with their weight
  pub path_weight_lem : (w : ℕ) → (path_weight g.rules es last n s ≡ some w) ↔ ((t : Tree) × Stands g es last n s t × (weight g es t ≡ w))
  unfolding path_weight run_from finished
  path_weight_lem w = (to, from)
    where
      to : path_weight g.rules es last n s ≡ some w → (t : Tree) × Stands g es last n s t × (weight g es t ≡ w)
      to h =
          let (v, c, k) = sound g es src forward last (2 * n - 1) 0 n (symbol_of 0 ∷ []) 0 w 34 h in
          let (t, d, e) = whole c in
          (t, d, omega arith)

      from : (t : Tree) × Stands g es last n s t × (weight g es t ≡ w) → path_weight g.rules es last n s ≡ some w
      from (t, d, e) =
          let (next, k) = nodes_taken d.derives d.nodes in
          let steps : length (trace t) + 0 ≡ 2 * n - 1 = omega (arith, trace_length t, d.edges) in
          let edges : path_length t + 0 ≡ n = omega (arith, d.edges) in
          let sum : 0 + weight g es t ≡ w = omega arith in
          rw (← steps, ← edges) (ap (weight_at last) (complete g es src forward last d.derives k [] 0 0 0 (omega arith)) ∙ rw (eq-eqb last last refl, sum))

  -- and nothing else
  pub path_none : ((t : Tree) → ¬ Stands g es last n s t) → path_weight g.rules es last n s ≡ none
  path_none h = go (path_weight g.rules es last n s) refl
    where
      go : (o : Option ℕ) → path_weight g.rules es last n s ≡ o → path_weight g.rules es last n s ≡ none
      go none e = e
      go (some w) e = let (t, d, p) = (path_weight_lem w).0 e in absurd (h t d)

  -- there is one at most
  pub stands_one : (t t' : Tree) → Stands g es last n s t → Stands g es last n s t' → t ≡ t'
  stands_one t t' a b =
      let l : length (trace t) ≡ length (trace t') = omega (arith, trace_length t, trace_length t', a.edges, b.edges) in
      trace_one g es a.derives b.derives
      (trace_decided (is_word_rule g) src (length g.rules) (trace t) (trace t') (trace_kinded g es a.derives) (trace_kinded g es b.derives) l
      (nodes_taken a.derives a.nodes).1 (nodes_taken b.derives b.nodes).1)
