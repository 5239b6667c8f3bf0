-- The entries that are collected from an array of outside weights are cost_changes' list.
use mathlib.Core.Path.{◌≡◌, refl, sym, ap, ◌∙◌, subst}
use mathlib.Core.Bool.{Bool, true, false}
use mathlib.Core.Option.{Option, none, some}
use mathlib.Core.List.{List}
use Prim.Native.Nat.{ℕ, zero, suc, ◌+◌, ◌-◌, ◌*◌, ◌%◌, ◌≤◌, ◌<◌}
use native.Mathlib.Omega.{arith}
use native.Mathlib.Numerals.{add-one}
use native.Mathlib.Decide.{dec_le, dec_lt}
use lib.Dec.{eqb, leb, ltb}
use lib.ListN.{length, get_or, get_elem?}
use borrow.Author.Tests.{ne_eqb, lt-ltb, le-ltb, le-leb, lt-leb}
use Rattle.bits.specs.Bits.{pick}
use Rattle.packing.specs.declared.Sym.{Sym}
use Rattle.packing.specs.declared.Word as W
use Rattle.packing.specs.declared.Rule as R
use Rattle.packing.specs.declared.Rule.TheVariants.{Pair, Word}
use Rattle.packing.specs.Meaning.{not_heard, symbol_of, word, Grammar, Utterance, edge, edges}
use Rattle.packing.specs.Flat.{rule_at}
use Rattle.packing.specs.Loop.{iter}
use Rattle.derivation.specs.Derivation.{At, Tree, weight}
use Rattle.derivation.proofs.Ranges.{Ascending}
use Rattle.derivation.proofs.Slots.{edge_slot, edges_short}
use Rattle.derivation.proofs.Lists.{at_length}
use Rattle.chart_table.specs.declared.Layout.{Layout}
use Rattle.chart_table.specs.Table.{cell, cell_number}
use Rattle.chart_theory.proofs.Table.Cells.{InChart}
use Rattle.cost_changes.specs.Costs.{First}
use Rattle.cost_changes.specs.Margins as M
use Rattle.cost_changes.specs.Outside as O
use Rattle.cost_changes.specs.Outside.{least_upto, sum, outside, through_by}
use Rattle.cost_changes.specs.Listed.{entry_from, entry_of, listed}
use Rattle.cost_changes.proofs.Theorems.{edges_forward}
use Rattle.cost_changes.proofs.Least.{upto_same}
use Rattle.cost_changes.proofs.Agree.{AgreeAbove, through_same}
use Rattle.cost_changes.proofs.Through.{through_bound}
use Rattle.cost_changes.proofs.Margins.{first_under}
use Rattle.one_best.specs.declared.Pass.{Pass}
use Rattle.outside_entries.specs.Entries.{lesser}
use Rattle.outside_theory.proofs.Decoded.{read, read_some, not_zero, lesser_read, outer_in}
use Rattle.outside_theory.proofs.Source.{Source}
use Rattle.margin_entries.specs.Entries.{heavier, leaf_through, through, no_entry, as_entry, margin_of, edge_entry, entries_upto}

heavier_read : (a w c : ℕ) → read (heavier a (w + c)) ≡ sum w (some c) (read a)
unfolding heavier read sum
heavier_read zero w c = refl
heavier_read (suc a) w c =
    let h : suc a + (w + c) ≡ suc (w + c + a) = omega arith in
    rw (not_zero a, h)

-- a loop that keeps the least so far
iter_read : (f : ℕ → ℕ) (n : ℕ) → read (iter (λ m x. lesser m (f x)) 0 n) ≡ least_upto (λ x. read (f x)) n
unfolding iter read least_upto
iter_read f zero = refl
iter_read f (suc n) = lesser_read (iter (λ m x. lesser m (f x)) 0 n) (f n) ∙ rw (iter_read f n)

-- the least weight through a word
module _ (o : List ℕ) (d : Layout) (s x c : ℕ) where
  leaf_read : (rule : R.Rule) → read (leaf_through o d s x c rule) ≡ through_by (outer_in d o) (edge s (suc s) (word x) c) (some rule)
  unfolding through_by read
  leaf_read (Pair H L R w) = refl
  leaf_read (Word H y w) = go (eqb y.0 x)
    where
      go : (b : Bool) → read (pick b (heavier (get_or o (cell_number d (cell H s (s + 1))) 0) (w + c)) 0)
          ≡ pick b (sum w (some c) (outer_in d o H s (suc s))) none
      go false = refl
      go true = rw (add-one s) (heavier_read (get_or o (cell_number d (cell H s (suc s))) 0) w c)

  through_read : (g : Grammar) (rules : List ℕ) → ((r : ℕ) → r < length g.rules → At g.rules r (rule_at rules r))
      → read (through o rules (length g.rules) d s x c) ≡ O.through g (outer_in d o) (edge s (suc s) (word x) c)
  unfolding through O.through
  through_read g rules rule_at_lem =
      iter_read (λ r. leaf_through o d s x c (rule_at rules r)) (length g.rules)
      ∙ upto_same _ (λ r. through_by (outer_in d o) (edge s (suc s) (word x) c) (get_elem? g.rules r)) (length g.rules) (λ r l.
      leaf_read (rule_at rules r) ∙ ap (through_by (outer_in d o) (edge s (suc s) (word x) c)) (sym (rule_at_lem r l)))

-- a word's entry
margin_read : (s k x c w v : ℕ) (o : Option ℕ) → read v ≡ o → ((y : ℕ) → o ≡ some y → (w ≤ y) × (y < 4294967295))
    → as_entry (margin_of s x c w v) ≡ entry_from w (edge s k (word x) c) o
unfolding margin_of entry_from read
margin_read s k x c w zero none e h = rw (le-leb 0 w (omega arith))
margin_read s k x c w zero (some y) e h = absurd (omega (arith, read_some 0 y e))
margin_read s k x c w (suc v) none e h = absurd (some_not_none v e)
  where
    some_not_none : (v : ℕ) → ◌≡◌ {A = Option ℕ} (some v) none → ⊥
    some_not_none v e = let z : ◌≡◌ {A = ℕ} 0 1 = cc in omega arith
margin_read s k x c w (suc v) (some y) e h =
    let same = read_some (suc v) y e in
    let (under, small) = h y refl in
    let d_is : suc v - w ≡ y + 1 - w = omega arith in
    let d_small : (y + 1 - w) % 4294967296 ≡ y + 1 - w = omega arith in
    let v_small : (suc v - 1) % 4294967296 ≡ y = omega arith in
    rw (lt-leb (suc v) w (omega arith), d_is, d_small, v_small) (go (y + 1 - w) (omega arith) (dec_le (y + 1 - w) c))
  where
    go : (a : ℕ) → 1 ≤ a → Dec (a ≤ c)
        → as_entry (pick (ltb c a) no_entry (record { amount = a; slot = s; word = x; weight = y }))
        ≡ pick (leb a c) (some (M.entry a s x y)) none
    go a positive (yes l) = rw (le-ltb c a l, le-leb a c l, ne_eqb a 0 (λ z. omega arith))
    go a positive (no l) = rw (lt-ltb c a (omega arith), lt-leb a c (omega arith))

-- over an utterance with a reading, from an array that holds the outside weights
module _ {g : Grammar} {rules t : List ℕ} {d : Layout} (u : Utterance) (s : Source g (edges u) rules t d) (places : d.last ≡ length u)
    (ascending : Ascending u) (t₁ : Tree) (first : First g u t₁) (array : List ℕ)
    (edge_at : (e : ℕ) → e < length (edges u)
    → At (edges u) e (edge (get_or array (4 * e) 0) (get_or array (4 * e + 1) 0) (word (get_or array (4 * e + 2) 0)) (get_or array (4 * e + 3) 0)))
    (o : List ℕ)
    (filled : (A : Sym) (i k : ℕ) → InChart d (cell A i k) → outer_in d o A i k ≡ outside g (edges u) (symbol_of 0) d.last A i k)
    (flags : List ℕ) (used : ℕ → Bool) (used_is : (e : ℕ) → e < length (edges u) → used e ≡ pick (eqb (get_or flags e 0) 0) false true)
  where
    abbrev w₁ : ℕ
    w₁ = weight g (edges u) t₁

    -- what a pass is over
    abbrev pass_with : ℕ → Pass
    pass_with m = record { rules = length g.rules; edges = m; table = d }

    abbrev outer : O.Cells
    outer = outside g (edges u) (symbol_of 0) (length u)

    agree : AgreeAbove g.symbols (length u) 0 (outer_in d o) outer
    agree A i k a b c l =
        filled A i k (record { symbol = rw s.symbols a; order = b; within = rw places c })
        ∙ ap (λ n. outside g (edges u) (symbol_of 0) n A i k) places

    -- a slot's edge ends at a place
    slot_within : (e : ℕ) {i k c : ℕ} {x : W.Word} → At (edges u) e (edge i k x c) → i < length u
    slot_within e {i} p = let (slot, at, _, _) = edge_slot u e p in at_length u i at

    module _ (e : ℕ) (below : e < length (edges u)) where
      abbrev slot : ℕ
      slot = get_or array (4 * e) 0

      abbrev spoken : ℕ
      spoken = get_or array (4 * e + 2) 0

      abbrev cost : ℕ
      cost = get_or array (4 * e + 3) 0

      there : At (edges u) e (edge slot (suc slot) (word spoken) cost)
      there =
          subst (λ k. At (edges u) e (edge slot k (word spoken) cost)) (edges_short u e slot (get_or array (4 * e + 1) 0) cost (word spoken) (edge_at e below))
          (edge_at e below)

      least_read : read (through o rules (length g.rules) d slot spoken cost) ≡ O.through g outer (edge slot (suc slot) (word spoken) cost)
      least_read =
          through_read o d slot spoken cost g rules s.rule_at_lem
          ∙ through_same g (length u) s.within (outer_in d o) outer agree (edge slot (suc slot) (word spoken) cost) (omega arith, slot_within e there)

      -- a weight through a word is no less than the first, and has 32 bits
      weight_between : cost < not_heard → (y : ℕ) → O.through g outer (edge slot (suc slot) (word spoken) cost) ≡ some y → (w₁ ≤ y) × (y < 4294967295)
      weight_between heard y q =
          let few = s.few_places in (
            first_under g u ascending e slot (suc slot) cost (word spoken) there heard t₁ first y q,
            omega (
              arith,
              places,
              through_bound g (edges u) (symbol_of 0) (length u) (edges_forward u) e slot (suc slot) cost (word spoken) (there, heard) s.light s.cheap y q,
            ),
          )

      heard_entry : cost < not_heard
          → as_entry (margin_of slot spoken cost w₁ (through o rules (length g.rules) d slot spoken cost))
          ≡ entry_from w₁ (edge slot (suc slot) (word spoken) cost) (O.through g outer (edge slot (suc slot) (word spoken) cost))
      heard_entry heard =
          margin_read slot (suc slot) spoken cost w₁ _ _ least_read (weight_between heard)

      edge_read : (m : ℕ) → as_entry (edge_entry o rules array flags (pass_with m) w₁ e) ≡ entry_of g (edges u) used w₁ outer e (get_elem? (edges u) e)
      unfolding edge_entry entry_of
      edge_read m = rw (there, used_is e below) (go (dec_lt cost not_heard) (eqb (get_or flags e 0) 0))
        where
          inside_table : leb d.last slot ≡ false
          inside_table = lt-leb d.last slot (omega (arith, places, slot_within e there))

          go : Dec (cost < not_heard) → (free : Bool)
              → as_entry (pick (leb 65535 cost) no_entry (pick free (pick (leb d.last slot) no_entry
              (margin_of slot spoken cost w₁ (through o rules (length g.rules) d slot spoken cost))) no_entry))
              ≡ pick (ltb cost not_heard) (pick (pick free false true) none
              (entry_from w₁ (edge slot (suc slot) (word spoken) cost) (O.through g outer (edge slot (suc slot) (word spoken) cost)))) none
          go (no h) free = rw (le-leb 65535 cost (omega arith), le-ltb cost not_heard (omega arith))
          go (yes h) false = rw (lt-leb 65535 cost h, lt-ltb cost not_heard h)
          go (yes h) true = rw (lt-leb 65535 cost h, lt-ltb cost not_heard h, inside_table) (heard_entry h)

    pub entries_are : (m k : ℕ) → k ≤ length (edges u)
        → entries_upto o rules array flags (pass_with m) w₁ k ≡ listed g (edges u) used w₁ outer k
    unfolding entries_upto listed
    entries_are m zero l = refl
    entries_are m (suc k) l = rw (edge_read k l m, entries_are m k (omega arith))
