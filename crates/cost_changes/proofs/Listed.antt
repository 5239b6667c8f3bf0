-- The list that is made is the list of N12, and there is no other.
use mathlib.Core.Path.{◌≡◌, refl, sym, ap, ◌∙◌, subst}
use mathlib.Core.Logic.{◌↔◌, ◌⊎◌, inl, inr, ⊎_elim}
use mathlib.Core.Bool.{Bool, true, false, false≢true}
use mathlib.Core.Option.{Option, none, some}
use mathlib.Core.List.Memᴰ
use mathlib.Core.List.{List, [], ◌∷◌}
use Prim.Native.Nat.{Ordering}
use Prim.Native.Nat.{ℕ, zero, suc, ◌+◌, ◌-◌, ◌≤◌, ◌<◌}
use native.Mathlib.Omega.{arith}
use native.Mathlib.Decide.{ℕ_discrete}
use lib.Dec.{eqb, leb, ltb}
use lib.ListN.{length, get_elem?}
use borrow.Author.Tests.{leb-true, ltb-true, eqb-true, eqb-false, le-leb, lt-ltb}
use Rattle.bits.specs.Bits.{pick}
use Rattle.packing.specs.declared.Word as W
use Rattle.packing.specs.Meaning.{not_heard, symbol_of, word, Grammar, Utterance, Candidate, candidate, Edge, edge, edges}
use Rattle.packing.specs.Valid.{ValidUtterance}
use Rattle.derivation.specs.Derivation.{At, Tree, weight}
use Rattle.derivation.specs.Rank.{◌∈◌}
use Rattle.derivation.proofs.Lists.{none≢some, mem_at, at_length}
use Rattle.derivation.proofs.Ranges.{Ascending, valid_ascending}
use Rattle.derivation.proofs.Slots.{edges_in_lem}
use Rattle.cost_changes.specs.Costs.{edges_of, Uses, First}
use Rattle.cost_changes.specs.Passes.{first_of}
use Rattle.cost_changes.specs.Margins.{UsesWord, Overtaken, Margin, MarginEntry, entry, Ascends, Margins}
use Rattle.cost_changes.specs.Outside.{Cells, outside, through}
use Rattle.cost_changes.specs.Listed.{has, place_if, entry_from, entry_of, listed, listed_for, margins_of}
use Rattle.cost_changes.proofs.First.{place_first, none_derives}
use Rattle.cost_changes.proofs.EdgeOrder.{edges_before}
use Rattle.cost_changes.proofs.Placed.{place_mem, place_length, place_order, place_ascends, ascends_unique}
use Rattle.cost_changes.proofs.Margins.{lightens, margin_is, never_through, no_margin}

-- a number is in a list or not
has_cases : (e : ℕ) (l : List ℕ) → ((e ∈ l) × (has e l ≡ true)) ⊎ (¬ (e ∈ l) × (has e l ≡ false))
unfolding has
has_cases e [] = inr (Memᴰ.not-nil, refl)
has_cases e (x ∷ l) = go (eqb x e) refl (has_cases e l)
  where
    go : (b : Bool) → eqb x e ≡ b → ((e ∈ l) × (has e l ≡ true)) ⊎ (¬ (e ∈ l) × (has e l ≡ false))
        → ((e ∈ (x ∷ l)) × (pick b true (has e l) ≡ true)) ⊎ (¬ (e ∈ (x ∷ l)) × (pick b true (has e l) ≡ false))
    go true p r = inl (Memᴰ.head (sym (eqb-true x e p)), refl)
    go false p r =
        ⊎_elim (λ q. inl (Memᴰ.tail q.0, q.1))
        (λ q. inr ((λ m. ⊎_elim (λ h. eqb-false x e p (sym h)) q.0 (Memᴰ.cases_cons m)), q.1)) r

module _ (g : Grammar) (es : List Edge) (used : ℕ → Bool) (w : ℕ) (outer : Cells) where
  -- edge e has this entry
  pub record EntryAt (e d s x v : ℕ) : Type 0 where
    pub to : ℕ
    pub cost : ℕ
    pub at : At es e (edge s to (word x) cost)
    pub heard : cost < not_heard
    pub unused : used e ≡ false
    pub through_is : through g outer (edge s to (word x) cost) ≡ some v
    pub amount_is : d ≡ v + 1 - w
    pub can : d ≤ cost

  pick_true : (b : Bool) (a : Option MarginEntry) {z : MarginEntry} → pick b a none ≡ some z → (b ≡ true) × (a ≡ some z)
  pick_true true a e = (refl, e)
  pick_true false a e = absurd (none≢some e)

  pick_false : (b : Bool) (a : Option MarginEntry) {z : MarginEntry} → pick b none a ≡ some z → (b ≡ false) × (a ≡ some z)
  pick_false true a e = absurd (none≢some e)
  pick_false false a e = (refl, e)

  from_out : (s k c : ℕ) (y : W.Word) (o : Option ℕ) (d s' x v : ℕ) → entry_from w (edge s k y c) o ≡ some (entry d s' x v)
      → (o ≡ some v) × (d ≡ v + 1 - w) × (d ≤ c) × (s' ≡ s) × (x ≡ y.0)
  unfolding entry_from
  from_out s k c y none d s' x v e = absurd (none≢some e)
  from_out s k c y (some v') d s' x v e =
      let (p, q) = pick_true (leb (v' + 1 - w) c) (some (entry (v' + 1 - w) s y.0 v')) e in
      let l = leb-true (v' + 1 - w) c p in
      let hd : d ≡ v' + 1 - w = cc in
      let hs : s' ≡ s = cc in
      let hx : x ≡ y.0 = cc in
      let hv : v' ≡ v = cc in
      (ap some hv, omega arith, omega arith, hs, hx)

  entry_out : (e d s x v : ℕ) (o : Option Edge) → get_elem? es e ≡ o → entry_of g es used w outer e o ≡ some (entry d s x v)
      → EntryAt e d s x v
  unfolding entry_of
  entry_out e d s x v none p q = absurd (none≢some q)
  entry_out e d s x v (some (edge s' k y c)) p q =
      let (a, q₁) = pick_true (ltb c not_heard) _ q in
      let (n, q₂) = pick_false (used e) _ q₁ in
      let (r, hd, l, hs, hx) = from_out s' k c y (through g outer (edge s' k y c)) d s x v q₂ in
      record {
        to = k;
        cost = c;
        at = rw (hs, hx) p;
        heard = ltb-true c not_heard a;
        unused = n;
        through_is = rw (hs, hx) r;
        amount_is = hd;
        can = l;
      }

  entry_in : (e d s x v : ℕ) → EntryAt e d s x v → entry_of g es used w outer e (get_elem? es e) ≡ some (entry d s x v)
  unfolding entry_of entry_from
  entry_in e d s x v m =
      let l : v + 1 - w ≤ m.cost = omega (arith, m.amount_is, m.can) in
      rw (m.at, lt-ltb m.cost not_heard m.heard, m.unused, m.through_is, le-leb (v + 1 - w) m.cost l, m.amount_is)

  -- what is listed is the entry of an edge, and each entry is listed
  listed_out : (m : ℕ) (z : MarginEntry) → z ∈ listed g es used w outer m
      → (e : ℕ) × (e < m) × (entry_of g es used w outer e (get_elem? es e) ≡ some z)
  unfolding listed place_if
  listed_out zero z i = absurd (Memᴰ.not-nil i)
  listed_out (suc m) z i = go (entry_of g es used w outer m (get_elem? es m)) refl (λ j. listed_out m z j) i
    where
      go : (o : Option MarginEntry) → entry_of g es used w outer m (get_elem? es m) ≡ o
          → (z ∈ listed g es used w outer m → (e : ℕ) × (e < m) × (entry_of g es used w outer e (get_elem? es e) ≡ some z))
          → z ∈ place_if o (listed g es used w outer m)
          → (e : ℕ) × (e < suc m) × (entry_of g es used w outer e (get_elem? es e) ≡ some z)
      go none p before i = let (e, h, q) = before i in (e, omega arith, q)
      go (some a) p before i =
          ⊎_elim (λ r. (m, omega arith, p ∙ ap some (sym r))) (λ j. let (e, h, q) = before j in (e, omega arith, q))
          ((place_mem a (listed g es used w outer m) z).0 i)

  listed_in : (m e : ℕ) (z : MarginEntry) → e < m → entry_of g es used w outer e (get_elem? es e) ≡ some z → z ∈ listed g es used w outer m
  unfolding listed place_if
  listed_in zero e z h p = absurd (omega arith)
  listed_in (suc m) e z h p = go (ℕ_discrete e m) (entry_of g es used w outer m (get_elem? es m)) refl (λ l. listed_in m e z l p)
    where
      go : Dec (e ≡ m) → (o : Option MarginEntry) → entry_of g es used w outer m (get_elem? es m) ≡ o
          → (e < m → z ∈ listed g es used w outer m) → z ∈ place_if o (listed g es used w outer m)
      go (yes r) o q before =
          let s : o ≡ some z = sym q ∙ (rw r at p) in
          rw s ((place_mem z (listed g es used w outer m) z).1 (inl refl))
      go (no r) none q before = before (omega arith)
      go (no r) (some a) q before = (place_mem a (listed g es used w outer m) z).1 (inr (before (omega arith)))

  -- no more entries than edges
  pub listed_length : (m : ℕ) → length (listed g es used w outer m) ≤ m
  unfolding listed place_if
  listed_length zero = omega arith
  listed_length (suc m) = go (entry_of g es used w outer m (get_elem? es m)) (listed_length m)
    where
      go : (o : Option MarginEntry) → length (listed g es used w outer m) ≤ m → length (place_if o (listed g es used w outer m)) ≤ suc m
      go none h = omega arith
      go (some a) h = omega (arith, place_length a (listed g es used w outer m))

-- the entries of edges that ascend by slot and word ascend
listed_ascends : (g : Grammar) (u : Utterance) → Ascending u → (used : ℕ → Bool) (w : ℕ) (outer : Cells) (m : ℕ)
    → Ascends (listed g (edges u) used w outer m)
unfolding listed place_if
listed_ascends g u asc used w outer zero = tt
listed_ascends g u asc used w outer (suc m) =
    go (entry_of g (edges u) used w outer m (get_elem? (edges u) m)) refl (listed_ascends g u asc used w outer m)
  where
    behind : (a b : MarginEntry) → entry_of g (edges u) used w outer m (get_elem? (edges u) m) ≡ some a → b ∈ listed g (edges u) used w outer m
        → place_order b a ≡ Ordering.lt
    behind (entry d s x v) (entry d' s' x' v') p i =
        let (e, h, q) = listed_out g (edges u) used w outer m (entry d' s' x' v') i in
        let f = entry_out g (edges u) used w outer e d' s' x' v' (get_elem? (edges u) e) refl q in
        let k = entry_out g (edges u) used w outer m d s x v (get_elem? (edges u) m) refl p in
        edges_before u asc e m h f.at k.at

    go : (o : Option MarginEntry) → entry_of g (edges u) used w outer m (get_elem? (edges u) m) ≡ o → Ascends (listed g (edges u) used w outer m)
        → Ascends (place_if o (listed g (edges u) used w outer m))
    go none p r = r
    go (some a) p r = place_ascends a (listed g (edges u) used w outer m) r (λ b i. behind a b p i)

module _ (g : Grammar) (u : Utterance) (ascending : Ascending u) (t : Tree) (first : First g u t) where
  abbrev used : ℕ → Bool
  used e = has e (edges_of t)

  abbrev w₁ : ℕ
  w₁ = weight g (edges u) t

  abbrev outer : Cells
  outer = outside g (edges u) (symbol_of 0) (length u)

  sound : (e d s x v : ℕ) → EntryAt g (edges u) used w₁ outer e d s x v → Margin g u s (word x) d v
  sound e d s x v m =
      (margin_is g u ascending e s m.to m.cost (word x) m.at m.heard t first v m.through_is d v).1
      (not_used, m.amount_is, m.can, refl)
    where
      not_used : ¬ Uses t e
      not_used i =
          ⊎_elim (λ p. false≢true (sym m.unused ∙ p.1)) (λ p. p.0 i) (has_cases e (edges_of t))

  complete : (d s x v : ℕ) → Margin g u s (word x) d v → (e : ℕ) × EntryAt g (edges u) used w₁ outer e d s x v
  complete d s x v m =
      let (e, p) = mem_at (edges_in_lem 0 u s m.there m.offers) in
      let z : 0 + s ≡ s = omega arith in
      let at = subst (λ i. At (edges u) e (edge i (suc i) (word x) m.cost)) z p in
      (e, go e at (through g outer (edge s (suc s) (word x) m.cost)) refl)
    where
      go : (e : ℕ) → At (edges u) e (edge s (suc s) (word x) m.cost) → (o : Option ℕ)
          → through g outer (edge s (suc s) (word x) m.cost) ≡ o → EntryAt g (edges u) used w₁ outer e d s x v
      go e p none r = absurd (no_margin g u ascending e s (suc s) m.cost (word x) p m.heard t first r d v m)
      go e p (some v') r =
          let (n, hd, l, hv) = (margin_is g u ascending e s (suc s) m.cost (word x) p m.heard t first v' r d v).0 m in
          let free : used e ≡ false = ⊎_elim (λ q. absurd (n q.0)) (λ q. q.1) (has_cases e (edges_of t)) in
          record {
            to = suc s;
            cost = m.cost;
            at = p;
            heard = m.heard;
            unused = free;
            through_is = rw hv r;
            amount_is = rw hv hd;
            can = l;
          }

  listed_are : Margins g u (listed g (edges u) used w₁ outer (length (edges u)))
  listed_are = record {
    ascends = listed_ascends g u ascending used w₁ outer (length (edges u));
    those = λ d s x v. (
      (λ i. let (e, h, p) = listed_out g (edges u) used w₁ outer (length (edges u)) (entry d s x v) i in
          sound e d s x v (entry_out g (edges u) used w₁ outer e d s x v (get_elem? (edges u) e) refl p)),
      (λ m. let (e, f) = complete d s x v m in
          listed_in g (edges u) used w₁ outer (length (edges u)) e (entry d s x v) (at_length (edges u) e f.at)
          (entry_in g (edges u) used w₁ outer e d s x v f)),
    );
  }

-- the list that is made has each entry, in its order, and nothing else
pub margins_are : (words : ℕ) (g : Grammar) (u : Utterance) → ValidUtterance words u → Margins g u (margins_of g u)
unfolding margins_of listed_for
margins_are words g u valid = go (first_of g (edges u) (length u)) refl
  where
    go : (o : Option Tree) → first_of g (edges u) (length u) ≡ o → Margins g u (listed_for g (length u) (edges u) o)
    go none e = record {
      ascends = tt;
      those = λ d s x v. (
        (λ i. absurd (Memᴰ.not-nil i)),
        (λ m. let (t, f, q) = m.overtaken.today_is in absurd (none_derives g u e t f.derivation)),
      );
    }
    go (some t) e = listed_are g u (valid_ascending words u valid) t (place_first g u e)

-- "each entry must hold when the cost is changed and the listing run afresh, and a fall smaller by one must bring none": of all falls within
-- the cost of a word that a slot offers those from its entry's amount on bring a lighter first reading, and no others; of a word without an entry, which
-- the first reading does not use there, none does
module _ (words : ℕ) (g : Grammar) (u : Utterance) (valid : ValidUtterance words u) (s c : ℕ) (x : W.Word) {slot : List Candidate}
    (there : At u s slot) (offers : candidate x c ∈ slot) (heard : c < not_heard) where
  abbrev least_through : Option ℕ
  least_through = through g (outside g (edges u) (symbol_of 0) (length u)) (edge s (suc s) x c)

  asc : Ascending u
  asc = valid_ascending words u valid

  its_edge : (e : ℕ) × At (edges u) e (edge s (suc s) x c)
  its_edge =
      let (e, p) = mem_at (edges_in_lem 0 u s there offers) in
      let z : 0 + s ≡ s = omega arith in
      (e, subst (λ i. At (edges u) e (edge i (suc i) x c)) z p)

  pub margin_lightens : {d v : ℕ} → Margin g u s x d v → (f : ℕ) → f ≤ c → Overtaken g u s x f ↔ (d ≤ f)
  margin_lightens {d} {v} m f h =
      let (t, first, q) = m.overtaken.today_is in
      let (e, p) = its_edge in
      go t first e p least_through refl
    where
      go : (t : Tree) → First g u t → (e : ℕ) → At (edges u) e (edge s (suc s) x c) → (o : Option ℕ) → least_through ≡ o
          → Overtaken g u s x f ↔ (d ≤ f)
      go t first e p none r = absurd (no_margin g u asc e s (suc s) c x p heard t first r d v m)
      go t first e p (some v') r =
          let (n, hd, l, hv) = (margin_is g u asc e s (suc s) c x p heard t first v' r d v).0 m in
          rw hd (lightens g u asc e s (suc s) c x p heard t first v' r f h)

  pub never_lightens : ((t : Tree) → First g u t → ¬ UsesWord u t s x) → ((d v : ℕ) → ¬ Margin g u s x d v) → (f : ℕ) → f ≤ c
      → ¬ Overtaken g u s x f
  never_lightens unused no_entry f h overtaken =
      let (t, first, q) = overtaken.today_is in
      let (e, p) = its_edge in
      go t first e p least_through refl
    where
      go : (t : Tree) → First g u t → (e : ℕ) → At (edges u) e (edge s (suc s) x c) → (o : Option ℕ) → least_through ≡ o → ⊥
      go t first e p none r = never_through g u asc e s (suc s) c x p heard t first r f h overtaken
      go t first e p (some v) r =
          let l = (lightens g u asc e s (suc s) c x p heard t first v r f h).0 overtaken in
          no_entry (v + 1 - weight g (edges u) t) v
          ((margin_is g u asc e s (suc s) c x p heard t first v r (v + 1 - weight g (edges u) t) v).1
          ((λ y. unused t first (e, c, y, p)), refl, omega arith, refl))

-- and no other list has
pub margins_unique : (g : Grammar) (u : Utterance) (l m : List MarginEntry) → Margins g u l → Margins g u m → l ≡ m
margins_unique g u l m p q = ascends_unique l m p.ascends q.ascends same
  where
    same : (z : MarginEntry) → z ∈ l ↔ z ∈ m
    same (entry d s x v) = (
      (λ i. (q.those d s x v).1 ((p.those d s x v).0 i)),
      (λ i. (p.those d s x v).1 ((q.those d s x v).0 i)),
    )
