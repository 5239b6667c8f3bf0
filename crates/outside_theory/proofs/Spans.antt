-- While what stands around nodes is handed on to their parts, the array holds weights of what can stand around each cell, and so none that is less
-- than its outside weight; each step lowers some of them, and what was handed on stays.
use mathlib.Core.Path.{◌≡◌, refl, sym, ap, ◌∙◌}
use mathlib.Core.Logic.{⊎_elim}
use mathlib.Core.Option.{Option, none, some}
use mathlib.Core.List.{List}
use Prim.Native.Nat.{ℕ, zero, suc, ◌+◌, ◌-◌, ◌%◌, ◌≤◌, ◌<◌}
use native.Mathlib.Omega.{arith}
use native.Mathlib.Decide.{ℕ_discrete}
use lib.ListN.{length, get_or, length-set}
use lib.Seq.{get_or-set_same, get_or-set_other}
use borrow.Author.Tests.{eq-eqb, ne_eqb}
use Rattle.packing.specs.Loop.{iter}
use Rattle.packing.specs.declared.Sym.{Sym}
use Rattle.packing.specs.declared.Rule.TheVariants.{Pair}
use Rattle.packing.specs.Meaning.{Grammar, Edge}
use Rattle.derivation.specs.Derivation.{At}
use Rattle.derivation.proofs.Lists.{none≢some}
use Rattle.derivation.proofs.Trees.{same_sym}
use Rattle.chart_table.specs.declared.Cell.{Cell}
use Rattle.chart_table.specs.declared.Layout.{Layout}
use Rattle.chart_table.specs.Table.{cell, cell_number}
use Rattle.chart_theory.proofs.Table.Entries.{cell_below, cell_injective}
use Rattle.cost_changes.specs.Outside as O
use Rattle.cost_changes.specs.Outside.{inside}
use Rattle.cost_changes.proofs.Contexts.{on_left, on_right_lem, by_right, by_left, rim, rim_left, rim_right, rim_bound}
use Rattle.cost_changes.proofs.Inside.{inside_least}
use Rattle.cost_changes.proofs.Least.{Under, lesser_found, lesser_left, lesser_right}
use Rattle.cost_changes.proofs.Outside.{outside_least, outside_found}
use Rattle.outside_entries.specs.Entries.{lesser, inside_at, lower, push_split}
use Rattle.outside_theory.specs.Model.{push_splits}
use Rattle.outside_theory.proofs.Source.{Source, S, In, outer, root_in}
use Rattle.outside_theory.proofs.Decoded.{read, read_none, read_some, lesser_read, outer_in, inner_in}

-- a number that reads as no more than a weight has 32 bits
abbrev Small : Option ℕ → Type 0
Small o = (v : ℕ) → o ≡ some v → v < 4294967295

small_number : (a : ℕ) → Small (read a) → a < 4294967296
small_number a h = go (read a) refl
  where
    go : (o : Option ℕ) → read a ≡ o → a < 4294967296
    go none e = omega (arith, read_none a e)
    go (some v) e = omega (arith, read_some a v e, h v e)

module _ {g : Grammar} {es : List Edge} {rules t : List ℕ} {d : Layout} (s : Source g es rules t d) where
  -- what the array holds
  pub record Good (o : List ℕ) : Type 0 where
    pub room : d.cells ≤ length o
    pub sound : (A : Sym) (h k v : ℕ) → In d A h k → outer_in d o A h k ≡ some v → Under (outer s A h k) v
    pub whole : Under (outer_in d o S 0 d.last) 0

  -- no weight of the second array is greater
  pub record Below (o o' : List ℕ) : Type 0 where
    pub less : (A : Sym) (h k v : ℕ) → In d A h k → Under (outer_in d o A h k) v → Under (outer_in d o' A h k) v

  -- a step, after which G holds of the array
  pub record Did (o o' : List ℕ) (G : List ℕ → Type 0) : Type 0 where
    pub good : Good o'
    pub below : Below o o'
    pub given : G o'

  pub below_same : (o : List ℕ) → Below o o
  below_same o = record { less = λ A h k v in_chart u. u }

  pub below_more : {o o' o'' : List ℕ} → Below o o' → Below o' o'' → Below o o''
  below_more p q = record { less = λ A h k v in_chart u. q.less A h k v in_chart (p.less A h k v in_chart u) }

  -- a loop whose steps give G of each turn, which no further step takes away
  pub iter_did : (f : List ℕ → ℕ → List ℕ) (G : ℕ → List ℕ → Type 0) (o : List ℕ) → Good o → (m : ℕ)
      → ((x : ℕ) (u u' : List ℕ) → x < m → Below u u' → G x u → G x u')
      → ((x : ℕ) (u : List ℕ) → x < m → Good u → Below o u → Did u (f u x) (G x))
      → Did o (iter f o m) (λ u. (x : ℕ) → x < m → G x u)
  unfolding iter
  iter_did f G o good zero more step = record { good = good; below = below_same o; given = λ x l. absurd (omega arith) }
  iter_did f G o good (suc m) more step =
      let before = iter_did f G o good m (λ x u u' l. more x u u' (omega arith)) (λ x u l. step x u (omega arith)) in
      let now = step m (iter f o m) (omega arith) before.good before.below in
      record {
        good = now.good;
        below = below_more before.below now.below;
        given = λ x l. go before now x l (ℕ_discrete x m);
      }
    where
      go : Did o (iter f o m) (λ u. (x : ℕ) → x < m → G x u) → Did (iter f o m) (f (iter f o m) m) (G m) → (x : ℕ) → x < suc m → Dec (x ≡ m)
          → G x (f (iter f o m) m)
      go before now x l (yes e) = rw e now.given
      go before now x l (no e) = more x (iter f o m) (f (iter f o m) m) l now.below (before.given x (omega arith))

  -- a cell's number lowered
  module _ (o : List ℕ) (big : d.cells ≤ length o) (B : Sym) (i j x : ℕ) (in_chart : In d B i j) where
    abbrev lowered : List ℕ
    lowered = lower o (cell_number d (cell B i j)) x

    lower_length : length lowered ≡ length o
    unfolding lower
    lower_length = length-set o (cell_number d (cell B i j)) _

    lower_here : (y : Option ℕ) → O.lesser (outer_in d o B i j) (read x) ≡ y → Small y → outer_in d lowered B i j ≡ y
    unfolding lower
    lower_here y e small =
        let number = cell_number d (cell B i j) in
        let least = lesser (get_or o number 0) x in
        let reads : read least ≡ y = lesser_read (get_or o number 0) x ∙ e in
        let bound : least < 4294967296 = small_number least (λ v q. small v (sym reads ∙ q)) in
        let whole : least % 4294967296 ≡ least = omega arith in
        let at : number < length o = omega (arith, cell_below s.planned in_chart) in
        rw (get_or-set_same o number (least % 4294967296) 0 at, whole) reads

    lower_there : (A : Sym) (h k : ℕ) → In d A h k → ¬ ((A.0 ≡ B.0) × (h ≡ i) × (k ≡ j)) → outer_in d lowered A h k ≡ outer_in d o A h k
    unfolding lower
    lower_there A h k in' apart =
        let number = cell_number d (cell B i j) in
        rw (get_or-set_other o number (cell_number d (cell A h k)) (lesser (get_or o number 0) x % 4294967296) 0 (λ e.
        let same : cell A h k ≡ cell B i j = cell_injective in' in_chart e in
        apart (ap (λ (c : Cell). c.head.0) same, ap (λ (c : Cell). c.from) same, ap (λ (c : Cell). c.to) same)))

  -- lowered to p, which can stand around the cell
  module _ (o : List ℕ) (good : Good o) (B : Sym) (i j p : ℕ) (in_chart : In d B i j) (small : p < 4294967295) (under : Under (outer s B i j) p) where
    abbrev less_by : List ℕ
    less_by = lower o (cell_number d (cell B i j)) (suc p)

    reads_here : outer_in d less_by B i j ≡ O.lesser (outer_in d o B i j) (some p)
    unfolding read
    reads_here =
        lower_here o good.room B i j (suc p) in_chart (O.lesser (outer_in d o B i j) (some p)) refl (λ v e.
        let (x, e', l) = lesser_right (outer_in d o B i j) (some p) p (p, refl, omega arith) in
        let z : v ≡ x = cc in
        omega arith)

    reads_there : (A : Sym) (h k : ℕ) → In d A h k → ¬ ((A.0 ≡ B.0) × (h ≡ i) × (k ≡ j)) → outer_in d less_by A h k ≡ outer_in d o A h k
    reads_there = lower_there o good.room B i j (suc p) in_chart

    -- what holds of this cell and of all others holds of all
    by_cell : (P : Sym → ℕ → ℕ → Type 0) → P B i j → ((A : Sym) (h k : ℕ) → ¬ ((A.0 ≡ B.0) × (h ≡ i) × (k ≡ j)) → P A h k) → (A : Sym) (h k : ℕ)
        → P A h k
    by_cell P here there A h k = go (ℕ_discrete A.0 B.0) (ℕ_discrete h i) (ℕ_discrete k j)
      where
        go : Dec (A.0 ≡ B.0) → Dec (h ≡ i) → Dec (k ≡ j) → P A h k
        go (yes a) (yes b) (yes c) = rw (same_sym A B a, b, c) here
        go (yes a) (yes b) (no c) = there A h k (λ same. c same.2)
        go (yes a) (no b) c = there A h k (λ same. b same.1)
        go (no a) b c = there A h k (λ same. a same.0)

    lowered_below : Below o less_by
    lowered_below = record {
      less = λ A h k v in'. by_cell (λ A h k. In d A h k → Under (outer_in d o A h k) v → Under (outer_in d less_by A h k) v)
          (λ in'' u. rw reads_here (lesser_left (outer_in d o B i j) (some p) v u)) (λ A h k apart in'' u. rw (reads_there A h k in'' apart) u) A h k in';
    }

    lowered_sound : (A : Sym) (h k v : ℕ) → In d A h k → outer_in d less_by A h k ≡ some v → Under (outer s A h k) v
    lowered_sound A h k v =
        by_cell (λ A h k. In d A h k → outer_in d less_by A h k ≡ some v → Under (outer s A h k) v)
        (λ in'' e.
        ⊎_elim (good.sound B i j v in'') (λ q. let z : p ≡ v = cc in rw (← z) under)
        (lesser_found (outer_in d o B i j) (some p) v (sym reads_here ∙ e)))
        (λ A h k apart in'' e. good.sound A h k v in'' (sym (reads_there A h k in'' apart) ∙ e)) A h k

    pub lowered_did : Did o less_by (λ u. Under (outer_in d u B i j) p)
    lowered_did = record {
      good = record {
        room = rw (lower_length o good.room B i j (suc p) in_chart) good.room;
        sound = lowered_sound;
        whole = lowered_below.less S 0 d.last 0 (root_in s) good.whole;
      };
      below = lowered_below;
      given = rw reads_here (lesser_right (outer_in d o B i j) (some p) p (p, refl, omega arith));
    }

  -- both parts of a node at a split, if they have trees, have what the node and its rule, of weight v together, and the other part give them
  pub record Given (L R : Sym) (i j k v : ℕ) (u : List ℕ) : Type 0 where
    pub left : (z y : ℕ) → inside g es L i j ≡ some z → inside g es R j k ≡ some y → Under (outer_in d u L i j) (v + y)
    pub right : (z y : ℕ) → inside g es L i j ≡ some z → inside g es R j k ≡ some y → Under (outer_in d u R j k) (v + z)

  pub given_more : {L R : Sym} {i j k v : ℕ} {u u' : List ℕ} → In d L i j → In d R j k → Below u u' → Given L R i j k v u → Given L R i j k v u'
  given_more {L} {R} {i} {j} {k} {v} l r b q = record {
    left = λ z y e₁ e₂. b.less L i j (v + y) l (q.left z y e₁ e₂);
    right = λ z y e₁ e₂. b.less R j k (v + z) r (q.right z y e₁ e₂);
  }

  -- a node with an outside weight, one of its rules, and a split
  module _ (r : ℕ) {H L R : Sym} {w : ℕ} (p : At g.rules r (Pair H L R w)) (in_left : L.0 < d.symbols) (in_right : R.0 < d.symbols)
      (i k x : ℕ) (upto : k ≤ d.last) (around : outer s H i k ≡ some x) where
    module _ (j : ℕ) (before : i < j) (behind : j < k) where
      left_in : In d L i j
      left_in = record { symbol = in_left; order = before; within = omega arith }

      right_in : In d R j k
      right_in = record { symbol = in_right; order = behind; within = upto }

      left_stands : (z y : ℕ) → inside g es L i j ≡ some z → inside g es R j k ≡ some y → Under (outer s L i j) (w + x + y) × (w + x + y < 4294967295)
      left_stands z y e₁ e₂ =
          let (c, a, f) = outside_found g es S d.last H i k x (omega arith) around in
          let (a₁, d₁, f₁) = (inside_least g es L i j).found z e₁ in
          let (a₂, d₂, f₂) = (inside_least g es R j k).found y e₂ in
          let stands = by_right {c = c} p before behind a d₂ in
          let weighs : rim g es (on_left r j a₂ c) ≡ w + x + y = rim_left g es r j a₂ c p ∙ rw (f, f₂) in
          let places = s.few_places in (
            rw weighs at ((outside_least g es S d.last L i j before d₁).finds (on_left r j a₂ c) stands),
            omega (arith, weighs, rim_bound g es S d.last s.short s.light s.cheap stands),
          )

      right_stands : (z y : ℕ) → inside g es L i j ≡ some z → inside g es R j k ≡ some y → Under (outer s R j k) (w + x + z) × (w + x + z < 4294967295)
      right_stands z y e₁ e₂ =
          let (c, a, f) = outside_found g es S d.last H i k x (omega arith) around in
          let (a₁, d₁, f₁) = (inside_least g es L i j).found z e₁ in
          let (a₂, d₂, f₂) = (inside_least g es R j k).found y e₂ in
          let stands = by_left {c = c} p before behind a d₁ in
          let weighs : rim g es (on_right_lem r j a₁ c) ≡ w + x + z = rim_right g es r j a₁ c p ∙ rw (f, f₁) in
          let places = s.few_places in (
            rw weighs at ((outside_least g es S d.last R j k behind d₂).finds (on_right_lem r j a₁ c) stands),
            omega (arith, weighs, rim_bound g es S d.last s.short s.light s.cheap stands),
          )

      -- what is handed on at the split
      split_did : (o : List ℕ) → Good o
          → Did o (push_split o t d (cell_number d (cell L i j)) (cell_number d (cell R j k)) (suc x + w)) (Given L R i j k (w + x))
      unfolding push_split
      split_did o good = go (inside g es L i j) refl (inside g es R j k) refl
        where
          reads_left : inner_in d t L i j ≡ inside g es L i j
          reads_left = s.inner L i j left_in

          reads_right : inner_in d t R j k ≡ inside g es R j k
          reads_right = s.inner R j k right_in

          stays : ((z y : ℕ) → inside g es L i j ≡ some z → inside g es R j k ≡ some y → ⊥) → Did o o (Given L R i j k (w + x))
          stays nothing = record {
            good = good;
            below = below_same o;
            given = record { left = λ z y e₁ e₂. absurd (nothing z y e₁ e₂); right = λ z y e₁ e₂. absurd (nothing z y e₁ e₂) };
          }

          go : (a : Option ℕ) → inside g es L i j ≡ a → (b : Option ℕ) → inside g es R j k ≡ b
              → Did o (push_split o t d (cell_number d (cell L i j)) (cell_number d (cell R j k)) (suc x + w)) (Given L R i j k (w + x))
          go none e b f = rw (eq-eqb _ 0 (read_none _ (reads_left ∙ e))) (stays (λ z y e₁ e₂. none≢some (sym e ∙ e₁)))
          go (some z) e none f =
              rw (
                ne_eqb (inside_at t d (cell_number d (cell L i j))) 0 (λ q. omega (arith, read_some _ z (reads_left ∙ e))),
                eq-eqb _ 0 (read_none _ (reads_right ∙ f)),
              )
              (stays (λ z y e₁ e₂. none≢some (sym f ∙ e₂)))
          go (some z) e (some y) f =
              let (l_under, l-small) = left_stands z y e f in
              let (r-under, r_small) = right_stands z y e f in
              let first = lowered_did o good L i j (w + x + y) left_in l-small l_under in
              let second = lowered_did (lower o (cell_number d (cell L i j)) (suc (w + x + y))) first.good R j k (w + x + z) right_in r_small r-under in
              let l_is : suc x + w + (suc y - 1) ≡ suc (w + x + y) = omega arith in
              let r_is : suc x + w + (suc z - 1) ≡ suc (w + x + z) = omega arith in
              rw (
                read_some _ z (reads_left ∙ e),
                read_some _ y (reads_right ∙ f),
                ne_eqb (suc z) 0 (λ q. omega arith),
                ne_eqb (suc y) 0 (λ q. omega arith),
                l_is,
                r_is,
              )
              (record {
                good = second.good;
                below = below_more first.below second.below;
                given = record {
                  left = λ z' y' e₁ e₂.
                      let q : y ≡ y' = cc in
                      rw (← q) (second.below.less L i j (w + x + y) left_in first.given);
                  right = λ z' y' e₁ e₂. let q : z ≡ z' = cc in rw (← q) second.given;
                };
              })

    -- at all splits
    pub splits_did : (o : List ℕ) → Good o → Did o (push_splits o t d (cell H i k) L R (suc x + w))
        (λ u. (j : ℕ) → i < j → j < k → Given L R i j k (w + x) u)
    unfolding push_splits
    splits_did o good =
        let all = iter_did (λ u y. push_split u t d (cell_number d (cell L i (i + y + 1))) (cell_number d (cell R (i + y + 1) k)) (suc x + w))
        (λ y u. Given L R i (i + y + 1) k (w + x) u) o good (k - i - 1)
        (λ y u u' l. given_more (left_in (i + y + 1) (omega arith) (omega arith)) (right_in (i + y + 1) (omega arith) (omega arith)))
        (λ y u l q b. split_did (i + y + 1) (omega arith) (omega arith) u q) in
        record {
          good = all.good;
          below = all.below;
          given = λ j b e.
              let z : i + (j - i - 1) + 1 ≡ j = omega arith in
              rw z at (all.given (j - i - 1) (omega arith));
        }
