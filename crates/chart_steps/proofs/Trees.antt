-- The trees that stand in a table once a rank of a cell is found, whatever the table held: what stands beside a tree is written without the tree, so of
-- all entries only that of the rank can have another.
use mathlib.Core.Path.{◌≡◌, refl, ◌∙◌}
use mathlib.Core.Bool.{Bool, true, false}
use mathlib.Core.List.{List}
use Prim.Native.Nat.{ℕ, ◌+◌, ◌-◌, ◌*◌, ◌/◌, ◌%◌, ◌<◌}
use native.Mathlib.Decide.{ℕ_discrete, dec_lt}
use native.Mathlib.Omega.{arith}
use lib.Dec.{ltb, eqb}
use lib.ListN.{length, get_or, set}
use lib.Seq.{get_or-set_same, get_or-set_other, set_out}
use Rattle.bits.specs.Bits.{pick}
use Rattle.chart_keys.specs.Keys.{back_pointer, key_unit, no_key}
use Rattle.chart_table.specs.declared.Layout.{Layout}
use Rattle.chart_table.specs.Table.{price_in, entry_of, beside_at, last_rank, put_beside, put_found, put_last_rank, put_key}
use Rattle.chart_tags.specs.Tags.{is_initial}
use Rattle.chart_queue.specs.Queue.{queued_key, queue_length, least_place, keep_initial, put_queued, move_queued, put_queue_length, replace, push, extract_min}

-- the tree of entry e is the same: its price, and its back pointer
pub record SameTree (t u : List ℕ) (e : ℕ) : Type 0 where
  pub price : price_in u (e * 4) ≡ price_in t (e * 4)
  pub back : get_or u (e * 4 + 2) 0 ≡ get_or t (e * 4 + 2) 0

-- every entry's tree is the same, and every one but that of entry q
record Same (t u : List ℕ) : Type 0 where
  trees : (e : ℕ) → SameTree t u e

pub record SameBut (q : ℕ) (t u : List ℕ) : Type 0 where
  pub trees : (e : ℕ) → (e ≡ q → ⊥) → SameTree t u e

tree_refl : (t : List ℕ) (e : ℕ) → SameTree t t e
tree_refl t e = record { price = refl; back = refl }

pub tree_trans : {t u v : List ℕ} {e : ℕ} → SameTree t u e → SameTree u v e → SameTree t v e
tree_trans p q = record { price = q.price ∙ p.price; back = q.back ∙ p.back }

-- a store elsewhere
tree_other : (u : List ℕ) (e i v : ℕ) → (e * 4 ≡ i → ⊥) → (e * 4 + 1 ≡ i → ⊥) → (e * 4 + 2 ≡ i → ⊥) → SameTree u (set u i v) e
tree_other u e i v n₀ n₁ n₂ = record {
  price = rw (get_or-set_other u i (e * 4) v 0 n₀, get_or-set_other u i (e * 4 + 1) v 0 n₁);
  back = get_or-set_other u i (e * 4 + 2) v 0 n₂;
}

any_stored : (u : List ℕ) (q j v : ℕ) → j < 4 → SameBut q u (set u (q * 4 + j) v)
any_stored u q j v l = record {
  trees = λ e other. tree_other u e (q * 4 + j) v (λ h. other (omega arith)) (λ h. other (omega arith)) (λ h. other (omega arith));
}

-- behind the tree
behind_stored : (u : List ℕ) (q v : ℕ) → Same u (set u (q * 4 + 3) v)
behind_stored u q v = record { trees = λ e. tree_other u e (q * 4 + 3) v (λ h. omega arith) (λ h. omega arith) (λ h. omega arith) }

-- the second number, its lower 11 bits as they were
high_stored : (u : List ℕ) (q v : ℕ) → v % 2048 ≡ get_or u (q * 4 + 1) 0 % 2048 → Same u (set u (q * 4 + 1) v)
high_stored u q v low = record { trees = λ e. go e (ℕ_discrete e q) (dec_lt (q * 4 + 1) (length u)) }
  where
    go : (e : ℕ) → Dec (e ≡ q) → Dec (q * 4 + 1 < length u) → SameTree u (set u (q * 4 + 1) v) e
    go e (no other) l = (any_stored u q 1 v (omega arith)).trees e other
    go e (yes h) (no out) = rw (set_out u (q * 4 + 1) v (omega arith)) (tree_refl u e)
    go e (yes h) (yes l) = rw h (record {
      price = rw (get_or-set_other u (q * 4 + 1) (q * 4) v 0 (λ z. omega arith), get_or-set_same u (q * 4 + 1) v 0 l, low);
      back = get_or-set_other u (q * 4 + 1) (q * 4 + 2) v 0 (λ z. omega arith);
    })

-- an entry starts at a place that 4 divides
pub record Fourth (n : ℕ) : Type 0 where
  pub quarter : ℕ
  pub is : n ≡ quarter * 4

pub fourth : (d : Layout) (c rank : ℕ) → Fourth (entry_of d c rank)
unfolding entry_of
fourth d c rank = go (eqb rank 0)
  where
    go : (b : Bool) → Fourth (pick b (c * 4) ((d.cells + c * (d.ranks - 1) + (rank - 1)) * 4))
    go true = record { quarter = c; is = refl }
    go false = record { quarter = d.cells + c * (d.ranks - 1) + (rank - 1); is = refl }

same_refl : (t : List ℕ) → Same t t
same_refl t = record { trees = tree_refl t }

same_trans : {t u v : List ℕ} → Same t u → Same u v → Same t v
same_trans p q = record { trees = λ e. tree_trans (p.trees e) (q.trees e) }

but_refl : (n : ℕ) (t : List ℕ) → SameBut n t t
but_refl n t = record { trees = λ e other. tree_refl t e }

but_trans : {n : ℕ} {t u v : List ℕ} → SameBut n t u → SameBut n u v → SameBut n t v
but_trans p q = record { trees = λ e other. tree_trans (p.trees e other) (q.trees e other) }

but_same : {n : ℕ} {t u v : List ℕ} → SameBut n t u → Same u v → SameBut n t v
but_same p q = record { trees = λ e other. tree_trans (p.trees e other) (q.trees e) }

beside_same : (u : List ℕ) (d : Layout) (c rank n : ℕ) → Same u (put_beside u d c rank n)
unfolding put_beside
beside_same u d c rank n =
    let f = fourth d c rank in
    rw f.is (same_trans
    (high_stored u f.quarter (n / 4294967296 * 2048 + get_or u (f.quarter * 4 + 1) 0 % 2048) (omega arith))
    (behind_stored _ f.quarter (n % 4294967296)))

found_but : (u : List ℕ) (d : Layout) (c rank price back : ℕ) → SameBut (fourth d c rank).quarter u (put_found u d c rank price back)
unfolding put_found
found_but u d c rank price back =
    let f = fourth d c rank in
    let q = f.quarter in
    let at : q * 4 + 0 ≡ q * 4 = omega arith in
    rw f.is (but_trans (but_trans (rw at at (any_stored u q 0 (price % 4294967296) (omega arith))) (any_stored _ q 1 _ (omega arith)))
    (any_stored _ q 2 (back % 4294967296) (omega arith)))

module _ (d : Layout) (c : ℕ) where
  last_same : (u : List ℕ) (rank : ℕ) → Same u (put_last_rank u d c rank)
  unfolding put_last_rank
  last_same u rank = go (ltb (last_rank u d c) rank)
    where
      go : (b : Bool) → Same u (pick b (put_beside u d c 0 ((beside_at u d c 0 / 262144 * 512 + rank) * 512 + beside_at u d c 0 % 512)) u)
      go true = beside_same u d c 0 _
      go false = same_refl u

  key_but : (u : List ℕ) (rank key : ℕ) → SameBut (fourth d c rank).quarter u (put_key u d c rank key)
  unfolding put_key
  key_but u rank key = go (ltb key no_key)
    where
      go : (b : Bool) → SameBut (fourth d c rank).quarter u (pick b (put_last_rank (put_found u d c rank (key / key_unit) (key % key_unit)) d c rank) u)
      go true = but_same (found_but u d c rank _ _) (last_same _ rank)
      go false = but_refl _ u

  initial_same : (u : List ℕ) (back : ℕ) → Same u (keep_initial u d c back)
  unfolding keep_initial
  initial_same u back = go (is_initial (back_pointer back))
    where
      go : (b : Bool) → Same u (pick b (put_beside u d c 0 (back * 262144 + beside_at u d c 0 % 262144)) u)
      go true = beside_same u d c 0 _
      go false = same_refl u

  queued_same : (u : List ℕ) (rank y key : ℕ) → Same u (put_queued u d c rank y key)
  unfolding put_queued
  queued_same u rank y key = same_trans (initial_same u _) (beside_same _ d c (y + 1) _)

  length_same : (u : List ℕ) (m : ℕ) → Same u (put_queue_length u d c m)
  unfolding put_queue_length
  length_same u m = beside_same u d c 0 _

  replaced_same : (u : List ℕ) (rank m y key : ℕ) → Same u (replace u d c rank m y key)
  unfolding replace move_queued
  replaced_same u rank m y key = go (ltb key no_key)
    where
      go : (b : Bool) → Same u (pick b (put_queued u d c rank y key) (put_queue_length (move_queued u d c (m - 1) y) d c (m - 1)))
      go true = queued_same u rank y key
      go false = same_trans (beside_same u d c (y + 1) _) (length_same _ _)

  pushed_same : (u : List ℕ) (rank m key : ℕ) → Same u (push u d c rank m key)
  unfolding push
  pushed_same u rank m key = go (ltb key no_key)
    where
      go : (b : Bool) → Same u (pick b (put_queue_length (put_queued u d c rank m key) d c (m + 1)) u)
      go true = same_trans (queued_same u rank m key) (length_same _ _)
      go false = same_refl u

  pub extract_but : (t : List ℕ) (rank lo hi : ℕ) → SameBut (fourth d c rank).quarter t (extract_min t d c rank lo hi)
  unfolding extract_min
  extract_but t rank lo hi = outer (ltb 0 m)
    where
      m : ℕ
      m = queue_length t d c

      y : ℕ
      y = least_place t d c m

      key : ℕ
      key = queued_key t d c y

      pushed : SameBut (fourth d c rank).quarter t (push (put_key t d c rank lo) d c rank m hi)
      pushed = but_same (key_but t rank lo) (pushed_same _ rank m hi)

      inner : (b : Bool) → SameBut (fourth d c rank).quarter t (pick b (push (replace (put_key t d c rank key) d c rank m y lo) d c rank m hi)
          (push (put_key t d c rank lo) d c rank m hi))
      inner true = but_same (but_same (key_but t rank key) (replaced_same _ rank m y lo)) (pushed_same _ rank m hi)
      inner false = pushed

      outer : (b : Bool) → SameBut (fourth d c rank).quarter t
          (pick b (pick (ltb key lo) (push (replace (put_key t d c rank key) d c rank m y lo) d c rank m hi)
          (push (put_key t d c rank lo) d c rank m hi)) (push (put_key t d c rank lo) d c rank m hi))
      outer true = inner (ltb key lo)
      outer false = pushed
