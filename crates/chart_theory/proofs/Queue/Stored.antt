-- What changes when a key is written at a rank of a cell and its queue is arranged: the entries of the cell's ranks up to this
-- one, and no price and no back pointer but that rank's. For no two entries share a number.
use mathlib.Core.Path.{◌≡◌, refl, ◌∙◌}
use mathlib.Core.Logic.{◌⊎◌, inl, inr, ⊎_elim, ◌≢◌}
use mathlib.Core.List.{List}
use Prim.Native.Nat.{ℕ, suc, ◌+◌, ◌*◌, ◌≤◌, ◌<◌}
use native.Mathlib.Nat.{le_refl}
use native.Mathlib.Decide.{ℕ_discrete}
use native.Mathlib.Omega.{arith}
use lib.ListN.{length, get_or}
use Rattle.chart_keys.specs.Keys.{no_key}
use Rattle.chart_table.specs.declared.Layout.{Layout}
use Rattle.chart_table.specs.Table.{entry_of, price_at, back_at, put_beside, last_rank, put_key}
use Rattle.chart_queue.specs.Queue.{queued_key, queue_length}
use Rattle.chart_theory.proofs.Table.Entries.{InEntry, entry_injective, entry_within}
use Rattle.chart_theory.proofs.Table.Numbers.{
  beside_size,
  beside_within,
  beside_price,
  beside_back,
  put_size,
  put_within,
  put_beside_lem,
  put_last,
  put_last_grows,
}
use Rattle.chart_theory.proofs.Queue.Numbers.{tag_at, put_queued_other, put_queue_length_lem, apart_queued, apart_tag, apart_length, apart_last}

-- what the store of a key at a rank of a cell changes, and the queues of other cells
pub record Stored (t : List ℕ) (d : Layout) (c rank key : ℕ) (u : List ℕ) : Type 0 where
  pub size : length u ≡ length t
  pub prices : (c' x : ℕ) → price_at u d c' x ≡ price_at (put_key t d c rank key) d c' x
  pub backs : (c' x : ℕ) → back_at u d c' x ≡ back_at (put_key t d c rank key) d c' x
  pub lengths : (c' : ℕ) → c' < d.cells → c' ≢ c → queue_length u d c' ≡ queue_length t d c'
  pub others : (c' y : ℕ) → c' < d.cells → c' ≢ c → suc y < d.ranks
      → (queued_key u d c' y ≡ queued_key t d c' y) × (tag_at u d c' y ≡ tag_at t d c' y)
  pub last : rank ≤ last_rank u d c
  pub lasts : (c' : ℕ) → c' < d.cells → last_rank t d c' ≤ last_rank u d c'
  pub within : (z : ℕ) → (get_or u z 0 ≡ get_or t z 0) ⊎ ((x : ℕ) × (x ≤ rank) × InEntry d c x z)

-- entries of other cells, and of other ranks of the cell
module _ (d : Layout) (c : ℕ) (below : c < d.cells) where
  apart : (c' x' : ℕ) → c' < d.cells → c' ≢ c → x' < d.ranks → (x : ℕ) → x < d.ranks → entry_of d c' x ≢ entry_of d c x'
  apart c' x' h other l' x l e = other (entry_injective d c' x c x' h below l l' e).0

  pub apart_rank : (x x' : ℕ) → x ≢ x' → x < d.ranks → x' < d.ranks → entry_of d c x ≢ entry_of d c x'
  apart_rank x x' other l l' e = other (entry_injective d c x c x' below below l l' e).1

module _ (t : List ℕ) (d : Layout) (c rank key : ℕ) (below : c < d.cells) (kept : rank < d.ranks) (few : d.ranks ≤ 256) where
  pub stored_key : 4 * (d.cells * d.ranks) ≤ length t → key < no_key → Stored t d c rank key (put_key t d c rank key)
  stored_key room some = record {
    size = put_size t d c rank key some;
    prices = λ c' x. refl;
    backs = λ c' x. refl;
    lengths = λ c' h other. put_queue_length_lem t d c rank key some below kept first_room (omega arith) c';
    others = λ c' y h other l.
        (put_queued_other t d c rank key some below kept first_room (omega arith) c' y h other, rw (put_beside_lem t d c rank key some below c' y));
    last = put_last t d c rank key some first_room (omega arith);
    lasts = λ c' h. put_last_grows t d c rank key some first_room (omega arith) c';
    within = λ z. ⊎_elim inl (⊎_elim (λ w. inr (0, omega arith, w)) (λ w. inr (rank, le_refl rank, w))) (put_within t d c rank key some z);
  }
    where
      first_room : entry_of d c 0 + 4 ≤ length t
      first_room = omega (arith, entry_within d c 0 below (omega arith))

-- the queue is arranged after it: something is written beside a rank up to this one
module _ {t : List ℕ} {d : Layout} {c rank key : ℕ} {u : List ℕ} (below : c < d.cells) (kept : 0 < d.ranks)
    (st : Stored t d c rank key u) where
  pub stored_beside : (x n : ℕ) → x < d.ranks → x ≤ rank → last_rank (put_beside u d c x n) d c ≡ last_rank u d c
      → Stored t d c rank key (put_beside u d c x n)
  stored_beside x n l le same = record {
    size = beside_size u d c x n ∙ st.size;
    prices = λ c' x'. beside_price u d c x n c' x' ∙ st.prices c' x';
    backs = λ c' x'. beside_back u d c x n c' x' ∙ st.backs c' x';
    lengths = λ c' h other. apart_length u d c x n c' (apart d c below c' x h other l) kept ∙ st.lengths c' h other;
    others = λ c' z h other l'.
        let (k, τ) = st.others c' z h other l' in (
          apart_queued u d c x n c' (apart d c below c' x h other l) kept z l' ∙ k,
          apart_tag u d c x n c' (apart d c below c' x h other l) kept z l' ∙ τ,
        );
    last = rw same st.last;
    lasts = λ c' h. lasts c' h (ℕ_discrete c' c);
    within = λ z. ⊎_elim (λ e. ⊎_elim (λ e'. inl (e ∙ e')) inr (st.within z)) (λ w. inr (x, le, w)) (beside_within u d c x n z);
  }
    where
      lasts : (c' : ℕ) → c' < d.cells → Dec (c' ≡ c) → last_rank t d c' ≤ last_rank (put_beside u d c x n) d c'
      lasts c' h (yes e) = rw (e, same) (st.lasts c below)
      lasts c' h (no other) = rw (apart_last u d c x n c' (apart d c below c' x h other l) kept) (st.lasts c' h)
