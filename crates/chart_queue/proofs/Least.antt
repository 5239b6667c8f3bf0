-- Of two places the one with the lesser key, by the test of their keys; a key that is one has a price that fits; and what a tag is,
-- and what is kept of a candidate that follows none, by the test whether it follows none.
use mathlib.Core.Path.{◌≡◌, refl, sym, ◌∙◌, subst}
use mathlib.Core.Bool.{Bool, true, false}
use mathlib.Core.List.{List}
use Prim.Native.Nat.{ℕ, ◌+◌, ◌-◌, ◌*◌, ◌/◌, ◌%◌, ◌≤◌, ◌<◌}
use native.Mathlib.Omega.{arith}
use lib.Dec.{ltb}
use borrow.Author.Tests.{ltb-true, le-ltb}
use Rattle.chart_keys.specs.declared.BackPointer.{BackPointer}
use Rattle.chart_keys.specs.declared.Key.{Key}
use Rattle.chart_keys.specs.Keys.{back_pointer, prices, key_unit, key_number, no_key}
use Rattle.chart_keys.proofs.Numbers.{digits_below, digits_under}
use Rattle.chart_table.specs.declared.Layout.{Layout}
use Rattle.chart_table.specs.Table.{back_at, beside_at, put_beside}
use Rattle.chart_tags.specs.Tags.{is_initial, code_of}
use Rattle.chart_queue.specs.Queue.{tag_of, tagged_back, keep_initial, number_key, queued_key, lesser_place}

module _ (t : List ℕ) (d : Layout) (c x y : ℕ) (k best : ℕ) (e : k ≡ queued_key t d c y) (f : best ≡ queued_key t d c x) where
  pub place_less : ltb k best ≡ true → y ≡ lesser_place t d c x y
  unfolding lesser_place
  place_less h = rw (← e, ← f, h)

  pub place_stays : ltb k best ≡ false → x ≡ lesser_place t d c x y
  unfolding lesser_place
  place_stays h = rw (← e, ← f, h)

-- the key at a place, from what stands beside its rank; where its price is above the best's, so is the key
pub queued_is : (t : List ℕ) (d : Layout) (c y n : ℕ) {k : ℕ} → n ≡ beside_at t d c (y + 1) → k ≡ number_key t d c n → k ≡ queued_key t d c y
unfolding queued_key
queued_is t d c y n e h = rw (← e) h

pub dearer_stays : (t : List ℕ) (d : Layout) (c x y n : ℕ) (best : Key) → best.back < key_unit → n ≡ beside_at t d c (y + 1)
    → key_number best ≡ queued_key t d c x → best.price < n / 1024 → x ≡ lesser_place t d c x y
dearer_stays t d c x y n best small e f less =
    place_stays t d c x y (queued_key t d c y) (key_number best) refl f
    (le-ltb (queued_key t d c y) (key_number best) (rw (← queued_is t d c y n e refl)
    (below (digits_below key_unit best.price (n / 1024) best.back (tagged_back t d c (n % 1024)) small less))))
  where
    below : {a b : ℕ} → a < b → a ≤ b
    below h = omega arith

pub price_fits : (k : Key) {b : Bool} → b ≡ ltb (key_number k) no_key → b ≡ true → k.price < prices
price_fits k e h = digits_under key_unit k.price prices k.back (ltb-true (key_number k) no_key (sym e ∙ h))

-- whether a back pointer's number is of a candidate that follows none, as the code finds it, and what is then written
pub initial_is : (x : ℕ) {b : BackPointer} {r o : Bool} → b ≡ back_pointer x → r ≡ is_initial b → r ≡ o → is_initial (back_pointer x) ≡ o
initial_is x {r = r} e f g = sym (subst (λ (b : BackPointer). r ≡ is_initial b) e f) ∙ g

module _ (t : List ℕ) (d : Layout) (c : ℕ) where
  pub tag_none : (rank x : ℕ) → is_initial (back_pointer x) ≡ true → tag_of t d c rank x ≡ 1023
  unfolding tag_of
  tag_none rank x e = rw e

  pub tag_rank : (rank x : ℕ) → is_initial (back_pointer x) ≡ false
      → tag_of t d c rank x ≡ (rank - 1) * 4 + code_of (back_at t d c (rank - 1)) x
  unfolding tag_of
  tag_rank rank x e = rw e

  pub keep_one : (x : ℕ) → is_initial (back_pointer x) ≡ true
      → keep_initial t d c x ≡ put_beside t d c 0 (x * 262144 + beside_at t d c 0 % 262144)
  unfolding keep_initial
  keep_one x e = rw e

  pub keep_none : (x : ℕ) → is_initial (back_pointer x) ≡ false → keep_initial t d c x ≡ t
  unfolding keep_initial
  keep_none x e = rw e
