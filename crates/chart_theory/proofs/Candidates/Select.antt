-- A loop that keeps the lesser of what it has and each key above a floor comes to the least of these keys: each of its steps
-- does so for its own keys, and one step after another for the keys of both.
use mathlib.Core.Path.{◌≡◌, refl, sym, ◌∙◌, subst}
use mathlib.Core.Logic.{◌⊎◌, inl, inr, ⊎_elim, ◌↔◌}
use mathlib.Core.Bool.{Bool, true, false, false≢true}
use mathlib.Core.List.{List}
use Prim.Native.Nat.{ℕ, zero, suc, ◌+◌, ◌-◌, ◌≤◌, ◌<◌}
use native.Mathlib.Nat.{le_refl, le_trans, eq-or-lt_of_le}
use native.Mathlib.Omega.{arith}
use lib.ListN.{get_or}
use lib.Dec.{ltb}
use borrow.Author.Tests.{ltb-true, ltb-false}
use Rattle.bits.specs.Bits.{pick}
use Rattle.packing.specs.Loop.{iter, over}
use Rattle.chart_keys.specs.Keys.{lesser}
use Rattle.chart_classes.specs.Classes.{members}
use Rattle.chart_index.specs.Index.{Grouped}

-- f keeps the lesser of what it is given and the keys with the property C that are above the floor
pub record Selects (floor : ℕ) (C : ℕ → Type 0) (f : ℕ → ℕ) : Type 0 where
  pub below : (b : ℕ) → f b ≤ b
  pub from : (b : ℕ) → (f b ≡ b) ⊎ ((floor < f b) × C (f b))
  pub least : (b key : ℕ) → C key → floor < key → f b ≤ key

-- a key of a number below n, of one from first to last, of one with the property P
abbrev Below : ℕ → (ℕ → ℕ → Type 0) → ℕ → Type 0
Below n C key = (x : ℕ) × (x < n) × C x key

abbrev pub Between : ℕ → ℕ → (ℕ → ℕ → Type 0) → ℕ → Type 0
Between first last C key = (x : ℕ) × (first ≤ x) × (x < last) × C x key

abbrev pub Among : (ℕ → Type 0) → (ℕ → ℕ → Type 0) → ℕ → Type 0
Among P C key = (x : ℕ) × P x × C x key

-- b is kept, or the key is taken
abbrev Kept : ℕ → ℕ → ℕ → ℕ → Type 0
Kept floor b key r = ((r ≡ b) × (floor < key → b ≤ key)) ⊎ ((r ≡ key) × (floor < key) × (key < b))

lesser_cases : (floor b key : ℕ) → Kept floor b key (lesser floor b key)
unfolding lesser
lesser_cases floor b key = outer (ltb floor key) refl
  where
    inner : (t : Bool) → ltb key b ≡ t → floor < key → Kept floor b key (pick t key b)
    inner true e h = inr (refl, h, ltb-true key b e)
    inner false e h = inl (refl, λ _. ltb-false key b e)

    outer : (s : Bool) → ltb floor key ≡ s → Kept floor b key (pick s (pick (ltb key b) key b) b)
    outer true e = inner (ltb key b) refl (ltb-true floor key e)
    outer false e = inl (refl, λ h. absurd (omega (arith, ltb-false floor key e)))

module _ (floor : ℕ) where
  -- one key
  pub selects_one : (key : ℕ) → Selects floor (λ x. x ≡ key) (λ b. lesser floor b key)
  selects_one key = record {
    below = λ b. ⊎_elim (λ w. omega arith) (λ w. omega arith) (lesser_cases floor b key);
    from = λ b. ⊎_elim (λ w. inl w.0) (λ w. inr (omega arith, w.0)) (lesser_cases floor b key);
    least = λ b x e h. ⊎_elim (λ w. omega (arith, w.1 (omega arith))) (λ w. omega arith) (lesser_cases floor b key);
  }

  -- no key
  pub selects_none : {C : ℕ → Type 0} → ((key : ℕ) → C key → ⊥) → Selects floor C (λ b. b)
  selects_none never = record { below = λ b. le_refl b; from = λ b. inl refl; least = λ b key c h. absurd (never key c) }

  -- the same keys, otherwise said
  pub selects_same : {C D : ℕ → Type 0} {f : ℕ → ℕ} → ((key : ℕ) → C key ↔ D key) → Selects floor C f → Selects floor D f
  selects_same {f = f} same s = record {
    below = s.below;
    from = λ b. ⊎_elim inl (λ w. inr (w.0, (same (f b)).0 w.1)) (s.from b);
    least = λ b key c h. s.least b key ((same key).1 c) h;
  }

  -- keys at or below the floor do not matter
  pub selects_above : {C D : ℕ → Type 0} {f : ℕ → ℕ} → ((key : ℕ) → floor < key → C key ↔ D key) → Selects floor C f
      → Selects floor D f
  selects_above {f = f} same s = record {
    below = s.below;
    from = λ b. ⊎_elim inl (λ w. inr (w.0, (same (f b) w.0).0 w.1)) (s.from b);
    least = λ b key c h. s.least b key ((same key h).1 c) h;
  }

  -- one step after another
  pub selects_then : {C D : ℕ → Type 0} {f g : ℕ → ℕ} → Selects floor C f → Selects floor D g
      → Selects floor (λ key. C key ⊎ D key) (λ b. g (f b))
  selects_then {C} {f = f} s r = record {
    below = λ b. le_trans (r.below (f b)) (s.below b);
    from = λ b. ⊎_elim
        (λ e. ⊎_elim (λ e'. inl (e ∙ e')) (λ w. inr (omega (arith, w.0), inl (subst C (sym e) w.1))) (s.from b))
        (λ w. inr (w.0, inr w.1)) (r.from (f b));
    least = λ b key c h. ⊎_elim (λ x. le_trans (r.below (f b)) (s.least b key x h)) (λ x. r.least (f b) key x h) c;
  }

  -- a step where a test holds, and where it does not
  pub selects_when : {C : ℕ → Type 0} {f : ℕ → ℕ} (t : Bool) → Selects floor C f
      → Selects floor (λ key. (t ≡ true) × C key) (λ b. pick t (f b) b)
  selects_when true s = selects_same (λ key. ((λ c. (refl, c)), λ w. w.1)) s
  selects_when false s = selects_none (λ key w. false≢true w.0)

  pub selects_unless : {C : ℕ → Type 0} {f : ℕ → ℕ} (t : Bool) → Selects floor C f
      → Selects floor (λ key. (t ≡ false) × C key) (λ b. pick t b (f b))
  selects_unless true s = selects_none (λ key w. false≢true (sym w.0))
  selects_unless false s = selects_same (λ key. ((λ c. (refl, c)), λ w. w.1)) s

  -- a loop
  module _ {C : ℕ → ℕ → Type 0} {g : ℕ → ℕ → ℕ} where
    selects_iter : ((x : ℕ) → Selects floor (C x) (λ b. g b x)) → (n : ℕ) → Selects floor (Below n C) (λ b. iter g b n)
    unfolding iter
    selects_iter s zero = selects_none (λ key w. omega (arith, w.1))
    selects_iter s (suc n) = selects_same (λ key. (to key, out_of key)) (selects_then (selects_iter s n) (s n))
      where
        to : (key : ℕ) → Below n C key ⊎ C n key → Below (suc n) C key
        to key = ⊎_elim (λ w. (w.0, omega (arith, w.1), w.2)) (λ c. (n, le_refl (suc n), c))

        out_of : (key : ℕ) → Below (suc n) C key → Below n C key ⊎ C n key
        out_of key (x, h, c) =
            ⊎_elim (λ e. inr (subst (λ (y : ℕ). C y key) e c)) (λ l. inl (x, l, c)) (eq-or-lt_of_le {n = x} {m = n} (omega arith))

  module _ {C : ℕ → ℕ → Type 0} {g : ℕ → ℕ → ℕ} where
    pub selects_over : ((x : ℕ) → Selects floor (C x) (λ b. g b x)) → (first last : ℕ)
        → Selects floor (Between first last C) (λ b. over g b first last)
    selects_over s first last =
        selects_same (λ key. (to key, out_of key)) (selects_iter {C = λ y. C (first + y)} (λ y. s (first + y)) (last - first))
      where
        to : (key : ℕ) → Below (last - first) (λ y. C (first + y)) key → Between first last C key
        to key (y, h, c) = (first + y, omega arith, omega arith, c)

        out_of : (key : ℕ) → Between first last C key → Below (last - first) (λ y. C (first + y)) key
        out_of key (x, l, h, c) = (x - first, omega arith, subst (λ (y : ℕ). C y key) (omega arith) c)

  -- a loop over the members of a class
  module _ {C : ℕ → ℕ → Type 0} {g : ℕ → ℕ → ℕ} where
    pub selects_members : ((x : ℕ) → Selects floor (C x) (λ b. g b x)) → (index : List ℕ) (offset c : ℕ) {P : ℕ → Type 0}
        → Grouped index offset c P → Selects floor (Among P C) (λ b. members index offset c g b)
    selects_members s index offset c {P} group =
        selects_same (λ key. (to key, out_of key)) (selects_over {C = member} (λ y. s (get_or index y 0)) first last)
      where
        first : ℕ
        first = get_or index (offset + c) 0

        last : ℕ
        last = get_or index (offset + c + 1) 0

        member : ℕ → ℕ → Type 0
        member y = C (get_or index y 0)

        to : (key : ℕ) → Between first last member key → Among P C key
        to key (y, l, h, m) = (get_or index y 0, (group (get_or index y 0)).0 (y, l, h, refl), m)

        out_of : (key : ℕ) → Among P C key → Between first last member key
        out_of key (x, p, m) = let (y, l, h, e) = (group x).1 p in (y, l, h, subst (λ (z : ℕ). C z key) (sym e) m)
