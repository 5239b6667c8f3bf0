-- The three ways in which the queue is arranged when one of the pool is found: the lesser of two more was found, and the greater
-- is pushed; one of the queue was found and the lesser has its place, and the greater is pushed; or, where there are no more,
-- the last of the queue has its place. Each says for every place which member of the pool has it.
use mathlib.Core.Path.{◌≡◌, refl, sym, ◌∙◌}
use mathlib.Core.Logic.{◌⊎◌, inl, inr, ⊎_elim, ◌≢◌}
use Prim.Native.Nat.{ℕ, suc, ◌≤◌, ◌<◌}
use native.Mathlib.Decide.{dec_lt, ℕ_discrete}
use native.Mathlib.Omega.{arith}
use lib.Dec.{ltb, eqb}
use borrow.Author.Tests.{lt-ltb, le-ltb, eq-eqb, ne_eqb}
use Rattle.bits.specs.Bits.{pick}
use Rattle.chart_keys.specs.Keys.{no_key}
use Rattle.chart_theory.proofs.Queue.Pool.{Member, inside, low, high, Valid, Arranged}

inside≢low : (y : ℕ) → inside y ≢ low
inside≢low y e = let z : ◌≡◌ {A = ℕ} 0 1 = cc in omega arith

inside≢high : (y : ℕ) → inside y ≢ high
inside≢high y e = let z : ◌≡◌ {A = ℕ} 0 1 = cc in omega arith

low≢high : low ≢ high
low≢high e = let z : ◌≡◌ {A = ℕ} 0 1 = cc in omega arith

inside_injective : (y z : ℕ) → inside y ≡ inside z → y ≡ z
inside_injective y z e = cc

module _ (n m lo hi m' : ℕ) (Has : ℕ → Member → Type 0) (few : m' ≤ n) where
  -- the greater of two more was pushed, if there is one
  abbrev pub Pushed : Type 0
  Pushed = ((m' ≡ suc m) × (hi < no_key) × Has m high) ⊎ ((m' ≡ m) × (no_key ≤ hi))

  module _ (push : Pushed) where
    in_place : (y : ℕ) → y < m' → (y < m) ⊎ ((y ≡ m) × (hi < no_key) × Has m high)
    in_place y h =
        ⊎_elim (λ b. go b (dec_lt y m)) (λ b. inl (omega (arith, b.0))) push
      where
        go : (m' ≡ suc m) × (hi < no_key) × Has m high → Dec (y < m) → (y < m) ⊎ ((y ≡ m) × (hi < no_key) × Has m high)
        go b (yes l) = inl l
        go b (no l) = inr (omega (arith, b.0), b.1, b.2)

    longer : m ≤ m'
    longer = ⊎_elim (λ b. omega (arith, b.0)) (λ b. omega (arith, b.0)) push

    high_place : hi < no_key → m < m'
    high_place h = ⊎_elim (λ b. omega (arith, b.0)) (λ b. absurd (omega (arith, b.1))) push

    -- the lesser was found
    module _ (kept : (y : ℕ) → y < m → Has y (inside y)) where
      pushed : ℕ → Member
      pushed y = pick (ltb y m) (inside y) high

      pushed_inside : (y : ℕ) → y < m → pushed y ≡ inside y
      unfolding pushed
      pushed_inside y h = rw (lt-ltb y m h)

      pushed_high : pushed m ≡ high
      unfolding pushed
      pushed_high = rw (le-ltb m m (omega arith))

      pub pushed_arranged : Arranged n m lo hi m' Has low
      pushed_arranged = record { few = few; source = pushed; from = from; unique = unique; each = each }
        where
          from : (y : ℕ) → y < m' → Valid m lo hi (pushed y) × (pushed y ≢ low) × Has y (pushed y)
          from y h =
              ⊎_elim (λ l. rw (pushed_inside y l) (l, inside≢low y, kept y l))
              (λ b. rw (b.0, pushed_high) (b.1, (λ e. low≢high (sym e)), b.2)) (in_place y h)

          unique : (y z : ℕ) → y < m' → z < m' → pushed y ≡ pushed z → y ≡ z
          unique y z h h' e =
              ⊎_elim
              (λ l.
              ⊎_elim (λ l'. inside_injective y z (sym (pushed_inside y l) ∙ e ∙ pushed_inside z l'))
              (λ b. let e' = rw (b.0, pushed_high, pushed_inside y l) at e in absurd (inside≢high y e')) (in_place z h'))
              (λ b.
              ⊎_elim (λ l'. let e' = rw (b.0, pushed_high, pushed_inside z l') at e in absurd (inside≢high z (sym e')))
              (λ b'. b.0 ∙ sym b'.0) (in_place z h'))
              (in_place y h)

          each : (p : Member) → Valid m lo hi p → p ≢ low → (y : ℕ) × (y < m') × (pushed y ≡ p)
          each (inside y) h other = (y, omega (arith, longer), pushed_inside y h)
          each low h other = absurd (other refl)
          each high h other = (m, high_place h, pushed_high)

    -- one of the queue was found, and the lesser has its place
    module _ (x : ℕ) (in-queue : x < m) (some : lo < no_key) (new : Has x low) (kept : (y : ℕ) → y < m → y ≢ x → Has y (inside y)) where
      replaced : ℕ → Member
      replaced y = pick (eqb y x) low (pick (ltb y m) (inside y) high)

      replaced_low : replaced x ≡ low
      unfolding replaced
      replaced_low = rw (eq-eqb x x refl)

      replaced_inside : (y : ℕ) → y < m → y ≢ x → replaced y ≡ inside y
      unfolding replaced
      replaced_inside y h other = rw (ne_eqb y x other, lt-ltb y m h)

      replaced_high : replaced m ≡ high
      unfolding replaced
      replaced_high = rw (ne_eqb m x (λ e. omega arith), le-ltb m m (omega arith))

      data At (y : ℕ) : Type 0 where
        at_low : y ≡ x → At y
        at_inside : y < m → y ≢ x → At y
        at_high : y ≡ m → hi < no_key → Has m high → At y

      which : (y : ℕ) → y < m' → At y
      which y h = go (ℕ_discrete y x) (in_place y h)
        where
          go : Dec (y ≡ x) → (y < m) ⊎ ((y ≡ m) × (hi < no_key) × Has m high) → At y
          go (yes e) _ = at_low e
          go (no other) (inl l) = at_inside l other
          go (no other) (inr b) = at_high b.0 b.1 b.2

      pub replaced_arranged : Arranged n m lo hi m' Has (inside x)
      replaced_arranged = record {
        few = few;
        source = replaced;
        from = λ y h. from y (which y h);
        unique = λ y z h h'. unique y z (which y h) (which z h');
        each = each;
      }
        where
          from : (y : ℕ) → At y → Valid m lo hi (replaced y) × (replaced y ≢ inside x) × Has y (replaced y)
          from y (at_low e) = rw (e, replaced_low) (some, (λ e. inside≢low x (sym e)), new)
          from y (at_inside l other) = rw (replaced_inside y l other) (l, (λ e. other (inside_injective y x e)), kept y l other)
          from y (at_high e h is) = rw (e, replaced_high) (h, (λ e. inside≢high x (sym e)), is)

          unique : (y z : ℕ) → At y → At z → replaced y ≡ replaced z → y ≡ z
          unique y z (at_low e) (at_low e') s = e ∙ sym e'
          unique y z (at_low e) (at_inside l' other') s =
              absurd (inside≢low z (sym (rw (e, replaced_low, replaced_inside z l' other') at s)))
          unique y z (at_low e) (at_high e' h' is') s = absurd (low≢high (rw (e, replaced_low, e', replaced_high) at s))
          unique y z (at_inside l other) (at_low e') s = absurd (inside≢low y (rw (e', replaced_low, replaced_inside y l other) at s))
          unique y z (at_inside l other) (at_inside l' other') s =
              inside_injective y z (rw (replaced_inside y l other, replaced_inside z l' other') at s)
          unique y z (at_inside l other) (at_high e' h' is') s =
              absurd (inside≢high y (rw (e', replaced_high, replaced_inside y l other) at s))
          unique y z (at_high e h is) (at_low e') s = absurd (low≢high (sym (rw (e, replaced_high, e', replaced_low) at s)))
          unique y z (at_high e h is) (at_inside l' other') s =
              absurd (inside≢high z (sym (rw (e, replaced_high, replaced_inside z l' other') at s)))
          unique y z (at_high e h is) (at_high e' h' is') s = e ∙ sym e'

          each : (p : Member) → Valid m lo hi p → p ≢ inside x → (y : ℕ) × (y < m') × (replaced y ≡ p)
          each (inside y) h other = (y, omega (arith, longer), replaced_inside y h (λ e. other (rw e)))
          each low h other = (x, omega (arith, longer), replaced_low)
          each high h other = (m, high_place h, replaced_high)

  -- one of the queue was found, there are no more, and the last has its place
  module _ (x : ℕ) (in-queue : x < m) (no-lo : no_key ≤ lo) (no-hi : no_key ≤ hi) (fewer : m ≡ suc m') (new : x < m' → Has x (inside m'))
      (kept : (y : ℕ) → y < m' → y ≢ x → Has y (inside y)) where
    moved : ℕ → Member
    moved y = pick (eqb y x) (inside m') (inside y)

    moved_here : moved x ≡ inside m'
    unfolding moved
    moved_here = rw (eq-eqb x x refl)

    moved_other : (y : ℕ) → y ≢ x → moved y ≡ inside y
    unfolding moved
    moved_other y other = rw (ne_eqb y x other)

    pub moved_arranged : Arranged n m lo hi m' Has (inside x)
    moved_arranged = record {
      few = few;
      source = moved;
      from = λ y h. from y h (ℕ_discrete y x);
      unique = λ y z h h'. unique y z h h' (ℕ_discrete y x) (ℕ_discrete z x);
      each = each;
    }
      where
        from : (y : ℕ) → y < m' → Dec (y ≡ x) → Valid m lo hi (moved y) × (moved y ≢ inside x) × Has y (moved y)
        from y h (yes e) =
            rw (e, moved_here) (omega arith, (λ s. omega (arith, inside_injective m' x s)), new (omega arith))
        from y h (no other) = rw (moved_other y other) (omega arith, (λ s. other (inside_injective y x s)), kept y h other)

        unique : (y z : ℕ) → y < m' → z < m' → Dec (y ≡ x) → Dec (z ≡ x) → moved y ≡ moved z → y ≡ z
        unique y z h h' (yes e) (yes e') s = e ∙ sym e'
        unique y z h h' (yes e) (no other) s =
            absurd (omega (arith, inside_injective m' z (rw (e, moved_here, moved_other z other) at s)))
        unique y z h h' (no other) (yes e') s =
            absurd (omega (arith, inside_injective y m' (rw (e', moved_here, moved_other y other) at s)))
        unique y z h h' (no other) (no other') s = inside_injective y z (rw (moved_other y other, moved_other z other') at s)

        each : (p : Member) → Valid m lo hi p → p ≢ inside x → (y : ℕ) × (y < m') × (moved y ≡ p)
        each (inside y) h other = go (ℕ_discrete y m')
          where
            go : Dec (y ≡ m') → (z : ℕ) × (z < m') × (moved z ≡ inside y)
            go (yes e) = let far : x ≢ m' = λ e'. other (rw (e, e')) in (x, omega (arith, fewer), rw e moved_here)
            go (no e) = (y, omega arith, moved_other y (λ e'. other (rw e')))
        each low h other = absurd (omega arith)
        each high h other = absurd (omega arith)
