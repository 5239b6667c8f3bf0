-- Inversions: a parse that succeeded went through both its halves, and
-- an accepted verdict passed its test.
-- Assumes nothing.
use mathlib.Core.Path.{◌≡◌, refl, ap}
use mathlib.Core.Bool.{Bool, true, false}
use Prim.Native.Nat.{ℕ}
use native.Mathlib.Omega.{arith}
use Rattle.bits.specs.Bits.{pick}
use Rattle.packing.specs.Parse.{Parse, parsed, failed, ◌⟫◌, Verdict, accepted, refused, ◌then◌, verdict_of, finish}

failed≢parsed : {A : Type 0} {n next : ℕ} {a : A} → failed n ≡ parsed a next → ⊥
failed≢parsed e = let z : ◌≡◌ {A = ℕ} 0 1 = cc in omega arith

pub refused≢accepted : {A : Type 0} {n : ℕ} {a : A} → refused n ≡ accepted a → ⊥
refused≢accepted e = let z : ◌≡◌ {A = ℕ} 0 1 = cc in omega arith

-- what a test chose, where the other choice is not it
pub picked_first : {A : Type 0} (t : Bool) (x y : A) {z : A} → (y ≡ z → ⊥) → pick t x y ≡ z → (t ≡ true) × (x ≡ z)
picked_first true x y n e = (refl, e)
picked_first false x y n e = absurd (n e)

pub picked_second : {A : Type 0} (t : Bool) (x y : A) {z : A} → (x ≡ z → ⊥) → pick t x y ≡ z → (t ≡ false) × (y ≡ z)
picked_second true x y n e = absurd (n e)
picked_second false x y n e = (refl, e)

-- the test that a parse passed, or that did not fail it
pub parsed_then : {A : Type 0} (t : Bool) (n : ℕ) (x : Parse A) {a : A} {next : ℕ} → pick t x (failed n) ≡ parsed a next
    → (t ≡ true) × (x ≡ parsed a next)
parsed_then t n x = picked_first t x (failed n) failed≢parsed

pub parsed_else : {A : Type 0} (t : Bool) (n : ℕ) (x : Parse A) {a : A} {next : ℕ} → pick t (failed n) x ≡ parsed a next
    → (t ≡ false) × (x ≡ parsed a next)
parsed_else t n x = picked_second t (failed n) x failed≢parsed

pub accepted_else : {A : Type 0} (t : Bool) (n : ℕ) (x : Verdict A) {a : A} → pick t (refused n) x ≡ accepted a → (t ≡ false) × (x ≡ accepted a)
accepted_else t n x = picked_second t (refused n) x refused≢accepted

-- both halves of a parse that succeeded
pub both_parsed : {A B : Type 0} (x : Parse A) (k : A → ℕ → Parse B) {b : B} {next : ℕ} → (x ⟫ k) ≡ parsed b next
    → (a : A) × (mid : ℕ) × (x ≡ parsed a mid) × (k a mid ≡ parsed b next)
both_parsed (parsed a mid) k e = (a, mid, refl, e)
both_parsed (failed n) k e = absurd (failed≢parsed e)

-- and what follows from them, with names for them that stay short in a chain
pub through : {A B : Type 0} (x : Parse A) (k : A → ℕ → Parse B) {b : B} {next : ℕ} {P : Type 0} → (x ⟫ k) ≡ parsed b next
    → ((a : A) (mid : ℕ) → x ≡ parsed a mid → k a mid ≡ parsed b next → P) → P
through x k e f = let (a, mid, p, q) = both_parsed x k e in f a mid p q

-- the same of a verdict that accepts
pub granted : {A B : Type 0} (x : Verdict A) (k : A → Verdict B) {b : B} {P : Type 0} → (x then k) ≡ accepted b
    → ((a : A) → x ≡ accepted a → k a ≡ accepted b → P) → P
granted (accepted a) k e f = f a refl e
granted (refused n) k e f = absurd (refused≢accepted e)

-- and of one that refuses, at the first place or behind it
pub denied_at : {A B : Type 0} (x : Verdict A) (k : A → Verdict B) {n : ℕ} {P : Type 0} → (x then k) ≡ refused n
    → (x ≡ refused n → P) → ((a : A) → x ≡ accepted a → k a ≡ refused n → P) → P
denied_at (accepted a) k e f h = h a refl e
denied_at (refused m) k {n} e f h = let same : m ≡ n = cc in f (ap refused same)

-- what holds of one result holds of one that is equal
pub same_parsed : {A : Type 0} (P : A → ℕ → Type 0) {a b : A} {m n : ℕ} → parsed a m ≡ parsed b n → P a m → P b n
same_parsed P {a} {b} {m} {n} e h =
    let p : a ≡ b = cc in
    let q : m ≡ n = cc in
    rw (p, q) at h

pub accepted_is : {A : Type 0} {a b : A} → accepted a ≡ accepted b → a ≡ b
accepted_is e = cc

-- what was read
pub verdict_out : {A : Type 0} (x : Parse A) {a : A} → verdict_of x ≡ accepted a → (next : ℕ) × (x ≡ parsed a next)
verdict_out (parsed b next) e = (next, ap (λ (c : _). parsed c next) (accepted_is e))
verdict_out (failed m) e = absurd (refused≢accepted e)

-- what was read to its end
pub finish_out : {A : Type 0} (end : ℕ → Bool) (n : ℕ) (x : Parse A) {a : A} → finish end n x ≡ accepted a
    → (next : ℕ) × (x ≡ parsed a next) × (end next ≡ true)
finish_out end n (parsed b next) e =
    let (t, f) = picked_first (end next) (accepted b) (refused n) refused≢accepted e in
    (next, ap (λ (c : _). parsed c next) (accepted_is f), t)
finish_out end n (failed m) e = absurd (refused≢accepted e)

-- an end that is always passed
pub finish_always : {A : Type 0} (n : ℕ) (x : Parse A) → finish (λ at. true) n x ≡ verdict_of x
finish_always n (parsed a at) = refl
finish_always n (failed m) = refl
