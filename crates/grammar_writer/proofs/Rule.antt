-- A rule's fields, written one after the other; a word rule's last takes no bits.
-- Assumes nothing.
use mathlib.Core.Path.{◌≡◌}
use mathlib.Core.List.{List, [], ◌∷◌}
use Prim.Native.Nat.{ℕ, ◌+◌, ◌-◌, ◌≤◌}
use native.Mathlib.Omega.{arith}
use Rattle.bits.specs.Put.{put, puts}
use Rattle.bits.specs.Width.{width_of}
use Rattle.bits.specs.Fields.{fld, widths}
use Rattle.packing.specs.Source.{flds}
use Rattle.packing.specs.Grammar.{rule_entries}
use Rattle.packing.specs.declared.Sym.{Sym}
use Rattle.packing.specs.declared.Word as word
use Rattle.packing.specs.declared.Rule.{Rule}
use Rattle.packing.specs.declared.Rule.TheVariants.{Pair, Word}

-- the rule stands in `after`, and ends at `end`
abbrev pub Stands : ℕ → ℕ → Rule → List ℕ → ℕ → List ℕ → ℕ → Type 0
Stands S W rule out at after end =
    (end ≡ at + widths (flds (rule_entries S W rule))) × (end ≤ at + 41) × (after ≡ puts out at (flds (rule_entries S W rule)))

-- kind, head and weight
pub start_stands : (out : List ℕ) (at w kind head m : ℕ) {o₁ o₂ o₃ : List ℕ} → o₁ ≡ put out at 1 kind → o₂ ≡ put o₁ (at + 1) w head
    → o₃ ≡ put o₂ (at + 1 + w) 16 m → o₃ ≡ puts out at (fld 1 kind ∷ fld w head ∷ fld 16 m ∷ [])
unfolding puts
start_stands out at w kind head m e₁ e₂ e₃ = rw (e₃, e₂, e₁)

-- and the body behind them
module _ (S W at : ℕ) {a w : ℕ} (h : Sym) (m kind : ℕ) {rule : Rule} (out : List ℕ) {o₁ : List ℕ} (ew : w ≡ width_of (S - 1)) (lw : w ≤ 8)
    (ea : a ≡ at + 1 + w + 16)
    (e₁ : o₁ ≡ puts out at (fld 1 kind ∷ fld w h.0 ∷ fld 16 m ∷ [])) where
  pub pair_stands : {x y : Sym} {o₂ o₃ : List ℕ} → kind ≡ 0 → rule ≡ Pair h x y m → o₂ ≡ put o₁ a w x.0 → o₃ ≡ put o₂ (a + w) w y.0
      → Stands S W rule out at o₃ (a + w + w)
  unfolding puts widths
  pair_stands k e e₂ e₃ = rw (e, ← ew) (omega arith, omega arith, rw (e₃, e₂, e₁, ea, k))

  pub word_stands : {x : word.Word} {v : ℕ} {o₂ : List ℕ} → v ≡ width_of (W - 1) → v ≤ 8 → kind ≡ 1 → rule ≡ Word h x m → o₂ ≡ put o₁ a v x.0
      → Stands S W rule out at o₂ (a + v)
  unfolding put puts widths
  word_stands ev lv k e e₂ = rw (e, ← ew, ← ev) (omega arith, omega arith, rw (e₂, e₁, ea, k))
