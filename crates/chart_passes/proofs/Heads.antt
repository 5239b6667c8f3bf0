-- A head that is in no mask of an edge's word has no leaf, one that is in no masks of the span's ends no seed, and where there are
-- neither nothing is found. So the iteration over the heads is at the next live one what it was behind the last.
use mathlib.Core.Path.{◌≡◌, refl, sym, ◌∙◌}
use mathlib.Core.List.{List}
use Prim.Native.Nat.{ℕ, ◌-◌, ◌≤◌, ◌<◌}
use native.Mathlib.Decide.{le_ind}
use native.Mathlib.Nat.{le_refl}
use native.Mathlib.Omega.{arith}
use Rattle.packing.specs.Loop.{iter}
use Rattle.packing.specs.Meaning.{symbol_of}
use Rattle.chart_table.specs.declared.Cell.{Cell}
use Rattle.chart_table.specs.declared.Layout.{Layout}
use Rattle.chart_table.specs.Table.{InTable, cell}
use Rattle.masks.specs.Digits.{digit}
use Rattle.chart_masks.specs.Masks.{Covers}
use Rattle.chart_heads.specs.Heads.{Ruled, HeadsOver, Live}
use Rattle.chart_heads.proofs.Members.{heads_complete, unjoined_apart}
use Rattle.chart_search.specs.Search.{next_of_span}
use Rattle.chart_passes.proofs.Fuel.{nothing_found}

-- turns that change nothing
iter_idle : {A : Type 0} (g : A → ℕ → A) (b : A) (m n : ℕ) → m ≤ n → ((x : ℕ) → m ≤ x → x < n → g (iter g b m) x ≡ iter g b m)
    → iter g b n ≡ iter g b m
unfolding iter
iter_idle g b m n le idle =
    le_ind (λ (x : ℕ). x ≤ n → iter g b x ≡ iter g b m) (λ h. refl) (λ x h same l. rw (same (omega arith)) (idle x h l)) n le (le_refl n)

pub lacked_heads : (rules edges index m₀ m t₀ t : List ℕ) (d : Layout) (span : Cell) (leafy live a b : ℕ) → InTable d span → Covers m t d
    → Ruled rules index d m₀ → HeadsOver m₀ edges index span leafy → Ruled rules index d m → Live m d span leafy live
    → a ≤ b → b ≤ d.symbols → ((x : ℕ) → a ≤ x → x < b → digit live x ≡ 0)
    → t ≡ iter (λ y x. next_of_span rules edges index d (span.to - span.from) y (cell (symbol_of x) span.from span.to) 0) t₀ a
    → t ≡ iter (λ y x. next_of_span rules edges index d (span.to - span.from) y (cell (symbol_of x) span.from span.to) 0) t₀ b
lacked_heads rules edges index m₀ m t₀ t d span leafy live a b in_table covers ruled₀ over ruled lives le last lacks same =
    same ∙ sym (iter_idle step t₀ a b le (λ x h l. rw (← same) (idle x l (lacks x h l))))
  where
    step : List ℕ → ℕ → List ℕ
    step y x = next_of_span rules edges index d (span.to - span.from) y (cell (symbol_of x) span.from span.to) 0

    idle : (x : ℕ) → x < b → digit live x ≡ 0 → step t x ≡ t
    idle x l z =
        nothing_found rules edges index m d t (cell (symbol_of x) span.from span.to) in_table.order in_table.last covers
        (heads_complete rules edges index m₀ d.symbols leafy (symbol_of x) span.from span.to ruled₀.words over (omega arith) (lives.leafless x z))
        (unjoined_apart rules index m d span (symbol_of x) covers.size (omega arith) (omega (arith, in_table.order, in_table.last)) in_table.last ruled
        (lives.unjoined x z))
