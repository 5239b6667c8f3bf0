-- The first rank of a cell is found at once, whatever fuel there is, from its least leaf and its seeds; where there are none, nothing is.
use mathlib.Core.Path.{◌≡◌, refl}
use mathlib.Core.List.{List}
use Prim.Native.Nat.{ℕ, zero, suc, ◌-◌, ◌<◌, ◌≤◌}
use native.Mathlib.Nat.{le_refl}
use native.Mathlib.Omega.{arith}
use borrow.Author.Tests.{le-ltb}
use Rattle.chart_keys.specs.Keys.{no_key}
use Rattle.chart_table.specs.declared.Cell.{Cell}
use Rattle.chart_table.specs.declared.Layout.{Layout}
use Rattle.chart_table.specs.Table.{last_place, cell_number, put_key}
use Rattle.chart_masks.specs.Masks.{Covers}
use Rattle.chart_heads.specs.Heads.{NoLeaf}
use Rattle.chart_candidates.specs.Candidates.{leaves, seeds}
use Rattle.chart_candidates.specs.PassedOver.{NoSeed}
use Rattle.chart_candidates.proofs.PassedOver.{no_leaves, seeds_passed}
use Rattle.chart_successors.specs.Successors.{least_initial}
use Rattle.chart_ranks.specs.Ranks.{first_rank}
use Rattle.chart_search.specs.Search.{next_of_span}

fueled : (rules edges index : List ℕ) (d : Layout) (f : ℕ) (t : List ℕ) (c : Cell) → 0 < f
    → next_of_span rules edges index d f t c 0 ≡ put_key t d (cell_number d c) 0 (seeds t d rules index c 0 (leaves rules edges index c 0 no_key))
unfolding next_of_span first_rank least_initial
fueled rules edges index d zero t c h = absurd (omega arith)
fueled rules edges index d (suc f) t c h = refl

pub first_of_span : (rules edges index : List ℕ) (d : Layout) (t : List ℕ) (c : Cell) → c.from < c.to
    → next_of_span rules edges index d (c.to - c.from) t c 0 ≡ put_key t d (cell_number d c) 0 (seeds t d rules index c 0 (leaves rules edges index c 0 no_key))
first_of_span rules edges index d t c h = fueled rules edges index d (c.to - c.from) t c (omega arith)

-- the store of a key that is none; so where there is no leaf and no seed, nothing is found
pub put_above : (t : List ℕ) (d : Layout) (number rank key : ℕ) → no_key ≤ key → put_key t d number rank key ≡ t
unfolding put_key
put_above t d number rank key h = rw (le-ltb key no_key h)

pub nothing_found : (rules edges index m : List ℕ) (d : Layout) (t : List ℕ) (c : Cell) → c.from < c.to → c.to ≤ last_place → Covers m t d
    → NoLeaf rules edges index c → NoSeed m d rules index c → next_of_span rules edges index d (c.to - c.from) t c 0 ≡ t
nothing_found rules edges index m d t c order last covers leaf seed =
    rw (
      first_of_span rules edges index d t c order,
      no_leaves rules edges index c 0 no_key leaf,
      seeds_passed t d m (λ h. covers) c 0 no_key last (le_refl no_key) rules index seed,
    ) (put_above t d (cell_number d c) 0 no_key (le_refl no_key))
