-- The store of a key by its price and back pointer, which are the digits of its number.
use mathlib.Core.Path.{◌≡◌, sym, ◌∙◌}
use mathlib.Core.List.{List}
use Prim.Native.Nat.{ℕ, ◌≤◌, ◌<◌}
use lib.Arith.{digits_div, digits_mod}
use borrow.Author.Tests.{lt-ltb, le-ltb}
use Rattle.chart_keys.specs.declared.Key.{Key}
use Rattle.chart_keys.specs.Keys.{prices, key_unit, key_number}
use Rattle.chart_keys.proofs.Numbers.{some_price}
use Rattle.chart_table.specs.declared.Layout.{Layout}
use Rattle.chart_table.specs.Table.{put_found, put_last_rank, put_key}

module _ (t : List ℕ) (d : Layout) (c rank : ℕ) (k : Key) (small : k.back < key_unit) where
  pub put_some : k.price < prices → put_key t d c rank (key_number k) ≡ put_last_rank (put_found t d c rank k.price k.back) d c rank
  unfolding put_key
  put_some h =
      rw (
        sym (some_price key_unit k.price prices k.back small) ∙ lt-ltb k.price prices h,
        digits_div k.price {m = key_unit} {r = k.back} small,
        digits_mod k.price {m = key_unit} {r = k.back} small,
      )

  pub put_none : prices ≤ k.price → put_key t d c rank (key_number k) ≡ t
  unfolding put_key
  put_none h = rw (sym (some_price key_unit k.price prices k.back small) ∙ le-ltb k.price prices h)
