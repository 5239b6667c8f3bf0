-- The turns of the reader's loops: what is left ends where all ends.
use mathlib.Core.Path.{◌≡◌, sym, ◌∙◌}
use mathlib.Core.Bool.{true, false}
use mathlib.Core.List.{List, [], ◌∷◌, ◌++◌}
use Prim.Native.Nat.{ℕ, suc, ◌+◌, ◌-◌, ◌≤◌, ◌<◌}
use native.Mathlib.Numerals.{add-one}
use native.Mathlib.Omega.{arith}
use Rattle.std.specs.Prelude.{Result}
use Rattle.packing.specs.declared.refusal.Refusal.{Refusal}
use Rattle.packing.specs.Parse.{Parse, parsed, failed}
use Rattle.packing.specs.Alike.{any_like, unlike_from}
use Rattle.office.specs.Office.{Item}
use Rattle.office.specs.Sheet.{item_from, items_from, office_rule_from, office_rules_from, rule_alike}
use Rattle.office.specs.Flat.{office_rule_at, behind_all, office_rules_at}
use Rattle.office.proofs.Read.{item_read, rule_read, rules_snoc}
use Rattle.rules_reader.specs.Rules.{place_of, reached}
use Rattle.rules_reader.proofs.Reached.{unreached, reached_out, place_map}

-- a refusal that is handed up
pub stopped : (r : Result ℕ Refusal) {n : ℕ} {x : Parse ℕ} → reached r ≡ failed n → failed n ≡ x → reached r ≡ x
stopped r f e = f ∙ e

module _ (s : List ℕ) (S W n : ℕ) where
  -- the turns of the loop over the items
  abbrev pub Items : ℕ → ℕ → Parse ℕ
  Items m at = place_of (items_from s S W n m at)

  module _ (i at : ℕ) (l : i < n) where
    one_more : n - i ≡ suc (n - (i + 1))
    one_more = omega arith

    pub items_stop : {k : ℕ} → failed k ≡ place_of (item_from s S W n at) → failed k ≡ Items (n - i) at
    unfolding items_from
    items_stop e = rw (one_more, unreached (item_from s S W n at) e)

    module _ {next : ℕ} (e : parsed next next ≡ place_of (item_from s S W n at)) where
      pub items_go_on : Items (n - (i + 1)) next ≡ Items (n - i) at
      unfolding items_from
      items_go_on =
          let (x, p) = reached_out (item_from s S W n at) e in
          rw (one_more, p) (sym (place_map (λ (l : List Item). x ∷ l) (items_from s S W n (n - (i + 1)) next)))

      pub item_end : 1 ≤ S → 1 ≤ W → next ≡ at + 2
      item_end a b = let (x, p) = reached_out (item_from s S W n at) e in (item_read s S W a b n at p).1

  pub items_end : (i at : ℕ) → n ≤ i → parsed at at ≡ Items (n - i) at
  unfolding items_from
  items_end i at l = let z : n - i ≡ 0 = omega arith in rw z

module _ (s : List ℕ) (S W R : ℕ) where
  -- the turns of the loop over the rules: i rules were read and stand in the sheet from place 3 on
  abbrev pub Rules : ℕ → ℕ → Parse ℕ
  Rules i at = place_of (office_rules_from s S W (R - i) at (office_rules_at s 3 i))

  pub rules_start : Rules 0 3 ≡ place_of (office_rules_from s S W R 3 [])
  unfolding office_rules_at
  rules_start = let z : R - 0 ≡ R = omega arith in rw z

  module _ (i at : ℕ) (l : i < R) (here : at ≡ behind_all s 3 i) where
    one_rule : R - i ≡ suc (R - (i + 1))
    one_rule = omega arith

    pub rules_stop : {k : ℕ} → failed k ≡ place_of (office_rule_from s S W at) → failed k ≡ Rules i at
    unfolding unlike_from
    rules_stop e = rw (one_rule, unreached (office_rule_from s S W at) e)

    module _ (a : 1 ≤ S) (b : 1 ≤ W) {next : ℕ} (e : parsed next next ≡ place_of (office_rule_from s S W at)) where
      pub rules_repeat : true ≡ any_like rule_alike (office_rule_at s at) (office_rules_at s 3 i) → failed 6 ≡ Rules i at
      unfolding unlike_from
      rules_repeat t =
          let (x, p) = reached_out (office_rule_from s S W at) e in
          let is = (rule_read s S W a b at p).0 in
          let t : any_like rule_alike x (office_rules_at s 3 i) ≡ true = rw is (sym t) in
          rw (one_rule, p, t)

      pub rules_go_on : false ≡ any_like rule_alike (office_rule_at s at) (office_rules_at s 3 i) → Rules (i + 1) next ≡ Rules i at
      unfolding unlike_from
      rules_go_on t =
          let (x, p) = reached_out (office_rule_from s S W at) e in
          let is = (rule_read s S W a b at p).0 in
          let t : any_like rule_alike x (office_rules_at s 3 i) ≡ false = rw is (sym t) in
          let more : office_rules_at s 3 i ++ (x ∷ []) ≡ office_rules_at s 3 (i + 1) = rw (add-one i, rules_snoc s 3 i, ← here, is) in
          rw (one_rule, p, t, more)

      pub rule_end : (next ≡ behind_all s 3 (i + 1)) × (next ≤ at + 15)
      unfolding behind_all
      rule_end =
          let (x, p) = reached_out (office_rule_from s S W at) e in
          let (_, end, few, _) = rule_read s S W a b at p in
          (rw (add-one i, ← here) end, omega arith)

  pub rules_end : (i at : ℕ) → R ≤ i → parsed at at ≡ Rules i at
  unfolding unlike_from
  rules_end i at l = let z : R - i ≡ 0 = omega arith in rw z
