-- What replaces the last found is the least candidate above it that follows what that followed.
-- For a pairing has two successors at most: where the last found is one of them, its sibling is what is left.
use mathlib.Core.Path.{◌≡◌, refl, sym, ap, ◌∙◌}
use mathlib.Core.Bool.{true, false}
use mathlib.Core.List.{List}
use Prim.Native.Nat.{ℕ, zero, suc, ◌+◌, ◌-◌, ◌≤◌, ◌<◌}
use native.Mathlib.Numerals.{add-one}
use native.Mathlib.Omega.{arith}
use lib.Dec.{eqb-suc-zero}
use borrow.Author.Tests.{ne_eqb, lt-ltb}
use Rattle.packing.specs.declared.Sym.{Sym}
use Rattle.packing.specs.Meaning.{Grammar, Edge}
use Rattle.derivation.specs.Derivation.{At, Tree}
use Rattle.derivation.proofs.Rows.{Price, joined, price_of, Row, row, leaf_row, node_row, row_price_lem, place_row}
use Rattle.chart_keys.specs.Keys.{back, lesser}
use Rattle.chart_table.specs.declared.Cell.{Cell}
use Rattle.chart_table.specs.declared.Layout.{Layout}
use Rattle.chart_table.specs.Table.{left_part, right_part}
use Rattle.chart_tags.specs.Tags.{is_initial}
use Rattle.chart_successors.specs.Successors.{least_initial, pair_sibling, sibling, replacement}
use Rattle.chart_theory.proofs.Table.Keys.{row_back, row_key}
use Rattle.chart_theory.proofs.Table.Cells.{ranked_in, RowOfIn, RowAtIn, row_unique}
use Rattle.chart_theory.proofs.Queue.Owners.{OwnerOf, owner_unique, seed_owner, right_owned, left_owned}
use Rattle.chart_theory.proofs.Invariant.{Setting, Found, PartsFound, FreshIn}
use Rattle.chart_theory.proofs.Candidates.Select.{Selects, selects_one, selects_none, selects_above}
use Rattle.chart_theory.proofs.Candidates.Keys.{joined_key, Splits, Candidate, pair_key_lem, right, left, rule_is, initial_selects, row_found}
use Rattle.chart_theory.proofs.Candidates.Frontier.{part_cells, Ready, found_price, pair_value, fresh}

-- a pairing that follows one is not initial
not_initial : (r j p q : ℕ) → 0 < j → 0 < p + q → is_initial (back r j p q) ≡ false
not_initial r (suc j) zero zero h l = absurd (omega arith)
not_initial r (suc j) zero (suc q) h l = rw (eqb-suc-zero j, eqb-suc-zero q)
not_initial r (suc j) (suc p) q h l = rw (eqb-suc-zero j, eqb-suc-zero p)
not_initial r zero p q h l = absurd (omega arith)

module _ {g : Grammar} {es : List Edge} {rules edges index : List ℕ} {d : Layout} (s : Setting g es rules edges index d) {m : ℕ}
    {t : List ℕ} {c : Cell} {n : ℕ} (ready : Ready s m t c n) where
  abbrev Key : (o key : ℕ) → Type 0
  Key = Candidate g es c d t

  same : {u u' : Price} {r j p q r' j' p' q' : ℕ} (x : ℕ) → RowAtIn g es c x (row u r j p q) → RowAtIn g es c x (row u' r' j' p' q')
      → (r' ≡ r) × (j' ≡ j) × (p' ≡ p) × (q' ≡ q)
  same x at at' = let e = row_unique g es c x at' at in (cc, cc, cc, cc)

  -- the last found is the pairing of ranks p and q by a rule, and its key the floor
  module _ {B C : Sym} {r w j : ℕ} (splits : Splits g c B C r w j) (p q floor : ℕ)
      (own : joined_key t d c B C w (back r j p q) ≡ floor) where
    -- a candidate by that rule at that split has this key
    key_is : {B' C' : Sym} {r' w' j' p' q' : ℕ} (p₀ q₀ : ℕ) → Splits g c B' C' r' w' j' → r' ≡ r → j' ≡ j → p' ≡ p₀ → q' ≡ q₀
        → joined_key t d c B' C' w' (back r' j' p' q') ≡ joined_key t d c B C w (back r j p₀ q₀)
    key_is {B'} {C'} {r'} {w'} p₀ q₀ splits' e₁ e₂ e₃ e₄ =
        let rule = splits.rule in
        let rule' = splits'.rule in
        let eb : B' ≡ B = cc in
        let ec : C' ≡ C = cc in
        let ew : w' ≡ w = cc in
        rw (e₁, e₂, e₃, e₄, eb, ec, ew)

    -- where the last found succeeds rank x on the right, and that rank's right part is the first, the successor on the left is left
    module _ (x : ℕ) {u : Price} (at : RowAtIn g es c x (row u r j p 0)) (is : q ≡ 1) where
      abbrev on_left : ℕ
      on_left = joined_key t d c B C w (back r j (p + 1) 0)

      to_left : (key : ℕ) → key ≡ on_left → Key (suc x) key
      to_left key e = rw (e, add-one p) (pair_key_lem splits (left at))

      from_left : (key : ℕ) → floor < key → Key (suc x) key → key ≡ on_left
      from_left key above (pair_key_lem splits' (right at')) =
          let (e₁, e₂, e₃, e₄) = same x at at' in
          absurd (omega (arith, own, key_is p q splits' e₁ e₂ e₃ (ap suc e₄ ∙ sym is)))
      from_left key above (pair_key_lem splits' (left at')) =
          let (e₁, e₂, e₃, e₄) = same x at at' in
          key_is (p + 1) 0 splits' e₁ e₂ (ap suc e₃ ∙ sym (add-one p)) refl

      left_selects : Selects floor (Key (suc x)) (λ b. lesser floor b on_left)
      left_selects = selects_above floor (λ key above. (to_left key, from_left key above)) (selects_one floor on_left)

    -- where that rank's right part is not the first, nothing is left
    module _ (x q₀ : ℕ) {u : Price} (at : RowAtIn g es c x (row u r j p (suc q₀))) (is : q ≡ suc (suc q₀)) where
      none_left : (key : ℕ) → floor < key → Key (suc x) key → ⊥
      none_left key above (pair_key_lem splits' (right at')) =
          let (e₁, e₂, e₃, e₄) = same x at at' in
          omega (arith, own, key_is p q splits' e₁ e₂ e₃ (ap suc e₄ ∙ sym is))
      none_left key above (pair_key_lem splits' (left at')) = let (e₁, e₂, e₃, e₄) = same x at at' in omega arith

      none_selects : Selects floor (Key (suc x)) (λ b. b)
      none_selects =
          selects_above floor (λ key above. ((λ z. absurd z), none_left key above)) (selects_none floor {C = λ _. ⊥} (λ key z. z))

    -- where the last found succeeds rank x on the left, the successor on the right is left
    module _ (x p₀ : ℕ) {u : Price} (at : RowAtIn g es c x (row u r j p₀ 0)) (is : p ≡ suc p₀) (first : q ≡ 0) where
      abbrev on_right_lem : ℕ
      on_right_lem = joined_key t d c B C w (back r j (p - 1) 1)

      less : p - 1 ≡ p₀
      less = omega arith

      to_right : (key : ℕ) → key ≡ on_right_lem → Key (suc x) key
      to_right key e = rw (e, less) (pair_key_lem splits (right at))

      from_right : (key : ℕ) → floor < key → Key (suc x) key → key ≡ on_right_lem
      from_right key above (pair_key_lem splits' (right at')) =
          let (e₁, e₂, e₃, e₄) = same x at at' in
          key_is (p - 1) 1 splits' e₁ e₂ (e₃ ∙ sym less) (ap suc e₄)
      from_right key above (pair_key_lem splits' (left at')) =
          let (e₁, e₂, e₃, e₄) = same x at at' in
          absurd (omega (arith, own, key_is p q splits' e₁ e₂ (ap suc e₃ ∙ sym is) (sym first)))

      right_selects : Selects floor (Key (suc x)) (λ b. lesser floor b on_right_lem)
      right_selects = selects_above floor (λ key above. (to_right key, from_right key above)) (selects_one floor on_right_lem)

  -- the last found, and what replaces it
  abbrev Replaced : Row → ℕ → Type 0
  Replaced l o = FreshIn g es d t c n l o (replacement t d rules edges index c (row_found l))

  initial_replaced : (l : Row) (o : ℕ) → is_initial (row_back l) ≡ true → o ≡ 0 → Replaced l o
  unfolding replacement least_initial
  initial_replaced l o e z = rw (e, z) (fresh s ready l 0 (omega arith) (initial_selects s t ready.in_chart (row_key l)))

  -- a successor's key is that of its parts
  own_key : {B C : Sym} {r w j : ℕ} {y z : Tree} (p q : ℕ) → Splits g c B C r w j → At (ranked_in g es (left_part c B j)) p y
      → At (ranked_in g es (right_part c C j)) q z → Found d t (left_part c B j) p × Found d t (right_part c C j) q
      → joined_key t d c B C w (back r j p q) ≡ row_key (row (joined w (price_of g es y) (price_of g es z)) r j p q)
  own_key {B} {C} {r} {w} {j} p q splits l m (fl, fr) =
      let (cl, cr) = part_cells s ready.in_chart splits in
      let (vl, o) = place_row g es B c.from j p l in
      let (vr, o') = place_row g es C j c.to q m in
      pair_value t d c B C w r j p q vl vr (found_price s ready p cl fl (_, l, o)) (found_price s ready q cr fr (_, m, o'))
      ∙ with_prices (row_price_lem g es o) (row_price_lem g es o')
    where
      with_prices : {a a' b b' : Price} → a ≡ a' → b ≡ b' → row_key (row (joined w a b) r j p q) ≡ row_key (row (joined w a' b') r j p q)
      with_prices e e' = rw (e, e')

  pub replaced : {l : Row} {z : Tree} {o : ℕ} → RowOfIn g es c l z → PartsFound g es d t c l → OwnerOf g es c l o → o ≤ n
      → Replaced l o
  unfolding replacement sibling pair_sibling
  replaced {o = o} (leaf_row {r = r} {e = e} p q) parts owns h = initial_replaced (row _ r 0 e 0) o refl owns
  replaced {l = l} {o = o} (node_row {B} {C} {r} {w} {j} {p = zero} {q = zero} rule h₁ h₂ m₁ m₂) parts owns h =
      initial_replaced l o (rw (ne_eqb j 0 (λ z. omega arith))) (owner_unique g es c l owns (seed_owner g es c r j (omega arith)))
  replaced {l = l} {o = o} (node_row {B} {C} {r} {w} {j} {p = suc p} {q = zero} rule h₁ h₂ m₁ m₂) parts owns h =
      let splits : Splits g c B C r w j = record { rule = rule; after = h₁; before = h₂ } in
      let own = own_key (suc p) 0 splits m₁ m₂ (parts B C w rule) in
      let (y, u, e, at) = left_owned g es c r j p o (omega arith) owns in
      rw (e, not_initial r j (suc p) 0 (omega arith) (omega arith), rule_is s r rule, lt-ltb 0 (suc p) (omega arith))
      (fresh s ready l (suc y) (rw e at h) (right_selects splits (suc p) 0 (row_key l) own y p at refl refl))
  replaced {l = l} {o = o} (node_row {B} {C} {r} {w} {j} {p} {q = suc zero} rule h₁ h₂ m₁ m₂) parts owns h =
      let splits : Splits g c B C r w j = record { rule = rule; after = h₁; before = h₂ } in
      let own = own_key p 1 splits m₁ m₂ (parts B C w rule) in
      let (y, u, e, at) = right_owned g es c r j p 0 o (omega arith) owns in
      rw (e, not_initial r j p 1 (omega arith) (omega arith), rule_is s r rule)
      (fresh s ready l (suc y) (rw e at h) (left_selects splits p 1 (row_key l) own y at refl))
  replaced {l = l} {o = o} (node_row {B} {C} {r} {w} {j} {p} {q = suc (suc q)} rule h₁ h₂ m₁ m₂) parts owns h =
      let splits : Splits g c B C r w j = record { rule = rule; after = h₁; before = h₂ } in
      let own = own_key p (suc (suc q)) splits m₁ m₂ (parts B C w rule) in
      let (y, u, e, at) = right_owned g es c r j p (suc q) o (omega arith) owns in
      rw (
        e,
        not_initial r j p (suc (suc q)) (omega arith) (omega arith),
        rule_is s r rule,
        ne_eqb (suc (suc q)) 1 (λ z. omega arith),
        eqb-suc-zero (suc q),
      )
      (fresh s ready l (suc y) (rw e at h) (none_selects splits p (suc (suc q)) (row_key l) own y q at refl))
