-- Cells that agree where they are read give the same numbers: so a table of cells may stand for a function of them.
use mathlib.Core.Path.{◌≡◌, refl, ap}
use mathlib.Core.Option.{Option, none, some}
use mathlib.Core.Bool.{Bool}
use mathlib.Core.List.{List}
use Prim.Native.Nat.{ℕ, zero, suc, ◌+◌, ◌-◌, ◌≤◌, ◌<◌}
use native.Mathlib.Omega.{arith}
use lib.ListN.{length, get_elem?}
use Rattle.packing.specs.declared.Sym.{Sym}
use Rattle.packing.specs.declared.Rule as R
use Rattle.packing.specs.declared.Rule.TheVariants.{Pair, Word}
use Rattle.packing.specs.Meaning.{Grammar, Edge, edge}
use Rattle.derivation.specs.Derivation.{At}
use Rattle.derivation.proofs.Ranges.{All, all_at, Within}
use Rattle.cost_changes.specs.Outside.{Cells, sum, if_same, inside, as_left, as_right, after_rules, outside_from, outside, through_by, through}
use Rattle.cost_changes.specs.Listed.{entry_of, listed}
use Rattle.cost_changes.proofs.Least.{upto_same}
use Rattle.cost_changes.proofs.Outside.{outside_is}

module _ (outer outer' inner inner' : Cells) where
  -- as a left part, from what stands around longer cells from i on, and from cells from j on
  pub left_same : (H L R : Sym) (w n : ℕ) (B : Sym) (i j : ℕ) → ((k : ℕ) → j < k → k ≤ n → outer H i k ≡ outer' H i k)
      → ((k : ℕ) → j < k → k ≤ n → inner R j k ≡ inner' R j k)
      → as_left outer inner n B i j (some (Pair H L R w)) ≡ as_left outer' inner' n B i j (some (Pair H L R w))
  unfolding as_left
  left_same H L R w n B i j a b =
      ap (if_same L.0 B.0) (upto_same (λ d. sum w (outer H i (suc (j + d))) (inner R j (suc (j + d))))
      (λ d. sum w (outer' H i (suc (j + d))) (inner' R j (suc (j + d)))) (n - j)
      (λ d h. rw (a (suc (j + d)) (omega arith) (omega arith), b (suc (j + d)) (omega arith) (omega arith))))

  pub right_same : (H L R : Sym) (w : ℕ) (B : Sym) (i j : ℕ) → ((h : ℕ) → h < i → outer H h j ≡ outer' H h j)
      → ((h : ℕ) → h < i → inner L h i ≡ inner' L h i)
      → as_right outer inner B i j (some (Pair H L R w)) ≡ as_right outer' inner' B i j (some (Pair H L R w))
  unfolding as_right
  right_same H L R w B i j a b =
      ap (if_same R.0 B.0) (upto_same (λ h. sum w (outer H h j) (inner L h i)) (λ h. sum w (outer' H h j) (inner' L h i)) i
      (λ h l. rw (a h l, b h l)))

-- cells agree on the symbols of a grammar and on the spans within n places that are longer than m
abbrev pub AgreeAbove : (S n m : ℕ) → Cells → Cells → Type 0
AgreeAbove S n m f h = (A : Sym) (i k : ℕ) → A.0 < S → i < k → k ≤ n → m < k - i → f A i k ≡ h A i k

module _ (g : Grammar) (n : ℕ) (within : All (Within g.symbols g.words) g.rules) where
  abbrev S : ℕ
  S = g.symbols

  module _ (outer outer' inner inner' : Cells) (i j : ℕ) (forward : i < j) (upto : j ≤ n) (longer : AgreeAbove S n (j - i) outer outer')
      (all : AgreeAbove S n 0 inner inner') where
    abbrev Same : R.Rule → Type 0
    Same rule = (B : Sym) → (as_left outer inner n B i j (some rule) ≡ as_left outer' inner' n B i j (some rule))
        × (as_right outer inner B i j (some rule) ≡ as_right outer' inner' B i j (some rule))

    rule_same : (rule : R.Rule) → Within S g.words rule → Same rule
    unfolding as_left as_right
    rule_same (Word H x w) h B = (refl, refl)
    rule_same (Pair H L R w) (hH, hL, hR) B = (
      left_same outer outer' inner inner' H L R w n B i j (λ k a b. longer H i k hH (omega arith) b (omega arith))
          (λ k a b. all R j k hR a b (omega arith)),
      right_same outer outer' inner inner' H L R w B i j (λ h a. longer H h j hH (omega arith) upto (omega arith))
          (λ h a. all L h i hL a (omega arith) (omega arith)),
    )

    -- what each rule gives
    pub rules_same : (r : ℕ) (B : Sym)
        → (as_left outer inner n B i j (get_elem? g.rules r) ≡ as_left outer' inner' n B i j (get_elem? g.rules r))
        × (as_right outer inner B i j (get_elem? g.rules r) ≡ as_right outer' inner' B i j (get_elem? g.rules r))
    unfolding as_left as_right
    rules_same r B = go (get_elem? g.rules r) refl
      where
        go : (o : Option R.Rule) → get_elem? g.rules r ≡ o
            → (as_left outer inner n B i j o ≡ as_left outer' inner' n B i j o)
            × (as_right outer inner B i j o ≡ as_right outer' inner' B i j o)
        go none p = (refl, refl)
        go (some rule) p = rule_same rule (all_at (Within S g.words) g.rules r within p) B

    pub after_same : (A B : Sym) (m : ℕ) → after_rules outer inner g A n B i j m ≡ after_rules outer' inner' g A n B i j m
    unfolding after_rules
    after_same A B zero = refl
    after_same A B (suc m) = rw (after_same A B m, (rules_same m B).0, (rules_same m B).1)

  -- from cells that hold the outside weights of longer spans and the inside weights: the outside weight
  pub outside_from_lem : (es : List Edge) (A : Sym) (outer inner : Cells) (i j : ℕ) → i < j → j ≤ n
      → AgreeAbove S n (j - i) outer (outside g es A n) → AgreeAbove S n 0 inner (inside g es) → (B : Sym) → B.0 < S
      → outside_from outer inner g A n B i j ≡ outside g es A n B i j
  unfolding outside_from
  outside_from_lem es A outer inner i j b l longer all B h =
      let p = all B i j h b l (omega arith) in
      let q = after_same outer (outside g es A n) inner (inside g es) i j b l longer all A B (length g.rules) in
      rw (p, q) (outside_is g es A n B i j b)

  -- an edge within the places
  abbrev pub EdgeWithin : Edge → Type 0
  EdgeWithin (edge i k x c) = (i < k) × (k ≤ n)

  module _ (outer outer' : Cells) (agree : AgreeAbove S n 0 outer outer') where
    by_same : (a : Edge) → EdgeWithin a → (rule : R.Rule) → Within S g.words rule
        → through_by outer a (some rule) ≡ through_by outer' a (some rule)
    unfolding through_by
    by_same (edge i k x c) (h, l) (Pair H L R w) b = refl
    by_same (edge i k x c) (h, l) (Word H y w) b = rw (agree H i k b.0 h l (omega arith))

    pub through_same : (a : Edge) → EdgeWithin a → through g outer a ≡ through g outer' a
    unfolding through through_by
    through_same a h = upto_same _ _ (length g.rules) (λ r l. go r (get_elem? g.rules r) refl)
      where
        go : (r : ℕ) (o : Option R.Rule) → get_elem? g.rules r ≡ o → through_by outer a o ≡ through_by outer' a o
        go r none p = refl
        go r (some rule) p = by_same a h rule (all_at (Within S g.words) g.rules r within p)

    module _ (es : List Edge) (inside-places : (e : ℕ) (a : Edge) → At es e a → EdgeWithin a) (used used' : ℕ → Bool) (w : ℕ) where
      entry_same : (e : ℕ) (o : Option Edge) → get_elem? es e ≡ o → used e ≡ used' e
          → entry_of g es used w outer e o ≡ entry_of g es used' w outer' e o
      unfolding entry_of
      entry_same e none p q = refl
      entry_same e (some (edge s k x c)) p q = rw (q, through_same (edge s k x c) (inside-places e (edge s k x c) p))

      -- the list from cells that agree, and from marks that agree
      pub listed_same : (m : ℕ) → ((e : ℕ) → e < m → used e ≡ used' e)
          → listed g es used w outer m ≡ listed g es used' w outer' m
      unfolding listed
      listed_same zero h = refl
      listed_same (suc m) h =
          rw (listed_same m (λ e l. h e (omega arith)), entry_same m (get_elem? es m) refl (h m (omega arith)))
