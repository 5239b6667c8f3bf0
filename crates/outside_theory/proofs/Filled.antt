-- The array that is filled, read cell by cell, is cost_changes' outside weights: span by span, the longer first, each node hands on what stands
-- around its parts, and a cell that has had it from all longer nodes holds the least of it.
use mathlib.Core.Path.{◌≡◌, refl, sym, ap, ◌∙◌}
use mathlib.Core.Logic.{⊎_elim}
use mathlib.Core.Option.{Option, none, some}
use mathlib.Core.List.{List, []}
use Prim.Native.Nat.{ℕ, zero, suc, ◌+◌, ◌-◌, ◌≤◌, ◌<◌}
use native.Mathlib.Nat.{le_refl}
use native.Mathlib.Omega.{arith}
use native.Mathlib.Decide.{ℕ_discrete}
use lib.ListN.{length, get_or, get_elem?, set, length-set, replicate, length-replicate}
use lib.Seq.{get_or-set_same, get_or-set_other}
use borrow.Author.Tests.{eq-eqb, ne_eqb}
use Rattle.packing.proofs.Loop.{iter_keeps}
use Rattle.packing.specs.declared.Sym.{Sym}
use Rattle.packing.specs.declared.Rule as R
use Rattle.packing.specs.declared.Rule.TheVariants.{Pair, Word}
use Rattle.packing.specs.Meaning.{symbol_of, Grammar, Edge}
use Rattle.packing.specs.Flat.{rule_at}
use Rattle.derivation.specs.Derivation.{At}
use Rattle.derivation.proofs.Lists.{none≢some}
use Rattle.derivation.proofs.Ranges.{all_at, Within}
use Rattle.derivation.proofs.Trees.{same_sym}
use Rattle.chart_classes.specs.Classes.{pair_base, class_start, class_end}
use Rattle.chart_index.specs.Index.{Grouped, PairWith}
use Rattle.chart_index.proofs.Index.{indexed}
use Rattle.chart_table.specs.declared.Cell.{Cell}
use Rattle.chart_table.specs.declared.Layout.{Layout}
use Rattle.chart_table.specs.Table.{cell, root, cell_number}
use Rattle.chart_theory.proofs.Table.Cells.{InChart}
use Rattle.chart_theory.proofs.Table.Entries.{cell_below, cell_injective}
use Rattle.cost_changes.specs.Outside as O
use Rattle.cost_changes.specs.Outside.{inside, around, as_left, as_right, after_rules, outside}
use Rattle.cost_changes.proofs.Contexts.{whole, nothing, rim}
use Rattle.cost_changes.proofs.Inside.{inside_least}
use Rattle.cost_changes.proofs.Least.{Under, lesser_found, upto_found, sum_found, same_found, there_found}
use Rattle.cost_changes.proofs.Outside.{outside_is, outside_least}
use Rattle.outside_theory.specs.Model.{push_rule, push_rules, push_node, over_heads, over_spans, over_lengths, pairs_of, fill}
use Rattle.outside_theory.proofs.Source.{Source, S, In, outer, root_in}
use Rattle.outside_theory.proofs.Spans.{Good, Below, Did, Given, iter_did, below_same, given_more, splits_did}
use Rattle.outside_theory.proofs.Decoded.{read, read_suc, outer_in}

-- two that are under each other are the same
both_under : (a b : Option ℕ) → ((v : ℕ) → a ≡ some v → Under b v) → ((v : ℕ) → b ≡ some v → Under a v) → a ≡ b
both_under none none p q = refl
both_under none (some w) p q = let (x, e, l) = q w refl in absurd (none≢some e)
both_under (some v) none p q = let (x, e, l) = p v refl in absurd (none≢some e)
both_under (some v) (some w) p q =
    let (x, e, l) = p v refl in
    let (y, f, m) = q w refl in
    let z : w ≡ x = cc in
    let z' : v ≡ y = cc in
    let same : v ≡ w = omega arith in
    ap some same

module _ {g : Grammar} {es : List Edge} {rules t : List ℕ} {d : Layout} (s : Source g es rules t d) where
  -- the parts of a rule's nodes over a span have what they are to have
  abbrev RuleGiven : ℕ → ℕ → R.Rule → List ℕ → Type 0
  RuleGiven i k (Pair H L R w) u = (x : ℕ) → outer s H i k ≡ some x → (j : ℕ) → i < j → j < k → Given s L R i j k (w + x) u
  RuleGiven i k (Word H y w) u = ◌≡◌ {A = ℕ} 0 0

  abbrev HeadGiven : ℕ → ℕ → ℕ → List ℕ → Type 0
  HeadGiven i k a u = (r : ℕ) → r < length g.rules → PairWith (symbol_of a) (rule_at rules r) → RuleGiven i k (rule_at rules r) u

  abbrev SpanGiven : ℕ → ℕ → List ℕ → Type 0
  SpanGiven i k u = (r : ℕ) → r < length g.rules → RuleGiven i k (rule_at rules r) u

  -- those of all spans longer than m
  abbrev Longer : ℕ → List ℕ → Type 0
  Longer m u = (i k : ℕ) → i < k → k ≤ d.last → m < k - i → SpanGiven i k u

  within_at : (r : ℕ) → r < length g.rules → Within g.symbols g.words (rule_at rules r)
  within_at r l = all_at (Within g.symbols g.words) g.rules r s.within (s.rule_at_lem r l)

  rule_more : (i k : ℕ) → k ≤ d.last → (rule : R.Rule) → Within g.symbols g.words rule → (u u' : List ℕ) → Below s u u' → RuleGiven i k rule u
      → RuleGiven i k rule u'
  rule_more i k upto (Word H y w) h u u' b q = refl
  rule_more i k upto (Pair H L R w) (hH, hL, hR) u u' b q = λ x e j l m.
      given_more s (record { symbol = rw s.symbols hL; order = l; within = omega arith })
      (record { symbol = rw s.symbols hR; order = m; within = upto }) b
      (q x e j l m)

  span_more : (i k : ℕ) → k ≤ d.last → (u u' : List ℕ) → Below s u u' → SpanGiven i k u → SpanGiven i k u'
  span_more i k upto u u' b q r l = rule_more i k upto (rule_at rules r) (within_at r l) u u' b (q r l)

  longer_more : (m : ℕ) (u u' : List ℕ) → Below s u u' → Longer m u → Longer m u'
  longer_more m u u' b q i k l h more = span_more i k h u u' b (q i k l h more)

  -- a cell whose longer spans have handed on holds its outside weight
  module _ (u : List ℕ) (good : Good s u) (A : Sym) (i k : ℕ) (in_chart : In d A i k) (longer : Longer (k - i) u) (z : ℕ)
      (there : inside g es A i k ≡ some z) where
    from_left : (rule : R.Rule) → ((h : ℕ) → h ≤ d.last → k < h → RuleGiven i h rule u) → (v : ℕ)
        → as_left (outer s) (inside g es) d.last A i k (some rule) ≡ some v → Under (outer_in d u A i k) v
    unfolding as_left
    from_left (Word H x w) q v e = absurd (none≢some e)
    from_left (Pair H L R w) q v e =
        let (a, e₁) = same_found L.0 A.0 v _ e in
        let (b, l, e₂) = upto_found _ (d.last - k) v e₁ in
        let (x, y, f₁, f₂, is) = sum_found w v (outer s H i (suc (k + b))) (inside g es R k (suc (k + b))) e₂ in
        let got = q (suc (k + b)) (omega arith) (omega arith) x f₁ k in_chart.order (omega arith) in
        let (b', f, m) = got.left z y (ap (λ B. inside g es B i k) (same_sym L A a) ∙ there) f₂ in
        (b', ◌∙◌ {c = some b'} (ap (λ B. outer_in d u B i k) (sym (same_sym L A a))) f, omega arith)

    from_right : (rule : R.Rule) → ((h : ℕ) → h < i → RuleGiven h k rule u) → (v : ℕ)
        → as_right (outer s) (inside g es) A i k (some rule) ≡ some v → Under (outer_in d u A i k) v
    unfolding as_right
    from_right (Word H x w) q v e = absurd (none≢some e)
    from_right (Pair H L R w) q v e =
        let (a, e₁) = same_found R.0 A.0 v _ e in
        let (h, l, e₂) = upto_found _ i v e₁ in
        let (x, y, f₁, f₂, is) = sum_found w v (outer s H h k) (inside g es L h i) e₂ in
        let got = q h l x f₁ i l in_chart.order in
        let (b, f, m) = got.right y z f₂ (ap (λ B. inside g es B i k) (same_sym R A a) ∙ there) in
        (b, ◌∙◌ {c = some b} (ap (λ B. outer_in d u B i k) (sym (same_sym R A a))) f, omega arith)

    from_around : (v : ℕ) → around S d.last A i k ≡ some v → Under (outer_in d u A i k) v
    unfolding around
    from_around v e =
        let (a, e₁) = same_found A.0 S.0 v _ e in
        let (b, e₂) = same_found i 0 v _ e₁ in
        let (c, e₃) = same_found k d.last v _ e₂ in
        let zero_is : 0 ≡ v = cc in
        rw (same_sym A S a, b, c, ← zero_is) good.whole

    from_rules : (m : ℕ) → m ≤ length g.rules → (v : ℕ) → after_rules (outer s) (inside g es) g S d.last A i k m ≡ some v → Under (outer_in d u A i k) v
    unfolding after_rules
    from_rules zero l v e = from_around v e
    from_rules (suc m) l v e =
        ⊎_elim (λ p. ⊎_elim (from_rules m (omega arith) v)
        (λ q. from_left (rule_at rules m) (λ h b c. longer i h (omega (arith, in_chart.order)) b (omega (arith, in_chart.order)) m l)
        v (rw (s.rule_at_lem m l) at q))
        (lesser_found (after_rules (outer s) (inside g es) g S d.last A i k m) (as_left (outer s) (inside g es) d.last A i k (get_elem? g.rules m)) v p))
        (λ q. from_right (rule_at rules m)
        (λ h b. longer h k (omega (arith, in_chart.order)) in_chart.within (omega (arith, in_chart.order)) m l) v (rw (s.rule_at_lem m l) at q))
        (lesser_found
        (O.lesser (after_rules (outer s) (inside g es) g S d.last A i k m) (as_left (outer s) (inside g es) d.last A i k (get_elem? g.rules m)))
        (as_right (outer s) (inside g es) A i k (get_elem? g.rules m)) v e)

  exact : (u : List ℕ) → Good s u → (A : Sym) (i k : ℕ) → In d A i k → Longer (k - i) u → outer_in d u A i k ≡ outer s A i k
  unfolding O.outside_from O.if_there
  exact u good A i k in_chart longer =
      both_under (outer_in d u A i k) (outer s A i k) (λ v. good.sound A i k v in_chart) (λ v e.
      go (inside g es A i k) refl v (outside_is g es S d.last A i k in_chart.order ∙ e))
    where
      go : (a : Option ℕ) → inside g es A i k ≡ a → (v : ℕ)
          → O.if_there (inside g es A i k) (after_rules (outer s) (inside g es) g S d.last A i k (length g.rules)) ≡ some v → Under (outer_in d u A i k) v
      go none f v e = absurd (none≢some (rw f at e))
      go (some z) f v e =
          from_rules u good A i k in_chart longer z f (length g.rules) (le_refl _) v (there_found (inside g es A i k) _ v e)

  -- the loops, over an index of the rules
  module _ (index : List ℕ)
      (grouped : (a : Sym) → a.0 < d.symbols → Grouped index pair_base a.0 (λ r. (r < length g.rules) × PairWith a (rule_at rules r))) where
    module _ (i k : ℕ) (forward : i < k) (upto : k ≤ d.last) where
      -- a rule of a node with an outside weight
      rule_did : (a x : ℕ) → outer s (symbol_of a) i k ≡ some x → (r : ℕ) → r < length g.rules → (rule : R.Rule) → At g.rules r rule
          → PairWith (symbol_of a) rule → (o : List ℕ) → Good s o
          → Did s o (push_rule o t d (cell (symbol_of a) i k) (suc x) rule) (RuleGiven i k rule)
      rule_did a x e r l (Word H y w) p h o good = absurd h
      rule_did a x e r l (Pair H L R w) p h o good =
          let (hH, hL, hR) = all_at (Within g.symbols g.words) g.rules r s.within p in
          let around_is : outer s H i k ≡ some x = ap (λ B. outer s B i k) h ∙ e in
          let did = splits_did s r p (rw s.symbols hL) (rw s.symbols hR) i k x upto around_is o good in
          let did' = rw h at did in
          record {
            good = did'.good;
            below = did'.below;
            given = λ x' e' j b c. let z : x ≡ x' = cc in rw (← z) (did'.given j b c);
          }

      rules_did : (a x : ℕ) → a < d.symbols → outer s (symbol_of a) i k ≡ some x → (o : List ℕ) → Good s o
          → Did s o (push_rules o t rules index d (cell (symbol_of a) i k) (suc x)) (HeadGiven i k a)
      unfolding push_rules
      rules_did a x symbol e o good =
          let start = class_start index pair_base a in
          let end = class_end index pair_base a in
          let member : (y : ℕ) → y < end - start → (get_or index (start + y) 0 < length g.rules) ×
          PairWith (symbol_of a) (rule_at rules (get_or index (start + y) 0))
          = λ y l. (grouped (symbol_of a) symbol (get_or index (start + y) 0)).0 (start + y, omega arith, omega arith, refl) in
          let all = iter_did s (λ u y. push_rule u t d (cell (symbol_of a) i k) (suc x) (rule_at rules (get_or index (start + y) 0)))
          (λ y u. RuleGiven i k (rule_at rules (get_or index (start + y) 0)) u) o good (end - start)
          (λ y u u' l. rule_more i k upto (rule_at rules (get_or index (start + y) 0)) (within_at (get_or index (start + y) 0) (member y l).0) u u')
          (λ y u l q b. rule_did a x e (get_or index (start + y) 0) (member y l).0 (rule_at rules (get_or index (start + y) 0))
          (s.rule_at_lem (get_or index (start + y) 0) (member y l).0) (member y l).1 u q) in
          record {
            good = all.good;
            below = all.below;
            given = λ r l h.
                let (y, b, c, is) = (grouped (symbol_of a) symbol r).1 (l, h) in
                let z : start + (y - start) ≡ y = omega arith in
                rw (z, is) at (all.given (y - start) (omega arith));
          }

      -- a node
      node_did : (a : ℕ) → a < d.symbols → (o : List ℕ) → Good s o → outer_in d o (symbol_of a) i k ≡ outer s (symbol_of a) i k
          → Did s o (push_node o t rules index d (cell (symbol_of a) i k)) (HeadGiven i k a)
      unfolding push_node read
      node_did a symbol o good is = go (ℕ_discrete (get_or o (cell_number d (cell (symbol_of a) i k)) 0) 0)
        where
          number : ℕ
          number = get_or o (cell_number d (cell (symbol_of a) i k)) 0

          go : Dec (number ≡ 0) → Did s o (push_node o t rules index d (cell (symbol_of a) i k)) (HeadGiven i k a)
          go (yes e) = rw (eq-eqb number 0 e) (record {
            good = good;
            below = below_same s o;
            given = λ r l h. nothing_given (rule_at rules r) h;
          })
            where
              none_is : outer s (symbol_of a) i k ≡ none
              none_is = sym is ∙ rw e

              nothing_given : (rule : R.Rule) → PairWith (symbol_of a) rule → RuleGiven i k rule o
              nothing_given (Word H y w) h = refl
              nothing_given (Pair H L R w) h = λ x e'. absurd (none≢some (sym none_is ∙ ap (λ B. outer s B i k) (sym h) ∙ e'))
          go (no e) =
              let z : suc (number - 1) ≡ number = omega arith in
              rw (ne_eqb number 0 e) (rw z at (rules_did a (number - 1) symbol (sym is ∙ read_suc number e) o good))

      -- all nodes over the span
      heads_did : (o : List ℕ) → Good s o → Longer (k - i) o → Did s o (over_heads o t rules index d i k) (SpanGiven i k)
      unfolding over_heads
      heads_did o good longer =
          let all = iter_did s (λ u a. push_node u t rules index d (cell (symbol_of a) i k)) (λ a u. HeadGiven i k a u) o good d.symbols
          (λ a u u' l b q r m h. rule_more i k upto (rule_at rules r) (within_at r m) u u' b (q r m h))
          (λ a u l q b. node_did a l u q
          (exact u q (symbol_of a) i k (record { symbol = l; order = forward; within = upto }) (longer_more (k - i) o u b longer))) in
          record {
            good = all.good;
            below = all.below;
            given = λ r l. of_rule (over_heads o t rules index d i k) r (rule_at rules r) refl (within_at r l) (λ a m. all.given a m r l);
          }
        where
          of_rule : (u : List ℕ) (r : ℕ) (rule : R.Rule) → rule_at rules r ≡ rule → Within g.symbols g.words rule
              → ((a : ℕ) → a < d.symbols → PairWith (symbol_of a) (rule_at rules r) → RuleGiven i k (rule_at rules r) u) → RuleGiven i k rule u
          of_rule u r (Word H y w) e h q = refl
          of_rule u r (Pair H L R w) e (hH, hL, hR) q = (rw e at q) H.0 (rw s.symbols hH) refl

    spans_did : (len : ℕ) → 0 < len → len ≤ d.last → (o : List ℕ) → Good s o → Longer len o
        → Did s o (over_spans o t rules index d len) (λ u. (i : ℕ) → i < d.last + 1 - len → SpanGiven i (i + len) u)
    unfolding over_spans
    spans_did len positive few o good longer =
        iter_did s (λ u i. over_heads u t rules index d i (i + len)) (λ i u. SpanGiven i (i + len) u) o good (d.last + 1 - len)
        (λ i u u' l. span_more i (i + len) (omega arith) u u')
        (λ i u l q b.
        let z : i + len - i ≡ len = omega arith in
        heads_did i (i + len) (omega arith) (omega arith) u q (rw z (longer_more len o u b longer)))

    lengths_did : (o : List ℕ) → Good s o → Good s (over_lengths o t rules index d) × Longer 0 (over_lengths o t rules index d)
    unfolding over_lengths
    lengths_did o good =
        let (all, longer) = iter_keeps (λ x u. Good s u × Longer (d.last - x) u) (λ u x. over_spans u t rules index d (d.last - x)) o d.last
        (good, λ i k l h m. absurd (omega arith)) (λ x u l q. next x u l q.0 q.1) in
        let z : d.last - d.last ≡ 0 = omega arith in
        (all, rw z at longer)
      where
        next : (x : ℕ) (u : List ℕ) → x < d.last → Good s u → Longer (d.last - x) u
            → Good s (over_spans u t rules index d (d.last - x)) × Longer (d.last - suc x) (over_spans u t rules index d (d.last - x))
        next x u l q longer =
            let did = spans_did (d.last - x) (omega arith) (omega arith) u q longer in
            (did.good, λ i k a b m. go did i k a b m (ℕ_discrete (k - i) (d.last - x)))
          where
            go : Did s u (over_spans u t rules index d (d.last - x)) (λ u. (i : ℕ) → i < d.last + 1 - (d.last - x) → SpanGiven i (i + (d.last - x)) u)
                → (i k : ℕ) → i < k → k ≤ d.last → d.last - suc x < k - i → Dec (k - i ≡ d.last - x)
                → SpanGiven i k (over_spans u t rules index d (d.last - x))
            go did i k a b m (yes e) = let z : i + (d.last - x) ≡ k = omega arith in rw z at (did.given i (omega arith))
            go did i k a b m (no e) = longer_more (d.last - x) u (over_spans u t rules index d (d.last - x)) did.below longer i k a b (omega arith)

  -- at the start there is what stands around the whole
  around_whole : Under (outer s S 0 d.last) 0
  unfolding rim
  around_whole =
      let (c, b, e) = (inside_least g es S 0 d.last).found s.whole s.whole_is in
      (outside_least g es S d.last S 0 d.last s.some_place b).finds whole nothing

  module _ (o : List ℕ) (big : d.cells ≤ length o) (zeros : (z : ℕ) → get_or o z 0 ≡ 0) where
    abbrev first : List ℕ
    first = set o (cell_number d (root d)) 1

    at_root : outer_in d first S 0 d.last ≡ some 0
    unfolding read
    at_root = rw (get_or-set_same o (cell_number d (root d)) 1 0 (omega (arith, cell_below s.planned (root_in s))))

    not_root : (A : Sym) (h k : ℕ) → In d A h k → ¬ (cell_number d (cell A h k) ≡ cell_number d (root d)) → outer_in d first A h k ≡ none
    unfolding read
    not_root A h k in_chart apart = rw (get_or-set_other o (cell_number d (root d)) (cell_number d (cell A h k)) 1 0 apart, zeros)

    start : Good s first
    start = record {
      room = rw (length-set o (cell_number d (root d)) 1) big;
      sound = λ A h k v in_chart e. go A h k v in_chart e (ℕ_discrete (cell_number d (cell A h k)) (cell_number d (root d)));
      whole = (0, at_root, le_refl 0);
    }
      where
        go : (A : Sym) (h k v : ℕ) → In d A h k → outer_in d first A h k ≡ some v → Dec (cell_number d (cell A h k) ≡ cell_number d (root d))
            → Under (outer s A h k) v
        go A h k v in_chart e (no p) = absurd (none≢some (sym (not_root A h k in_chart p) ∙ e))
        go A h k v in_chart e (yes p) =
            let same : cell A h k ≡ root d = cell_injective in_chart (root_in s) p in
            let a : A ≡ S = ap (λ (c : Cell). c.head) same in
            let b : h ≡ 0 = ap (λ (c : Cell). c.from) same in
            let c : k ≡ d.last = ap (λ (c : Cell). c.to) same in
            let (x, f, l) = around_whole in
            rw (a, b, c) (x, f, omega arith)

    -- the array, filled
    pub fill_is : (A : Sym) (h k : ℕ) → InChart d (cell A h k)
        → outer_in d (fill o t rules (length g.rules) d) A h k ≡ outside g es (symbol_of 0) d.last A h k
    unfolding fill
    fill_is A h k in_chart =
        let (good, longer) = lengths_did (pairs_of rules (length g.rules) d) grouped first start in
        exact (over_lengths first t rules (pairs_of rules (length g.rules) d) d) good A h k in_chart (λ i j a b c. longer i j a b (omega arith))
      where
        grouped : (a : Sym) → a.0 < d.symbols
            → Grouped (pairs_of rules (length g.rules) d) pair_base a.0 (λ r. (r < length g.rules) × PairWith a (rule_at rules r))
        grouped =
            (indexed rules (length g.rules) d.symbols [] 0 0 (replicate 640 0) s.few_rules s.few_symbols (omega arith) (omega arith)
            (rw length-replicate (le_refl 640))).pairs
