-- What is promised of a call decides answer, table and output, whatever place and table are: two answers to one call, of one search, are the same, and so
-- is what they leave.
use mathlib.Core.Path.{◌≡◌, refl, sym, ap, subst, ◌∙◌}
use mathlib.Core.Bool.{Bool, true, false}
use mathlib.Core.Option.{none, some}
use mathlib.Core.List.{List, ◌++◌}
use Prim.Native.Nat.{ℕ, zero, suc, ◌≤◌, ◌<◌}
use native.Mathlib.Omega.{arith}
use lib.Dec.{ltb}
use lib.ListN.{length, drop}
use Rattle.bits.specs.Bits.{pick}
use Rattle.packing.specs.Meaning.{symbol_of, Grammar, Heard, last_place, heard_edges}
use Rattle.packing.specs.Parse.{Verdict, accepted, refused, ◌then◌}
use Rattle.packing.specs.Grammar.{grammar_block}
use Rattle.packing.specs.Heard.{heard_block}
use Rattle.packing.specs.Valid.{ValidHeard}
use Rattle.packing.specs.declared.Sym.{Sym}
use Rattle.packing.proofs.Parse.{accepted_is, accepted_else, refused≢accepted}
use Rattle.packing.proofs.Heard.{heard_block_out}
use Rattle.derivation.specs.Derivation.{Tree, leaf, Derives, by_pair_rule, Derivation}
use Rattle.derivation.specs.Heard.{output_length, packed}
use Rattle.derivation.proofs.Lists.{none≢some}
use Rattle.derivation.proofs.HeardReadings.{heard_one_edge}
use Rattle.chart.specs.WorkTable.{table_size}
use Rattle.open_listing.specs.Stands.{TableEntry, entry, Spelled, leaf_spelled, node_spelled, SpelledReading}
use Rattle.open_listing.specs.Open as S
use Rattle.open_answer.specs.Answer as A
use Rattle.open_answer.specs.Answer.{Reading, NoMore, Full, Refused}

-- answers that hand out nothing
refusal_reads : (n : ℕ) → Refused n ≡ Reading → ⊥
refusal_reads n e = let z : ◌≡◌ {A = ℕ} 0 1 = cc in omega arith

full_reads : Full ≡ Reading → ⊥
full_reads e = let z : ◌≡◌ {A = ℕ} 0 1 = cc in omega arith

nothing_reads : NoMore ≡ Reading → ⊥
nothing_reads e = let z : ◌≡◌ {A = ℕ} 0 1 = cc in omega arith

-- what is promised of a call in the terms of what was lent
module _ (search : S.Search) (l : S.Lent) where
  -- a call that is neither refused before the search nor full: what the answer says of the search's table
  data Case (b : S.Blocks) : A.CallAnswer → Type 0 where
    strays : S.Misspelled b.grammar b.heard l.place l.work (S.made search b l) → Case b (Refused 53)
    misses : S.Missing b.grammar b.heard l.place l.work (S.made search b l) → Case b NoMore
    hands : (e : TableEntry) → entry b.grammar b.heard (S.made search b l) (symbol_of 0) 0 (last_place b.heard) l.place.handed ≡ some e
        → (S.Misspelled b.grammar b.heard l.place l.work (S.made search b l) → ⊥) → Case b Reading

  stray_found : {b : S.Blocks} → S.Misspelled b.grammar b.heard l.place l.work (S.made search b l)
      → S.Missing b.grammar b.heard l.place l.work (S.made search b l) → ⊥
  stray_found a m = none≢some (sym m.missing ∙ (a.found m.sought).1)

  same_case : {b : S.Blocks} {a a' : A.CallAnswer} → Case b a → Case b a' → a ≡ a'
  same_case (strays x) (strays y) = refl
  same_case (strays x) (misses y) = absurd (stray_found x y)
  same_case (strays x) (hands e f n) = absurd (n x)
  same_case (misses x) (strays y) = absurd (stray_found y x)
  same_case (misses x) (misses y) = refl
  same_case (misses x) (hands e f n) = absurd (none≢some (sym x.missing ∙ f))
  same_case (hands e f n) (strays y) = absurd (n y)
  same_case (hands e f n) (misses y) = absurd (none≢some (sym y.missing ∙ f))
  same_case (hands e f n) (hands e' f' n') = refl

  -- which of all cases a call is
  data Which : A.CallAnswer → Type 0 where
    turned : {n : ℕ} → S.asked l ≡ refused n → Which (Refused n)
    fulls : {b : S.Blocks} → S.asked l ≡ accepted b → 256 ≤ l.place.handed → Which Full
    seeks : {b : S.Blocks} {a : A.CallAnswer} → S.asked l ≡ accepted b → l.place.handed < 256 → Case b a → Which a

  spelled_made : {b : S.Blocks} {r : S.Left} (more : S.OneMore search b l r)
      → SpelledReading b.grammar b.heard (S.made search b l) l.place.handed more.tree
  spelled_made {b} more =
      subst (λ (t : List ℕ). SpelledReading b.grammar b.heard t l.place.handed more.tree) more.table_is more.spelled

  one_more_case : {b : S.Blocks} {r : S.Left} → S.OneMore search b l r → Case b Reading
  one_more_case more =
      let spelled = spelled_made more in
      hands spelled.stands spelled.found (λ misspelled. misspelled.none_passes more.tree more.derivation spelled)

  which : {r : S.Left} → S.Called search l r → Which r.answer
  which (S.turned_away e is same) = rw is (turned e)
  which (S.full e many is same) = rw is (fulls e many)
  which (S.asks e below (S.altered misspelled is same)) = rw is (seeks e below (strays misspelled))
  which (S.asks e below (S.no_more missing is same)) = rw is (seeks e below (misses missing))
  which (S.asks e below (S.one_more is more)) = rw is (seeks e below (one_more_case more))

  clash : {n : ℕ} {b : S.Blocks} → S.asked l ≡ refused n → S.asked l ≡ accepted b → ⊥
  clash e f = refused≢accepted (sym e ∙ f)

  decides : {a b : A.CallAnswer} → Which a → Which b → a ≡ b
  decides (turned e) (turned f) = let same : _ = sym e ∙ f in cc
  decides (turned e) (fulls f m) = absurd (clash e f)
  decides (turned e) (seeks f below c) = absurd (clash e f)
  decides (fulls e m) (turned f) = absurd (clash f e)
  decides (fulls e m) (fulls f n) = refl
  decides (fulls e m) (seeks f below c) = absurd (omega (arith, m, below))
  decides (seeks e below c) (turned f) = absurd (clash f e)
  decides (seeks e below c) (fulls f m) = absurd (omega (arith, m, below))
  decides (seeks {b = b} e below c) (seeks {b = b'} {a = a'} f m c') =
      let same : b' ≡ b = accepted_is (sym f ∙ e) in
      same_case c (subst (λ (x : S.Blocks). Case x a') same c')

  pub answer_decided : {r r' : S.Left} → S.Called search l r → S.Called search l r' → r.answer ≡ r'.answer
  answer_decided c₁ c₂ = decides (which c₁) (which c₂)

  data Stayed : A.CallAnswer → List ℕ → Type 0 where
    as_before : {a : A.CallAnswer} {t : List ℕ} → (a ≡ Reading → ⊥) → t ≡ l.work → Stayed a t
    by_search : {b : S.Blocks} {t : List ℕ} → S.asked l ≡ accepted b → t ≡ S.made search b l → Stayed Reading t

  stayed : {r : S.Left} → S.Called search l r → Stayed r.answer r.table
  stayed (S.turned_away {n = n} e is same) = as_before (λ x. refusal_reads n (sym is ∙ x)) same.table
  stayed (S.full e many is same) = as_before (λ x. full_reads (sym is ∙ x)) same.table
  stayed (S.asks e below (S.altered misspelled is same)) = as_before (λ x. refusal_reads 53 (sym is ∙ x)) same.table
  stayed (S.asks e below (S.no_more missing is same)) = as_before (λ x. nothing_reads (sym is ∙ x)) same.table
  stayed (S.asks e below (S.one_more is more)) = rw is (by_search e more.table_is)

  -- the table: the search's where a reading is handed out, and else as it was
  pub table_decided : {r r' : S.Left} → S.Called search l r → S.Called search l r' → r.table ≡ r'.table
  table_decided c₁ c₂ = go (stayed c₁) (stayed c₂) (answer_decided c₁ c₂)
    where
      go : {a b : A.CallAnswer} {t t' : List ℕ} → Stayed a t → Stayed b t' → a ≡ b → t ≡ t'
      go (as_before o e) (as_before o' e') same = e ∙ sym e'
      go (as_before o e) (by_search f e') same = absurd (o same)
      go (by_search f e) (as_before o e') same = absurd (o (sym same))
      go (by_search {b = b} f e) (by_search {b = b'} f' e') same =
          let blocks : b ≡ b' = accepted_is (sym f ∙ f') in
          e ∙ ap (λ (x : S.Blocks). S.made search x l) blocks ∙ sym e'

-- a rank spells one tree of its head and span
module _ (g : Grammar) (h : Heard) (ok : ValidHeard g.words h) (table : List ℕ) where
  one_spelled : {y z : Tree} {A : Sym} {i k x : ℕ} → Spelled g h table y A i k x → Spelled g h table z A i k x → Derives g (heard_edges h) A i k y
      → Derives g (heard_edges h) A i k z → y ≡ z
  one_spelled {A = A} {i} {k} (leaf_spelled {r = r} {e = e} is same) (leaf_spelled {r = r'} {e = e'} is' same') d d' =
      let er : r' ≡ r = cc in
      let d₂ : Derives g (heard_edges h) A i k (leaf r e') = rw er at d' in
      let ee : e ≡ e' = heard_one_edge g.words h ok d d₂ in
      rw (er, ee) refl
  one_spelled (leaf_spelled is same) (node_spelled is' at left right) d d' = let z : ◌≡◌ {A = ℕ} 0 1 = cc in absurd (omega arith)
  one_spelled (node_spelled is at left right) (leaf_spelled is' same) d d' = let z : ◌≡◌ {A = ℕ} 0 1 = cc in absurd (omega arith)
  one_spelled {A = A} {i} {k} (node_spelled {B = B} {C = C} {r = r} {j = j} {p = p} {q = q} {y = y₁} {z = z₁} is at left right)
      (node_spelled {B = B'} {C = C'} {r = r'} {j = j'} {p = p'} {q = q'} {y = y₂} {z = z₂} is' at' left' right')
      (by_pair_rule {B = B₁} {C = C₁} a₁ l₁ m₁ dl dr)
      (by_pair_rule {B = B₂} {C = C₂} a₂ l₂ m₂ dl' dr') =
      let er : r' ≡ r = cc in
      let ej : j' ≡ j = cc in
      let ep : p' ≡ p = cc in
      let eq : q' ≡ q = cc in
      let e_b : B' ≡ B = cc in
      let e_c : C' ≡ C = cc in
      let e₁ : B₁ ≡ B = cc in
      let f₁ : C₁ ≡ C = cc in
      let e₂ : B₂ ≡ B = cc in
      let f₂ : C₂ ≡ C = cc in
      let left₂ : Spelled g h table y₂ B i j p = rw (e_b, ej, ep) at left' in
      let right₂ : Spelled g h table z₂ C j k q = rw (e_c, ej, eq) at right' in
      let a : y₁ ≡ y₂ = one_spelled left left₂ (rw e₁ at dl) (rw (e₂, ej) at dl') in
      let b : z₁ ≡ z₂ = one_spelled right right₂ (rw f₁ at dr) (rw (f₂, ej) at dr') in
      rw (er, ej, a, b) refl

-- both blocks are accepted where opening and a call are
abbrev AreBlocks : Verdict Grammar → (Grammar → Verdict Heard) → S.Blocks → Type 0
AreBlocks v w b = (v ≡ accepted b.grammar) × (w b.grammar ≡ accepted b.heard)

blocks_then : (v : Verdict Grammar) (w : Grammar → Verdict Heard) (t : S.Blocks → Bool) (b : S.Blocks)
    → (v then λ g. w g then λ h. pick (t (record { grammar = g; heard = h })) (refused 22) (accepted (record { grammar = g; heard = h }))) ≡ accepted b
    → AreBlocks v w b
blocks_then (refused n) w t b e = absurd (refused≢accepted e)
blocks_then (accepted g) w t b e = go (w g) refl e
  where
    go : (v : Verdict Heard) → w g ≡ v
        → (v then λ h. pick (t (record { grammar = g; heard = h })) (refused 22) (accepted (record { grammar = g; heard = h }))) ≡ accepted b
        → AreBlocks (accepted g) w b
    go (refused n) is e = absurd (refused≢accepted e)
    go (accepted h) is e = rw (← accepted_is (accepted_else (t (record { grammar = g; heard = h })) 22 _ e).1) (refl, is)

pub opening_blocks : (grammar heard : List ℕ) (work : ℕ) (b : S.Blocks) → S.opening grammar heard work ≡ accepted b
    → AreBlocks (grammar_block grammar) (λ g. heard_block g.words heard) b
unfolding S.opening
opening_blocks grammar heard work b =
    blocks_then (grammar_block grammar) (λ g. heard_block g.words heard) (λ c. ltb work (table_size c.grammar.symbols (last_place c.heard) 256)) b

opened_then : (v : Verdict S.Blocks) (u : S.Blocks → Bool) (b : S.Blocks) → (v then λ c. pick (u c) (refused 23) (accepted c)) ≡ accepted b → v ≡ accepted b
opened_then (refused n) u b e = absurd (refused≢accepted e)
opened_then (accepted c) u b e = (accepted_else (u c) 23 _ e).1

pub calling_blocks : (grammar heard : List ℕ) (work out : ℕ) (b : S.Blocks) → S.calling grammar heard work out ≡ accepted b
    → AreBlocks (grammar_block grammar) (λ g. heard_block g.words heard) b
unfolding S.calling
calling_blocks grammar heard work out b e =
    opening_blocks grammar heard work b
    (opened_then (S.opening grammar heard work) (λ c. ltb out (output_length c.grammar c.heard)) b e)

-- and so the output is decided
module _ (search : S.Search) (l : S.Lent) where
  -- a derivation that the rank asked for spells, in the table of the search
  record Spells (b : S.Blocks) (z : Tree) : Type 0 where
    derived : Derivation b.grammar b.heard z
    spelled : SpelledReading b.grammar b.heard (S.made search b l) l.place.handed z

  abbrev written : S.Blocks → Tree → List ℕ
  written b z = packed b.grammar b.heard z ++ drop (output_length b.grammar b.heard) l.out

  data Wrote : A.CallAnswer → List ℕ → Type 0 where
    nothing : {a : A.CallAnswer} {t : List ℕ} → (a ≡ Reading → ⊥) → t ≡ l.out → Wrote a t
    reading : {b : S.Blocks} {t : List ℕ} {z : Tree} → S.asked l ≡ accepted b → Spells b z → t ≡ written b z → Wrote Reading t

  wrote : {r : S.Left} → S.Called search l r → Wrote r.answer r.output
  wrote (S.turned_away {n = n} e is same) = nothing (λ x. refusal_reads n (sym is ∙ x)) same.output
  wrote (S.full e many is same) = nothing (λ x. full_reads (sym is ∙ x)) same.output
  wrote (S.asks e below (S.altered misspelled is same)) = nothing (λ x. refusal_reads 53 (sym is ∙ x)) same.output
  wrote (S.asks e below (S.no_more missing is same)) = nothing (λ x. nothing_reads (sym is ∙ x)) same.output
  wrote (S.asks e below (S.one_more is more)) = rw is (reading e (record { derived = more.derivation; spelled = spelled_made search l more }) more.written)

  same_reading : (b b' : S.Blocks) → b ≡ b' → S.asked l ≡ accepted b → {y z : Tree} → Spells b y → Spells b' z → written b y ≡ written b' z
  same_reading b b' is e {y} {z} s s' =
      let g = b.grammar in
      let h = b.heard in
      let ok = (heard_block_out g.words l.heard h (calling_blocks l.grammar l.heard (length l.work) (length l.out) b e).1).0 in
      let s₂ : Spells b z = subst (λ (c : S.Blocks). Spells c z) (sym is) s' in
      let tree : y ≡ z = one_spelled g h ok (S.made search b l) s.spelled.tree s₂.spelled.tree s.derived s₂.derived in
      ap (written b) tree ∙ ap (λ (c : S.Blocks). written c z) is

  pub output_decided : {r r' : S.Left} → S.Called search l r → S.Called search l r' → r.output ≡ r'.output
  output_decided c₁ c₂ = go (wrote c₁) (wrote c₂) (answer_decided search l c₁ c₂)
    where
      go : {a b : A.CallAnswer} {t t' : List ℕ} → Wrote a t → Wrote b t' → a ≡ b → t ≡ t'
      go (nothing o e) (nothing o' e') same = e ∙ sym e'
      go (nothing o e) (reading f s e') same = absurd (o same)
      go (reading f s e) (nothing o e') same = absurd (o (sym same))
      go (reading {b = b} f s e) (reading {b = b'} f' s' e') same = e ∙ same_reading b b' (accepted_is (sym f ∙ f')) f s s' ∙ sym e'
