-- The refusals of the check. Those of the blocks and of the fields are of their rows (packing's Refusals). After the fields, 34, 35 and
-- 36 each come exactly where specs/Judgement says: the derivation with the nodes that were read is found if there is one, and there is one
-- at most.
use mathlib.Core.Path.{◌≡◌, refl, ap, ◌∙◌}
use mathlib.Core.Bool.{Bool, true, false}
use mathlib.Core.Logic.{◌↔◌, ◌⊎◌, inl, inr, ⊎_elim}
use mathlib.Core.List.{List}
use mathlib.Core.Option.{Option, none, some}
use Prim.Native.Nat.{ℕ, ◌-◌, ◌≤◌}
use native.Mathlib.Omega.{arith}
use borrow.Author.Tests.{eqb-true, eqb-false, eq-eqb, ne_eqb}
use lib.Dec.{eqb}
use lib.ListN.{length}
use Rattle.bits.specs.Bits.{pick, ended}
use Rattle.packing.specs.Meaning.{Grammar, Edge, Heard, slots, graph, heard_edges}
use Rattle.packing.specs.Parse.{Parse, parsed, failed, Verdict, accepted, refused}
use Rattle.packing.specs.Grammar.{grammar_block}
use Rattle.packing.specs.Heard.{heard_block}
use Rattle.packing.specs.Valid.{ValidGrammar, ValidHeard}
use Rattle.packing.specs.Rows.{◌∪◌, GrammarBlockRow, HeardBlockRow, ReadingFieldsRow, ReadingBlockRow}
use Rattle.packing.proofs.Parse.{denied_at}
use Rattle.packing.proofs.Refusals.{Refuses, granted, denied, Stops, going, stopped, stop_number, bind, choose_row, three_rows, grammar_block_row, reading_row}
use Rattle.packing.proofs.GraphRefusals.{heard_block_row, graph_head_row}
use Rattle.packing.proofs.Theorems.{grammar_block_refused}
use Rattle.packing.proofs.GraphTheorems.{heard_block_refused}
use Rattle.packing.proofs.Whole.{grammar_block_out}
use Rattle.packing.proofs.Heard.{heard_block_out}
use Rattle.derivation.specs.Derivation.{Tree, weight}
use Rattle.derivation.proofs.Ranges.{valid_rules}
use Rattle.checker.specs.Judgement as J
use Rattle.checker.specs.Judgement.{Fields, weight_read, fields_from, FieldsRead, Has, NoWalk, OtherWeight, Surplus, Judgement}
use Rattle.checker.specs.Check.{derivation_of, judged, after_fields, check}
use Rattle.checker.proofs.Judged.{Found, derivation_found, has_one}

-- a refusal is a number of its row
judged_row : (g : Grammar) (es : List Edge) (block : List ℕ) (w at : ℕ) (t : Option Tree) → Refuses ReadingBlockRow (judged g es block w at t)
judged_row g es block w at none = denied {n = 34} (omega arith, omega arith)
judged_row g es block w at (some t) =
    choose_row (eqb (weight g es t) w) (choose_row (ended block at) granted (denied {n = 36} (omega arith, omega arith)))
    (denied {n = 35} (omega arith, omega arith))

-- the fields' refusals
fields_row : (g : Grammar) (h : Heard) (block : List ℕ) → ValidGrammar g → Stops ReadingFieldsRow (fields_from g h block)
unfolding fields_from
fields_row g (slots u) block ok = bind (reading_row (length u) (length g.rules) block (valid_rules g ok)) (λ d at. going)
fields_row g (graph h) block ok = bind (graph_head_row (h.places - 1) (length g.rules) block) (λ d at. going)

after_row : (g : Grammar) (h : Heard) (block : List ℕ) {p : Parse Fields} → Stops ReadingFieldsRow p → Refuses ReadingBlockRow (after_fields g h block p)
after_row g h block (stopped {n} r) = denied {n = n} (omega (arith, r), omega (arith, r))
after_row g h block (going {a = d} {at = at}) = judged_row g (heard_edges h) block (weight_read d) at (derivation_of g h block d)

pub check_row : (grammar heard reading : List ℕ) → Refuses (GrammarBlockRow ∪ HeardBlockRow ∪ ReadingBlockRow) (check grammar heard reading)
unfolding check
check_row grammar heard reading =
    three_rows (grammar_block_row grammar) (λ g e. heard_block_row g.words heard) (λ g h e f.
    after_row g h reading (fields_row g h reading (grammar_block_out grammar g e).0))

-- what was read, by what it means
module _ (g : Grammar) (h : Heard) (block : List ℕ) (d : Fields) (at : ℕ) where
  abbrev weighs : Tree → ℕ
  weighs t = weight g (heard_edges h) t

  abbrev judgement : Verdict Tree
  judgement = judged g (heard_edges h) block (weight_read d) at (derivation_of g h block d)

  -- what each refusal says
  record Says (n : ℕ) : Type 0 where
    not_a_walk : n ≡ 34 → (t : Tree) → ¬ Has block g h d t
    other : n ≡ 35 → (t : Tree) × Has block g h d t × ¬ (weighs t ≡ weight_read d)
    further : n ≡ 36 → (t : Tree) × Has block g h d t × (weighs t ≡ weight_read d) × (ended block at ≡ false)

  says : {n : ℕ} → judgement ≡ refused n → Says n
  says {n} = go (derivation_of g h block d) (derivation_found g h block d)
    where
      fill : {t : Tree} → Has block g h d t → weighs t ≡ weight_read d → (b : Bool) → ended block at ≡ b
          → pick b (accepted t) (refused 36) ≡ refused n → Says n
      fill c w true e f = let z : ◌≡◌ {A = ℕ} 0 1 = cc in absurd (omega arith)
      fill {t} c w false e f =
          let is : 36 ≡ n = cc in
          record { not_a_walk = λ p. absurd (omega arith); other = λ p. absurd (omega arith); further = λ p. (t, c, w, e) }

      weigh : {t : Tree} → Has block g h d t → (b : Bool) → eqb (weighs t) (weight_read d) ≡ b
          → pick b (pick (ended block at) (accepted t) (refused 36)) (refused 35) ≡ refused n → Says n
      weigh c true e f = fill c (eqb-true _ _ e) (ended block at) refl f
      weigh {t} c false e f =
          let is : 35 ≡ n = cc in
          record { not_a_walk = λ p. absurd (omega arith); other = λ p. (t, c, eqb-false _ _ e); further = λ p. absurd (omega arith) }

      go : (o : Option Tree) → Found (Has block g h d) o → judged g (heard_edges h) block (weight_read d) at o ≡ refused n → Says n
      go none none_has f =
          let is : 34 ≡ n = cc in
          record { not_a_walk = λ p. none_has; other = λ p. absurd (omega arith); further = λ p. absurd (omega arith) }
      go (some t) c f = weigh c (eqb (weighs t) (weight_read d)) refl f

  -- and back
  none_found : ((t : Tree) → ¬ Has block g h d t) → judgement ≡ refused 34
  none_found f = go (derivation_of g h block d) (derivation_found g h block d)
    where
      go : (o : Option Tree) → Found (Has block g h d) o → judged g (heard_edges h) block (weight_read d) at o ≡ refused 34
      go none c = refl
      go (some t) c = absurd (f t c)

  found : ValidGrammar g → ValidHeard g.words h → fields_from g h block ≡ parsed d at → (t : Tree) → Has block g h d t
      → judgement ≡ pick (eqb (weighs t) (weight_read d)) (pick (ended block at) (accepted t) (refused 36)) (refused 35)
  found okg ok e t c = go (derivation_of g h block d) (derivation_found g h block d)
    where
      go : (o : Option Tree) → Found (Has block g h d) o
          → judged g (heard_edges h) block (weight_read d) at o
          ≡ pick (eqb (weighs t) (weight_read d)) (pick (ended block at) (accepted t) (refused 36)) (refused 35)
      go none f = absurd (f t c)
      go (some s) f = let same : s ≡ t = has_one g h block okg ok e s t f c in rw same

module _ (grammar heard block : List ℕ) where
  -- what follows from what was read follows under both blocks
  onward : {P Q : Grammar → Heard → Fields → ℕ → Type 0}
      → ((g : Grammar) (h : Heard) (d : Fields) (at : ℕ) → ValidGrammar g → ValidHeard g.words h → fields_from g h block ≡ parsed d at
      → P g h d at → Q g h d at)
      → FieldsRead grammar heard block P → FieldsRead grammar heard block Q
  onward f r = record {
    g = r.g;
    h = r.h;
    d = r.d;
    at = r.at;
    grammar_accepted = r.grammar_accepted;
    heard_accepted = r.heard_accepted;
    fields = r.fields;
    so = f r.g r.h r.d r.at (grammar_block_out grammar r.g r.grammar_accepted).0
        (heard_block_out r.g.words heard r.h r.heard_accepted).0 r.fields r.so;
  }

  -- a refusal from 34 to 36 is that of the judgement
  abbrev Late : ℕ → Type 0
  Late n = FieldsRead grammar heard block (λ g h d at. judgement g h block d at ≡ refused n)

  late : (n : ℕ) → 34 ≤ n → n ≤ 36 → check grammar heard block ≡ refused n → Late n
  unfolding check
  late n l m e =
      denied_at (grammar_block grammar) _ e (λ p. absurd (omega (arith, grammar_block_refused grammar n p))) λ g p e.
      denied_at (heard_block g.words heard) _ e
      (λ q. absurd (⊎_elim (λ r. omega (arith, r)) (λ r. omega (arith, r)) (heard_block_refused g.words heard n q))) λ h q e.
      go g h p q (fields_from g h block) refl e
    where
      go : (g : Grammar) (h : Heard) → grammar_block grammar ≡ accepted g → heard_block g.words heard ≡ accepted h
          → (x : Parse Fields) → fields_from g h block ≡ x → after_fields g h block x ≡ refused n → Late n
      go g h p q (failed m) f e =
          let same : m ≡ n = cc in
          absurd (omega (arith, stop_number (fields_row g h block (grammar_block_out grammar g p).0) f))
      go g h p q (parsed d at) f e =
          record { g = g; h = h; d = d; at = at; grammar_accepted = p; heard_accepted = q; fields = f; so = e }

  refused_late : {n : ℕ} → Late n → check grammar heard block ≡ refused n
  unfolding check
  refused_late r = rw (r.grammar_accepted, r.heard_accepted, r.fields) r.so

  -- 34, 35 and 36, each exactly if
  pub refused_34 : (check grammar heard block ≡ refused 34) ↔ NoWalk grammar heard block
  refused_34 = (
    λ e. onward (λ g h d at okg ok p j. (says g h block d at j).not_a_walk refl) (late 34 (omega arith) (omega arith) e),
    λ r. refused_late (onward (λ g h d at okg ok p f. none_found g h block d at f) r),
  )

  pub refused_35 : (check grammar heard block ≡ refused 35) ↔ OtherWeight grammar heard block
  refused_35 = (
    λ e. onward (λ g h d at okg ok p j. (says g h block d at j).other refl) (late 35 (omega arith) (omega arith) e),
    λ r. refused_late (onward (λ g h d at okg ok p (t, c, n). found g h block d at okg ok p t c ∙ rw (ne_eqb _ _ n)) r),
  )

  pub refused_36 : (check grammar heard block ≡ refused 36) ↔ Surplus grammar heard block
  refused_36 = (
    λ e. onward (λ g h d at okg ok p j. (says g h block d at j).further refl) (late 36 (omega arith) (omega arith) e),
    λ r. refused_late (onward (λ g h d at okg ok p (t, c, w, e). found g h block d at okg ok p t c ∙ rw (eq-eqb _ _ w, e)) r),
  )

  -- so a refusal is the one that is due
  pub refusal_judged : {n : ℕ} → check grammar heard block ≡ refused n → Judgement grammar heard block (refused n)
  unfolding check
  refusal_judged {n} due =
      denied_at (grammar_block grammar) _ due (λ p. J.grammar_refused p) λ g p e.
      denied_at (heard_block g.words heard) _ e (λ q. J.heard_refused p q) λ h q e.
      go g h p q (fields_from g h block) refl e
    where
      number : (g : Grammar) (es : List Edge) (w at : ℕ) (o : Option Tree) → judged g es block w at o ≡ refused n → (n ≡ 34) ⊎ ((n ≡ 35) ⊎ (n ≡ 36))
      number g es w at none e = let same : n ≡ 34 = cc in inl same
      number g es w at (some t) e = test (eqb (weight g es t) w) (ended block at) e
        where
          test : (b c : Bool) → pick b (pick c (accepted t) (refused 36)) (refused 35) ≡ refused n → (n ≡ 34) ⊎ ((n ≡ 35) ⊎ (n ≡ 36))
          test false c e = let same : n ≡ 35 = cc in inr (inl same)
          test true false e = let same : n ≡ 36 = cc in inr (inr same)
          test true true e = let z : ◌≡◌ {A = ℕ} 0 1 = cc in absurd (omega arith)

      by : (n ≡ 34) ⊎ ((n ≡ 35) ⊎ (n ≡ 36)) → Judgement grammar heard block (refused n)
      by (inl e) = rw e (J.no_walk (refused_34.0 (rw e at due)))
      by (inr (inl e)) = rw e (J.other_weight (refused_35.0 (rw e at due)))
      by (inr (inr e)) = rw e (J.surplus (refused_36.0 (rw e at due)))

      go : (g : Grammar) (h : Heard) → grammar_block grammar ≡ accepted g → heard_block g.words heard ≡ accepted h
          → (x : Parse Fields) → fields_from g h block ≡ x → after_fields g h block x ≡ refused n → Judgement grammar heard block (refused n)
      go g h p q (failed m) f e = let same : m ≡ n = cc in J.field_refused p q (f ∙ ap failed same)
      go g h p q (parsed d at) f e = by (number g (heard_edges h) (weight_read d) at (derivation_of g h block d) e)
