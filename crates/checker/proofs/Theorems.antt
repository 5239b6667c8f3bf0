-- Demand 2, of the check. In the theorems a grammar block and a block of what was heard are accepted with the meanings g and h
-- (packing's specs), `Derivation g h t` says that t is a derivation of h under g, `ownBlock g h t` is its packed reading, with its own
-- weight and cut to its own length (derivation's specs), and `Bytes` says that the numbers of a block are below 256.
use mathlib.Core.Path.{◌≡◌, refl, sym, ap, ◌∙◌}
use mathlib.Core.Logic.{◌↔◌}
use mathlib.Core.List.{List}
use Prim.Native.Nat.{ℕ}
use native.Mathlib.Omega.{arith}
use Rattle.packing.specs.Meaning.{Grammar, Heard}
use Rattle.packing.specs.Parse.{Verdict, accepted, refused}
use Rattle.packing.specs.Valid.{Bytes}
use Rattle.packing.specs.Grammar.{grammar_block}
use Rattle.packing.specs.Heard.{heard_block}
use Rattle.packing.proofs.Parse.{granted}
use Rattle.packing.proofs.Whole.{grammar_block_out}
use Rattle.packing.proofs.Heard.{heard_block_out}
use Rattle.derivation.specs.Derivation.{Tree, Derivation}
use Rattle.derivation.specs.Heard.{own_block}
use Rattle.checker.specs.Judgement as J
use Rattle.checker.specs.Judgement.{OfDerivation, Judgement}
use Rattle.checker.specs.Check.{check, passed}
use Rattle.std.proofs.Common.{Result, Ok, Err}
use Rattle.packing.specs.Read.{as_verdict}
use Rattle.packing.specs.Refusal.{number}
use Rattle.packing.specs.declared.refusal.Refusal.{Refusal}
use Rattle.checker.proofs.Passed.{passed_out, passed_back}
use Rattle.checker.proofs.Refused.{refused_34, refused_35, refused_36, refusal_judged}

module _ (grammar heard block : List ℕ) (bytes : Bytes block) where
  -- Under a grammar and what was heard that are accepted, the check accepts a block with the derivation t exactly if t is a derivation
  -- and the block is the packing of its reading.
  pub accepts : (g : Grammar) (h : Heard) → grammar_block grammar ≡ accepted g → heard_block g.words heard ≡ accepted h
      → (t : Tree) → (check grammar heard block ≡ accepted t) ↔ (Derivation g h t × (block ≡ own_block g h t))
  unfolding check
  accepts g h p q t =
      let (okg, _) = grammar_block_out grammar g p in
      let (ok, _) = heard_block_out g.words heard h q in
      rw (p, q) (passed_out g block okg bytes h ok, λ (c, b). passed_back g block okg bytes h ok t c b)

  accepted_judged : {t : Tree} → check grammar heard block ≡ accepted t → Judgement grammar heard block (accepted t)
  unfolding check
  accepted_judged {t} e =
      granted (grammar_block grammar) _ e λ g p k. granted (heard_block g.words heard) _ k λ h q _.
      let (c, b) = (accepts g h p q t).0 e in
      J.passes p q c b

  -- The check passes a block exactly if there is a derivation of this grammar and of what was heard whose packed reading, with its
  -- true weight, is that block.
  pub passes : (passed (check grammar heard block) ≡ accepted tt) ↔ OfDerivation grammar heard block
  unfolding check
  passes = (to (check grammar heard block) refl, from)
    where
      to : (v : Verdict Tree) → check grammar heard block ≡ v → passed v ≡ accepted tt → OfDerivation grammar heard block
      to (refused n) e f = let z : ◌≡◌ {A = ℕ} 0 1 = cc in absurd (omega arith)
      to (accepted t) e f =
          granted (grammar_block grammar) _ e λ g p k. granted (heard_block g.words heard) _ k λ h q _.
          let (c, b) = (accepts g h p q t).0 e in
          (g, h, t, p, q, c, b)

      from : OfDerivation grammar heard block → passed (check grammar heard block) ≡ accepted tt
      from (g, h, t, p, q, c, b) = ap passed ((accepts g h p q t).1 (c, b))

  -- so of an answer that the definition tells: the promises of `check`
  pub promised : {r : Result (Unit {0}) Refusal} → as_verdict r ≡ passed (check grammar heard block)
      → (as_verdict r ≡ passed (check grammar heard block)) × ((r ≡ Ok tt) ↔ OfDerivation grammar heard block)
  promised {r} e = (e, go r e)
    where
      go : (r : Result (Unit {0}) Refusal) → as_verdict r ≡ passed (check grammar heard block) → (r ≡ Ok tt) ↔ OfDerivation grammar heard block
      go (Ok u) e = ((λ _. passes.0 (sym e)), λ _. refl)
      go (Err n) e = ((λ f. cc), λ d. let f : refused (number n) ≡ accepted tt = e ∙ passes.1 d in cc)

  -- What the check comes to is what is due.
  pub judged_so : Judgement grammar heard block (check grammar heard block)
  judged_so = go (check grammar heard block) refl
    where
      go : (v : Verdict Tree) → check grammar heard block ≡ v → Judgement grammar heard block v
      go (refused n) e = refusal_judged grammar heard block e
      go (accepted t) e = accepted_judged e

  -- And nothing else is.
  pub judged_once : {v : Verdict Tree} → Judgement grammar heard block v → check grammar heard block ≡ v
  unfolding check
  judged_once (J.grammar_refused p) = rw p
  judged_once (J.heard_refused p q) = rw (p, q)
  judged_once (J.field_refused p q f) = rw (p, q, f)
  judged_once (J.no_walk r) = (refused_34 grammar heard block).1 r
  judged_once (J.other_weight r) = (refused_35 grammar heard block).1 r
  judged_once (J.surplus r) = (refused_36 grammar heard block).1 r
  judged_once (J.passes {g} {h} {t} p q c b) = (accepts g h p q t).1 (c, b)
