-- What the readers' answers say of both blocks, and what is known of inputs that were read. Assumes nothing.
use mathlib.Core.Path.{◌≡◌, refl, ap}
use mathlib.Core.List.{List}
use Prim.Native.Nat.{ℕ}
use Rattle.std.specs.Prelude.{Result, Ok, Err}
use Rattle.packing.specs.Meaning.{Grammar, Heard, heard_edges}
use Rattle.packing.specs.Parse.{Verdict, accepted, refused, ◌then◌}
use Rattle.packing.specs.Grammar.{grammar_block}
use Rattle.packing.specs.Flat.{Begins, Overlaid, rule_numbers, edge_numbers}
use Rattle.packing.proofs.Flat.{overlaid_begins}
use Rattle.packing.proofs.Told.{accepted_told, refused_told}
use Rattle.packing.specs.Read.{as_verdict}
use Rattle.packing.specs.declared.refusal.Refusal.{Refusal}
use Rattle.grammar_reader.specs.Answer.{sizes, sizes_told, Bounded, RulesOver}
use Rattle.grammar_reader.specs.declared.Sizes.{Sizes}
use Rattle.heard_reader.specs.Answer.{heard_size, Promised}
use Rattle.heard_reader.specs.declared.HeardSize.{HeardSize}
use Rattle.inputs.specs.Inputs.{both, inputs_of, meant_by, ReadOf, InputsTold}
use Rattle.inputs.specs.declared.Inputs.{Inputs}

-- the ways out
module _ (block : ℕ → List ℕ → Verdict Heard) (grammar heard : List ℕ) where
  pub grammar_refused : {n : ℕ} → refused n ≡ sizes_told (grammar_block grammar) → meant_by block grammar heard ≡ refused n
  unfolding meant_by
  grammar_refused e = rw (refused_told (grammar_block grammar) sizes e)

  module _ {z : Sizes} (told : accepted z ≡ sizes_told (grammar_block grammar)) where
    pub heard_refused : {n : ℕ} → refused n ≡ (block z.words heard then λ h. accepted (heard_size h)) → meant_by block grammar heard ≡ refused n
    unfolding meant_by
    heard_refused e =
        let (g, v, ez) = accepted_told (grammar_block grammar) sizes told in
        rw (v, ← ap (λ (y : Sizes). y.words) ez, refused_told (block z.words heard) heard_size e)

    pub both_read : (rules₀ edges₀ rules edges : List ℕ) → RulesOver (grammar_block grammar) rules₀ rules → Bounded z → {y : HeardSize}
        → Promised (block z.words heard) edges₀ edges (Ok y) → ReadOf block grammar heard rules₀ edges₀ (record { sizes = z; heard = y }) rules edges
    both_read rules₀ edges₀ rules edges laid bounded {y} t =
        let (g, v, ez) = accepted_told (grammar_block grammar) sizes told in
        let (h, e, ey) = accepted_told (block z.words heard) heard_size t.answer in
        go g v ez h e ey (rw v at laid) (rw e at t.laid)
      where
        go : (g : Grammar) → grammar_block grammar ≡ accepted g → z ≡ sizes g → (h : Heard) → block z.words heard ≡ accepted h → y ≡ heard_size h
            → Overlaid (rule_numbers g) rules₀ rules → Overlaid (edge_numbers (heard_edges h)) edges₀ edges
            → ReadOf block grammar heard rules₀ edges₀ (record { sizes = z; heard = y }) rules edges
        go g v ez h e ey laid laid' = record {
          meant = both g h;
          grammar_is = v;
          heard_is = rw ez at e;
          sizes = rw (ez, ey);
          rules_laid = laid;
          edges_laid = laid';
          bounds = record { sizes = bounded; some_place = t.sized.0; places = t.sized.1; edges = t.sized.3 };
        }

-- of inputs that were read
module _ {block : ℕ → List ℕ → Verdict Heard} {grammar heard rules₀ edges₀ : List ℕ} {z : Inputs} {rules edges : List ℕ}
    (k : ReadOf block grammar heard rules₀ edges₀ z rules edges) where
  pub rules_begin : Begins (rule_numbers k.meant.grammar) rules
  rules_begin = overlaid_begins (rule_numbers k.meant.grammar) rules₀ rules k.rules_laid

  pub edges_begin : Begins (edge_numbers (heard_edges k.meant.heard)) edges
  edges_begin = overlaid_begins (edge_numbers (heard_edges k.meant.heard)) edges₀ edges k.edges_laid

  -- the verdict on both blocks
  pub both_accepted : meant_by block grammar heard ≡ accepted k.meant
  unfolding meant_by
  both_accepted = rw (k.grammar_is, k.heard_is)

-- the answer is that of the verdict
pub answer_is : (block : ℕ → List ℕ → Verdict Heard) (grammar heard rules₀ edges₀ : List ℕ) (r : Result Inputs Refusal) (rules edges : List ℕ)
    → InputsTold block grammar heard rules₀ edges₀ r rules edges → as_verdict r ≡ (meant_by block grammar heard then λ m. accepted (inputs_of m))
answer_is block grammar heard rules₀ edges₀ (Ok z) rules edges k = rw (both_accepted k, k.sizes)
answer_is block grammar heard rules₀ edges₀ (Err r) rules edges e = rw e

-- what follows an accepted grammar and what was heard follows the verdict on both
pub meant_first : {C : Type 0} (block : ℕ → List ℕ → Verdict Heard) (grammar heard : List ℕ) (k : Grammar → Heard → Verdict C)
    → (grammar_block grammar then λ g. block g.words heard then λ h. k g h) ≡ (meant_by block grammar heard then λ m. k m.grammar m.heard)
unfolding meant_by
meant_first block grammar heard k = go (grammar_block grammar)
  where
    go_on : (g : Grammar) (v : Verdict Heard) → (v then λ h. k g h) ≡ ((v then λ h. accepted (both g h)) then λ m. k m.grammar m.heard)
    go_on g (accepted h) = refl
    go_on g (refused n) = refl

    go : (v : Verdict Grammar)
        → (v then λ g. block g.words heard then λ h. k g h)
        ≡ ((v then λ g. block g.words heard then λ h. accepted (both g h)) then λ m. k m.grammar m.heard)
    go (accepted g) = go_on g (block g.words heard)
    go (refused n) = refl
