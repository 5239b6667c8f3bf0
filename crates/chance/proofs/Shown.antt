-- The closing claim: a reading that passes the check is the packing of a derivation, each node of which has a rule of the grammar and so a
-- share, and has at most 47 nodes, so that the product of their shares is near to the exact one.
use mathlib.Core.Path.{◌≡◌, refl, sym, ap, ◌∙◌}
use mathlib.Core.Bool.{Bool, true, false}
use mathlib.Core.Logic.{inl}
use mathlib.Core.List.{List, [], ◌∷◌, ◌++◌}
use Prim.Native.Nat.{ℕ, suc, ◌≤◌, ◌<◌}
use native.Mathlib.Omega.{arith}
use borrow.Author.Tests.{eqb-true}
use lib.Dec.{eqb}
use lib.ListN.{length, take}
use lib.Ieee.{Float}
use Rattle.std.proofs.Common.{Result, Ok}
use Rattle.bits.specs.Bits.{pick}
use Rattle.packing.specs.Read.{as_verdict, counted}
use Rattle.packing.specs.declared.refusal.Refusal.{Refusal}
use Rattle.packing.specs.Meaning.{Grammar, Heard, Edge, heard_edges}
use Rattle.packing.specs.Parse.{Verdict, accepted, refused, ◌then◌}
use Rattle.packing.specs.Grammar.{grammar_block}
use Rattle.packing.specs.Heard.{heard_block}
use Rattle.packing.specs.Rows.{◌∪◌, GrammarBlockRow, HeardBlockRow, ReadingBlockRow, SharesRow}
use Rattle.packing.specs.Valid.{Bytes}
use Rattle.packing.proofs.Parse.{granted, accepted_is, refused≢accepted}
use Rattle.packing.proofs.Refusals as refusals
use Rattle.packing.proofs.Refusals.{Refuses, denied, then_rows, choose_row}
use Rattle.packing.proofs.Whole.{grammar_block_out}
use Rattle.packing.proofs.Heard.{heard_block_out}
use Rattle.packing.specs.declared.Sym.{Sym}
use Rattle.derivation.specs.Derivation.{Tree, Derives, by_word_rule, by_pair_rule, walk}
use Rattle.derivation.proofs.Ranges.{All, all_at}
use Rattle.derivation.proofs.Paths.{walk_path}
use Rattle.derivation.proofs.HeardReadings.{heard_last, path}
use Rattle.derivation.proofs.Lists.{at_length}
use Rattle.checker.specs.Check.{check}
use Rattle.checker.proofs.Runs.{walks_of}
use Rattle.grammar_reader.specs.Answer.{sizes}
use Rattle.grammar_reader.specs.declared.Sizes.{Sizes}
use Rattle.checker.proofs.Refused.{check_row}
use Rattle.checker.proofs.Theorems.{accepts}
use Rattle.chance.specs.Answer.{shared_by, chance}
use Rattle.chance.specs.Chance.{are_shares, shares_of, one, product_of, Shown, with_shares, asked_chance}
use Rattle.chance.proofs.Error.{Share, factor_val, product_near, product_exact}
use Rattle.chance.proofs.Shares.{share_at}

-- as many shares as nodes, and each is one
length_shares : (shares rs : List ℕ) → length (shares_of shares rs) ≡ length rs
unfolding shares_of
length_shares shares [] = refl
length_shares shares (r ∷ rs) = ap suc (length_shares shares rs)

all_share : (shares rs : List ℕ) → are_shares shares ≡ true → All (λ r. r < length shares) rs → All Share (shares_of shares rs)
unfolding shares_of
all_share shares [] e h = tt
all_share shares (r ∷ rs) e (l, h) = (share_at shares e r l, all_share shares rs e h)

-- a derivation's nodes are by rules that are there
all_append : (P : ℕ → Type 0) (a b : List ℕ) → All P a → All P b → All P (a ++ b)
all_append P [] b h k = k
all_append P (x ∷ a) b (p, h) k = (p, all_append P a b h k)

rules_named : (g : Grammar) (es : List Edge) {A : Sym} {i k : ℕ} {t : Tree} → Derives g es A i k t → All (λ r. r < length g.rules) (walk t)
unfolding walk
rules_named g es (by_word_rule {r = r} p q) = (at_length g.rules r p, tt)
rules_named g es (by_pair_rule {r = r} {s = s} {t = t} p h₁ h₂ d₁ d₂) =
    (at_length g.rules r p, all_append (λ r. r < length g.rules) (walk s) (walk t) (rules_named g es d₁) (rules_named g es d₂))

-- what was heard is accepted where a reading passes
heard_there : (grammar heard reading : List ℕ) {g : Grammar} {t : Tree} → grammar_block grammar ≡ accepted g → check grammar heard reading ≡ accepted t
    → (h : Heard) × (heard_block g.words heard ≡ accepted h)
unfolding check
heard_there grammar heard reading {g} p e =
    granted (grammar_block grammar) _ e λ f q e.
    let same : f ≡ g = accepted_is (sym q ∙ p) in
    granted (heard_block f.words heard) _ e λ h k _. (h, rw same at k)

-- where there is a chance, there are as many shares as rules, and all are shares
shared_out : (R : ℕ) (shares rs : List ℕ) {x : Float} → shared_by R shares rs ≡ accepted x
    → (length shares ≡ R) × (are_shares shares ≡ true) × (x ≡ product_of one (shares_of shares rs))
shared_out R shares rs {x} e = go (eqb (length shares) R) refl (are_shares shares) refl e
  where
    go : (a : Bool) → eqb (length shares) R ≡ a → (b : Bool) → are_shares shares ≡ b
        → (pick a (pick b (accepted rs) (refused 61)) (refused 60) then λ rs. accepted (product_of one (shares_of shares rs))) ≡ accepted x
        → (length shares ≡ R) × (are_shares shares ≡ true) × (x ≡ product_of one (shares_of shares rs))
    go false h b k e = absurd (refused≢accepted e)
    go true h false k e = absurd (refused≢accepted e)
    go true h true k e = (eqb-true (length shares) R h, k, sym (accepted_is e))

module _ (grammar heard reading shares : List ℕ) where
  -- every refusal is of its rows
  pub chance_row : Refuses (GrammarBlockRow ∪ HeardBlockRow ∪ ReadingBlockRow ∪ SharesRow) (chance grammar heard reading shares)
  unfolding chance
  chance_row =
      refusals.then_row (refusals.wider (λ n r. inl (inl (inl r))) (refusals.grammar_block_row grammar)) λ g p.
      then_rows (check_row grammar heard reading) λ t e.
      refusals.then_row (choose_row (eqb (length shares) (length g.rules))
      (choose_row (are_shares shares) refusals.granted (denied {n = 61} (omega arith, omega arith))) (denied {n = 60} (omega arith, omega arith)))
      λ rs f. refusals.granted

  -- what is due is made of what is asked, where the check comes to what it does
  pub chance_asked : chance grammar heard reading shares
      ≡ (asked_chance grammar shares (check grammar heard reading) then λ t. accepted (product_of one (shares_of shares (walk t))))
  unfolding chance asked_chance
  chance_asked = go (grammar_block grammar) (check grammar heard reading)
    where
      tested : (a b : Bool) (t : Tree)
          → (pick a (pick b (accepted (walk t)) (refused 61)) (refused 60) then λ rs. accepted (product_of one (shares_of shares rs)))
          ≡ (pick a (pick b (accepted t) (refused 61)) (refused 60) then λ t. accepted (product_of one (shares_of shares (walk t))))
      tested true true t = refl
      tested true false t = refl
      tested false b t = refl

      go : (v : Verdict Grammar) (w : Verdict Tree) → (v then λ g. w then λ t. shared_by (length g.rules) shares (walk t))
          ≡ ((v then λ g. w then λ t. with_shares (length g.rules) shares t) then λ t. accepted (product_of one (shares_of shares (walk t))))
      go (refused n) w = refl
      go (accepted g) (refused n) = refl
      go (accepted g) (accepted t) = tested (eqb (length shares) (length g.rules)) (are_shares shares) t

  module _ (bytes : Bytes reading) where
    pub shown : (x : Float) → chance grammar heard reading shares ≡ accepted x → Shown grammar heard reading shares x
    unfolding chance
    shown x e =
        granted (grammar_block grammar) _ e λ g p e. granted (check grammar heard reading) _ e λ t q e.
        let (h, k) = heard_there grammar heard reading p q in
        let (c, b) = (accepts grammar heard reading bytes g h p k t).0 q in
        let (okg, _) = grammar_block_out grammar g p in
        let (ok, _) = heard_block_out g.words heard h k in
        let (n, all, is) = shared_out (length g.rules) shares (walk t) e in
        let ss : List ℕ = shares_of shares (walk t) in
        let many = length_shares shares (walk t) in
        let (least, most) = path g okg h ok t c in
        let few : length ss ≤ 47 = omega (arith, many, walk_path t, heard_last g.words h ok) in
        let each : All Share ss = all_share shares (walk t) all (rw n (rules_named g (heard_edges h) c)) in
        record {
          g = g;
          h = h;
          t = t;
          grammar_accepted = p;
          heard_accepted = k;
          derivation = c;
          packing = b;
          one_share_a_rule = n;
          product = is;
          nodes = omega (arith, walk_path t);
          factors = λ k s at. factor_val s (all_at Share ss k each at);
          near = rw (is, ← many) (product_near ss few each);
          exact = λ m. rw is (product_exact ss (many ∙ m) each);
        }

    -- so of an answer that the definition tells: the promises of `chance`
    pub promised : {r : Result Float Refusal} → as_verdict r ≡ chance grammar heard reading shares
        → (as_verdict r ≡ chance grammar heard reading shares) × ((x : Float) → r ≡ Ok x → Shown grammar heard reading shares x)
    promised {r} e = (e, λ x told. let f : chance grammar heard reading shares ≡ accepted x = sym (rw told at e) in shown x f)

  -- by the walk that the check found under a grammar
  by_walk : {g : Grammar} → grammar_block grammar ≡ accepted g
      → (walks_of (check grammar heard reading) then λ rs. shared_by (length g.rules) shares rs) ≡ chance grammar heard reading shares
  unfolding chance
  by_walk {g} p = rw p (go (check grammar heard reading))
    where
      go : (v : Verdict Tree) → (walks_of v then λ rs. shared_by (length g.rules) shares rs) ≡ (v then λ t. shared_by (length g.rules) shares (walk t))
      go (accepted t) = refl
      go (refused n) = refl

  pub grammar_refused : {n : ℕ} → grammar_block grammar ≡ refused n → refused n ≡ chance grammar heard reading shares
  unfolding chance
  grammar_refused p = rw p

  -- by what the check found under the rules of an array that the grammar was read into
  module _ {g : Grammar} {z : Sizes} {v : Verdict (List ℕ)} (p : grammar_block grammar ≡ accepted g) (q : z ≡ sizes g)
      (walks : walks_of (check grammar heard reading) ≡ v) where
    pub walk_refused : {n : ℕ} → refused n ≡ counted v → refused n ≡ chance grammar heard reading shares
    walk_refused {n} e = go v walks e ∙ by_walk p
      where
        go : (x : Verdict (List ℕ)) → walks_of (check grammar heard reading) ≡ x → refused n ≡ counted x
            → refused n ≡ (walks_of (check grammar heard reading) then λ rs. shared_by (length g.rules) shares rs)
        go (refused m) w f = rw w (cc)
        go (accepted l) w f = cc

    pub walk_shared : (array : List ℕ) (n : ℕ) {l : List ℕ} {x : Verdict Float} → v ≡ accepted l → take n array ≡ l → x ≡ shared_by z.rules shares
        (take n array)
        → x ≡ chance grammar heard reading shares
    walk_shared array n e front told = rw (front, q) at told ∙ sym (rw (walks, e) at (sym (by_walk p)))
