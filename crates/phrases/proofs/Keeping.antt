-- Ways of keeping the least string found: what makes one right, and that by it the recursion finds the least string of a symbol and a
-- length. Assumes nothing.
use mathlib.Core.Path.{◌≡◌, refl}
use mathlib.Core.Logic.{inl, ⊎_elim}
use mathlib.Core.Option.{Option, none, some}
use mathlib.Core.List.{List, [], ◌∷◌}
use Prim.Native.Nat.{ℕ, ◌+◌, ◌-◌, ◌≤◌, ◌<◌}
use native.Mathlib.Omega.{arith}
use lib.ListN.{length, length-append}
use Rattle.packing.specs.Meaning.{Grammar, symbol_of}
use Rattle.packing.specs.Valid.{ValidGrammar}
use Rattle.packing.specs.declared.Sym.{Sym}
use Rattle.packing.specs.declared.Rule.{Rule}
use Rattle.phrases.specs.Enumeration.{first_phrase}
use Rattle.phrases.specs.Recursion.{lesser_of, join_of, Keeping, least_of}
use Rattle.phrases.proofs.Yields.{says_yields, yields_says}
use Rattle.phrases.proofs.Least.{Property, LeastOrNone, nothing, first, least_same, least_unique, lesser_least, Joined, join_least}
use Rattle.phrases.proofs.Enumeration.{Below}
use Rattle.phrases.proofs.Theorems.{below_append, yields_below, first_phrase_least}
use Rattle.phrases.proofs.Cell.{Of, Stored, Adds, by_rules_is}

-- a string of m words below W
abbrev pub Sized : ℕ → ℕ → Property
Sized W m t = (length t ≡ m) × Below W t

pub data Each (X : Property) : Option (List ℕ) → Type 0 where
  no_string : Each X none
  string : {s : List ℕ} → X s → Each X (some s)

-- c stands for o, a string of length m or none
abbrev pub Code : Type 0 → Type 1
Code K = (m : ℕ) (o : Option (List ℕ)) (c : K) → Type 0

-- a right way of keeping strings of at most `most` words: what is kept stands for the lesser of what it is made from
pub record Keeps {K : Type 0} (W most : ℕ) (keeping : Keeping K) (Codes : Code K) : Type 0 where
  pub of_none : (m : ℕ) → Codes m none keeping.missing
  pub of_word : (x : ℕ) (o : Option (List ℕ)) (c : K) → x < W → Each (Sized W 1) o → Codes 1 o c
      → Codes 1 (lesser_of o (some (x ∷ []))) (keeping.add_word x c)
  pub of_join : (i j : ℕ) (a b o : Option (List ℕ)) (x y c : K) → 0 < i → 0 < j → i + j ≤ most → Each (Sized W i) a → Each (Sized W j) b
      → Each (Sized W (i + j)) o → Codes i a x → Codes j b y → Codes (i + j) o c → Codes (i + j) (lesser_of o (join_of a b)) (keeping.add_join i j x y c)

-- c stands for the least string with the property P
abbrev pub Finds : {K : Type 0} → Code K → ℕ → Property → K → Type 0
Finds Codes m P c = (o : Option (List ℕ)) × LeastOrNone P o × Codes m o c

finds_same : {K : Type 0} (Codes : Code K) (m : ℕ) {P Q : Property} {c : K} → ((t : List ℕ) → P t → Q t) → ((t : List ℕ) → Q t → P t) → Finds Codes m P c
    → Finds Codes m Q c
finds_same Codes m f h (o, l, k) = (o, least_same f h l, k)

pub each : {P X : Property} {o : Option (List ℕ)} → ((t : List ℕ) → P t → X t) → LeastOrNone P o → Each X o
each f (nothing n) = no_string
each f (first {s} (p, l)) = string (f s p)

module _ {K : Type 0} {W most : ℕ} {keeping : Keeping K} {Codes : Code K} (law : Keeps W most keeping Codes) where
  -- the same of a property of strings that have length m
  abbrev Held : ℕ → Property → K → Type 0
  Held m P c = ((t : List ℕ) → P t → Sized W m t) × Finds Codes m P c

  held_same : (m : ℕ) (P Q : Property) (c : K) → ((t : List ℕ) → P t → Q t) → ((t : List ℕ) → Q t → P t) → Held m P c → Held m Q c
  held_same m P Q c f h (sized, found) = ((λ t q. sized t (h t q)), finds_same Codes m f h found)

  word_held : (x : ℕ) → x < W → Adds (Held 1) (λ t. t ≡ x ∷ []) (keeping.add_word x)
  word_held x b P c (sized, (o, l, k)) = (
    (λ t. ⊎_elim (sized t) (λ e. rw e (refl, (b, tt)))),
    (
      lesser_of o (some (x ∷ [])),
      lesser_least l alone,
      law.of_word x o c b (each sized l) k,
    ),
  )
    where
      alone : LeastOrNone (λ t. t ≡ x ∷ []) (some (x ∷ []))
      alone = first (refl, λ t e. inl e)

  join_held : (i j : ℕ) → 0 < i → 0 < j → i + j ≤ most → {P Q : Property} {x y : K} → Held i P x → Held j Q y
      → Adds (Held (i + j)) (Joined P Q) (keeping.add_join i j x y)
  join_held i j p q h {P} {Q} {x} {y} (sized, (a, l, k)) (sized', (b, l', k')) R c (whole, (o, lo, ko)) = (
    (λ t. ⊎_elim (whole t) (joined t)),
    (
      lesser_of o (join_of a b),
      lesser_least lo (join_least i (λ s z. (sized s z).0) l l'),
      law.of_join i j a b o x y c p q h (each sized l) (each sized' l') (each whole lo) k k' ko,
    ),
  )
    where
      joined : (t : List ℕ) → Joined P Q t → Sized W (i + j) t
      joined t (us, vs, z, z', e) =
          rw e (
            (let n = (sized us z).0 in let n' = (sized' vs z').0 in simp length-append (omega arith)),
            below_append W us vs (sized us z).1 (sized' vs z').1,
          )

module _ (g : Grammar) (v : ValidGrammar g) where
  pub sized_of : (A : Sym) (m : ℕ) (t : List ℕ) → Of g A m t → Sized g.words m t
  sized_of A m t o = (o.0, yields_below g v o.1)

  -- the least string of a symbol and a length, from those of shorter lengths
  module _ (rule : ℕ → Rule) (stored : Stored g rule) {K : Type 0} {most : ℕ} {keeping : Keeping K} {Codes : Code K}
      (law : Keeps g.words most keeping Codes) where
    pub least_of_is : (A : Sym) (m : ℕ) → 0 < m → m ≤ most → (l : Sym → ℕ → K)
        → ((B : Sym) (j : ℕ) → B.0 < g.symbols → 0 < j → j < m → Finds Codes j (Of g B j) (l B j))
        → Finds Codes m (Of g A m) (least_of keeping rule (length g.rules) l A m)
    unfolding least_of
    least_of_is A m p h l least =
        (by_rules_is (Held law m) (held_same law m) g _ _ m splits words v rule stored A keeping.missing
        ((λ t z. absurd z), (none, nothing (λ t z. z), law.of_none m))).1
      where
        splits : (B C : Sym) (j : ℕ) → B.0 < g.symbols → C.0 < g.symbols → 0 < j → j < m
            → Adds (Held law m) (Joined (Of g B j) (Of g C (m - j))) (keeping.add_join j (m - j) (l B j) (l C (m - j)))
        splits B C j b c q r =
            let n : j + (m - j) ≡ m = omega arith in
            rw n at (join_held law j (m - j) q (omega arith) (omega arith) (sized_of B j, least B j b q r)
            (sized_of C (m - j), least C (m - j) c (omega arith) (omega arith)))

        words : (x : ℕ) → x < g.words → m ≡ 1 → Adds (Held law m) (λ t. t ≡ x ∷ []) (λ best. keeping.add_word x best)
        words x b e = rw e (word_held law x b)

  -- what is found of the start is the first phrase
  pub first_phrase_found : {K : Type 0} (Codes : Code K) (n : ℕ) (c : K) → Finds Codes n (Of g (symbol_of 0) n) c → Codes n (first_phrase g n) c
  first_phrase_found Codes n c (o, l, k) =
      rw (least_unique (first_phrase_least g n v)
      (least_same (λ t o. (o.0, yields_says g t o.1)) (λ t o. (o.0, says_yields g t o.1)) l)) k
