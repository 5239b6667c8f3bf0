-- Padded strings are a right way of keeping strings: words are below 200, so a string comes before none; strings of one length have the same zeros
-- behind them, so these decide nothing; and two strings joined have zeros behind them again. So what the code fills the table with is the first phrase.
-- Assumes nothing.
use mathlib.Core.Path.{◌≡◌, refl, sym, ap, ◌∙◌}
use mathlib.Core.Bool.{Bool, true, false}
use mathlib.Core.Option.{Option, none, some}
use mathlib.Core.List.{List, [], ◌∷◌, ◌++◌, append_assoc}
use Prim.Native.Nat.{ℕ, zero, suc, ◌+◌, ◌-◌, ◌*◌, ◌≤◌, ◌<◌, compare, Ordering}
use native.Mathlib.Omega.{arith}
use borrow.Author.Tests.{ne_eqb, lt-ltb, le-ltb}
use lib.Dec.{ltb}
use lib.ListN.{length, get_or, take, replicate, length-append, length-set}
use lib.Seq.{take_at, take-append-add, get_or-set_same, get_or-set_other}
use Rattle.bits.specs.Bits.{pick}
use Rattle.packing.specs.Meaning.{Grammar, symbol_of}
use Rattle.packing.specs.Valid.{ValidGrammar}
use Rattle.packing.specs.declared.Rule.{Rule}
use Rattle.derivation.proofs.Comparison.{compare_lt, compare_below, compare_same, compare_lawful, turn_gt, ▸-first}
use Rattle.derivation.proofs.Ranges.{valid_sizes}
use Rattle.phrases.specs.Phrases.{word_order, Precedes}
use Rattle.phrases.specs.Enumeration.{first_phrase, is_less}
use Rattle.phrases.specs.Recursion.{lesser_of, join_of, fill, cell_of, least_at}
use Rattle.phrases.specs.Padded.{one_word, no_string, join, lesser_word, lesser_join, padded, string_at, put_string}
use Rattle.phrases.proofs.Order.{order_lawful, order_join, ▸-last}
use Rattle.phrases.proofs.Theorems.{below_append}
use Rattle.phrases.proofs.Cell.{Stored}
use Rattle.phrases.proofs.Keeping.{Sized, Each, string, Keeps, first_phrase_found}
use Rattle.phrases.proofs.Filled.{Table, least_filled}

-- c is a string of length m padded, or stands for none
abbrev pub Pads : ℕ → Option (List ℕ) → List ℕ → Type 0
Pads m none c = c ≡ no_string
Pads m (some s) c = c ≡ s ++ replicate (24 - m) 0

-- one word compared
less_word : (x y : ℕ) → is_less (word_order (x ∷ []) (y ∷ [])) ≡ ltb x y
unfolding word_order
less_word x y = rw (▸-last (compare x y)) (go (compare x y) refl)
  where
    go : (o : Ordering) → compare x y ≡ o → is_less o ≡ ltb x y
    go Ordering.lt e = sym (lt-ltb x y (compare_below x y e))
    go Ordering.eq e = sym (le-ltb x y (omega (arith, compare_same x y e)))
    go Ordering.gt e = sym (le-ltb x y (omega (arith, compare_below y x (turn_gt compare_lawful x y e))))

take_replicate : (r q : ℕ) → r ≤ q → take {A = ℕ} r (replicate q 0) ≡ replicate r 0
take_replicate zero q h = refl
take_replicate (suc r) zero h = absurd (omega arith)
take_replicate (suc r) (suc q) h = ap (λ l. 0 ∷ l) (take_replicate r q (omega arith))

module _ (W : ℕ) (w : W ≤ 200) where
  -- a padded string begins with a word, and comes before none
  pub word_first : (m : ℕ) (s z : List ℕ) → 0 < m → Sized W m s → get_or (s ++ z) 0 0 < 200
  word_first m [] z p (l, b) = absurd (omega arith)
  word_first m (x ∷ s) z p (l, (h, b)) = omega arith

  not_none : (m : ℕ) (s z : List ℕ) → 0 < m → Sized W m s → get_or (s ++ z) 0 0 ≡ 255 → ⊥
  not_none m s z p h e = omega (arith, word_first m s z p h)

  before_none : (m : ℕ) (s z : List ℕ) → 0 < m → Sized W m s → Precedes (s ++ z) no_string
  unfolding word_order
  before_none m [] z p (l, b) = absurd (omega arith)
  before_none m (x ∷ s) z p (l, (h, b)) = ▸-first _ _ (compare_lt x 255 (omega arith))

  -- the same zeros behind both decide nothing
  order_padded : (s t z : List ℕ) → length s ≡ length t → word_order (s ++ z) (t ++ z) ≡ word_order s t
  order_padded s t z e = rw (order_join s t z z e, order_lawful.self z, ▸-last (word_order s t))

  lesser_word_lem : (x : ℕ) (o : Option (List ℕ)) (c : List ℕ) → x < W → Each (Sized W 1) o → Pads 1 o c
      → Pads 1 (lesser_of o (some (x ∷ []))) (lesser_word c x)
  unfolding lesser_of lesser_word
  lesser_word_lem x none c h e p = rw (p, lt-ltb x 255 (omega arith))
  lesser_word_lem x (some []) c h (string (l, b)) p = absurd (omega arith)
  lesser_word_lem x (some (y ∷ z ∷ s)) c h (string (l, b)) p = absurd (omega arith)
  lesser_word_lem x (some (y ∷ [])) c h e p = rw (p, less_word x y) (go (ltb x y))
    where
      go : (b : Bool) → Pads 1 (pick b (some (x ∷ [])) (some (y ∷ []))) (pick b (one_word x) (one_word y))
      go true = refl
      go false = refl

  lesser_padded : (m : ℕ) (s : List ℕ) (o : Option (List ℕ)) (c : List ℕ) → 0 < m → Sized W m s → Each (Sized W m) o → Pads m o c
      → Pads m (lesser_of o (some s)) (pick (is_less (word_order (s ++ replicate (24 - m) 0) c)) (s ++ replicate (24 - m) 0) c)
  unfolding lesser_of
  lesser_padded m s none c p h e k = rw (k, before_none m s (replicate (24 - m) 0) p h)
  lesser_padded m s (some t) c p h (string e) k =
      rw (k, order_padded s t (replicate (24 - m) 0) (h.0 ∙ sym e.0)) (go (is_less (word_order s t)))
    where
      go : (b : Bool) → Pads m (pick b (some s) (some t)) (pick b (s ++ replicate (24 - m) 0) (t ++ replicate (24 - m) 0))
      go true = refl
      go false = refl

  joined : (i j : ℕ) (us vs : List ℕ) → i + j ≤ 24 → Sized W i us → Sized W j vs
      → join (us ++ replicate (24 - i) 0) (vs ++ replicate (24 - j) 0) i ≡ (us ++ vs) ++ replicate (24 - (i + j)) 0
  joined i j us vs h (l, _) (k, _) =
      let n : 24 - i ≡ length vs + (24 - (i + j)) = omega arith in
      rw (
        take_at us (replicate (24 - i) 0) i l,
        n,
        take-append-add vs (replicate (24 - j) 0) (24 - (i + j)),
        take_replicate (24 - (i + j)) (24 - j) (omega arith),
      )
      (sym (append_assoc us vs (replicate (24 - (i + j)) 0)))

  lesser_join_lem : (i j : ℕ) (a b o : Option (List ℕ)) (x y c : List ℕ) → 0 < i → 0 < j → i + j ≤ 24 → Each (Sized W i) a → Each (Sized W j) b
      → Each (Sized W (i + j)) o → Pads i a x → Pads j b y → Pads (i + j) o c → Pads (i + j) (lesser_of o (join_of a b)) (lesser_join c x y i)
  unfolding lesser_of lesser_join
  lesser_join_lem i j none b none x y c p q h sa sb so e f k = rw e k
  lesser_join_lem i j none b (some t) x y c p q h sa sb so e f k = rw e k
  lesser_join_lem i j (some us) none none x y c p q h (string sa) sb so e f k = rw (e, f, ne_eqb _ 255 (not_none i us (replicate (24 - i) 0) p sa)) k
  lesser_join_lem i j (some us) none (some t) x y c p q h (string sa) sb so e f k = rw (e, f, ne_eqb _ 255 (not_none i us (replicate (24 - i) 0) p sa)) k
  lesser_join_lem i j (some us) (some vs) o x y c p q h (string sa) (string sb) so e f k =
      rw (
        e,
        f,
        ne_eqb _ 255 (not_none i us (replicate (24 - i) 0) p sa),
        ne_eqb _ 255 (not_none j vs (replicate (24 - j) 0) q sb),
        joined i j us vs h sa sb,
      )
      (lesser_padded (i + j) (us ++ vs) o c (omega arith) both so k)
    where
      both : Sized W (i + j) (us ++ vs)
      both = (length-append us vs ∙ (let l = sa.0 in let m = sb.0 in omega arith), below_append W us vs sa.1 sb.1)

  padded_keeps : Keeps W 24 padded Pads
  padded_keeps = record { of_none = λ m. refl; of_word = lesser_word_lem; of_join = lesser_join_lem }

-- padded strings in a table
strings_table : (size : ℕ) → Table {T = List (List ℕ)} {K = List ℕ} size (λ t. size ≤ length t) (λ x. Unit {0}) string_at put_string
strings_table size = record {
  stays = λ t c x r l u. rw (length-set t c x) r;
  same = λ t c x r l u. get_or-set_same t c x [] (omega arith);
  other = λ t c d x r l m u e. get_or-set_other t c d x [] e;
}

-- what stands at the cell of the start and length n, after all cells were filled
pub first_filled : (g : Grammar) → ValidGrammar g → (rule : ℕ → Rule) → Stored g rule → (n : ℕ) → 0 < n → n ≤ 24 → (t : List (List ℕ)) → 32 * n ≤ length t
    → Pads n (first_phrase g n) (string_at (fill put_string (least_at padded rule (length g.rules) string_at) t (32 * n)) (cell_of (symbol_of 0) n))
first_filled g v rule stored n pos most t room =
    first_phrase_found g v Pads n _
    (least_filled g v rule stored (padded_keeps g.words (valid_sizes g v).3) (strings_table (32 * n)) (λ m o x few sized codes. tt) n most (omega arith) t
    (omega arith) (symbol_of 0) n (omega arith) pos (omega arith))
