-- The masks of words say of an edge's word which heads have no leaf, and those of parts and places which heads have no seed.
use mathlib.Core.Path.{◌≡◌, refl, ◌∙◌}
use mathlib.Core.Logic.{◌⊎◌, inl, inr}
use mathlib.Core.Bool.{Bool, true, false}
use mathlib.Core.List.{List}
use Prim.Native.Nat.{ℕ, ◌+◌, ◌*◌, ◌≤◌, ◌<◌}
use native.Mathlib.Decide.{ℕ_discrete}
use native.Mathlib.Omega.{arith}
use lib.Bits.{bit_and, bit_or}
use lib.Dec.{ltb}
use lib.ListN.{length, get_or}
use borrow.Author.Tests.{ltb-true}
use Rattle.bits.specs.Bits.{pick}
use Rattle.packing.specs.Meaning.{symbol_of}
use Rattle.packing.specs.declared.Sym.{Sym}
use Rattle.chart_classes.specs.Classes.{pair_base, class_start, class_end}
use Rattle.chart_table.specs.declared.Cell.{Cell}
use Rattle.chart_table.specs.declared.Layout.{Layout}
use Rattle.chart_table.specs.Table.{last_place, cell}
use Rattle.chart_heads.specs.declared.Column.{Column}
use Rattle.masks.specs.Digits.{digit, Put}
use Rattle.chart_masks.specs.Masks.{mask_numbers, ends_at, starts_at, firsts_at, seconds_at, left_at, right_at, Marked, Apart}
use Rattle.chart_heads.specs.Heads.{
  capped,
  mask_of,
  word_column,
  first_column,
  second_column,
  Grown,
  Members,
  MembersMore,
  Ruled,
  Unjoined,
  Live,
  EdgeHeads,
  HeadsBefore,
  HeadsOver,
  NoLeaf,
}
use Rattle.masks.proofs.Digits.{zero_digit, and_parts, or_lacks}

-- a column's masks where those before it grow, and one more head in them
pub members_kept : {rules index m m' : List ℕ} {column : Column} {n : ℕ} → Members rules index column n m
    → ((y j : ℕ) → digit (get_or m' y 0) j ≡ 0 → digit (get_or m y 0) j ≡ 0) → Members rules index column n m'
members_kept members kept = record { has = λ a z l h h' e. members.has a z l h h' (kept _ a e) }

pub members_none : (rules index : List ℕ) (column : Column) (m : List ℕ) → Members rules index column 0 m
members_none rules index column m = record { has = λ a z l. absurd (omega arith) }

pub members_next : {rules index m m' : List ℕ} {column : Column} {n : ℕ} → Members rules index column n m
    → MembersMore rules index column n (class_end index column.base n) m m' → Members rules index column (n + 1) m'
members_next {rules} {index} {m} {m'} {column} {n} members more = record { has = λ a z l h h' e. go a z l h h' e (ℕ_discrete a n) }
  where
    go : (a z : ℕ) → a < n + 1 → class_start index column.base a ≤ z → z < class_end index column.base a
        → digit (mask_of m' column rules (get_or index z 0)) a ≡ 0 → Dec (a ≡ n) → ⊥
    go a z l h h' e (yes same) = more.more z (rw same at h) (rw same at h') (rw same at e)
    go a z l h h' e (no other) = members.has a z (omega arith) h h' (more.grown.kept _ a e)

pub members_end : {rules index m : List ℕ} {column : Column} {a n : ℕ} → Members rules index column a m → a ≤ n → n ≤ a
    → Members rules index column n m
members_end members le ge = record { has = λ b z l h h' e. members.has b z (omega arith) h h' e }

-- masks that grow
pub grown_none : (m : List ℕ) → Grown m m
grown_none m = record { kept = λ y j e. e; same = λ y h. refl }

pub grown_more : {m m' m'' : List ℕ} → Grown m m' → Grown m' m'' → Grown m m''
grown_more first second = record {
  kept = λ y j e. first.kept y j (second.kept y j e);
  same = λ y h. second.same y h ∙ first.same y h;
}

put_grown : {m m' : List ℕ} {at x : ℕ} → 2048 ≤ at → Put m at x m' → Grown m m'
put_grown h put = record { kept = put.kept; same = λ y l. put.other y (λ e. omega (arith, e)) }

-- and the numbers of a head one after another
pub more_none : (rules index : List ℕ) (column : Column) (m : List ℕ) (a : ℕ)
    → MembersMore rules index column a (class_start index column.base a) m m
more_none rules index column m a = record { grown = grown_none m; more = λ z h l. absurd (omega arith) }

pub more_next : {rules index m m' m'' : List ℕ} {column : Column} {a y : ℕ} (place x own : ℕ) → 2048 ≤ column.at
    → MembersMore rules index column a y m m' → x ≡ get_or rules (5 * get_or index y 0 + column.field) 0
    → place ≡ capped column.limit x → digit own a ≡ 1 → Put m' (column.at + place) own m'' → MembersMore rules index column a (y + 1) m m''
more_next {rules} {index} {m} {m'} {m''} {column} {a} {y} place x own high more number is one put = record {
  grown = grown_more more.grown (put_grown (omega arith) put);
  more = λ z h l e. go z h l e (ℕ_discrete z y);
}
  where
    go : (z : ℕ) → class_start index column.base a ≤ z → z < y + 1 → digit (mask_of m'' column rules (get_or index z 0)) a ≡ 0 → Dec (z ≡ y) → ⊥
    go z h l e (yes same) = let own-zero = put.has a (rw (same, ← number, ← is) at e) in omega (arith, own-zero, one)
    go z h l e (no other) = more.more z h (omega arith) (put.kept _ a e)

-- the masks of all columns, where nothing is marked as found
pub ruled_zeros : {rules index : List ℕ} {d : Layout} {m m₁ m₂ m₃ : List ℕ} → d.symbols ≤ 32 → ((x : ℕ) → get_or m x 0 ≡ 0)
    → Members rules index word_column d.symbols m₁ → Grown m m₁ → Members rules index (first_column d) d.symbols m₂ → Grown m₁ m₂
    → Members rules index (second_column d) d.symbols m₃ → Grown m₂ m₃ → Ruled rules index d m₃
ruled_zeros {rules} {index} {d} {m} {m₁} {m₂} {m₃} few zeros words g₁ firsts g₂ seconds g₃ = record {
  words = members_kept {m = m₂} (members_kept {m = m₁} words g₂.kept) g₃.kept;
  firsts = members_kept {m = m₂} firsts g₃.kept;
  seconds = seconds;
  left = λ b a i k s h e f. nothing (ends_at b i) k (omega (arith, s, h));
  right = λ b a i k s h e f. nothing (starts_at b k) i (omega (arith, s, h));
}
  where
    nothing : (y j : ℕ) → y < 2048 → digit (get_or m₃ y 0) j ≡ 0
    nothing y j h = rw (g₃.same y h ∙ g₂.same y h ∙ g₁.same y h ∙ zeros y) (zero_digit j)

-- and where one more cell is
pub ruled_marked : {rules index : List ℕ} {d : Layout} {m m' : List ℕ} {c : Cell} → d.symbols ≤ 32 → c.head.0 < d.symbols → c.from ≤ last_place
    → c.to ≤ last_place → Ruled rules index d m → Marked m c m' → Ruled rules index d m'
ruled_marked {d = d} {m} {m'} {c} few s from to ruled mark = record {
  words = members_kept {m = m} ruled.words mark.kept;
  firsts = members_kept {m = m} ruled.firsts mark.kept;
  seconds = members_kept {m = m} ruled.seconds mark.kept;
  left = λ b a i k s' h e f. lefts b a i k s' h e (λ z. f (rw (first b s') z)) (ℕ_discrete b.0 c.head.0) (ℕ_discrete i c.from);
  right = λ b a i k s' h e f. rights b a i k s' h e (λ z. f (rw (second b s') z)) (ℕ_discrete b.0 c.head.0) (ℕ_discrete k c.to);
}
  where
    first : (b : Sym) → b.0 < d.symbols → get_or m' (firsts_at b.0) 0 ≡ get_or m (firsts_at b.0) 0
    first b s' = mark.other (firsts_at b.0) (λ e. omega (arith, e)) (λ e. omega (arith, e)) (λ e. omega (arith, e)) (λ e. omega (arith, e))

    second : (b : Sym) → b.0 < d.symbols → get_or m' (seconds_at b.0) 0 ≡ get_or m (seconds_at b.0) 0
    second b s' = mark.other (seconds_at b.0) (λ e. omega (arith, e)) (λ e. omega (arith, e)) (λ e. omega (arith, e)) (λ e. omega (arith, e))

    ends : (b : Sym) (i : ℕ) → b.0 < d.symbols → i ≤ last_place → (ends_at b i ≡ ends_at c.head c.from → ⊥)
        → get_or m' (ends_at b i) 0 ≡ get_or m (ends_at b i) 0
    ends b i s' h other = mark.other (ends_at b i) other (λ e. omega (arith, e)) (λ e. omega (arith, e)) (λ e. omega (arith, e))

    starts : (b : Sym) (k : ℕ) → b.0 < d.symbols → k ≤ last_place → (starts_at b k ≡ starts_at c.head c.to → ⊥)
        → get_or m' (starts_at b k) 0 ≡ get_or m (starts_at b k) 0
    starts b k s' h other = mark.other (starts_at b k) (λ e. omega (arith, e)) other (λ e. omega (arith, e)) (λ e. omega (arith, e))

    lefts : (b : Sym) (a i k : ℕ) → b.0 < d.symbols → i ≤ last_place → digit (get_or m' (left_at i) 0) a ≡ 0
        → (digit (get_or m (firsts_at b.0) 0) a ≡ 0 → ⊥) → Dec (b.0 ≡ c.head.0) → Dec (i ≡ c.from) → digit (get_or m' (ends_at b i) 0) k ≡ 0
    lefts b a i k s' h e f (yes p) (yes q) = absurd (f (rw p (mark.left a (rw q at e))))
    lefts b a i k s' h e f (no p) _ = rw (ends b i s' h (λ z. p (omega (arith, z)))) (ruled.left b a i k s' h (mark.kept _ a e) f)
    lefts b a i k s' h e f (yes p) (no q) = rw (ends b i s' h (λ z. q (omega (arith, z, p)))) (ruled.left b a i k s' h (mark.kept _ a e) f)

    rights : (b : Sym) (a i k : ℕ) → b.0 < d.symbols → k ≤ last_place → digit (get_or m' (right_at k) 0) a ≡ 0
        → (digit (get_or m (seconds_at b.0) 0) a ≡ 0 → ⊥) → Dec (b.0 ≡ c.head.0) → Dec (k ≡ c.to) → digit (get_or m' (starts_at b k) 0) i ≡ 0
    rights b a i k s' h e f (yes p) (yes q) = absurd (f (rw p (mark.right a (rw q at e))))
    rights b a i k s' h e f (no p) _ = rw (starts b k s' h (λ z. p (omega (arith, z)))) (ruled.right b a i k s' h (mark.kept _ a e) f)
    rights b a i k s' h e f (yes p) (no q) = rw (starts b k s' h (λ z. q (omega (arith, z, p)))) (ruled.right b a i k s' h (mark.kept _ a e) f)

-- what a rule has in a column of symbols is a symbol, unless its head is in the mask behind the last
symbol_in : (n x a at : ℕ) (m : List ℕ) → (digit (get_or m (at + capped n x) 0) a ≡ 0 → ⊥) → digit (get_or m (at + n) 0) a ≡ 0
    → (x < n) × (digit (get_or m (at + x) 0) a ≡ 0 → ⊥)
unfolding capped
symbol_in n x a at m f e = go (ltb x n) refl f
  where
    go : (t : Bool) → ltb x n ≡ t → (digit (get_or m (at + pick t x n) 0) a ≡ 0 → ⊥) → (x < n) × (digit (get_or m (at + x) 0) a ≡ 0 → ⊥)
    go true p f' = (ltb-true x n p, f')
    go false p f' = absurd (f' e)

-- a head that has no parts that meet over a span has no seeds there
pub unjoined_apart : (rules index m : List ℕ) (d : Layout) (c : Cell) (a : Sym) → mask_numbers ≤ length m → a.0 < d.symbols → c.from ≤ last_place
    → c.to ≤ last_place → Ruled rules index d m → Unjoined m d c a.0
    → (y : ℕ) → class_start index pair_base a.0 ≤ y → y < class_end index pair_base a.0
    → Apart m d (symbol_of (get_or rules (5 * get_or index y 0 + 3) 0)) (symbol_of (get_or rules (5 * get_or index y 0 + 4) 0)) (cell a c.from c.to)
unjoined_apart rules index m d c a size s from to ruled unjoined y h h' =
    let (l, f) = symbol_in d.symbols (get_or rules (5 * get_or index y 0 + 3) 0) a.0 2336 m (ruled.firsts.has a.0 y s h h') unjoined.firsts in
    let (l', f') = symbol_in d.symbols (get_or rules (5 * get_or index y 0 + 4) 0) a.0 2400 m (ruled.seconds.has a.0 y s h h') unjoined.seconds in
    record { size = size; left = l; right = l'; disjoint = λ j. go j l f l' f' unjoined.parts }
  where
    go : (j : ℕ) → get_or rules (5 * get_or index y 0 + 3) 0 < d.symbols
        → (digit (get_or m (firsts_at (get_or rules (5 * get_or index y 0 + 3) 0)) 0) a.0 ≡ 0 → ⊥)
        → get_or rules (5 * get_or index y 0 + 4) 0 < d.symbols
        → (digit (get_or m (seconds_at (get_or rules (5 * get_or index y 0 + 4) 0)) 0) a.0 ≡ 0 → ⊥)
        → (digit (get_or m (left_at c.from) 0) a.0 ≡ 0) ⊎ (digit (get_or m (right_at c.to) 0) a.0 ≡ 0)
        → (digit (get_or m (ends_at (symbol_of (get_or rules (5 * get_or index y 0 + 3) 0)) c.from) 0) j ≡ 0)
        ⊎ (digit (get_or m (starts_at (symbol_of (get_or rules (5 * get_or index y 0 + 4) 0)) c.to) 0) j ≡ 0)
    go j l f l' f' (inl e) = inl (ruled.left (symbol_of (get_or rules (5 * get_or index y 0 + 3) 0)) a.0 c.from j l from e f)
    go j l f l' f' (inr e) = inr (ruled.right (symbol_of (get_or rules (5 * get_or index y 0 + 4) 0)) a.0 j c.to l' to e f')

-- a head that is in no mask of the words heard over a span has no leaf there
pub heads_complete : (rules edges index m : List ℕ) (n heads : ℕ) (a : Sym) (i k : ℕ) → Members rules index word_column n m
    → HeadsOver m edges index (cell a i k) heads → a.0 < n → digit heads a.0 ≡ 0 → NoLeaf rules edges index (cell a i k)
heads_complete rules edges index m n heads a i k words over l e y z y₁ y₂ to z₁ z₂ word =
    words.has a.0 z l z₁ z₂ (rw word (over.has y y₁ y₂ a.0 e to))

-- one more of the edges over a span
pub heads_next : {m edges index : List ℕ} {start k y r : ℕ} (x : ℕ) → HeadsBefore m edges index start k y r
    → EdgeHeads m edges (get_or index y 0) k x → HeadsBefore m edges index start k (y + 1) (bit_or r x)
heads_next {m} {edges} {index} {start} {k} {y} {r} x before edge = record { has = λ z h l a e to. go z h l a e to (ℕ_discrete z y) }
  where
    go : (z : ℕ) → start ≤ z → z < y + 1 → (a : ℕ) → digit (bit_or r x) a ≡ 0 → get_or edges (4 * get_or index z 0 + 1) 0 ≡ k → Dec (z ≡ y)
        → digit (get_or m (2048 + capped 256 (get_or edges (4 * get_or index z 0 + 2) 0)) 0) a ≡ 0
    go z h l a e to (yes same) = rw same (edge a (or_lacks r x a e).1 (rw same at to))
    go z h l a e to (no other) = before.has z h (omega arith) a (or_lacks r x a e).0 to

-- the heads that may have a tree over a span
pub live_parts : (m : List ℕ) (d : Layout) (c : Cell) (leafy : ℕ)
    → Live m d c leafy (bit_or (bit_or (bit_or (bit_and (get_or m (left_at c.from) 0) (get_or m (right_at c.to) 0)) (get_or m (firsts_at d.symbols) 0))
    (get_or m (seconds_at d.symbols) 0)) leafy)
live_parts m d c leafy = record { unjoined = λ a e. go a (or_lacks strays leafy a e).0; leafless = λ a e. (or_lacks strays leafy a e).1 }
  where
    both : ℕ
    both = bit_and (get_or m (left_at c.from) 0) (get_or m (right_at c.to) 0)

    firsts : ℕ
    firsts = bit_or both (get_or m (firsts_at d.symbols) 0)

    strays : ℕ
    strays = bit_or firsts (get_or m (seconds_at d.symbols) 0)

    go : (a : ℕ) → digit strays a ≡ 0 → Unjoined m d c a
    go a e =
        let (f, g) = or_lacks firsts (get_or m (seconds_at d.symbols) 0) a e in
        let (p, q) = or_lacks both (get_or m (firsts_at d.symbols) 0) a f in
        record { parts = and_parts (get_or m (left_at c.from) 0) (get_or m (right_at c.to) 0) a p; firsts = q; seconds = g }
