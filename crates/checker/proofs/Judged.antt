-- A derivation with the nodes that were read is found exactly if there is one, and there is one at most: the enumeration has all
-- derivations, and a walk over slots or the bits of the nodes decide it.
use mathlib.Core.Path.{◌≡◌, refl, sym, ap, ◌∙◌}
use mathlib.Core.Bool.{Bool, true, false, false≢true}
use mathlib.Core.List.Memᴰ
use mathlib.Core.List.{List, [], ◌∷◌}
use mathlib.Core.Logic.{⊎_elim}
use mathlib.Core.Option.{Option, none, some}
use Prim.Native.Nat.{ℕ, zero, suc, ◌+◌, ◌-◌, ◌*◌, ◌≤◌, ◌<◌}
use native.Mathlib.Nat.{add-zero}
use native.Mathlib.Omega.{arith}
use borrow.Author.Tests.{eqb-true, eq-eqb, leb-true, le-leb, ltb-false}
use lib.Dec.{eqb, ltb}
use lib.ListN.{length, get_or}
use Rattle.bits.specs.Bits.{pick, bit_at}
use Rattle.bits.specs.Fields.{bits_of_all}
use Rattle.bits.proofs.Holds.{Holds}
use Rattle.packing.specs.Meaning.{symbol_of, Grammar, Utterance, Reading, Heard, slots, graph, heard_edges, last_place, Graph}
use Rattle.packing.specs.Parse.{parsed}
use Rattle.packing.specs.Source.{bytes, field_at, flds}
use Rattle.packing.specs.Grammar.{block_kind}
use Rattle.packing.specs.Reading.{reading_from, reading_weight}
use Rattle.packing.specs.GraphReading.{path_edges, GraphHead, graph_head_from, graph_reading_bits, trace_entries}
use Rattle.packing.specs.Valid.{ValidGrammar, ValidHeard}
use Rattle.packing.proofs.Parse.{picked_first, through, same_parsed, parsed_else}
use Rattle.packing.proofs.Taking.{field_at_bytes_out}
use Rattle.packing.proofs.Graph.{valid_edge_count}
use Rattle.derivation.specs.Derivation.{Tree, walk}
use Rattle.derivation.specs.Heard.{path_length, trace}
use Rattle.derivation.specs.Rank.{◌∈◌}
use Rattle.derivation.specs.List.{trees}
use Rattle.derivation.proofs.Ranges.{valid_ascending, valid_rules}
use Rattle.derivation.proofs.Slots.{edges_apart}
use Rattle.derivation.proofs.Readings.{walk_one}
use Rattle.derivation.proofs.Trees.{trees_derive}
use Rattle.derivation.proofs.HeardReadings.{heard_forward}
use Rattle.derivation.proofs.Path.{stands_one}
use Rattle.checker.specs.Judgement.{Fields, walked, headed, fields_from, HasNodes, Has}
use Rattle.checker.specs.Check.{same, has_bits, fits, first_with, derivation_of}

-- the tests say what they are to say
same_out : (a b : List ℕ) → same a b ≡ true → a ≡ b
same_out [] [] e = refl
same_out [] (y ∷ b) e = absurd (false≢true e)
same_out (x ∷ a) [] e = absurd (false≢true e)
same_out (x ∷ a) (y ∷ b) e =
    let (h, f) = picked_first (eqb x y) (same a b) false false≢true e in
    rw (eqb-true x y h, same_out a b f)

same_self : (a : List ℕ) → same a a ≡ true
same_self [] = refl
same_self (x ∷ a) = rw (eq-eqb x x refl) (same_self a)

bits_out : (s : List ℕ) (at : ℕ) (bs : List ℕ) → has_bits s at bs ≡ true → Holds s at bs
unfolding has_bits
bits_out s at [] e = let l = leb-true at (8 * length s) e in (omega arith, λ k h. absurd (omega arith))
bits_out s at (b ∷ bs) e =
    let (h, f) = picked_first (eqb (bit_at s at) b) (has_bits s (suc at) bs) false false≢true e in
    let (l, more) = bits_out s (suc at) bs f in
    (omega arith, go (eqb-true (bit_at s at) b h) more)
  where
    go : bit_at s at ≡ b → ((k : ℕ) → k < length bs → bit_at s (suc at + k) ≡ get_or bs k 0) → (k : ℕ) → k < length (b ∷ bs) → bit_at s (at + k)
        ≡ get_or (b ∷ bs) k 0
    go h more zero l = rw add-zero h
    go h more (suc k) l = let z : at + suc k ≡ suc at + k = omega arith in rw z (more k (omega arith))

bits_in : (s : List ℕ) (at : ℕ) (bs : List ℕ) → Holds s at bs → has_bits s at bs ≡ true
unfolding has_bits
bits_in s at [] (l, h) = le-leb at (8 * length s) (omega arith)
bits_in s at (b ∷ bs) (l, h) =
    let first : bit_at s at ≡ b = rw add-zero at (h 0 (omega arith)) in
    let z : (k : ℕ) → at + suc k ≡ suc at + k = λ k. omega arith in
    rw (eq-eqb (bit_at s at) b first) (bits_in s (suc at) bs (omega arith, λ k m. rw (← z k) (h (suc k) (omega arith))))

module _ (R : ℕ) (block : List ℕ) where
  fits_out : (d : Fields) (t : Tree) → fits R block d t ≡ true → HasNodes R block d t
  fits_out (walked d) t e = same_out (walk t) d.walk e
  fits_out (headed d) t e =
      let bits : List ℕ = bits_of_all (flds (trace_entries R (trace t))) in
      let (n, f) = picked_first (eqb (path_length t) d.edges) (has_bits block 34 bits) false false≢true e in
      (eqb-true (path_length t) d.edges n, bits_out block 34 bits f)

  fits_in : (d : Fields) (t : Tree) → HasNodes R block d t → fits R block d t ≡ true
  fits_in (walked d) t e = rw e (same_self d.walk)
  fits_in (headed d) t (n, e) = rw (eq-eqb (path_length t) d.edges n) (bits_in block 34 (bits_of_all (flds (trace_entries R (trace t)))) e)

-- the tree that is found has what was read, and where none is found no tree has it
abbrev pub Found : (Tree → Type 0) → Option Tree → Type 0
Found P (some t) = P t
Found P none = (t : Tree) → ¬ P t

first_with_lem : (test : Tree → Bool) (ts : List Tree) → Found (λ t. t ∈ ts × (test t ≡ true)) (first_with test ts)
unfolding first_with
first_with_lem test [] = λ t (m, e). Memᴰ.not-nil m
first_with_lem test (s ∷ ts) = go (test s) refl (first_with test ts) (first_with_lem test ts)
  where
    go : (b : Bool) → test s ≡ b → (o : Option Tree) → Found (λ t. t ∈ ts × (test t ≡ true)) o
        → Found (λ t. t ∈ (s ∷ ts) × (test t ≡ true)) (pick b (some s) o)
    go true h o f = (Memᴰ.head refl, h)
    go false h (some t) (m, e) = (Memᴰ.tail m, e)
    go false h none f = λ t (m, e). ⊎_elim (λ p. false≢true (sym h ∙ ap test (sym p) ∙ e)) (λ n. f t (n, e)) (Memᴰ.cases_cons m)

module _ (g : Grammar) (h : Heard) (block : List ℕ) (d : Fields) where
  pub derivation_found : Found (Has block g h d) (derivation_of g h block d)
  unfolding derivation_of
  derivation_found =
      go (derivation_of g h block d) (first_with_lem (fits (length g.rules) block d) (trees g (heard_edges h) (symbol_of 0) 0 (last_place h)))
    where
      go : (o : Option Tree)
          → Found (λ t. t ∈ trees g (heard_edges h) (symbol_of 0) 0 (last_place h) × (fits (length g.rules) block d t ≡ true)) o → Found (Has block g h d) o
      go (some t) (m, e) = ((trees_derive g (heard_edges h) (symbol_of 0) 0 (last_place h) t).0 m, fits_out (length g.rules) block d t e)
      go none f = λ t (c, e). f t ((trees_derive g (heard_edges h) (symbol_of 0) 0 (last_place h) t).1 c, fits_in (length g.rules) block d t e)

-- n of a graph's reading, and that the block has room for its nodes
pub head_read : (most R : ℕ) (block : List ℕ) {d : GraphHead} {at : ℕ} → graph_head_from most R block ≡ parsed d at
    → (at ≡ 34) × (1 ≤ d.edges) × (d.edges ≤ most) × (graph_reading_bits d.edges R ≤ 8 * length block)
unfolding graph_head_from
head_read most R block e =
    let src = bytes 31 block in
    through (field_at src 0 (block_kind 6 32)) _ e λ kind a p e. through (field_at src a (path_edges most)) _ e λ n b q e.
    let (room, e) = parsed_else (ltb (8 * length block) (graph_reading_bits n R)) _ _ e in
    through (field_at src b reading_weight) _ e λ v c r e.
    let x = field_at_bytes_out 31 block 0 (block_kind 6 32) p in
    let y = field_at_bytes_out 31 block a (path_edges most) q in
    let z = field_at_bytes_out 31 block b reading_weight r in
    let at : c ≡ 34 = omega (arith, x.2, y.2, z.2) in
    same_parsed (λ (d : GraphHead) at. (at ≡ 34) × (1 ≤ d.edges) × (d.edges ≤ most) × (graph_reading_bits d.edges R ≤ 8 * length block)) e
    (at, y.3.0, y.3.1, ltb-false _ _ room)

-- which of the two kinds was read
pub slots_fields : (g : Grammar) (u : Utterance) (block : List ℕ) (P : Fields → ℕ → Type 0) {d : Fields} {at : ℕ} → fields_from g (slots u) block ≡ parsed d at
    → ((r : Reading) (at : ℕ) → reading_from (length u) (length g.rules) block ≡ parsed r at → P (walked r) at) → P d at
unfolding fields_from
slots_fields g u block P e f = through (reading_from (length u) (length g.rules) block) _ e λ r at p k. same_parsed P k (f r at p)

pub graph_fields : (g : Grammar) (h : Graph) (block : List ℕ) (P : Fields → ℕ → Type 0) {d : Fields} {at : ℕ} → fields_from g (graph h) block ≡ parsed d at
    → ((r : GraphHead) (at : ℕ) → graph_head_from (h.places - 1) (length g.rules) block
    ≡ parsed r at → P (headed r) (graph_reading_bits r.edges (length g.rules))) → P d at
unfolding fields_from
graph_fields g h block P e f = through (graph_head_from (h.places - 1) (length g.rules) block) _ e λ r at p k. same_parsed P k (f r at p)

-- there is one at most
pub has_one : (g : Grammar) (h : Heard) (block : List ℕ) {d : Fields} {at : ℕ} → ValidGrammar g → ValidHeard g.words h → fields_from g h block ≡ parsed d at
    → (s t : Tree) → Has block g h d s → Has block g h d t → s ≡ t
has_one g (slots u) block {d} {at} okg ok e =
    slots_fields g u block (λ d at. (s t : Tree) → Has block g (slots u) d s → Has block g (slots u) d t → s ≡ t) e
    (λ r at p s t (c, m) (c', m'). walk_one g (heard_edges (slots u)) (edges_apart 0 u (valid_ascending g.words u ok)) c c' (m ∙ sym m'))
has_one g (graph h) block okg ok e =
    graph_fields g h block (λ d at. (s t : Tree) → Has block g (graph h) d s → Has block g (graph h) d t → s ≡ t) e
    (λ r at p s t (c, (n, m)) (c', (n', m')).
    let room = head_read (h.places - 1) (length g.rules) block p in
    stands_one g h.edges (heard_forward g.words (graph h) ok) (omega (arith, valid_edge_count g.words h ok)) (valid_rules g okg) (h.places - 1)
    r.edges block
    (omega (arith, room.3)) s t (record { derives = c; edges = n; nodes = m }) (record { derives = c'; edges = n'; nodes = m' }))
