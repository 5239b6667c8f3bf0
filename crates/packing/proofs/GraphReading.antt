-- The readings of a graph: their lengths, that their values can be written, and that a block, zeros behind it or not, decides its
-- reading where a rule's number decides its kind. For then each field that is taken decides where the next one stands.
-- Assumes nothing.
use mathlib.Core.Path.{◌≡◌, refl, sym, ap, subst, ◌∙◌}
use mathlib.Core.Bool.{Bool, true, false, false≢true}
use mathlib.Core.List.{List, [], ◌∷◌, ◌++◌}
use Prim.Native.Nat.{ℕ, ◌+◌, ◌-◌, ◌*◌, ◌/◌, ◌%◌, ◌^◌, ◌≤◌, ◌<◌}
use native.Mathlib.Nat.{mul-le-mul, mul-le-mul_right, zero-mul, suc-mul}
use native.Mathlib.Omega.{arith}
use borrow.Author.Tests.{le-ltb}
use lib.Dec.{ltb}
use lib.ListN.{length, replicate, length-append, length-replicate, get_or-append}
use Rattle.bits.specs.Bits.{bit_of, pack, ended}
use Rattle.bits.specs.Width.{width_of}
use Rattle.bits.specs.Fields.{widths, bits_of_all}
use Rattle.bits.proofs.Holds.{Holds}
use Rattle.bits.proofs.Fields.{length_block, holds_block, block_ended}
use Rattle.packing.specs.Meaning.{Node, by_pair, by_word, GraphReading}
use Rattle.packing.specs.Parse.{parsed}
use Rattle.packing.specs.Source.{Source, bytes, field_at, Entry, flds}
use Rattle.packing.specs.Reading.{reading_weight}
use Rattle.packing.specs.Grammar.{block_kind}
use Rattle.packing.specs.GraphReading.{
  path_edges,
  trace_entries,
  graph_reading_entries,
  block_of_graph_reading,
  graph_reading_bits,
  graph_reading_length,
  padded,
  word_nodes,
  GraphHead,
  graph_head_from,
  TraceIn,
}
use Rattle.packing.specs.Valid.{Bytes, InWidth, Each, Fits, ValidGraphReading}
use Rattle.packing.proofs.Parse.{through, same_parsed, parsed_else}
use Rattle.packing.proofs.Bounds.{field_at_range}
use Rattle.packing.proofs.Taking.{field_at_bytes, field_at_bytes_out}
use Rattle.packing.proofs.Taken.{Taken, more, taken_held, held_taken}
use Rattle.packing.proofs.Whole.{taken_block, block_taken}
use Rattle.packing.proofs.Widths.{byte_width, number_room}

-- lengths
pub trace_bits : (R : ℕ) (xs : List Node) → widths (flds (trace_entries R xs)) ≡ length xs * width_of (R - 1) + 7 * word_nodes xs
unfolding trace_entries word_nodes widths
trace_bits R [] = simp zero-mul
trace_bits R (by_pair r ∷ xs) = rw (trace_bits R xs, suc-mul (length xs) (width_of (R - 1))) (omega arith)
trace_bits R (by_word r e ∷ xs) = rw (trace_bits R xs, suc-mul (length xs) (width_of (R - 1))) (omega arith)

pub graph_reading_bits_lem : (R : ℕ) (d : GraphReading) → length d.trace ≡ 2 * d.edges - 1 → word_nodes d.trace ≡ d.edges
    → widths (flds (graph_reading_entries R d)) ≡ graph_reading_bits d.edges R
unfolding graph_reading_entries widths
graph_reading_bits_lem R d l w = rw (trace_bits, l, w) (omega arith)

pub length_graph_reading : (R : ℕ) (d : GraphReading) → length d.trace ≡ 2 * d.edges - 1 → word_nodes d.trace ≡ d.edges
    → length (block_of_graph_reading R d) ≡ graph_reading_length d.edges R
unfolding block_of_graph_reading graph_reading_length
length_graph_reading R d l w = rw (length_block, graph_reading_bits_lem R d l w)

-- fewer edges take no more bytes
pub length_less : (m n R : ℕ) → m ≤ n → graph_reading_length m R ≤ graph_reading_length n R
unfolding graph_reading_length
length_less m n R h =
    let k : 2 * m - 1 ≤ 2 * n - 1 = omega arith in
    omega (arith, mul-le-mul_right (width_of (R - 1)) k)

pub graph_length_small : (n R : ℕ) → n ≤ 24 → R ≤ 256 → graph_reading_length n R ≤ 73
unfolding graph_reading_length
graph_length_small n R h r =
    let m : (2 * n - 1) * width_of (R - 1) ≤ 47 * 8 = mul-le-mul {n₂ = 47} {m₂ = 8} (omega arith) (byte_width R r) in
    omega arith

pub length_padded : (L : ℕ) (block : List ℕ) → length block ≤ L → length (padded L block) ≡ L
unfolding padded
length_padded L block h = simp (length-append, length-replicate) (omega arith)

-- rule numbers below R and edge numbers below 128 can be written
abbrev pub NodesBelow : ℕ → List Node → Type 0
NodesBelow R [] = Unit {0}
NodesBelow R (by_pair r ∷ xs) = (r < R) × NodesBelow R xs
NodesBelow R (by_word r e ∷ xs) = (r < R) × (e < 128) × NodesBelow R xs

module _ (R : ℕ) (h : R ≤ 256) where
  pub trace_fits : (xs : List Node) → NodesBelow R xs → Fits (trace_entries R xs) × Each InWidth (trace_entries R xs)
  unfolding trace_entries
  trace_fits [] b = (tt, tt)
  trace_fits (by_pair r ∷ xs) (l, b) =
      let (f, w) = trace_fits xs b in
      (((omega arith, omega arith), f), (number_room r R (omega arith) h (omega arith), w))
  trace_fits (by_word r e ∷ xs) (l, m, b) =
      let (f, w) = trace_fits xs b in
      (((omega arith, omega arith), ((omega arith, omega arith), f)), (number_room r R (omega arith) h (omega arith), (omega arith, w)))

  pub graph_reading_valid : (d : GraphReading) → 1 ≤ d.edges → d.edges < 2 ^ 6 → d.weight < 2 ^ 24 → length d.trace ≡ 2 * d.edges - 1
      → word_nodes d.trace ≡ d.edges → NodesBelow R d.trace → ValidGraphReading R d
  unfolding graph_reading_entries
  graph_reading_valid d o n w l k b =
      let (f, r) = trace_fits d.trace b in
      (((omega arith, omega arith), ((omega arith, omega arith), ((omega arith, omega arith), f))), (omega arith, (n, (w, r))), l, k)

-- a rule's number says whether it is a word rule
abbrev pub Kinded : (ℕ → Bool) → List Node → Type 0
Kinded isWord [] = Unit {0}
Kinded isWord (by_pair r ∷ xs) = (isWord r ≡ false) × Kinded isWord xs
Kinded isWord (by_word r e ∷ xs) = (isWord r ≡ true) × Kinded isWord xs

module _ (isWord : ℕ → Bool) (src : Source) (R : ℕ) where
  pub trace_decided : (xs ys : List Node) {at m n : ℕ} → Kinded isWord xs → Kinded isWord ys → length xs ≡ length ys
      → Taken src at (trace_entries R xs) m → Taken src at (trace_entries R ys) n → xs ≡ ys
  unfolding trace_entries
  trace_decided [] [] k l e t u = refl
  trace_decided [] (y ∷ ys) k l e t u = absurd (omega arith)
  trace_decided (x ∷ xs) [] k l e t u = absurd (omega arith)
  trace_decided (by_pair r ∷ xs) (by_pair s ∷ ys) {n = n} (k, ks) (l, ls) e (more {mid = a} p t) (more {mid = b} q u) =
      let same : r ≡ s = cc in
      let next : b ≡ a = cc in
      rw (same, trace_decided xs ys ks ls (omega arith) t (subst (λ i. Taken src i (trace_entries R ys) n) next u))
  trace_decided (by_pair r ∷ xs) (by_word s f ∷ ys) (k, ks) (l, ls) e (more p t) (more q u) =
      let same : r ≡ s = cc in absurd (false≢true (sym k ∙ ap isWord same ∙ l))
  trace_decided (by_word r d ∷ xs) (by_pair s ∷ ys) (k, ks) (l, ls) e (more p t) (more q u) =
      let same : s ≡ r = cc in absurd (false≢true (sym l ∙ ap isWord same ∙ k))
  trace_decided (by_word r d ∷ xs) (by_word s f ∷ ys) {n = n} (k, ks) (l, ls) e (more {mid = a} p (more {mid = b} p' t))
      (more {mid = a'} q (more {mid = b'} q' u)) =
      let same : r ≡ s = cc in
      let mid : a ≡ a' = cc in
      let edges : d ≡ f = cc in
      let next : b' ≡ b = cc in
      rw (same, edges, trace_decided xs ys ks ls (omega arith) t (subst (λ i. Taken src i (trace_entries R ys) n) next u))

-- bits that a block holds are held where it goes on
holds_longer : (s z bs : List ℕ) → Holds s 0 bs → Holds (s ++ z) 0 bs
holds_longer s z bs (l, h) = (
  simp length-append (omega arith),
  λ k b. ap (λ (v : ℕ). bit_of 8 v ((0 + k) % 8)) (get_or-append s z 0 ((0 + k) / 8) (omega arith)) ∙ h k b,
)

module _ (R L : ℕ) where
  abbrev out : GraphReading → List ℕ
  out d = padded L (block_of_graph_reading R d)

  pub padded_taken : (d : GraphReading) → ValidGraphReading R d
      → Taken (bytes 31 (out d)) 0 (graph_reading_entries R d) (0 + widths (flds (graph_reading_entries R d)))
  unfolding padded block_of_graph_reading
  padded_taken d (f, w, l, k) =
      let es : List Entry = graph_reading_entries R d in
      let block : List ℕ = pack (bits_of_all (flds es)) in
      let zeros : List ℕ = replicate (L - length block) 0 in
      held_taken 31 (block ++ zeros) 0 es f w (holds_longer block zeros (bits_of_all (flds es)) (holds_block (flds es)))

-- "each reading taken with its zeros"
module _ (isWord : ℕ → Bool) (R L : ℕ) (d e : GraphReading) where
  pub graph_reading_decided : ValidGraphReading R d → ValidGraphReading R e → Kinded isWord d.trace → Kinded isWord e.trace → out R L d ≡ out R L e
      → d ≡ e
  unfolding graph_reading_entries
  graph_reading_decided v u k l same =
      go (padded_taken R L d v)
      (subst (λ s. Taken (bytes 31 s) 0 (graph_reading_entries R e) (0 + widths (flds (graph_reading_entries R e)))) (sym same) (padded_taken R L e u))
    where
      s : List ℕ
      s = out R L d

      go : {m n : ℕ} → Taken (bytes 31 s) 0 (graph_reading_entries R d) m → Taken (bytes 31 s) 0 (graph_reading_entries R e) n → d ≡ e
      go {n = n} (more {mid = a} p (more {mid = b} q (more {mid = c} r t))) (more {mid = a'} p' (more {mid = b'} q' (more {mid = c'} r' t'))) =
          let starts : a ≡ a' = cc in
          let x = field_at_bytes_out 31 s a (path_edges d.edges) q in
          let y = field_at_bytes_out 31 s a (path_edges e.edges)
          (subst (λ i. field_at (bytes 31 s) i (path_edges e.edges) ≡ parsed e.edges b') (sym starts) q') in
          let edges : d.edges ≡ e.edges = sym x.1 ∙ y.1 in
          let ends : b ≡ b' = sym x.2 ∙ y.2 in
          let weights : d.weight ≡ e.weight = cc in
          let begins : c' ≡ c = cc in
          let m : length d.trace ≡ length e.trace = omega (arith, v.2, u.2) in
          let traces = trace_decided isWord (bytes 31 s) R d.trace e.trace k l m t
          (subst (λ i. Taken (bytes 31 s) i (trace_entries R e.trace) n) begins t') in
          λ i. record { edges = edges i; weight = weights i; trace = traces i }

-- a block for paths of at most `most` edges has the head of its reading and the bits of its nodes, and ends behind them; and what has
-- these is the block
module _ (most R : ℕ) (s : List ℕ) (d : GraphReading) where
  path_field : (at m n : ℕ) {v next : ℕ} → v ≤ n → field_at (bytes 31 s) at (path_edges m) ≡ parsed v next → field_at (bytes 31 s) at (path_edges n)
      ≡ parsed v next
  path_field at m n l e =
      let (b, v, k, r) = field_at_bytes_out 31 s at (path_edges m) e in
      let f = field_at_bytes 31 s at (path_edges n) b (omega arith, omega arith) in
      rw (v, k) at f

  abbrev pub Stands : Type 0
  Stands =
      (graph_head_from most R s ≡ parsed (record { edges = d.edges; weight = d.weight }) 34) × TraceIn R d.trace s
      × (ended s (graph_reading_bits d.edges R) ≡ true)

  -- where its entries are taken and there is room, its head is read, and its nodes are taken behind it
  pub head_read : graph_reading_bits d.edges R ≤ 8 * length s → d.edges ≤ most → {n : ℕ} → Taken (bytes 31 s) 0 (graph_reading_entries R d) n
      → (graph_head_from most R s ≡ parsed (record { edges = d.edges; weight = d.weight }) 34) × Taken (bytes 31 s) 34 (trace_entries R d.trace) n
  unfolding graph_reading_entries graph_head_from
  head_read room h {n} (more {mid = a} p (more {mid = b} q (more {mid = c} r t))) =
      let x = field_at_bytes_out 31 s 0 (block_kind 6 32) p in
      let y = field_at_bytes_out 31 s a (path_edges d.edges) q in
      let z = field_at_bytes_out 31 s b reading_weight r in
      let at : c ≡ 34 = omega (arith, x.2, y.2, z.2) in (
        rw (p, path_field a d.edges most h q, le-ltb (8 * length s) (graph_reading_bits d.edges R) room, r, at),
        subst (λ i. Taken (bytes 31 s) i (trace_entries R d.trace) n) at t,
      )

  stands : length s ≡ (graph_reading_bits d.edges R + 7) / 8 → ended s (graph_reading_bits d.edges R) ≡ true → d.edges ≤ most → {n : ℕ}
      → Taken (bytes 31 s) 0 (graph_reading_entries R d) n → Stands
  stands long end h t =
      let room : graph_reading_bits d.edges R ≤ 8 * length s = omega (arith, long) in
      let (head, nodes) = head_read room h t in
      (head, (taken_held 31 s (omega arith) nodes).2, end)

  pub graph_reading_back : ValidGraphReading R d → d.edges ≤ most → s ≡ block_of_graph_reading R d → Stands
  unfolding block_of_graph_reading
  graph_reading_back (f, w, l, k) h e =
      let es : List Entry = graph_reading_entries R d in
      let size : widths (flds es) ≡ graph_reading_bits d.edges R = graph_reading_bits_lem R d l k in
      let long : length s ≡ (graph_reading_bits d.edges R + 7) / 8 = ap length e ∙ rw (length_block, size) in
      let end : ended s (graph_reading_bits d.edges R) ≡ true = rw (e, ← size) (block_ended (flds es)) in
      stands long end h (subst (λ b. Taken (bytes 31 b) 0 es (widths (flds es))) (sym e) (block_taken 31 es f w))

  pub graph_reading_out : ValidGraphReading R d → Bytes s → Stands → s ≡ block_of_graph_reading R d
  unfolding block_of_graph_reading graph_reading_entries graph_head_from
  graph_reading_out (f, w, l, k) y (e, t, end) =
      let src : Source = bytes 31 s in
      through (field_at src 0 (block_kind 6 32)) _ e λ kind a p e. through (field_at src a (path_edges most)) _ e λ n b q e.
      let (room, e) = parsed_else (ltb (8 * length s) (graph_reading_bits n R)) _ _ e in
      through (field_at src b reading_weight) _ e λ v c r e.
      let six : kind ≡ 6 = omega (arith, field_at_range (block_kind 6 32) src 0 p) in
      let edges : n ≡ d.edges = same_parsed (λ (x : GraphHead) j. n ≡ x.edges) e refl in
      let weight : v ≡ d.weight = same_parsed (λ (x : GraphHead) j. v ≡ x.weight) e refl in
      let at : c ≡ 34 = same_parsed (λ (x : GraphHead) j. c ≡ j) e refl in
      let q' : field_at src a (path_edges d.edges) ≡ parsed d.edges b = path_field a most d.edges (omega arith) (rw edges at q) in
      let r' : field_at src b reading_weight ≡ parsed d.weight 34 = rw (weight, at) at r in
      let rest = held_taken 31 s 34 (trace_entries R d.trace) f.1.1.1 w.1.1.1 t in
      let size : 34 + widths (flds (trace_entries R d.trace)) ≡ graph_reading_bits d.edges R = rw (trace_bits, l, k) (omega arith) in
      taken_block 31 s (graph_reading_entries R d) y (more (rw six at p) (more q' (more r' rest))) (rw size end)
