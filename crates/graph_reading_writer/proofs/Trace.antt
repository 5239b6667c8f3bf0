-- A reading's fields, written one after the other into zeros, are its block and the zeros behind it. Assumes nothing.
use mathlib.Core.Path.{◌≡◌, refl, ap, ◌∙◌}
use mathlib.Core.List.{List, [], ◌++◌, append_assoc, map-append}
use Prim.Native.Nat.{ℕ, suc, ◌+◌, ◌-◌, ◌*◌, ◌≤◌, ◌<◌}
use native.Mathlib.Omega.{arith}
use lib.ListN.{length, take, drop, get_or, replicate, length-append, length-replicate, length-drop}
use lib.Seq.{drop-cons, get_or-drop}
use Rattle.bits.specs.Put.{put, puts}
use Rattle.bits.specs.Bits.{pack}
use Rattle.bits.specs.Width.{width_of}
use Rattle.bits.specs.Fields.{Fld, widths, bits_of_all}
use Rattle.bits.proofs.Fields.{puts_block, length_block}
use Rattle.bits.proofs.Remaining.{Remaining}
use Rattle.packing.specs.declared.Sym.{Sym}
use Rattle.packing.specs.declared.Word as W
use Rattle.packing.specs.declared.Rule.{Rule}
use Rattle.packing.specs.declared.Rule.TheVariants.{Pair, Word}
use Rattle.packing.specs.Meaning.{Node, by_pair, by_word}
use Rattle.packing.specs.Source.{fld_of, flds}
use Rattle.packing.specs.Flat.{rule_at, node_by, nodes_in}
use Rattle.packing.specs.GraphReading.{node_entries, trace_entries, graph_reading_entries, block_of_graph_reading, padded}
use Rattle.packing.proofs.Zeros.{zeros_drop, zeros_below}
use Rattle.graph_reading_writer.specs.Answer.{graph_reading_of, node_fields}

-- a node's fields are its entries'
node_flds : (R : ℕ) (x : Node) → flds (node_entries R x) ≡ node_fields (width_of (R - 1)) x
node_flds R (by_pair r) = refl
node_flds R (by_word r e) = refl

-- they take at most 15 bits
pub node_width : (w : ℕ) (x : Node) → w ≤ 8 → (w ≤ widths (node_fields w x)) × (widths (node_fields w x) ≤ 15)
unfolding widths
node_width w (by_pair r) h = (omega arith, omega arith)
node_width w (by_word r e) h = (omega arith, omega arith)

module _ (R : ℕ) (rules : List ℕ) where
  -- the nodes of an array, and what is left to write of n nodes behind the first i
  abbrev pub node_at : List ℕ → ℕ → Node
  node_at trace i = node_by (rule_at rules (get_or trace (2 * i) 0)) (get_or trace (2 * i) 0) (get_or trace (2 * i + 1) 0)

  abbrev pub rest : List ℕ → ℕ → ℕ → List Fld
  rest trace n i = flds (trace_entries R (nodes_in rules (take (2 * (n - i)) (drop (2 * i) trace))))

  module _ (trace : List ℕ) (n i : ℕ) where
    rest_more : {w : ℕ} → w ≡ width_of (R - 1) → i < n → 2 * n ≤ length trace → rest trace n i ≡ node_fields w (node_at trace i) ++ rest trace n (i + 1)
    unfolding trace_entries nodes_in
    rest_more e l h =
        let z : 2 * (n - i) ≡ suc (suc (2 * (n - (i + 1)))) = omega arith in
        let y : suc (suc (2 * i)) ≡ 2 * (i + 1) = omega arith in
        let x : suc (2 * i) ≡ 2 * i + 1 = omega arith in
        let a = drop-cons trace (2 * i) 0 (omega arith) in
        let b = drop-cons trace (suc (2 * i)) 0 (omega arith) in
        rw (z, a, b, y, x, e) (map-append fld_of (node_entries R (node_at trace i))
        (trace_entries R (nodes_in rules (take (2 * (n - (i + 1))) (drop (2 * (i + 1)) trace))))
        ∙ ap (λ (fs : List Fld). fs ++ rest trace n (i + 1)) (node_flds R (node_at trace i)))

    pub node_remains : {w : ℕ} → w ≡ width_of (R - 1) → i < n → 2 * n ≤ length trace → {o out : List ℕ} {start at : ℕ} {fs : List Fld}
        → Remaining o start fs out at (rest trace n i) → Remaining o start fs out at (node_fields w (node_at trace i) ++ rest trace n (i + 1))
    node_remains e l h r = rw (rest_more e l h) at r

    pub rest_end : n ≤ i → rest trace n i ≡ []
    unfolding trace_entries nodes_in
    rest_end l = let z : 2 * (n - i) ≡ 0 = omega arith in rw z

  -- the whole from its fields
  module _ (n w size : ℕ) (trace o : List ℕ) where
    abbrev fields : List Fld
    fields = flds (trace_entries R (nodes_in rules (take (2 * (2 * n - 1)) trace)))

    pub graph_reading_written : size ≤ length o → 34 + widths fields ≤ 8 * size → ((i : ℕ) → get_or o i 0 < 256) → {zeros kind edges weight out : List ℕ}
        → zeros ≡ replicate size 0 ++ drop size o → kind ≡ put zeros 0 4 6 → edges ≡ put kind 4 6 n → weight ≡ put edges 10 24 w → out ≡ puts weight 34 fields
        → out ≡ padded size (block_of_graph_reading R (graph_reading_of rules n w trace)) ++ drop size o
    unfolding graph_reading_entries block_of_graph_reading padded puts widths
    graph_reading_written fits room y {zeros} e₁ e₂ e₃ e₄ e =
        let all : List Fld = flds (graph_reading_entries R (graph_reading_of rules n w trace)) in
        let below : (i : ℕ) → get_or zeros i 0 < 256 = rw e₁ (zeros_below 256 size (drop size o) (omega arith) (λ i. rw get_or-drop (y (size + i)))) in
        let long : length zeros ≡ length o = rw e₁ (simp (length-append, length-replicate, length-drop) (omega arith)) in
        let bits : widths all ≤ 8 * size = omega arith in
        let short : length (pack (bits_of_all all)) ≤ size = rw length_block (omega arith) in
        let laid_out = rw (e₄, e₃, e₂) at e ∙ puts_block zeros all below (omega arith) in
        laid_out ∙ rw (e₁, zeros_drop (length (pack (bits_of_all all))) size (drop size o) short, append_assoc)

-- the node of a rule that was found
module _ (rules : List ℕ) (r e : ℕ) {x : Rule} {i : ℕ} (found : x ≡ rule_at rules i) (same : i ≡ r) where
  pub pair_node : {a b c : Sym} {w : ℕ} → x ≡ Pair a b c w → node_by (rule_at rules r) r e ≡ by_pair r
  pair_node p = rw (← same, ← found, p)

  pub word_node : {a : Sym} {y : W.Word} {w : ℕ} → x ≡ Word a y w → node_by (rule_at rules r) r e ≡ by_word r e
  word_node p = rw (← same, ← found, p)

-- its fields, written
module _ (o : List ℕ) (at w r e : ℕ) {x : Node} where
  pub pair_written : x ≡ by_pair r → {out : List ℕ} {next : ℕ} → out ≡ put o at w r → next ≡ at + w
      → (out ≡ puts o at (node_fields w x)) × (next ≡ at + widths (node_fields w x))
  unfolding puts widths
  pair_written p q n = rw p (q, omega arith)

  pub word_written : x ≡ by_word r e → {mid out : List ℕ} {next : ℕ} → mid ≡ put o at w r → out ≡ put mid (at + w) 7 e → next ≡ at + w + 7
      → (out ≡ puts o at (node_fields w x)) × (next ≡ at + widths (node_fields w x))
  unfolding puts widths
  word_written p q s n = rw p (rw (← q) s, omega arith)

  pub word_room : x ≡ by_word r e → at + widths (node_fields w x) ≡ at + w + 7
  unfolding widths
  word_room p = rw p (omega arith)
