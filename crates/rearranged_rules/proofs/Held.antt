-- A derivation's reading, as it stands in the output, holds its weight in the 24 bits behind its kind and its n: of slots and of a graph it
-- was packed from fields that begin so, and zeros behind them change nothing.
use mathlib.Core.Path.{◌≡◌, refl}
use mathlib.Core.List.{List, ◌∷◌}
use Prim.Native.Nat.{ℕ}
use native.Mathlib.Omega.{arith}
use lib.ListN.{length}
use Rattle.bits.specs.Bits.{field}
use Rattle.packing.specs.Meaning.{Grammar, Heard, slots, graph, heard_edges}
use Rattle.packing.specs.Source.{bytes, Entry, entry, Field}
use Rattle.packing.specs.Reading.{reading_weight, reading_entries, block_of_reading}
use Rattle.packing.specs.GraphReading.{graph_reading_entries}
use Rattle.packing.specs.Valid.{ValidGrammar, ValidHeard}
use Rattle.packing.proofs.Taking.{field_at_bytes_out}
use Rattle.packing.proofs.Taken.{Taken, more}
use Rattle.packing.proofs.Whole.{block_taken}
use Rattle.packing.proofs.GraphReading.{padded_taken}
use Rattle.derivation.specs.Derivation.{Tree, weight, Derivation, reading}
use Rattle.derivation.specs.Heard.{graph_reading, output_length, packed}
use Rattle.derivation.proofs.Theorems.{reading_packs}
use Rattle.derivation.proofs.HeardReadings.{graph_reading_packs}

third_field : (s : List ℕ) (kind n : Field) (a b w : ℕ) (es : List Entry) {next : ℕ} → kind.width ≡ 4 → n.width ≡ 6
    → Taken (bytes 31 s) 0 (entry kind a ∷ entry n b ∷ entry reading_weight w ∷ es) next → field s 10 24 ≡ w
third_field s kind n a b w es k m (more {mid = i} p (more {mid = j} q (more r t))) =
    let (_, _, first, _) = field_at_bytes_out 31 s 0 kind p in
    let (_, _, second, _) = field_at_bytes_out 31 s i n q in
    let place : j ≡ 10 = omega arith in
    rw place at (field_at_bytes_out 31 s j reading_weight r).1

pub weight_held_lem : (g : Grammar) (h : Heard) → ValidGrammar g → ValidHeard g.words h → (t : Tree) → Derivation g h t
    → field (packed g h t) 10 24 ≡ weight g (heard_edges h) t
unfolding reading reading_entries block_of_reading graph_reading graph_reading_entries
weight_held_lem g (slots u) ok v t d =
    let (f, w, _) = reading_packs g u ok v t d in
    third_field (packed g (slots u) t) _ _ _ _ _ _ refl refl (block_taken 31 (reading_entries (length g.rules) (reading g u t)) f w)
weight_held_lem g (graph x) ok v t d =
    third_field (packed g (graph x) t) _ _ _ _ _ _ refl refl
    (padded_taken (length g.rules) (output_length g (graph x)) (graph_reading g x t) (graph_reading_packs g ok x v t d))
