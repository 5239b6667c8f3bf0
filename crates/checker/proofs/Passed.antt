-- What passes: a derivation has the nodes and the weight that were read, and the block ends behind them. A block that is read to its end
-- is the packing of what was read (packing's theorems), so it is the derivation's own.
use mathlib.Core.Path.{◌≡◌, refl, sym, ap, ◌∙◌}
use mathlib.Core.Bool.{true}
use mathlib.Core.List.{List}
use mathlib.Core.Option.{Option, none, some}
use Prim.Native.Nat.{ℕ, ◌-◌}
use borrow.Author.Tests.{eqb-true, eq-eqb}
use lib.Dec.{eqb}
use lib.ListN.{length}
use Rattle.bits.specs.Bits.{pick, ended}
use Rattle.packing.specs.Meaning.{Grammar, Utterance, Reading, edges, Graph, Heard, slots, graph, heard_edges}
use Rattle.packing.specs.Parse.{Parse, parsed, failed, Verdict, accepted, refused}
use Rattle.packing.specs.Reading.{reading_from, block_of_reading}
use Rattle.packing.specs.GraphReading.{GraphHead, graph_head_from, graph_reading_bits}
use Rattle.packing.specs.Valid.{Bytes, ValidGrammar, ValidUtterance, ValidGraph, ValidHeard}
use Rattle.packing.proofs.Parse.{refused≢accepted, picked_first, accepted_is}
use Rattle.packing.proofs.Theorems.{reading_block_accepted}
use Rattle.packing.proofs.GraphTheorems.{graph_reading_accepted}
use Rattle.derivation.specs.Derivation.{Tree, Derivation, weight, reading}
use Rattle.derivation.specs.Heard.{path_length, graph_reading, own_block}
use Rattle.derivation.proofs.Theorems.{reading_packs}
use Rattle.derivation.proofs.HeardReadings.{path, graph_reading_packs}
use Rattle.checker.specs.Judgement.{Fields, walked, headed, weight_read, fields_from, Has}
use Rattle.checker.specs.Check.{derivation_of, judged, after_fields}
use Rattle.checker.proofs.Judged.{Found, derivation_found, has_one, slots_fields, graph_fields, head_read}

-- the fields were read, and a derivation has them
record Read (g : Grammar) (h : Heard) (block : List ℕ) (t : Tree) : Type 0 where
  d : Fields
  at : ℕ
  fields : fields_from g h block ≡ parsed d at
  has : Has block g h d t
  weighs : weight g (heard_edges h) t ≡ weight_read d
  ends : ended block at ≡ true

module _ (g : Grammar) (h : Heard) (block : List ℕ) (okg : ValidGrammar g) (ok : ValidHeard g.words h) where
  abbrev verdict : Verdict Tree
  verdict = after_fields g h block (fields_from g h block)

  accepted_read : {t : Tree} → verdict ≡ accepted t → Read g h block t
  accepted_read {t} e = go (fields_from g h block) refl e
    where
      found : (d : Fields) (at : ℕ) → fields_from g h block ≡ parsed d at → (o : Option Tree) → Found (Has block g h d) o
          → judged g (heard_edges h) block (weight_read d) at o ≡ accepted t → Read g h block t
      found d at p none f e = absurd (refused≢accepted e)
      found d at p (some s) f e =
          let (w, e) = picked_first (eqb (weight g (heard_edges h) s) (weight_read d)) (pick (ended block at) (accepted s) (refused 36)) (refused 35)
          refused≢accepted e in
          let (end, e) = picked_first (ended block at) (accepted s) (refused 36) refused≢accepted e in
          let is : t ≡ s = sym (accepted_is e) in
          record { d = d; at = at; fields = p; has = rw is f; weighs = rw is (eqb-true _ _ w); ends = end }

      go : (p : Parse Fields) → fields_from g h block ≡ p → after_fields g h block p ≡ accepted t → Read g h block t
      go (failed n) p e = absurd (refused≢accepted e)
      go (parsed d at) p e = found d at p (derivation_of g h block d) (derivation_found g h block d) e

  read_accepted : {t : Tree} → Read g h block t → verdict ≡ accepted t
  read_accepted {t} r = rw r.fields (go (derivation_of g h block r.d) (derivation_found g h block r.d))
    where
      go : (o : Option Tree) → Found (Has block g h r.d) o → judged g (heard_edges h) block (weight_read r.d) r.at o ≡ accepted t
      go none f = absurd (f t r.has)
      go (some s) f =
          let is : s ≡ t = has_one g h block okg ok r.fields s t f r.has in
          rw (is, eq-eqb _ _ r.weighs, r.ends)

-- of slots
module _ (g : Grammar) (u : Utterance) (block : List ℕ) (okg : ValidGrammar g) (ok : ValidUtterance g.words u) (bytes : Bytes block) where
  slots_own : (t : Tree) → Read g (slots u) block t → Derivation g (slots u) t × (block ≡ own_block g (slots u) t)
  unfolding reading
  slots_own t r = (
    r.has.0,
    slots_fields g u block (λ d at. Has block g (slots u) d t → weight g (edges u) t ≡ weight_read d → ended block at ≡ true → block ≡ own_block g (slots u) t)
        r.fields own r.has r.weighs r.ends,
  )
    where
      own : (d : Reading) (at : ℕ) → reading_from (length u) (length g.rules) block ≡ parsed d at → Has block g (slots u) (walked d) t
          → weight g (edges u) t ≡ d.weight → ended block at ≡ true → block ≡ block_of_reading (length g.rules) (reading g u t)
      own d at p (c, m) w end =
          let (v, n, b) = (reading_block_accepted (length u) (length g.rules) block d bytes).0 (at, p, end) in
          let is : d ≡ reading g u t = λ i. record { slots = n i; weight = sym w i; walk = sym m i } in
          b ∙ ap (block_of_reading (length g.rules)) is

  own_slots : (t : Tree) → Derivation g (slots u) t → block ≡ own_block g (slots u) t → Read g (slots u) block t
  unfolding reading fields_from
  own_slots t c b =
      let (at, p, end) = (reading_block_accepted (length u) (length g.rules) block (reading g u t) bytes).1 (reading_packs g u okg ok t c, refl, b) in
      record { d = walked (reading g u t); at = at; fields = rw p; has = (c, refl); weighs = refl; ends = end }

-- of a graph
module _ (g : Grammar) (h : Graph) (block : List ℕ) (okg : ValidGrammar g) (ok : ValidGraph g.words h) (bytes : Bytes block) where
  graph_own : (t : Tree) → Read g (graph h) block t → Derivation g (graph h) t × (block ≡ own_block g (graph h) t)
  unfolding graph_reading
  graph_own t r = (
    r.has.0,
    graph_fields g h block (λ d at. Has block g (graph h) d t → weight g h.edges t ≡ weight_read d → ended block at ≡ true → block ≡ own_block g (graph h) t)
        r.fields own r.has r.weighs r.ends,
  )
    where
      own : (d : GraphHead) (at : ℕ) → graph_head_from (h.places - 1) (length g.rules) block ≡ parsed d at → Has block g (graph h) (headed d) t
          → weight g h.edges t ≡ d.weight → ended block (graph_reading_bits d.edges (length g.rules)) ≡ true → block ≡ own_block g (graph h) t
      own d at p (c, (n, m)) w end =
          let z = (head_read (h.places - 1) (length g.rules) block p).0 in
          let is : d ≡ record { edges = path_length t; weight = weight g h.edges t } = λ i. record { edges = sym n i; weight = sym w i } in
          let head : graph_head_from (h.places - 1) (length g.rules) block ≡ parsed (record { edges = path_length t; weight = weight g h.edges t }) 34 = p
          ∙ rw (z, is) in
          (graph_reading_accepted (h.places - 1) (length g.rules) block (graph_reading g h t) bytes (graph_reading_packs g okg h ok t c)
          (path g okg (graph h) ok t c).1).1 (head, m, rw n end)

  own_graph : (t : Tree) → Derivation g (graph h) t → block ≡ own_block g (graph h) t → Read g (graph h) block t
  unfolding graph_reading fields_from
  own_graph t c b =
      let (p, m, end) = (graph_reading_accepted (h.places - 1) (length g.rules) block (graph_reading g h t) bytes (graph_reading_packs g okg h ok t c)
      (path g okg (graph h) ok t c).1).0 b in
      record {
        d = headed (record { edges = path_length t; weight = weight g h.edges t });
        at = graph_reading_bits (path_length t) (length g.rules);
        fields = rw p;
        has = (c, (refl, m));
        weighs = refl;
        ends = end;
      }

-- of either
module _ (g : Grammar) (block : List ℕ) (okg : ValidGrammar g) (bytes : Bytes block) where
  own : (h : Heard) → ValidHeard g.words h → (t : Tree) → Read g h block t → Derivation g h t × (block ≡ own_block g h t)
  own (slots u) ok = slots_own g u block okg ok bytes
  own (graph h) ok = graph_own g h block okg ok bytes

  read : (h : Heard) → ValidHeard g.words h → (t : Tree) → Derivation g h t → block ≡ own_block g h t → Read g h block t
  read (slots u) ok = own_slots g u block okg ok bytes
  read (graph h) ok = own_graph g h block okg ok bytes

  pub passed_out : (h : Heard) → ValidHeard g.words h → {t : Tree} → after_fields g h block (fields_from g h block) ≡ accepted t
      → Derivation g h t × (block ≡ own_block g h t)
  passed_out h ok {t} e = own h ok t (accepted_read g h block okg ok e)

  pub passed_back : (h : Heard) → ValidHeard g.words h → (t : Tree) → Derivation g h t → block ≡ own_block g h t
      → after_fields g h block (fields_from g h block) ≡ accepted t
  passed_back h ok t c b = read_accepted g h block okg ok (read h ok t c b)
