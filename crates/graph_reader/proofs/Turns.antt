-- The turns of the loop over the edges: what was read so far is what the definition has read. Assumes nothing.
use mathlib.Core.Path.{◌≡◌, refl, sym}
use mathlib.Core.Bool.{Bool, true, false}
use mathlib.Core.List.{List, [], ◌∷◌, ◌++◌}
use Prim.Native.Nat.{ℕ, suc, ◌+◌, ◌-◌, ◌*◌, ◌<◌}
use native.Mathlib.Omega.{arith}
use lib.ListN.{length, take, set, length-append}
use Rattle.packing.specs.Meaning as M
use Rattle.packing.specs.Parse.{Parse, parsed, failed}
use Rattle.packing.specs.Source.{Source}
use Rattle.packing.specs.Flat.{edge_numbers}
use Rattle.packing.specs.Store.{store_all}
use Rattle.rules_reader.specs.Rules.{among}
use Rattle.utterance_edges.proofs.Edges.{edges_stored}
use Rattle.packing.specs.Alike.{unlike_from}
use Rattle.packing.specs.Graph.{edges_alike, edge_from, graph_edges_from}
use Rattle.packing.proofs.Alike.{keyed_none}
use Rattle.graph_reader.proofs.Keys.{edge_key, Roomy, EdgesKeyed, edges_keyed_more}

module _ (src : Source) (W P n start : ℕ) (before : List ℕ) where
  -- all that is read
  abbrev whole : Parse (List M.Edge)
  whole = graph_edges_from src W P n start []

  -- after i edges, at a place: es were read, the keys tell which edges these are, and they stand in the array
  pub record ReadSoFar (i at : ℕ) (keys edges : List ℕ) : Type 0 where
    pub es : List M.Edge
    pub size : length es ≡ i
    pub keyed : EdgesKeyed es (take i keys)
    pub stored : edges ≡ store_all before 0 (edge_numbers es)
    pub left : graph_edges_from src W P (n - i) at es ≡ whole

  pub none_passed : (keys : List ℕ) → ReadSoFar 0 start keys before
  unfolding store_all edge_numbers
  none_passed keys =
      let z : n - 0 ≡ n = omega arith in
      record { es = []; size = refl; keyed = keyed_none edges_alike (λ (e : M.Edge). e) edge_key Roomy; stored = refl; left = rw z }

  module _ {i at : ℕ} {keys edges : List ℕ} (p : ReadSoFar i at keys edges) where
    pub all_passed : i ≡ n → whole ≡ parsed p.es at
    unfolding unlike_from
    all_passed e =
        let done : n - i ≡ 0 = omega arith in
        sym (rw done at p.left)

    module _ (l : i < n) where
      one_more : n - i ≡ suc (n - (i + 1))
      one_more = omega arith

      pub edge_refused : {m : ℕ} → failed m ≡ edge_from src W P at → whole ≡ failed m
      unfolding unlike_from
      edge_refused e = sym (rw (one_more, ← e) at p.left)

      module _ {e : M.Edge} {next : ℕ} (read : parsed e next ≡ edge_from src W P at) (roomy : Roomy e) {seen : Bool}
          (s : seen ≡ among (edge_key e) (take i keys)) where
        pub edge_repeated : seen ≡ true → whole ≡ failed 52
        unfolding unlike_from
        edge_repeated t = sym (rw (one_more, ← read, p.keyed e roomy, ← s, t) at p.left)

        pub edge_passed : seen ≡ false → {key : ℕ} → key ≡ edge_key e → i < length keys → {after : List ℕ}
            → after ≡ store_all edges (4 * i) (edge_numbers (e ∷ [])) → ReadSoFar (i + 1) next (set keys i key) after
        unfolding unlike_from
        edge_passed f {key} same room put =
            record {
              es = p.es ++ (e ∷ []);
              size = simp length-append (omega (arith, p.size));
              keyed = edges_keyed_more p.es keys i key e roomy room same p.keyed;
              stored = edges_stored before 0 p.es (e ∷ []) p.stored (omega (arith, p.size)) put;
              left = rw (one_more, ← read, p.keyed e roomy, ← s, f) at p.left;
            }
