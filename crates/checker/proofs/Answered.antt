-- The stages of the check agree with what the readers answer: what stands in front of their arrays is what was accepted.
use mathlib.Core.Path.{◌≡◌, refl, sym, ap, ◌∙◌, subst}
use mathlib.Core.Bool.{Bool, true, false}
use mathlib.Core.List.{List}
use mathlib.Core.Option.{Option, none, some}
use Prim.Native.Nat.{ℕ, ◌-◌, ◌*◌, ◌≤◌}
use native.Mathlib.Omega.{arith}
use lib.Dec.{eqb}
use lib.ListN.{length, take}
use lib.Seq.{length-take-le}
use Rattle.std.proofs.Common.{Result, Err, Some, None}
use Rattle.std.proofs.Common as std
use Rattle.bits.specs.Bits.{pick, ended}
use Rattle.packing.specs.Refusal.{number}
use Rattle.packing.specs.declared.refusal.Refusal.{Refusal}
use Rattle.packing.specs.declared.Rule as R
use Rattle.packing.specs.Meaning.{Utterance, Reading, Edge, Graph}
use Rattle.packing.specs.Parse.{Parse, parsed, failed, accepted, refused}
use Rattle.packing.specs.Utterance.{utterance_block}
use Rattle.packing.specs.Graph.{graph_block}
use Rattle.packing.specs.Reading.{reading_from}
use Rattle.packing.specs.GraphReading as P
use Rattle.packing.specs.GraphReading.{graph_head_from, graph_reading_bits}
use Rattle.packing.specs.Flat.{Begins, SlotsIn, slots_of}
use Rattle.packing.proofs.Flat.{slots_of_lem}
use Rattle.packing.proofs.Reading.{reading_out}
use Rattle.reading_reader.specs.Answer as read
use Rattle.graph_reader.specs.Answer.{EdgesIn}
use Rattle.graph_reading_reader.specs.Answer.{head_of, to_end}
use Rattle.graph_reading_reader.specs.declared.GraphHead.{GraphHead}
use Rattle.derivation.specs.Walk.{walk_weight}
use Rattle.derivation.specs.Path.{path_weight}
use Rattle.parse_stack.specs.Stack.{option_of}
use Rattle.graph_check.specs.Edges.{edges_of, Kept}
use Rattle.graph_check.proofs.Edges.{edges_of_lem}
use Rattle.judgement.specs.Weighed.{weighed, Judges}
use Rattle.checker.specs.Run.{by_walk, path_walk, by_path, under_slots, under_graph, WalkIn, Answered}

-- what was judged has its walk in the array, if that stands there
module _ (block : List ℕ) (w at : ℕ) (walk array : List ℕ) where
  pub walk_in : (o : Option ℕ) → Begins walk array → WalkIn (weighed block w at walk o) array
  walk_in none b = tt
  walk_in (some v) b = go (eqb v w) (ended block at)
    where
      go : (x y : Bool) → WalkIn (pick x (pick y (accepted walk) (refused 36)) (refused 35)) array
      go true true = b
      go true false = tt
      go false y = tt

-- a reading, by the weight of the walk that stands in the array
pub walk_judged : (n count : ℕ) (rules : List R.Rule) (u : Utterance) (block array : List ℕ) {d : Reading} {at : ℕ} (o : Option ℕ) (r : Result ℕ Refusal)
    → reading_from n count block ≡ parsed d at → read.WalkIn (reading_from n count block) array → o ≡ walk_weight rules u (take (2 * n - 1) array)
    → Judges block d.weight at o (2 * n - 1) r
    → Answered (by_walk rules u block (reading_from n count block)) r array
walk_judged n count rules u block array {d} {at} o r e front own judged =
    let begun = subst (λ p. read.WalkIn p array) e front in
    let long = (reading_out n count block e).2 in
    let numbers : take (2 * n - 1) array ≡ d.walk = rw long at begun in
    let answered : Answered (weighed block d.weight at d.walk o) _ array =
    (judged d.walk long, walk_in block d.weight at d.walk array o begun) in
    rw (e, ← numbers, ← own) (rw (← numbers) at answered)

-- what was read of a graph's reading, with the place behind it
head_told : (R : ℕ) (p : Parse P.GraphHead) {x : P.GraphHead} {at : ℕ} → parsed x at ≡ to_end R p
    → (next : ℕ) × (p ≡ parsed x next) × (at ≡ graph_reading_bits x.edges R)
head_told R (parsed d next) {x} {at} e =
    let same : d ≡ x = cc in
    let end : at ≡ graph_reading_bits d.edges R = cc in
    (next, ap (λ (y : P.GraphHead). parsed y next) same, rw same at end)
head_told R (failed n) e = cc

head_refused : (R : ℕ) (p : Parse P.GraphHead) {n : ℕ} → failed n ≡ to_end R p → p ≡ failed n
head_refused R (parsed d at) e = cc
head_refused R (failed m) e = cc

-- a reading of a graph, by the weight of the path whose nodes stand in the block
module _ (count last : ℕ) (rules : List R.Rule) (es : List Edge) (block array : List ℕ) where
  pub path_judged : {x : GraphHead} {at : ℕ} (own : std.Option ℕ) (a : Result ℕ Refusal)
      → parsed (head_of x) at ≡ to_end count (graph_head_from last count block) → count ≡ length rules
      → option_of own ≡ path_weight rules es last x.edges block → Kept rules block (2 * x.edges - 1) array own → 2 * x.edges - 1 ≤ length array
      → Judges block x.weight at (option_of own) (2 * x.edges - 1) a
      → Answered (by_path rules es last block (graph_head_from last count block)) a array
  path_judged {x} {at} own a told n w kept room judged =
      let (next, p, end) = head_told count (graph_head_from last count block) told in
      rw (p, ← n, ← end) (settled own w kept judged)
    where
      settled : (o : std.Option ℕ) → option_of o ≡ path_weight rules es last x.edges block → Kept rules block (2 * x.edges - 1) array o
          → Judges block x.weight at (option_of o) (2 * x.edges - 1) a
          → Answered (weighed block x.weight at (path_walk rules x.edges block) (path_weight rules es last x.edges block)) a array
      settled None w kept judged = rw (← w) (judged (take (2 * x.edges - 1) array) (length-take-le (2 * x.edges - 1) array room), tt)
      settled (Some v) w (next, e) judged =
          let m : ℕ = 2 * x.edges - 1 in
          let long = length-take-le m array room in
          rw (← w, e) (judged (take m array) long, walk_in block x.weight at (take m array) array (some v) (rw long refl))

  pub path_failed : (r : Refusal) → failed (number r) ≡ to_end count (graph_head_from last count block)
      → Answered (by_path rules es last block (graph_head_from last count block)) (Err r) array
  path_failed r e = rw (head_refused count (graph_head_from last count block) e) (refl, tt)

-- an utterance, by the slots that stand in the array
pub slots_judged : (W : ℕ) (rules : List R.Rule) (heard reading array : List ℕ) {u : Utterance} {n count : ℕ}
    → utterance_block W heard ≡ accepted u → SlotsIn W (utterance_block W heard) array → n ≡ length u → count ≡ length rules
    → by_walk rules (slots_of array n 0) reading (reading_from n count reading) ≡ under_slots W rules heard reading
slots_judged W rules heard reading array {u} e front n count =
    let slots = slots_of_lem W u array (subst (λ v. SlotsIn W v array) e front) in
    rw (n, count, e, slots)

-- a graph, by the edges that stand in the array
pub graph_judged : (W : ℕ) (rules : List R.Rule) (heard reading array : List ℕ) {h : Graph} {n last count : ℕ}
    → graph_block W heard ≡ accepted h → EdgesIn (graph_block W heard) array → n ≡ length h.edges → last ≡ h.places - 1 → count ≡ length rules
    → by_path rules (edges_of array n) last reading (graph_head_from last count reading) ≡ under_graph W rules heard reading
graph_judged W rules heard reading array {h} e front n last count =
    let edges = edges_of_lem h.edges array (subst (λ v. EdgesIn v array) e front) in
    rw (n, last, count, e, edges)
