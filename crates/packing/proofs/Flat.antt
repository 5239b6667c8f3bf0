-- Rule r of a grammar stands in five numbers of an array that begins with the grammar's, from 5 r on, and edge e of a list in
-- four of one that begins with the list's, from 4 e on. Slots stand one behind the other, since a slot's count leads to the next.
-- Assumes nothing.
use mathlib.Core.Path.{◌≡◌, refl, sym, ap, ◌∙◌}
use mathlib.Core.List.{List, [], ◌∷◌, ◌++◌, map, map-append, append_assoc}
use mathlib.Core.Option.{none, some}
use Prim.Native.Nat.{ℕ, zero, suc, ◌+◌, ◌*◌, ◌≤◌, ◌<◌}
use native.Mathlib.Nat.{add-zero, zero-add}
use native.Mathlib.Omega.{arith}
use lib.ListN.{length, length-map, get_or, get_elem?, drop, take-append-drop}
use lib.Seq.{get_or-take, get_or-drop, drop-drop, take-append_seam}
use Rattle.packing.specs.Meaning.{word, Grammar, MarkedRule, marked, rule_in, mark_in, Marked, grammar_of, Candidate, candidate, Utterance, Edge, edge}
use Rattle.packing.specs.Source.{values, value_of}
use Rattle.packing.specs.Grammar.{rules_entries}
use Rattle.packing.specs.Utterance.{candidates_entries, slots_entries}
use Rattle.packing.specs.Flat.{
  Begins,
  Overlaid,
  rule_numbers,
  rule_at,
  rules_at,
  rules_of,
  mark_numbers,
  marked_rules_at,
  slot_numbers,
  candidates_of,
  slots_by,
  slots_of,
  edge_numbers,
  node_by,
  node_rule,
}
use Rattle.packing.specs.Store.{store_all}
use Rattle.packing.specs.declared.Rule as R
use Rattle.packing.specs.declared.Rule.TheVariants.{Pair, Word}
use Rattle.packing.proofs.Bounds.{length_rules}
use Rattle.packing.proofs.Store.{store_at}

-- an array that begins with l has l's elements
pub begins_at : (l array : List ℕ) (i : ℕ) → Begins l array → i < length l → get_or array i 0 ≡ get_or l i 0
begins_at l array i b h = sym (get_or-take (length l) array i 0 h) ∙ ap (λ (t : List ℕ). get_or t i 0) b

-- an array begins with what is laid over its front
pub overlaid_begins : (l before array : List ℕ) → Overlaid l before array → Begins l array
overlaid_begins l before array e = rw e (take-append_seam l (drop (length l) before))

-- to store at the front is to lay over it
pub stored_overlaid : (array ns : List ℕ) → length ns ≤ length array → Overlaid ns array (store_all array 0 ns)
stored_overlaid array ns h = rw (store_at array 0 ns (omega arith), zero-add)

pub stored_begins : (array ns : List ℕ) → length ns ≤ length array → Begins ns (store_all array 0 ns)
stored_begins array ns h = overlaid_begins ns array (store_all array 0 ns) (stored_overlaid array ns h)

-- five numbers further on, in a list behind five numbers
skip_five : (a b c d e : ℕ) (l : List ℕ) (r : ℕ) → rule_at (a ∷ b ∷ c ∷ d ∷ e ∷ l) (suc r) ≡ rule_at l r
skip_five a b c d e l r =
    let n : 5 * suc r ≡ suc (suc (suc (suc (suc (5 * r))))) = omega arith in
    let n1 : 5 * suc r + 1 ≡ suc (suc (suc (suc (suc (5 * r + 1))))) = omega arith in
    let n2 : 5 * suc r + 2 ≡ suc (suc (suc (suc (suc (5 * r + 2))))) = omega arith in
    let n3 : 5 * suc r + 3 ≡ suc (suc (suc (suc (suc (5 * r + 3))))) = omega arith in
    let n4 : 5 * suc r + 4 ≡ suc (suc (suc (suc (suc (5 * r + 4))))) = omega arith in
    rw (n1, n2, n3, n4, n)

rules_at_lem : (S W : ℕ) (rs : List R.Rule) (r : ℕ) → r < length rs → get_elem? rs r ≡ some (rule_at (values (rules_entries S W rs)) r)
unfolding rules_entries
rules_at_lem S W [] r h = absurd (omega arith)
rules_at_lem S W (Pair a x y w ∷ rs) zero h = refl
rules_at_lem S W (Word a x w ∷ rs) zero h = refl
rules_at_lem S W (Pair a x y w ∷ rs) (suc r) h = rw skip_five (rules_at_lem S W rs r (omega arith))
rules_at_lem S W (Word a x w ∷ rs) (suc r) h = rw skip_five (rules_at_lem S W rs r (omega arith))

pub rule_at_lem : (g : Grammar) (array : List ℕ) (r : ℕ) → Begins (rule_numbers g) array → r < length g.rules → get_elem? g.rules r ≡ some (rule_at array r)
rule_at_lem g array r b h =
    let l : List ℕ = rule_numbers g in
    let n = length_rules g.symbols g.words g.rules in
    rw (
      begins_at l array (5 * r) b (omega arith),
      begins_at l array (5 * r + 1) b (omega arith),
      begins_at l array (5 * r + 2) b (omega arith),
      begins_at l array (5 * r + 3) b (omega arith),
      begins_at l array (5 * r + 4) b (omega arith),
    )
    (rules_at_lem g.symbols g.words g.rules r h)

-- the first rules of an array: how many they are, and each of them
pub length_rules_at : (l : List ℕ) (k n : ℕ) → length (rules_at l k n) ≡ n
unfolding rules_at
length_rules_at l k zero = refl
length_rules_at l k (suc n) = ap suc (length_rules_at l (suc k) n)

from_rule : (l : List ℕ) (k n r : ℕ) → r < n → get_elem? (rules_at l k n) r ≡ some (rule_at l (k + r))
unfolding rules_at
from_rule l k zero r h = absurd (omega arith)
from_rule l k (suc n) zero h = rw add-zero
from_rule l k (suc n) (suc r) h = let z : k + suc r ≡ suc k + r = omega arith in rw z (from_rule l (suc k) n r (omega arith))

pub rule_of : (l : List ℕ) (n r : ℕ) → r < n → get_elem? (rules_of l n) r ≡ some (rule_at l r)
rule_of l n r h = rw zero-add at (from_rule l 0 n r h)

pub no_rule_of : (l : List ℕ) (k n r : ℕ) → n ≤ r → get_elem? (rules_at l k n) r ≡ none
unfolding rules_at
no_rule_of l k zero r h = refl
no_rule_of l k (suc n) zero h = absurd (omega arith)
no_rule_of l k (suc n) (suc r) h = no_rule_of l (suc k) n r (omega arith)

-- those of an array that begins with a grammar's are the grammar's
all_rules : (rs : List R.Rule) (l : List ℕ) (k : ℕ) → ((r : ℕ) → r < length rs → get_elem? rs r ≡ some (rule_at l (k + r))) → rules_at l k (length rs) ≡ rs
unfolding rules_at
all_rules [] l k h = refl
all_rules (r ∷ rs) l k h =
    let e : some r ≡ some (rule_at l k) = rw add-zero at (h 0 (omega arith)) in
    let f : rule_at l k ≡ r = cc in
    let s : (i : ℕ) → k + suc i ≡ suc k + i = λ i. omega arith in
    rw (f, all_rules rs l (suc k) (λ i b. rw s at (h (suc i) (omega arith))))

pub rules_of_lem : (g : Grammar) (array : List ℕ) → Begins (rule_numbers g) array → rules_of array (length g.rules) ≡ g.rules
rules_of_lem g array b = all_rules g.rules array 0 (λ r h. rw zero-add (rule_at_lem g array r b h))

-- and so those of two arrays that begin with a grammar's rules and its marks
all_marked : (rs : List MarkedRule) (l marks : List ℕ) (k : ℕ)
    → ((r : ℕ) → r < length rs → (get_elem? (map rule_in rs) r ≡ some (rule_at l (k + r))) × (get_or marks (k + r) 0 ≡ get_or (map mark_in rs) r 0))
    → marked_rules_at l marks k (length rs) ≡ rs
unfolding marked_rules_at
all_marked [] l marks k h = refl
all_marked (marked r m ∷ rs) l marks k h =
    let (e, n) = h 0 (omega arith) in
    let e' : some r ≡ some (rule_at l k) = rw add-zero at e in
    let f : rule_at l k ≡ r = cc in
    let n' : get_or marks k 0 ≡ m = rw add-zero at n in
    let s : (i : ℕ) → k + suc i ≡ suc k + i = λ i. omega arith in
    rw (f, n', all_marked rs l marks (suc k) (λ i b. rw s at (h (suc i) (omega arith))))

pub marked_rules_of : (m : Marked) (array marks : List ℕ) → Begins (rule_numbers (grammar_of m)) array → Begins (mark_numbers m) marks
    → marked_rules_at array marks 0 (length m.rules) ≡ m.rules
marked_rules_of m array marks b c =
    let n : length (map rule_in m.rules) ≡ length m.rules = length-map m.rules rule_in in
    let k : length (map mark_in m.rules) ≡ length m.rules = length-map m.rules mark_in in
    all_marked m.rules array marks 0
    (λ r h. rw zero-add (rule_at_lem (grammar_of m) array r b (omega arith), begins_at (mark_numbers m) marks r c (omega arith)))

-- slots: the number at a place of a list, and what stands behind it
drop_head : (l : List ℕ) (p : ℕ) {x : ℕ} {rest : List ℕ} → drop p l ≡ x ∷ rest → (get_or l p 0 ≡ x) × (drop (p + 1) l ≡ rest)
drop_head l p e =
    let a = get_or-drop p l 0 0 in
    let b = drop-drop 1 p l in
    (sym (rw add-zero at a) ∙ ap (λ (t : List ℕ). get_or t 0 0) e, sym b ∙ ap (drop 1) e)

candidates_of_lem : (W least : ℕ) (cs : List Candidate) (l : List ℕ) (p : ℕ) (rest : List ℕ) → drop p l ≡ values (candidates_entries W least cs) ++ rest
    → (candidates_of l (length cs) p ≡ cs) × (drop (p + 2 * length cs) l ≡ rest)
unfolding candidates_of candidates_entries
candidates_of_lem W least [] l p rest e = (refl, rw add-zero e)
candidates_of_lem W least (candidate w c ∷ cs) l p rest e =
    let (a, d) = drop_head l p e in
    let (b, f) = drop_head l (p + 1) d in
    let z : p + 1 + 1 ≡ p + 2 = omega arith in
    let (r, g) = candidates_of_lem W (suc w.0) cs l (p + 2) rest (rw z at f) in
    let n : p + 2 * suc (length cs) ≡ p + 2 + 2 * length cs = omega arith in
    (rw (a, b, r), rw n g)

-- f keeps the counts of the slots
abbrev pub Kept : (ℕ → ℕ) → Utterance → Type 0
Kept f [] = Unit {0}
Kept f (cs ∷ u) = (f (length cs) ≡ length cs) × Kept f u

slots_from : (f : ℕ → ℕ) (W : ℕ) (u : Utterance) (l : List ℕ) (p : ℕ) (rest : List ℕ) → Kept f u → drop p l ≡ slot_numbers W u ++ rest
    → slots_by f l (length u) p ≡ u
unfolding slots_by slots_entries
slots_from f W [] l p rest k e = refl
slots_from f W (cs ∷ u) l p rest (k, ks) e =
    let es = candidates_entries W 0 cs in
    let split : values (es ++ slots_entries W u) ++ rest ≡ values es ++ (slot_numbers W u ++ rest) =
    ap (λ (z : List ℕ). z ++ rest) (map-append value_of es (slots_entries W u)) ∙ append_assoc (values es) (slot_numbers W u) rest in
    let (a, d) = drop_head l p e in
    let (b, g) = candidates_of_lem W 0 cs l (p + 1) (slot_numbers W u ++ rest) (d ∙ split) in
    rw (a, k, b, slots_from f W u l (p + 1 + 2 * length cs) rest ks g)

-- those of an array that begins with an utterance's are the utterance's
pub slots_by_lem : (f : ℕ → ℕ) (W : ℕ) (u : Utterance) (array : List ℕ) → Kept f u → Begins (slot_numbers W u) array → slots_by f array (length u) 0 ≡ u
slots_by_lem f W u array k b =
    let ns : List ℕ = slot_numbers W u in
    slots_from f W u array 0 (drop (length ns) array) k (sym (take-append-drop (length ns) array) ∙ ap (λ (z : List ℕ). z ++ drop (length ns) array) b)

pub slots_of_lem : (W : ℕ) (u : Utterance) (array : List ℕ) → Begins (slot_numbers W u) array → slots_of array (length u) 0 ≡ u
slots_of_lem W u array b = slots_by_lem (λ c. c) W u array (all u) b
  where
    all : (v : Utterance) → Kept (λ c. c) v
    all [] = tt
    all (cs ∷ v) = (refl, all v)

pub length_candidates_of : (l : List ℕ) (n p : ℕ) → length (candidates_of l n p) ≡ n
unfolding candidates_of
length_candidates_of l zero p = refl
length_candidates_of l (suc n) p = ap suc (length_candidates_of l n (p + 2))

pub length_slots_by : (f : ℕ → ℕ) (l : List ℕ) (n p : ℕ) → length (slots_by f l n p) ≡ n
unfolding slots_by
length_slots_by f l zero p = refl
length_slots_by f l (suc n) p = ap suc (length_slots_by f l n _)

-- edges
pub length_edges : (es : List Edge) → length (edge_numbers es) ≡ 4 * length es
unfolding edge_numbers
length_edges [] = refl
length_edges (edge i k w c ∷ es) = omega (arith, length_edges es)

abbrev edge_at : List ℕ → ℕ → Edge
edge_at l e = edge (get_or l (4 * e) 0) (get_or l (4 * e + 1) 0) (word (get_or l (4 * e + 2) 0)) (get_or l (4 * e + 3) 0)

skip_four : (a b c d : ℕ) (l : List ℕ) (e : ℕ) → edge_at (a ∷ b ∷ c ∷ d ∷ l) (suc e) ≡ edge_at l e
skip_four a b c d l e =
    let n : 4 * suc e ≡ suc (suc (suc (suc (4 * e)))) = omega arith in
    let n1 : 4 * suc e + 1 ≡ suc (suc (suc (suc (4 * e + 1)))) = omega arith in
    let n2 : 4 * suc e + 2 ≡ suc (suc (suc (suc (4 * e + 2)))) = omega arith in
    let n3 : 4 * suc e + 3 ≡ suc (suc (suc (suc (4 * e + 3)))) = omega arith in
    rw (n1, n2, n3, n)

edges_at : (es : List Edge) (e : ℕ) → e < length es → get_elem? es e ≡ some (edge_at (edge_numbers es) e)
unfolding edge_numbers
edges_at [] e h = absurd (omega arith)
edges_at (edge i k w c ∷ es) zero h = refl
edges_at (edge i k w c ∷ es) (suc e) h = rw skip_four (edges_at es e (omega arith))

pub edge_at_lem : (es : List Edge) (array : List ℕ) (e : ℕ) → Begins (edge_numbers es) array → e < length es
    → get_elem? es e
    ≡ some (edge (get_or array (4 * e) 0) (get_or array (4 * e + 1) 0) (word (get_or array (4 * e + 2) 0)) (get_or array (4 * e + 3) 0))
edge_at_lem es array e b h =
    let l : List ℕ = edge_numbers es in
    let n = length_edges es in
    rw (
      begins_at l array (4 * e) b (omega arith),
      begins_at l array (4 * e + 1) b (omega arith),
      begins_at l array (4 * e + 2) b (omega arith),
      begins_at l array (4 * e + 3) b (omega arith),
    )
    (edges_at es e h)

pub by_rule : (x : R.Rule) (r e : ℕ) → node_rule (node_by x r e) ≡ r
by_rule (Pair h y z w) r e = refl
by_rule (Word h y w) r e = refl
