-- Demand 3 (specs/Demand3). The claim holds since what is accepted is the list of the least derivations, packed, of which derivation's
-- theorems say what it is.
use mathlib.Core.Path.{◌≡◌, ap, ◌∙◌}
use mathlib.Core.Logic.{◌⊎◌, inl, inr}
use mathlib.Core.List.{List, ◌++◌}
use Prim.Native.Nat.{ℕ, zero, suc, ◌+◌, ◌-◌, ◌*◌, ◌≤◌, ◌<◌}
use native.Mathlib.Omega.{arith}
use native.Mathlib.Numerals.{one-add}
use lib.ListN.{length, drop, length-map}
use lib.Seq.{drop_at}
use Rattle.packing.specs.Meaning.{Grammar, Heard, heard_edges}
use Rattle.packing.specs.Parse.{Verdict, accepted}
use Rattle.std.specs.Prelude.{Result}
use Rattle.packing.specs.Read.{as_verdict}
use Rattle.packing.specs.declared.refusal.Refusal.{Refusal}
use Rattle.packing.specs.Grammar.{grammar_block}
use Rattle.packing.specs.Heard.{heard_block}
use Rattle.packing.specs.Valid.{ValidGrammar, ValidHeard}
use Rattle.packing.proofs.Whole.{grammar_block_out}
use Rattle.packing.proofs.Heard.{heard_block_out}
use Rattle.derivation.specs.Derivation.{At, Tree, Derivation}
use Rattle.derivation.specs.Heard.{output_length, packed}
use Rattle.derivation.specs.HeardList.{least_derivations}
use Rattle.derivation.specs.Order.{Before}
use Rattle.derivation.specs.Rank.{Rank}
use Rattle.derivation.proofs.Lists.{at_map, length_at}
use Rattle.derivation.proofs.HeardReadings.{heard_last}
use Rattle.derivation.proofs.HeardTheorems.{finitely_many, one_comes_before, never_both, least_element, readings_differ}
use Rattle.listing.specs.Conditions.{library, Within}
use Rattle.inputs.specs.Answer.{Lists}
use Rattle.chart.specs.WorkTable.{work_after}
use Rattle.listing.specs.Listing.{joined, list, output_after}
use Rattle.traced_readings.specs.Ranked.{Ranked}
use Rattle.listing.specs.Demand3.{kth_bytes, Either, RankedList, Demand3}
use Rattle.listing_limits.specs.declared.Limits.{Limits}
use Rattle.listing.proofs.Joined.{length_joined, joined_at}
use Rattle.listing.proofs.Accepted.{blocks, count_blocks, sized_blocks, listing_accepts}

different_ordered : (g : Grammar) (h : Heard) (s t : Tree) → ¬ (packed g h s ≡ packed g h t)
    → Either (Before g (heard_edges h) s t) (Before g (heard_edges h) t s)
different_ordered g h s t differ = go (one_comes_before g h s t)
  where
    go : (s ≡ t) ⊎ (Before g (heard_edges h) s t ⊎ Before g (heard_edges h) t s) → Either (Before g (heard_edges h) s t) (Before g (heard_edges h) t s)
    go (inl e) = absurd (differ (ap (packed g h) e))
    go (inr (inl b)) = inl (b, never_both g h s t b)
    go (inr (inr b)) = inr (b, never_both g h t s b)

module _ (g : Grammar) (h : Heard) (okg : ValidGrammar g) (okh : ValidHeard g.words h) (N : ℕ) (out : List ℕ) where
  abbrev L : ℕ
  L = output_length g h

  abbrev ls : List (List ℕ)
  ls = blocks g h N

  -- the output afterwards
  abbrev written : List ℕ
  written = joined ls ++ drop (length (joined ls)) out

  reading_at : (x : ℕ) → x < length ls → (t : Tree) × Ranked g h (1 + x) t × (kth_bytes L (1 + x) written ≡ packed g h t)
  reading_at x l =
      let (t, at) = length_at (least_derivations g h N) x (omega (arith, length-map (least_derivations g h N) (packed g h))) in
      let (d, rank, below) = (least_element g h N x t).0 at in
      let only : (s : Tree) → Derivation g h s → Rank g h s (1 + x) → s ≡ t = λ s c also.
      let there = (least_element g h N x s).1 (c, also, below) in cc in
      let first : 1 + x - 1 ≡ x = omega arith in
      let block : At ls x (packed g h t) = at_map (packed g h) (least_derivations g h N) x at in (
        t,
        record { derivation = d; rank = rank; no_other = only },
        rw first (joined_at L ls (drop (length (joined ls)) out) x (sized_blocks g h N okg okh) block),
      )

  reading_of : (k : ℕ) → 1 ≤ k → k ≤ length ls → (t : Tree) × Ranked g h k t × (kth_bytes L k written ≡ packed g h t)
  reading_of zero l m = absurd (omega arith)
  reading_of (suc x) l m = rw (one-add x) at (reading_at x m)

  unchanged : drop (length ls * L) written ≡ drop (length ls * L) out
  unchanged =
      let n = length_joined L ls (sized_blocks g h N okg okh) in
      drop_at (joined ls) (drop (length (joined ls)) out) (length ls * L) n ∙ rw n

module _ (l : Limits) (grammar heard : List ℕ) (N : ℕ) (work out : List ℕ) where
  abbrev due : Verdict (List (List ℕ))
  due = list l grammar heard N (length work) (length out)

  -- where the answer and both slices are what is due, and that is the readings of both blocks' meanings, they are listed by rank
  pub ranked_list : (AnswerIs : ℕ → Type 0) (work' out' : List ℕ) → work' ≡ work_after due work → out' ≡ output_after due out
      → {g : Grammar} {h : Heard} → grammar_block grammar ≡ accepted g → heard_block g.words heard ≡ accepted h → due ≡ accepted (blocks g h N)
      → AnswerIs (length (blocks g h N)) → RankedList g h N work out AnswerIs work' out'
  ranked_list AnswerIs work' out' works writes {g} {h} p q met answer =
      let okg = (grammar_block_out grammar g p).0 in
      let okh = (heard_block_out g.words heard h q).0 in
      let writes : out' ≡ output_after (accepted (blocks g h N)) out = rw met at writes in
      record {
        different = readings_differ g h okg okh;
        ordered = λ s t c d. different_ordered g h s t;
        derivations = _;
        finitely_many = finitely_many g h;
        m = length (blocks g h N);
        accepts = answer;
        m_is = count_blocks g h N _ (finitely_many g h);
        readings = λ k l m. rw writes (reading_of g h okg okh N out k l m);
        beyond = rw writes (unchanged g h okg okh N out);
        zeros = rw met at works;
      }

  -- within the limits demand 3 is met
  pub demand_3 : (AnswerIs : ℕ → Type 0) → ((ls : List (List ℕ)) → due ≡ accepted ls → AnswerIs (length ls)) → (work' out' : List ℕ)
      → work' ≡ work_after due work → out' ≡ output_after due out → Within l grammar heard N → Demand3 grammar heard N work out AnswerIs work' out'
  unfolding list
  demand_3 AnswerIs answers work' out' works writes within g p h q h₁ h₂ h₃ h₄ =
      let met : due ≡ accepted (blocks g h N) = rw (p, q)
      (listing_accepts g h N l (length work) (length out) (within.slots g h p q) within.readings h₁ h₂ h₃ h₄) in
      ranked_list AnswerIs work' out' works writes p q met (answers (blocks g h N) met)

  -- the promises of `listing_within`: its answer and both slices, and so demand 3
  pub promised : (r : Result ℕ Refusal) (work' out' : List ℕ) → Lists work_after output_after due work out r work' out'
      → Lists work_after output_after due work out r work' out'
      × (Within l grammar heard N → Demand3 grammar heard N work out (λ m. as_verdict r ≡ accepted m) work' out')
  promised r work' out' lists =
      (lists, demand_3 (λ m. as_verdict r ≡ accepted m) (λ ls e. rw e at lists.answer) work' out' lists.work_is lists.output_is)

-- of the library it holds outright: every accepted block is within its slots
pub in_library : (grammar heard : List ℕ) (N : ℕ) (work out : List ℕ) (AnswerIs : ℕ → Type 0) (work' out' : List ℕ)
    → (Within library grammar heard N → Demand3 grammar heard N work out AnswerIs work' out') → Demand3 grammar heard N work out AnswerIs work' out'
in_library grammar heard N work out AnswerIs work' out' due g p h q h₁ h₂ h₃ h₄ =
    let within : Within library grammar heard N = record {
      slots = λ g h p q. heard_last g.words h (heard_block_out g.words heard h q).0;
      readings = h₂;
    } in
    due within g p h q h₁ h₂ h₃ h₄
