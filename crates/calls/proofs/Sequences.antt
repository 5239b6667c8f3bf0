-- Calls of an open listing one after another hand out every reading once, in the order of the listing, and then say "no more" or "full": before each call
-- place and table are as they were left after as many readings as the place says. What is handed out passes the check, and is what the listing has at its rank.
use mathlib.Core.Path.{◌≡◌, refl, sym, ap, subst, ◌∙◌}
use mathlib.Core.List.{List, ◌++◌, append-nil}
use Prim.Native.Nat.{ℕ, zero, suc, ◌-◌, ◌≤◌, ◌<◌}
use native.Mathlib.Decide.{dec_lt, dec_le}
use native.Mathlib.Omega.{arith}
use borrow.Author.Tests.{lt-ltb, le-ltb, ltb-false}
use lib.Dec.{ltb}
use lib.IntN.{ℤ, pos, neg_ℤ}
use lib.ListN.{length, take, drop, replicate, length-replicate, length-append}
use lib.Seq.{take_at}
use Rattle.bits.specs.Bits.{pick}
use Rattle.packing.specs.Meaning.{Grammar, Heard, slots, graph, last_place}
use Rattle.packing.specs.Parse.{Verdict, accepted, refused, ◌then◌}
use Rattle.packing.specs.Grammar.{grammar_block}
use Rattle.packing.specs.Heard.{heard_block}
use Rattle.packing.specs.GraphReading.{padded}
use Rattle.packing.proofs.Parse.{refused≢accepted, accepted_else, accepted_is}
use Rattle.packing.proofs.Whole.{grammar_block_out}
use Rattle.packing.proofs.Heard.{heard_block_out}
use Rattle.derivation.specs.Derivation.{Tree}
use Rattle.derivation.specs.Heard.{output_length, own_block, packed}
use Rattle.derivation.specs.HeardList as list
use Rattle.derivation.proofs.HeardReadings.{packed_length}
use Rattle.derivation.proofs.HeardTheorems.{finitely_many}
use Rattle.chart.specs.WorkTable.{table_size}
use Rattle.listing.specs.Demand3.{kth_bytes, RankedList}
use Rattle.open_listing.specs.Open as S
use Rattle.open_listing.proofs.Decided.{answer_decided, table_decided, output_decided, opening_blocks, calling_blocks}
use Rattle.open_search.specs.declared.Place.{Place}
use Rattle.open_answer.specs.Answer as A
use Rattle.open_answer.specs.Answer.{Reading, NoMore, Full, Refused}
use Rattle.codes.specs.Demand1.{answers, refuses}
use Rattle.open_calls.specs.OneByOne.{place_at, next_code, returned, Open, Next, Sequence, CallsInTurn, HandsOut, Idle, Room, OneByOne}
use Rattle.open_calls.specs.OneByOne.{EveryReading, EveryCall}
use Rattle.spireyerba.proofs.Demands.{low_code}
use Rattle.open_calls.proofs.OpenCalls.{low_open, low_call}
use Rattle.calls.specs.OpenCalls.{EveryReadingPasses, EveryListAgrees}
use Rattle.calls.proofs.RearrangedCalls.{answered_enough}

-- what opening leaves where it answers 0
record Opens (grammar heard work : List ℕ) (p' : Place) (work' : List ℕ) : Type 0 where
  blocks : S.Blocks
  accepts : S.opening grammar heard (length work) ≡ accepted blocks
  place : p' ≡ place_at 0 1
  table : work' ≡ replicate (length work) 0

opens : {grammar heard : List ℕ} {p : Place} {work : List ℕ} {code : ℤ} {p' : Place} {work' : List ℕ} → Open grammar heard p work (returned code p' work')
    → code ≡ pos 0 → Opens grammar heard work p' work'
opens (answers {a = b} e (z, p, w)) f = record { blocks = b; accepts = e; place = p; table = w }
opens (refuses {n = n} e row un) f = absurd (low_code n 0 (low_open n row).0 f)

calls_accept : (grammar heard : List ℕ) (b : S.Blocks) (work out : ℕ) → S.opening grammar heard work ≡ accepted b
    → output_length b.grammar b.heard ≤ out → S.calling grammar heard work out ≡ accepted b
unfolding S.calling
calls_accept grammar heard b work out e room = rw (e, le-ltb out (output_length b.grammar b.heard) room)

calls_short : (grammar heard : List ℕ) (b : S.Blocks) (work out : ℕ) → S.opening grammar heard work ≡ accepted b
    → out < output_length b.grammar b.heard → S.calling grammar heard work out ≡ refused 23
unfolding S.calling
calls_short grammar heard b work out e short = rw (e, lt-ltb out (output_length b.grammar b.heard) short)

-- a table that opening accepts has room for 256 readings
room_then : (v : Verdict Grammar) (w : Grammar → Verdict Heard) (work : ℕ) (b : S.Blocks)
    → (v then λ g. w g then λ h.
    pick (ltb work (table_size g.symbols (last_place h) 256)) (refused 22) (accepted (record { grammar = g; heard = h }))) ≡ accepted b
    → table_size b.grammar.symbols (last_place b.heard) 256 ≤ work
room_then (refused n) w work b e = absurd (refused≢accepted e)
room_then (accepted g) w work b e = go (w g) e
  where
    go : (v : Verdict Heard)
        → (v then λ h. pick (ltb work (table_size g.symbols (last_place h) 256)) (refused 22) (accepted (record { grammar = g; heard = h }))) ≡ accepted b
        → table_size b.grammar.symbols (last_place b.heard) 256 ≤ work
    go (refused n) e = absurd (refused≢accepted e)
    go (accepted h) e =
        let (t, is) = accepted_else (ltb work (table_size g.symbols (last_place h) 256)) 22 _ e in
        rw (← accepted_is is) (ltb-false _ _ t)

opening_room : (grammar heard : List ℕ) (b : S.Blocks) (work : ℕ) → S.opening grammar heard work ≡ accepted b
    → table_size b.grammar.symbols (last_place b.heard) 256 ≤ work
unfolding S.opening
opening_room grammar heard b work = room_then (grammar_block grammar) (λ g. heard_block g.words heard) work b

-- an answer that hands out nothing changes nothing; what is refused before the search, and what is full, says so
module _ {search : S.Search} {l : S.Lent} {r : S.Left} where
  idle_changes : S.Called search l r → (r.answer ≡ Reading → ⊥) → S.Unchanged l r
  idle_changes (S.turned_away e is same) other = same
  idle_changes (S.full e many is same) other = same
  idle_changes (S.asks e below (S.altered misspelled is same)) other = same
  idle_changes (S.asks e below (S.no_more missing is same)) other = same
  idle_changes (S.asks e below (S.one_more is more)) other = absurd (other is)

  full_said : {b : S.Blocks} → S.asked l ≡ accepted b → S.Called search l r → 256 ≤ l.place.handed → r.answer ≡ Full
  full_said f (S.turned_away e is same) many = absurd (refused≢accepted (sym e ∙ f))
  full_said f (S.full e enough is same) many = is
  full_said f (S.asks e below (S.altered misspelled is same)) many = absurd (omega (arith, below, many))
  full_said f (S.asks e below (S.no_more missing is same)) many = absurd (omega (arith, below, many))
  full_said f (S.asks e below (S.one_more is more)) many = absurd (omega (arith, below, many))

  turned_said : {n : ℕ} → S.asked l ≡ refused n → S.Called search l r → r.answer ≡ Refused n
  turned_said f (S.turned_away e is same) = let equal : _ = sym e ∙ f in is ∙ cc
  turned_said f (S.full e enough is same) = absurd (refused≢accepted (sym f ∙ e))
  turned_said f (S.asks e below (S.altered misspelled is same)) = absurd (refused≢accepted (sym f ∙ e))
  turned_said f (S.asks e below (S.no_more missing is same)) = absurd (refused≢accepted (sym f ∙ e))
  turned_said f (S.asks e below (S.one_more is more)) = absurd (refused≢accepted (sym f ∙ e))

  -- a reading that was handed out
  handed_out : S.Called search l r → r.answer ≡ Reading → (b : S.Blocks) × (S.asked l ≡ accepted b) × S.OneMore search b l r
  handed_out (S.turned_away e is same) f = let z : ◌≡◌ {A = ℕ} 0 1 = cc in absurd (omega arith)
  handed_out (S.full e many is same) f = let z : ◌≡◌ {A = ℕ} 0 1 = cc in absurd (omega arith)
  handed_out (S.asks e below (S.altered misspelled is same)) f = let z : ◌≡◌ {A = ℕ} 0 1 = cc in absurd (omega arith)
  handed_out (S.asks e below (S.no_more missing is same)) f = let z : ◌≡◌ {A = ℕ} 0 1 = cc in absurd (omega arith)
  handed_out (S.asks {b = b} e below (S.one_more is more)) f = (b, e, more)

module _ (search : S.Search) (s : Sequence) (calls : CallsInTurn search s)
    (opened : Opens s.grammar s.heard calls.work_before (s.place 0) (s.work 0))
  where
    abbrev b : S.Blocks
    b = opened.blocks

    -- how many derivations there are
    abbrev all : ℕ
    all = length (list.derivations b.grammar b.heard)

    -- before call k
    record Before (k : ℕ) : Type 0 where
      left : S.AsLeft search b (s.place k).handed (s.place k) (s.work k)
      size : length (s.work k) ≡ length calls.work_before

    module _ (k : ℕ) (l : k < s.calls) (before : Before k) where
      abbrev lent : S.Lent
      lent = S.lent s.grammar s.heard (s.place k) (s.work k) (s.out k)

      next : Next search lent (returned (s.code k) (s.place (suc k)) (s.work (suc k))) (s.written k)
      next = calls.call k l

      accepts : Room b s k → S.asked lent ≡ accepted b
      accepts room = rw before.size (calls_accept s.grammar s.heard b (length calls.work_before) (length (s.out k)) opened.accepts room)

      refuses_it : ¬ Room b s k → S.asked lent ≡ refused 23
      refuses_it short =
          rw before.size
          (calls_short s.grammar s.heard b (length calls.work_before) (length (s.out k)) opened.accepts (omega (arith, short)))

      abbrev After : Type 0
      After = S.After search b (s.place k).handed lent (S.left next.answer (s.work (suc k)) (s.written k))

      after : Room b s k → (s.place k).handed < 256 → After
      after room few = next.kept b (accepts room) (s.place k).handed few before.left

      -- a reading
      gives : Room b s k → (s.place k).handed < 256 → (s.place k).handed < all → HandsOut b s k (suc (s.place k).handed) × Before (suc k)
      gives room few more =
          let given = (after room few).gives all (finitely_many b.grammar b.heard) more in
          let left : S.AsLeft search b (suc (s.place k).handed) (s.place (suc k)) (s.work (suc k)) = rw next.place_is given.as_left in
          let handed : (s.place (suc k)).handed ≡ suc (s.place k).handed = ap (λ (p : Place). p.handed) left.place in (
            record {
              tree = given.tree;
              ranked = given.ranked;
              answers = next.code_is ∙ ap next_code given.reads;
              place = left.place;
              written = given.written;
              stands = given.stands;
            },
            record {
              left = subst (λ (n : ℕ). S.AsLeft search b n (s.place (suc k)) (s.work (suc k))) (sym handed) left;
              size = next.size ∙ before.size;
            },
          )

      -- or none
      idle : (a : A.CallAnswer) → next.answer ≡ a → (a ≡ Reading → ⊥) → Idle s k (next_code a) × Before (suc k)
      idle a is other =
          let same = idle_changes next.called (λ e. other (sym is ∙ e)) in
          let stays : s.place (suc k) ≡ s.place k = next.place_is ∙ unmoved next.answer (λ e. other (sym is ∙ e)) in (
            record { answers = next.code_is ∙ ap next_code is; place = stays; work = same.table; output = same.output },
            record { left = rw (stays, same.table) before.left; size = next.size ∙ before.size },
          )
        where
          unmoved : (a : A.CallAnswer) → (a ≡ Reading → ⊥) → S.place_after a (s.place k) ≡ s.place k
          unmoved Reading other = absurd (other refl)
          unmoved NoMore other = refl
          unmoved Full other = refl
          unmoved (Refused n) other = refl

      no_more : Room b s k → (s.place k).handed < 256 → all ≤ (s.place k).handed → Idle s k (pos 0) × Before (suc k)
      no_more room few beyond =
          idle NoMore ((after room few).says_no_more all (finitely_many b.grammar b.heard) beyond) (λ e. let z : ◌≡◌ {A = ℕ} 0 1 = cc in omega arith)

      full : Room b s k → 256 ≤ (s.place k).handed → Idle s k (pos 2) × Before (suc k)
      full room many = idle Full (full_said (accepts room) next.called many) (λ e. let z : ◌≡◌ {A = ℕ} 0 1 = cc in omega arith)

      no_room : ¬ Room b s k → Idle s k (neg_ℤ (pos 23)) × Before (suc k)
      no_room short = idle (Refused 23) (turned_said (refuses_it short) next.called) (λ e. let z : ◌≡◌ {A = ℕ} 0 1 = cc in omega arith)

      -- what call k does, whichever it is
      data Does : Type 0 where
        hands : HandsOut b s k (suc (s.place k).handed) → Does
        rests : (z : ℤ) → Idle s k z → (z ≡ pos 1 → ⊥) → Does

      does : Does × Before (suc k)
      does = go (dec_le (output_length b.grammar b.heard) (length (s.out k))) (dec_lt (s.place k).handed 256) (dec_lt (s.place k).handed all)
        where
          go : Dec (Room b s k) → Dec ((s.place k).handed < 256) → Dec ((s.place k).handed < all) → Does × Before (suc k)
          go (no short) d e = let (i, n) = no_room short in (rests _ i (λ f. let z : ◌≡◌ {A = ℕ} 0 1 = cc in omega arith), n)
          go (yes room) (no many) e = let (i, n) = full room (omega (arith, many)) in (rests _ i (λ f. let z : ◌≡◌ {A = ℕ} 0 1 = cc in omega arith), n)
          go (yes room) (yes few) (yes more) = let (i, n) = gives room few more in (hands i, n)
          go (yes room) (yes few) (no beyond) =
              let (i, n) = no_more room few (omega (arith, beyond)) in (rests _ i (λ f. let z : ◌≡◌ {A = ℕ} 0 1 = cc in omega arith), n)

    before_call : (k : ℕ) → k ≤ s.calls → Before k
    before_call zero l =
        let none_handed : (s.place 0).handed ≡ 0 = ap (λ (p : Place). p.handed) opened.place in
        let size = length calls.work_before in
        let fits = opening_room s.grammar s.heard b size opened.accepts in
        let first : S.AsLeft search b 0 (s.place 0) (s.work 0) = record { size = size; enough = fits; place = opened.place; table = opened.table } in
        record {
          left = subst (λ (n : ℕ). S.AsLeft search b n (s.place 0) (s.work 0)) (sym none_handed) first;
          size = rw (opened.table, length-replicate) refl;
        }
    before_call (suc k) l = (does k l (before_call k (omega arith))).1

    one_by_one : OneByOne b s
    one_by_one = record {
      derivations = all;
      finitely_many = finitely_many b.grammar b.heard;
      none_before = opened.place;
      gives = λ k l room few more. (gives k l (before_call k (omega arith)) room few more).0;
      no_more = λ k l room few beyond. (no_more k l (before_call k (omega arith)) room few beyond).0;
      full = λ k l room many. (full k l (before_call k (omega arith)) room many).0;
      no_room = λ k l short. (no_room k l (before_call k (omega arith)) short).0;
    }

    first_accepts : S.opening s.grammar s.heard (length (s.work 0)) ≡ accepted b
    first_accepts = rw (before_call 0 (omega arith)).size opened.accepts

pub every_reading : EveryReading
every_reading search s calls =
    let opened = opens calls.opens refl in
    (opened.blocks, first_accepts search s calls opened, one_by_one search s calls opened)

pub every_call : EveryCall
every_call search l r r' out out' c₁ c₂ =
    let answer = answer_decided search l c₁.called c₂.called in (
      c₁.code_is ∙ ap next_code answer ∙ sym c₂.code_is,
      c₁.place_is ∙ ap (λ (a : A.CallAnswer). S.place_after a l.place) answer ∙ sym c₂.place_is,
      table_decided search l c₁.called c₂.called,
      output_decided search l c₁.called c₂.called,
    )

-- the code 1 is a reading's alone
reads : (a : A.CallAnswer) → ((n : ℕ) → a ≡ Refused n → 1 ≤ n) → next_code a ≡ pos 1 → a ≡ Reading
reads Reading row e = refl
reads NoMore row e = let z : ◌≡◌ {A = ℕ} 0 1 = cc in absurd (omega arith)
reads Full row e = let z : ◌≡◌ {A = ℕ} 1 2 = cc in absurd (omega arith)
reads (Refused n) row e = absurd (low_code n 1 (row n refl) e)

-- a derivation's reading in the output: its own block, and zeros up to L
own_zeros : (g : Grammar) (h : Heard) (t : Tree) → (zeros : ℕ) × (packed g h t ≡ own_block g h t ++ replicate zeros 0)
unfolding padded
own_zeros g (slots u) t = (0, sym (append-nil (own_block g (slots u) t)))
own_zeros g (graph w) t = (output_length g (graph w) - length (own_block g (graph w) t), refl)

pub every_reading_passes : EveryReadingPasses
every_reading_passes search l r out' c e =
    let (b, is, more) = handed_out c.called (reads c.answer (λ n f. (low_call n (c.row n f)).0) (sym c.code_is ∙ e)) in
    let (eg, eh) = calling_blocks l.grammar l.heard (length l.work) (length l.out) b is in
    let okg = (grammar_block_out l.grammar b.grammar eg).0 in
    let okh = (heard_block_out b.grammar.words l.heard b.heard eh).0 in
    let (zeros, packed_is) = own_zeros b.grammar b.heard more.tree in
    let long : length (packed b.grammar b.heard more.tree) ≡ output_length b.grammar b.heard =
    packed_length b.grammar okg b.heard okh more.tree more.derivation in (
      b,
      is,
      record {
        front = own_block b.grammar b.heard more.tree;
        zeros = zeros;
        length_is = sym (ap length packed_is ∙ rw (length-append, length-replicate) refl) ∙ long;
        written = more.written ∙ ap (λ (x : List ℕ). x ++ drop (output_length b.grammar b.heard) l.out) packed_is;
        passes = λ code check. check.demand_2.1 (b.grammar, b.heard, more.tree, eg, eh, more.derivation, refl);
      },
    )

pub every_list_agrees : EveryListAgrees
every_list_agrees search s calls b is N m work out work' out' listing k l code few =
    let opened = opens calls.opens refl in
    let same : opened.blocks ≡ b = accepted_is (sym (first_accepts search s calls opened) ∙ is) in
    let before = before_call search s calls opened k (omega arith) in
    subst (λ (c : S.Blocks). take (output_length c.grammar c.heard) (s.written k)
    ≡ kth_bytes (output_length c.grammar c.heard) (suc (s.place k).handed) out') same
    (go opened (handed opened (does search s calls opened k l before).0))
  where
    handed : (opened : Opens s.grammar s.heard calls.work_before (s.place 0) (s.work 0))
        → Does search s calls opened k l (before_call search s calls opened k (omega arith)) → HandsOut opened.blocks s k (suc (s.place k).handed)
    handed opened (hands h) = h
    handed opened (rests z i other) = absurd (other (sym i.answers ∙ code))

    go : (opened : Opens s.grammar s.heard calls.work_before (s.place 0) (s.work 0)) → HandsOut opened.blocks s k (suc (s.place k).handed)
        → take (output_length opened.blocks.grammar opened.blocks.heard) (s.written k)
        ≡ kth_bytes (output_length opened.blocks.grammar opened.blocks.heard) (suc (s.place k).handed) out'
    go opened h =
        let g = opened.blocks.grammar in
        let u = opened.blocks.heard in
        let (eg, eh) = opening_blocks s.grammar s.heard (length calls.work_before) opened.blocks opened.accepts in
        let okg = (grammar_block_out s.grammar g eg).0 in
        let okh = (heard_block_out g.words s.heard u eh).0 in
        let asks = answered_enough s.grammar s.heard eg eh N listing in
        let ranked : RankedList g u N work out (λ n. pos m ≡ pos n) work' out' =
        listing.demand_3 g eg u eh asks.positive asks.few asks.table asks.room in
        let found : m ≡ ranked.m = let both = ranked.accepts in cc in
        let (t, rank, bytes) = ranked.readings (suc (s.place k).handed) (omega arith) (omega (arith, found, few)) in
        let tree : h.tree ≡ t = rank.no_other h.tree h.ranked.derivation h.ranked.rank in
        let long = packed_length g okg u okh h.tree h.ranked.derivation in
        ap (take (output_length g u)) h.written ∙ take_at (packed g u h.tree) (drop (output_length g u) (s.out k)) (output_length g u) long
        ∙ ap (packed g u) tree ∙ sym {b = packed g u t} bytes
