-- What opening and a call, as the models have them, say of the definitions.
use mathlib.Core.Path.{◌≡◌, refl, sym, ap, subst, ◌∙◌}
use mathlib.Core.Bool.{Bool, true, false, false≢true}
use mathlib.Core.List.{List}
use Prim.Native.Nat.{ℕ, suc, ◌*◌, ◌≤◌, ◌<◌}
use native.Mathlib.Omega.{arith}
use borrow.Author.Tests.{ltb-true, ltb-false, eqb-true, eqb-false, eq-eqb}
use lib.Dec.{eqb, ltb}
use lib.ListN.{length, replicate, take, length-replicate}
use lib.Seq.{length-take-le}
use Rattle.packing.specs.Meaning.{Grammar, Heard, last_place, heard_edges}
use Rattle.packing.specs.Parse.{Verdict, accepted, refused}
use Rattle.packing.specs.Grammar.{grammar_block}
use Rattle.packing.specs.Heard.{heard_block}
use Rattle.packing.specs.Flat.{Begins, rule_numbers, edge_numbers}
use Rattle.packing.proofs.Parse.{accepted_is}
use Rattle.packing.proofs.Whole.{grammar_block_out}
use Rattle.packing.proofs.Heard.{heard_block_out}
use Rattle.packing.specs.Valid.{ValidGrammar, ValidHeard}
use Rattle.derivation.specs.Derivation.{Derivation}
use Rattle.derivation.specs.Heard.{output_length}
use Rattle.derivation.specs.Rank.{Number}
use Rattle.chart_table.specs.declared.Layout.{Layout}
use Rattle.chart.specs.Chart.{lay_out, root_found}
use Rattle.chart_theory.proofs.Accepted.{layout}
use Rattle.chart_theory.proofs.Search.Passes.{Listed}
use Rattle.chart.specs.WorkTable.{table_size}
use Rattle.bits.specs.Bits.{pick}
use Rattle.inputs.specs.Inputs.{meant_by, ReadOf, rules_array, edges_array}
use Rattle.inputs.specs.declared.Inputs.{Inputs}
use Rattle.inputs.proofs.BlocksRead.{rules_begin, edges_begin, both_accepted, meant_first}
use Rattle.open_listing.specs.Open as S
use Rattle.open_answer.specs.Model.{Planned}
use Rattle.open_search.specs.Model.{zeros, Answered, Searched, unchanged, seeks, table_by, sought_by, call_by, As}
use Rattle.open_listing.specs.Model.{plan_of, next_by, next_of, searched, OpensAs}
use Rattle.open_search.specs.declared.Place.{Place}
use Rattle.open_answer.specs.declared.Plan.{Plan}
use Rattle.std.specs.Prelude.{Result, Ok, Err}
use Rattle.packing.specs.Refusal.{number}
use Rattle.packing.specs.declared.refusal.Refusal.{Refusal}
use Rattle.packing.specs.declared.refusal.Refusal.TheVariants.{ListingWork}
use Rattle.open_answer.specs.Answer as A
use Rattle.open_answer.specs.Answer.{Full, Refused}
use Rattle.open_search.proofs.Zeros.{zeros_are, zeros_all}
use Rattle.open_search.proofs.Searched.{front_fits}
use Rattle.open_listing.proofs.Plans.{plan, numbers_are, bytes_are}
use Rattle.open_listing.proofs.Promises.{blocks, opening_short, opening_accepts, calling_short, calling_output, calling_accepts, called, after}
use Rattle.open_listing.proofs.Steps as steps

different : {X : Type 0} {v : Verdict S.Blocks} {n : ℕ} {b : S.Blocks} → v ≡ refused n → v ≡ accepted b → X
different e f = let z : ◌≡◌ {A = ℕ} 0 1 = cc in absurd (omega arith)

-- what is promised of a call
abbrev Promised : S.Search → S.Lent → S.Left → Type 0
Promised search l r = S.Called search l r × S.Kept search l r

-- the search is that of the models
abbrev Makes : S.Search → Grammar → Heard → (rules edges : List ℕ) → Plan → Type 0
Makes search g h rules edges q = (p : Place) (work : List ℕ) → search g h p work ≡ table_by rules edges q p work

-- what holds of both branches of a test
by_test : {X : Type 0} (P : X → Type 0) (b : Bool) (x y : X) → (b ≡ true → P x) → (b ≡ false → P y) → P (pick b x y)
by_test P true x y t f = t refl
by_test P false x y t f = f refl

-- a refusal before the search
refused_promised : (search : S.Search) (l : S.Lent) {n : ℕ} → S.asked l ≡ refused n → Promised search l (unchanged (Refused n) l.work l.out)
refused_promised search l e = (S.turned_away e refl (record { table = refl; output = refl }), λ b f. different e f)

-- a call whose arrays begin with the rules of a grammar and the edges of what was heard
module _ (grammar heard : List ℕ) (g : Grammar) (h : Heard) (eg : grammar_block grammar ≡ accepted g) (eh : heard_block g.words heard ≡ accepted h)
    (rules edges : List ℕ) (begun : Begins (rule_numbers g) rules) (begun' : Begins (edge_numbers (heard_edges h)) edges)
    {limit : ℕ} (planned : Planned limit (plan g h))
    (search : S.Search) (makes : Makes search g h rules edges (plan g h)) (p : Place) (work out : List ℕ) where
  abbrev d : Layout
  d = layout g h 256

  abbrev numbers : ℕ
  numbers = 4 * d.cells * d.ranks

  numbers_is : numbers ≡ table_size g.symbols (last_place h) 256
  numbers_is = numbers_are g h refl refl

  bytes_is : (plan g h).form.size ≡ output_length g h
  bytes_is = bytes_are g h refl

  okg : ValidGrammar g
  okg = (grammar_block_out grammar g eg).0

  okh : ValidHeard g.words h
  okh = (heard_block_out g.words heard h eh).0

  abbrev lent : S.Lent
  lent = S.lent grammar heard p work out

  abbrev PromisedOf : S.Left → Type 0
  PromisedOf r = Promised search lent r

  abbrev read : S.Blocks
  read = blocks grammar heard g h eg eh

  short_table : length work < numbers → PromisedOf (unchanged (Refused 22) work out)
  short_table short =
      refused_promised search lent
      (calling_short grammar heard g h eg eh (length work) (length out) (omega (arith, numbers_is, short)))

  short_output : numbers ≤ length work → length out < (plan g h).form.size → PromisedOf (unchanged (Refused 23) work out)
  short_output room short =
      refused_promised search lent
      (calling_output grammar heard g h eg eh (length work) (length out) (omega (arith, numbers_is, room)) (omega (arith, bytes_is, short)))

  -- where nothing is short
  module _ (room : numbers ≤ length work) (enough : (plan g h).form.size ≤ length out) where
    fits : table_size g.symbols (last_place h) 256 ≤ length work
    fits = omega (arith, numbers_is, room)

    calls : S.asked lent ≡ accepted read
    calls = calling_accepts grammar heard g h eg eh (length work) (length out) fits (omega (arith, bytes_is, enough))

    full : 256 ≤ p.handed → PromisedOf (unchanged Full work out)
    full many = (
      S.full calls many refl (record { table = refl; output = refl }),
      λ b f k few left. absurd (omega (arith, ap (λ (x : Place). x.handed) left.place)),
    )

    -- the test says whether a rank is looked for
    front_clear : zeros (take (4 * d.cells) work) ≡ true → S.FrontZero g h work
    unfolding lay_out
    front_clear z =
        let size : length (take (4 * d.cells) work) ≡ 4 * d.cells = length-take-le _ work (front_fits (plan g h) planned refl room) in
        rw size at (zeros_are _ z)

    clear_front : S.FrontZero g h work → zeros (take (4 * d.cells) work) ≡ true
    unfolding lay_out
    clear_front front = ap zeros front ∙ zeros_all (4 * d.cells)

    is_sought : seeks (plan g h) p work ≡ true → S.LooksFor g h p work
    unfolding seeks
    is_sought z =
        let (opened, clear) = go (eqb p.opened 1) (eqb p.handed 0) z in
        record { opened = eqb-true _ _ opened; front_zero = λ first. front_clear (clear (eq-eqb p.handed 0 first)) }
      where
        go : (a b : Bool) {c : Bool} → pick a (pick b c true) false ≡ true → (a ≡ true) × (b ≡ true → c ≡ true)
        go false b e = absurd (false≢true e)
        go true false e = (refl, λ z. absurd (false≢true z))
        go true true e = (refl, λ z. e)

    tests : S.LooksFor g h p work → seeks (plan g h) p work ≡ true
    unfolding seeks
    tests s = rw (eq-eqb p.opened 1 s.opened) (go (eqb p.handed 0) (λ z. clear_front (s.front_zero (eqb-true _ _ z))))
      where
        go : (b : Bool) {c : Bool} → (b ≡ true → c ≡ true) → pick b c true ≡ true
        go true e = e refl
        go false e = refl

    -- what its table leaves and adds
    abbrev table : List ℕ
    table = table_by rules edges (plan g h) p work

    looked : S.Looked g h p work table
    unfolding table_by
    looked =
        by_test (S.Looked g h p work) (seeks (plan g h) p work) _ _
        (λ s. by_test (S.Looked g h p work) (eqb p.handed 0) _ _
        (λ z. steps.first_looked g h okg okh rules edges begun begun' work p (is_sought s) (eqb-true _ _ z))
        (λ z. steps.later_looked g h okg okh rules edges begun begun' work p (is_sought s) (some (eqb-false p.handed 0 z))))
        (λ s. steps.same_looked g h okg okh rules edges begun begun' work p)
      where
        some : (p.handed ≡ 0 → ⊥) → 1 ≤ p.handed
        some other = omega (arith, other)

    -- a place and a table as they were left are looked into
    left_sought : S.AsLeft search read p.handed p work → S.LooksFor g h p work
    left_sought left = record {
      opened = ap (λ (x : Place). x.opened) left.place;
      front_zero = λ first.
          let zeros_left : work ≡ replicate left.size 0 = left.table ∙ ap (S.table_after search g h left.size) first in
          let long : length work ≡ left.size = ap length zeros_left ∙ length-replicate left.size 0 in
          steps.front_zero g h okg okh rules edges begun begun' work fits (zeros_left ∙ ap (λ (x : ℕ). replicate x 0) (sym long));
    }

    module _ (below : p.handed < 256) where
      abbrev left : S.Left
      left = sought_by rules edges (plan g h) p work out

      answered : Answered (pick (seeks (plan g h) p work) (root_found table d p.handed) true) table rules edges (plan g h) p.handed work out
          left.answer left.table left.output
      unfolding sought_by
      answered = record { answer = refl; left = refl; output = refl }

      kept_after : S.AsLeft search read p.handed p work → S.After search read p.handed lent left
      kept_after was =
          let searched : Searched table rules edges (plan g h) p.handed work out left.answer left.table left.output =
          rw (tests (left_sought was)) at answered in
          let again : S.table_after search g h was.size (suc p.handed) ≡ table =
          sym (ap (λ (x : Place). search g h x work) was.place ∙ ap (search g h (S.place_of p.handed)) was.table) ∙ makes p work in
          let listed = steps.left_listed g h okg okh rules edges begun begun' search makes was.size was.enough p.handed below in
          let known : Listed g (heard_edges h) d p.handed table = subst (Listed g (heard_edges h) d p.handed) again listed in
          after search grammar heard g h eg eh rules edges begun begun' planned p work out calls below table searched known was (makes p work)

      kept : S.Kept search lent left
      kept b f k few was =
          let same : read ≡ b = accepted_is (sym calls ∙ f) in
          let was₁ : S.AsLeft search read k p work = rw (← same) at was in
          let handed : p.handed ≡ k = ap (λ (x : Place). x.handed) was₁.place in
          let was₂ : S.AsLeft search read p.handed p work = rw (← handed) at was₁ in
          subst (λ (x : S.Blocks). S.After search x k lent left) same (subst (λ (x : ℕ). S.After search read x lent left) handed (kept_after was₂))

      sought : PromisedOf left
      sought = (
        called search grammar heard g h eg eh rules edges begun begun' planned p work out calls below table (seeks (plan g h) p work) is_sought tests answered
            (makes p work) looked,
        kept,
      )

  -- every call
  due : PromisedOf (call_by rules edges (plan g h) p work out)
  unfolding call_by
  due =
      by_test PromisedOf (ltb (length work) numbers) _ _ (λ s. short_table (ltb-true _ _ s)) λ s.
      let room = ltb-false (length work) numbers s in
      by_test PromisedOf (ltb (length out) (plan g h).form.size) _ _ (λ s. short_output room (ltb-true _ _ s)) λ s.
      let enough = ltb-false (length out) (plan g h).form.size s in
      by_test PromisedOf (ltb p.handed 256) _ _ (λ b. sought room enough (ltb-true p.handed 256 b)) (λ b. full room enough (ltb-false _ _ b))

-- of inputs that were read where zeros were lent
module _ {grammar heard : List ℕ} {z : Inputs} {rules edges : List ℕ} (k : ReadOf heard_block grammar heard (replicate 1280 0) (replicate 672 0) z rules edges)
    (q : Plan) (is : q ≡ plan_of z) where
  made : Makes searched k.meant.grammar k.meant.heard rules edges q
  made p work =
      let m = k.meant in
      sym (ap (λ (x : List ℕ). table_by x edges q p work) k.rules_laid ∙ ap (λ (x : List ℕ). table_by (rules_array m.grammar) x q p work) k.edges_laid
      ∙ ap (λ (x : Plan). table_by (rules_array m.grammar) (edges_array m.heard) x p work) (is ∙ ap plan_of k.sizes))

  pub read_called : {limit : ℕ} → Planned limit q → (p : Place) (work out : List ℕ) {a : A.CallAnswer} {work' out' : List ℕ}
      → As (call_by rules edges q p work out) a work' out'
      → Promised searched (S.lent grammar heard p work out) (S.left a work' out')
  read_called planned p work out s =
      let m = k.meant in
      let same : q ≡ plan m.grammar m.heard = is ∙ ap plan_of k.sizes in
      let makes : Makes searched m.grammar m.heard rules edges (plan m.grammar m.heard) =
      λ x t. made x t ∙ ap (λ (y : Plan). table_by rules edges y x t) same in
      rw (s.answer, s.table, s.output, same)
      (due grammar heard m.grammar m.heard k.grammar_is k.heard_is rules edges (rules_begin k) (edges_begin k) (rw same at planned) searched makes p
      work out)

-- and where zeros were lent, the call is a function of what was handed in
pub read_next : {grammar heard : List ℕ} {z : Inputs} {rules edges : List ℕ}
    (k : ReadOf heard_block grammar heard (replicate 1280 0) (replicate 672 0) z rules edges)
    (q : Plan) → q ≡ plan_of z → (p : Place) (work out : List ℕ) {a : A.CallAnswer} {work' out' : List ℕ}
    → As (call_by rules edges q p work out) a work' out' → As (next_of grammar heard p work out) a work' out'
read_next {rules = rules} {edges} k q is p work out {a} {work'} {out'} s =
    let m = k.meant in
    let same : call_by rules edges q p work out ≡ next_by (accepted m) p work out =
    ap (λ (x : List ℕ). call_by x edges q p work out) k.rules_laid ∙ ap (λ (x : List ℕ). call_by (rules_array m.grammar) x q p work out) k.edges_laid
    ∙ ap (λ (x : Plan). call_by (rules_array m.grammar) (edges_array m.heard) x p work out) (is ∙ ap plan_of k.sizes) in
    rw (both_accepted k) (subst (λ (l : S.Left). As l a work' out') same s)

pub refused_next : (grammar heard : List ℕ) (p : Place) (work out : List ℕ) {n : ℕ} → meant_by heard_block grammar heard ≡ refused n
    → As (next_of grammar heard p work out) (Refused n) work out
refused_next grammar heard p work out e = rw e (record { answer = refl; table = refl; output = refl })

-- a refusal of the blocks
inputs_refused : (grammar heard : List ℕ) (work : ℕ) {n : ℕ} → meant_by heard_block grammar heard ≡ refused n → S.opening grammar heard work ≡ refused n
unfolding S.opening
inputs_refused grammar heard work e = meant_first heard_block grammar heard _ ∙ rw e

pub inputs_not_called : (grammar heard : List ℕ) (p : Place) (work out : List ℕ) {n : ℕ} → meant_by heard_block grammar heard ≡ refused n
    → Promised searched (S.lent grammar heard p work out) (unchanged (Refused n) work out)
unfolding S.calling
inputs_not_called grammar heard p work out e =
    refused_promised searched (S.lent grammar heard p work out) (rw (inputs_refused grammar heard (length work) e))

-- opening
abbrev OpenedAs : (grammar heard work : List ℕ) → Result (Unit {0}) Refusal → (work' : List ℕ) → Type 0
OpenedAs grammar heard work r work' = OpensAs (S.opening grammar heard (length work)) work r work'

pub inputs_not_opened : (grammar heard work : List ℕ) {r : Refusal} → meant_by heard_block grammar heard ≡ refused (number r)
    → OpenedAs grammar heard work (Err r) work
inputs_not_opened grammar heard work e = rw (inputs_refused grammar heard (length work) e) (record { answer = refl; table = refl })

module _ {grammar heard rules₀ edges₀ : List ℕ} {z : Inputs} {rules edges : List ℕ} (k : ReadOf heard_block grammar heard rules₀ edges₀ z rules edges)
    {q : Plan} (is : q ≡ plan_of z) {r : ℕ} (er : r ≡ 4 * q.layout.cells * q.layout.ranks) (work : List ℕ) where
  size : r ≡ table_size k.meant.grammar.symbols (last_place k.meant.heard) 256
  size = numbers_are k.meant.grammar k.meant.heard (is ∙ ap plan_of k.sizes) er

  pub not_opened_short : length work < r → OpenedAs grammar heard work (Err ListingWork) work
  not_opened_short short =
      rw (opening_short grammar heard k.meant.grammar k.meant.heard k.grammar_is k.heard_is (length work) (omega (arith, size, short)))
      (record { answer = refl; table = refl })

  pub opened_zeros : r ≤ length work → {work' : List ℕ} → work' ≡ replicate (length work) 0 → OpenedAs grammar heard work (Ok tt) work'
  opened_zeros room is-zeros =
      rw (opening_accepts grammar heard k.meant.grammar k.meant.heard k.grammar_is k.heard_is (length work) (omega (arith, size, room)))
      (record { answer = refl; table = is-zeros })
