-- What a call is to promise, from what its search leaves: whatever the table held (`Called`), and after k readings (`Kept`).
use mathlib.Core.Path.{◌≡◌, refl, sym, ap, ◌∙◌}
use mathlib.Core.Bool.{Bool, true, false, false≢true}
use mathlib.Core.Option.{none}
use mathlib.Core.List.{List, ◌++◌}
use Prim.Native.Nat.{ℕ, suc, ◌+◌, ◌≤◌, ◌<◌}
use native.Mathlib.Numerals.{add-one, one-add}
use native.Mathlib.Omega.{arith}
use borrow.Author.Tests.{lt-ltb, le-ltb, eqb-true, eqb-false, not-true, not-false}
use lib.Dec.{eqb}
use lib.ListN.{length, drop, length-take}
use Rattle.bits.specs.Bits.{pick}
use Rattle.packing.specs.Meaning.{symbol_of, Grammar, Heard, last_place, heard_edges}
use Rattle.packing.specs.Parse.{accepted, refused}
use Rattle.packing.specs.Grammar.{grammar_block}
use Rattle.packing.specs.Heard.{heard_block}
use Rattle.packing.specs.Flat.{Begins, rule_numbers, edge_numbers}
use Rattle.packing.specs.Valid.{ValidGrammar, ValidHeard}
use Rattle.packing.proofs.Parse.{accepted_is}
use Rattle.packing.proofs.Whole.{grammar_block_out}
use Rattle.packing.proofs.Heard.{heard_block_out}
use Rattle.derivation.specs.Derivation.{Tree, Derivation}
use Rattle.derivation.specs.Heard.{output_length, packed}
use Rattle.derivation.specs.HeardList.{derivations}
use Rattle.derivation.specs.Rank.{Number}
use Rattle.derivation.proofs.HeardTheorems.{least_element, least_length}
use Rattle.chart_table.specs.Table.{root, cell_number, price_at}
use Rattle.chart.specs.Chart.{lay_out, root_found}
use Rattle.chart_theory.specs.Spelled.{names_edges}
use Rattle.chart_theory.proofs.Chart.{RootSpells, has_spells}
use Rattle.chart_theory.proofs.Accepted.{layout, passed_spelled, spelled_passed, Reached, rank_reached}
use Rattle.chart_theory.proofs.Search.Passes.{Listed}
use Rattle.chart.specs.WorkTable.{table_size}
use Rattle.traced_readings.specs.Ranked.{Ranked}
use Rattle.traced_readings.proofs.Sizes.{size_is}
use Rattle.traced_readings.proofs.Packed.{block_is}
use Rattle.open_listing.specs.Stands.{entry, SpelledReading, Standing}
use Rattle.open_listing.specs.Open as S
use Rattle.open_answer.specs.Model.{Planned, is_reading, hands_out, settled}
use Rattle.open_search.specs.Model.{Answered, Searched}
use Rattle.open_search.specs.declared.Place.{Place}
use Rattle.open_answer.specs.Answer as A
use Rattle.open_answer.specs.Answer.{Reading, NoMore, Refused}
use Rattle.open_listing.proofs.Plans.{plan}
use Rattle.open_listing.proofs.Stands.{found_entry, no_entry, reading_to, reading_from}
use Rattle.open_listing.proofs.Standing.{standing}

-- what is tested before the search
module _ (grammar heard : List ℕ) (g : Grammar) (h : Heard) (eg : grammar_block grammar ≡ accepted g) (eh : heard_block g.words heard ≡ accepted h) where
  abbrev pub blocks : S.Blocks
  blocks = record { grammar = g; heard = h }

  pub opening_short : (work : ℕ) → work < table_size g.symbols (last_place h) 256 → S.opening grammar heard work ≡ refused 22
  unfolding S.opening
  opening_short work short = rw (eg, eh, lt-ltb work (table_size g.symbols (last_place h) 256) short)

  pub opening_accepts : (work : ℕ) → table_size g.symbols (last_place h) 256 ≤ work → S.opening grammar heard work ≡ accepted blocks
  unfolding S.opening
  opening_accepts work room = rw (eg, eh, le-ltb work (table_size g.symbols (last_place h) 256) room)

  module _ (work out : ℕ) where
    pub calling_short : work < table_size g.symbols (last_place h) 256 → S.calling grammar heard work out ≡ refused 22
    unfolding S.calling
    calling_short short = rw (opening_short work short)

    pub calling_output : table_size g.symbols (last_place h) 256 ≤ work → out < output_length g h → S.calling grammar heard work out ≡ refused 23
    unfolding S.calling
    calling_output room short = rw (opening_accepts work room, lt-ltb out (output_length g h) short)

    pub calling_accepts : table_size g.symbols (last_place h) 256 ≤ work → output_length g h ≤ out → S.calling grammar heard work out ≡ accepted blocks
    unfolding S.calling
    calling_accepts room enough = rw (opening_accepts work room, le-ltb out (output_length g h) enough)

-- where nothing is short
module _ (search : S.Search) (grammar heard : List ℕ) (g : Grammar) (h : Heard) (eg : grammar_block grammar ≡ accepted g)
    (eh : heard_block g.words heard ≡ accepted h)
    (rules edges : List ℕ) (begun : Begins (rule_numbers g) rules) (begun' : Begins (edge_numbers (heard_edges h)) edges)
    {limit : ℕ} (planned : Planned limit (plan g h))
    (p : Place)
    (work out : List ℕ)
    (calls : S.calling grammar heard (length work) (length out) ≡ accepted (blocks grammar heard g h eg eh)) where
  okg : ValidGrammar g
  okg = (grammar_block_out grammar g eg).0

  okh : ValidHeard g.words h
  okh = (heard_block_out g.words heard h eh).0

  -- whatever the table held
  module _ (below : p.handed < 256) {found : Bool} (table : List ℕ) {r : A.CallAnswer} {work' out' : List ℕ}
      (answered : Answered found table rules edges (plan g h) p.handed work out r work' out') where
    nothing_left : (a : A.CallAnswer) → r ≡ a → is_reading a ≡ false → S.Unchanged (S.lent grammar heard p work out) (S.left r work' out')
    nothing_left a e n = record { table = rw (e, n) at answered.left; output = rw (e, n) at answered.output }

    -- the reading that is written, of a derivation that the rank spells
    written : (z : Tree) → Derivation g h z → RootSpells (names_edges h) g (heard_edges h) rules (layout g h 256) table p.handed z → r ≡ Reading
        → out' ≡ packed g h z ++ drop (output_length g h) out
    unfolding lay_out
    written z derived has e =
        rw e at answered.output
        ∙ rw (block_is g 256 rules table h planned.form.some_place p.handed z has derived, size_is g h)

    one_more : r ≡ Reading → search g h p work ≡ table → S.Looked g h p work table → hands_out table rules edges (plan g h) p.handed ≡ true
        → S.OneMore search (blocks grammar heard g h eg eh) (S.lent grammar heard p work out) (S.left r work' out')
    one_more e made looked hands =
        let (z, derived, has, spelled) = passed_spelled g h 256 okg okh (omega arith) (omega arith) rules edges begun begun' table p.handed hands in
        let left : work' ≡ table = rw e at answered.left in
        rw left (record {
          tree = z;
          derivation = derived;
          written = written z derived has e;
          spelled = reading_from g h table spelled derived;
          looked = looked;
          table_is = sym made;
        })

    answer_is : r ≡ pick found (pick (hands_out table rules edges (plan g h) p.handed) Reading (Refused 53)) NoMore
    unfolding settled
    answer_is = answered.answer

    -- no reading that passes is spelled
    abbrev NonePasses : Type 0
    NonePasses = (z : Tree) → Derivation g h z → SpelledReading g h table p.handed z → ⊥

    -- by what is known of the table where the rank is taken for found, and where not
    called_by : search g h p work ≡ table → S.Looked g h p work table → (found ≡ true → NonePasses → S.Misspelled g h p work table)
        → (found ≡ false → S.Missing g h p work table) → S.Called search (S.lent grammar heard p work out) (S.left r work' out')
    called_by made looked misspelled missing = go found (hands_out table rules edges (plan g h) p.handed) refl refl answer_is
      where
        none_passes : hands_out table rules edges (plan g h) p.handed ≡ false → NonePasses
        none_passes f z derived spelled =
            false≢true (sym f ∙ spelled_passed g h 256 okg okh (omega arith) (omega arith) rules edges begun begun' table p.handed z derived
            (reading_to g h table spelled))

        go : (a b : Bool) → found ≡ a → hands_out table rules edges (plan g h) p.handed ≡ b → r ≡ pick a (pick b Reading (Refused 53)) NoMore
            → S.Called search (S.lent grammar heard p work out) (S.left r work' out')
        go false b is hands e = S.asks calls below (S.no_more (rw made (missing is)) e (nothing_left NoMore e refl))
        go true false is hands e = S.asks calls below (S.altered (rw made (misspelled is (none_passes hands))) e (nothing_left (Refused 53) e refl))
        go true true is hands e = S.asks calls below (S.one_more e (one_more e made looked hands))

  -- where the rank was looked for or not, as the test says: whatever the table held
  module _ (below : p.handed < 256) (table : List ℕ) (sought : Bool) (is_sought : sought ≡ true → S.LooksFor g h p work)
      (tests : S.LooksFor g h p work → sought ≡ true)
      {r : A.CallAnswer} {work' out' : List ℕ}
      (answered : Answered (pick sought (root_found table (layout g h 256) p.handed) true) table rules edges (plan g h) p.handed work out r work' out')
    where
      abbrev price : ℕ
      price = price_at table (layout g h 256) (cell_number (layout g h 256) (root (layout g h 256))) p.handed

      asked_found : root_found table (layout g h 256) p.handed ≡ true → S.AskedFound g h p work table
      unfolding root_found lay_out
      asked_found is =
          let some : 0 < price = omega (arith, eqb-false price 0 (not-true (eqb price 0) is)) in
          (_, found_entry g h table (symbol_of 0) 0 (last_place h) p.handed some)

      asked_missing : root_found table (layout g h 256) p.handed ≡ false → entry g h table (symbol_of 0) 0 (last_place h) p.handed ≡ none
      unfolding root_found lay_out
      asked_missing is = no_entry g h table (symbol_of 0) 0 (last_place h) p.handed (eqb-true price 0 (not-false (eqb price 0) is))

      pub called : search g h p work ≡ table → S.Looked g h p work table → S.Called search (S.lent grammar heard p work out) (S.left r work' out')
      called made looked =
          called_by below table answered made looked
          (λ is misspelled. record { looked = looked; none_passes = misspelled; found = λ s. asked_found (tested sought (tests s) is) })
          (λ is. let (s, missing) = untested sought is in record { looked = looked; sought = is_sought s; missing = asked_missing missing })
        where
          tested : (b : Bool) → b ≡ true → {c : Bool} → pick b c true ≡ true → c ≡ true
          tested true sure e = e
          tested false sure e = absurd (false≢true sure)

          untested : (b : Bool) {c : Bool} → pick b c true ≡ false → (b ≡ true) × (c ≡ false)
          untested true e = (refl, e)
          untested false e = absurd (false≢true (sym e))

  -- of a table in which the rank was looked for
  module _ (below : p.handed < 256) (table : List ℕ) {r : A.CallAnswer} {work' out' : List ℕ}
      (searched : Searched table rules edges (plan g h) p.handed work out r work' out') where
    -- where the ranks of the root are known up to the one that was looked for
    module _ (known : Listed g (heard_edges h) (layout g h 256) p.handed table) where
      reached : Reached g h 256 okg okh (omega arith) (omega arith) rules edges begun begun' table p.handed
      reached = rank_reached g h 256 okg okh (omega arith) (omega arith) rules edges begun begun' table p.handed known below

      -- there are as many derivations as the list has
      number_is : (n : ℕ) → Number (Derivation g h) n → n ≡ length (derivations g h)
      number_is n all =
          let N = n + length (derivations g h) in
          omega (arith, least_length g h N n all, length-take N (derivations g h))

      abbrev b : S.Blocks
      b = blocks grammar heard g h eg eh

      module _ (left : S.AsLeft search b p.handed p work) (made : search g h p work ≡ table) where
        gives : p.handed < length (derivations g h) → S.Gives search b p.handed (S.lent grammar heard p work out) (S.left r work' out')
        gives more =
            let (found, hands, (z, rank)) = reached.some more in
            let (derived, ranks, few) = (least_element g h 256 p.handed z).0 rank.place in
            let reads : r ≡ Reading = answer_is below table searched ∙ rw (found, hands) in
            let stays : work' ≡ table = rw reads at searched.left in
            let opened : p.opened ≡ 1 = ap (λ (q : Place). q.opened) left.place in
            let place : S.place_after r p ≡ S.place_of (suc p.handed) = ap (λ (a : A.CallAnswer). S.place_after a p) reads ∙ rw (add-one p.handed, opened) in
            let again : search g h p work ≡ S.table_after search g h left.size (suc p.handed) =
            ap (λ (q : Place). search g h q work) left.place ∙ ap (search g h (S.place_of p.handed)) left.table in
            record {
              tree = z;
              ranked = record {
                derivation = derived;
                rank = rw (one-add p.handed) at ranks;
                no_other = λ s c also. let there = (least_element g h 256 p.handed s).1 (c, rw (one-add p.handed) also, few) in cc;
              };
              reads = reads;
              written = written below table searched z derived (has_spells (names_edges h) rank.has) reads;
              as_left = record { size = left.size; enough = left.enough; place = place; table = stays ∙ sym made ∙ again };
              stands = rw stays (standing g h okg okh rules edges begun begun' p.handed table known);
            }

        pub after : S.After search b p.handed (S.lent grammar heard p work out) (S.left r work' out')
        after = record {
          gives = λ n all more. gives (omega (arith, number_is n all));
          says_no_more = λ n all few. answer_is below table searched ∙ rw (reached.none (omega (arith, number_is n all)));
        }
