-- What a row means follows from what its definition comes to, by the services' theorems.
use mathlib.Core.Path.{◌≡◌, refl, sym, ap, ◌∙◌, subst}
use mathlib.Core.Bool.{Bool, true, false, ◌&&◌, false≢true}
use mathlib.Core.Option.{Option}
use mathlib.Core.List.{List, [], ◌∷◌, ◌++◌}
use Prim.Native.Nat.{ℕ, zero, suc, ◌<◌}
use native.Mathlib.Omega.{arith}
use lib.Dec.{ltb, lit<}
use lib.ListN.{length, length-map, get_or, take, drop}
use borrow.Author.Tests.{ltb-true}
use Rattle.packing.specs.Meaning.{Grammar, Utterance, Heard}
use Rattle.packing.specs.Parse.{Verdict, accepted, refused}
use Rattle.packing.specs.Grammar.{grammar_block, block_of_grammar, block_of_marked}
use Rattle.packing.specs.Utterance.{utterance_block, block_of_utterance}
use Rattle.packing.specs.Heard.{block_of_heard}
use Rattle.packing.specs.Valid.{Bytes}
use Rattle.packing.proofs.Parse.{granted}
use Rattle.packing.proofs.Whole.{grammar_block_out, utterance_block_out}
use Rattle.derivation.specs.Derivation.{At, Tree, Derivation}
use Rattle.derivation.specs.Heard.{packed}
use Rattle.derivation.specs.Rank.{Rank}
use Rattle.derivation.specs.HeardList.{derivations, least_derivations}
use Rattle.derivation.proofs.Lists.{map_at}
use Rattle.derivation.proofs.HeardTheorems.{finitely_many, least_length, least_element}
use Rattle.packing.specs.Read.{counted}
use Rattle.listing.specs.Conditions as Conditions
use Rattle.listing.specs.Listing.{readings_of, list, output_after}
use Rattle.checker.specs.Check.{passed}
use Rattle.checker.proofs.Theorems as checker
use Rattle.checker.proofs.Refused.{refusal_judged}
use Rattle.phrases.specs.Phrases.{Phrase}
use Rattle.phrases.specs.Enumeration.{first_phrase, next_phrase}
use Rattle.specimen.specs.Specimen as Specimen
use Rattle.specimen.specs.Specimen.{output_of}
use Rattle.next_phrase.specs.NextPhrase as NextPhrase
use Rattle.cost_changes.specs.Ranges as Ranges
use Rattle.cost_changes.specs.Ranges.{rises, Answers}
use Rattle.cost_changes.specs.Passes.{answer}
use Rattle.cost_changes.specs.Margins.{MarginEntry, Margins}
use Rattle.cost_changes.specs.Listed.{margins_of}
use Rattle.cost_changes.proofs.Theorems.{answer_sound}
use Rattle.cost_changes.proofs.Listed.{margins_are}
use Rattle.phrases.proofs.Least.{Property, LeastOrNone, nothing, first}
use Rattle.phrases.proofs.Theorems.{first_phrase_least, next_phrase_least}
use Rattle.office.specs.Conversion.{convert_marked}
use Rattle.office_conversion.specs.Limits.{office_grammar}
use Rattle.office_conversion.proofs.Limits.{limited}
use Rattle.office_block.specs.Block.{office_to_block}
use Rattle.office_theory.proofs.Theorems.{derivations_match}
use Rattle.proved_cases.specs.Table.{
  Case,
  grammar,
  heard,
  lists,
  finds,
  passes,
  refuses,
  specimen,
  next,
  panel,
  ranges,
  margins,
  office,
  listed_for,
  checked_for,
  ranges_of,
  margins_for,
  ByRank,
  LeastOf,
  Sought,
  Row,
  row,
  AllHold,
  all,
  ◌and◌,
}

-- the listing: its readings are those of the least derivations
pub by_rank : (g : Grammar) (h : Heard) (wanted : ℕ) (readings : List (List ℕ)) → readings_of wanted (g, h) ≡ readings → ByRank g h wanted readings
by_rank g h wanted readings e = record {
  derivations = length (derivations g h);
  finitely_many = finitely_many g h;
  as_many = ap length (sym e) ∙ length-map (least_derivations g h wanted) (packed g h) ∙ least_length g h wanted _ (finitely_many g h);
  each = λ k block at.
      let (t, there, is) = map_at (packed g h) (least_derivations g h wanted) k (subst (λ (l : List (List ℕ)). At l k block) (sym e) at) in
      let (d, (n, before, r), below) = (least_element g h wanted k t).0 there in
      let only : (s : Tree) → Derivation g h s → Rank g h s (suc k) → s ≡ t = λ s c (m, ahead, q).
      let here = (least_element g h wanted k s).1 (c, (m, ahead, omega arith), below) in cc in
      (t, record { derivation = d; rank = (n, before, omega arith); no_other = only }, is);
}

pub lists_row : {g : Grammar} {h : Heard} {wanted : ℕ} {readings : List (List ℕ)} → listed_for g h wanted ≡ accepted readings
    → readings_of wanted (g, h) ≡ readings → Row (lists g h wanted readings)
lists_row {g} {h} {wanted} {readings} runs e = row (lists g h wanted readings) (runs, by_rank g h wanted readings e)

pub finds_row : {g : Grammar} {h : Heard} {wanted m : ℕ} {bytes : List ℕ} → counted (listed_for g h wanted) ≡ accepted m
    → ((out : List ℕ) → output_after (listed_for g h wanted) out ≡ bytes ++ drop (length bytes) out) → Row (finds g h wanted m bytes)
finds_row {g} {h} {wanted} {m} {bytes} answers writes = row (finds g h wanted m bytes) (answers, writes)

pub panel_row : {g : Grammar} {h : Heard} {wanted work out : ℕ} {answer : Verdict ℕ}
    → counted (list Conditions.panel (block_of_grammar g) (block_of_heard g.words h) wanted work out) ≡ answer → Row (panel g h wanted work out answer)
panel_row {g} {h} {wanted} {work} {out} {answer} answers = row (panel g h wanted work out answer) answers

-- blocks
pub grammar_row : {g : Grammar} {block : List ℕ} → block_of_grammar g ≡ block → Row (grammar g block)
grammar_row {g} {block} e = row (grammar g block) e

pub heard_row : {g : Grammar} {h : Heard} {block : List ℕ} → block_of_heard g.words h ≡ block → Row (heard g h block)
heard_row {g} {h} {block} e = row (heard g h block) e

-- the check, of blocks of bytes
unfoldable pub bytes_only : List ℕ → Bool
bytes_only [] = true
bytes_only (x ∷ l) = ltb x 256 && bytes_only l

are_bytes : (l : List ℕ) → bytes_only l ≡ true → Bytes l
unfolding bytes_only
are_bytes [] e i = lit< tt
are_bytes (x ∷ l) e i = go (ltb x 256) refl e i (are_bytes l)
  where
    go : (b : Bool) → ltb x 256 ≡ b → (b && bytes_only l) ≡ true → (i : ℕ) → (bytes_only l ≡ true → Bytes l) → get_or (x ∷ l) i 0 < 256
    go false h e i more = absurd (false≢true e)
    go true h e zero more = ltb-true x 256 h
    go true h e (suc i) more = more e i

pub passes_row : {g : Grammar} {h : Heard} {block : List ℕ} → bytes_only block ≡ true → passed (checked_for g h block) ≡ accepted tt → Row (passes g h block)
passes_row {g} {h} {block} bytes runs =
    row (passes g h block) (runs, (checker.passes (block_of_grammar g) (block_of_heard g.words h) block (are_bytes block bytes)).0 runs)

pub refuses_row : {g : Grammar} {h : Heard} {block : List ℕ} {number : ℕ} → checked_for g h block ≡ refused number → Row (refuses g h block number)
refuses_row {g} {h} {block} {number} runs = row (refuses g h block number) (runs, refusal_judged (block_of_grammar g) (block_of_heard g.words h) block runs)

-- strings, of a grammar whose block is accepted
pub least_of : {P : Property} {found : Option (List ℕ)} → LeastOrNone P found → LeastOf P found
least_of (nothing never) = never
least_of (first least) = least

pub specimen_row : {g : Grammar} {n : ℕ} {out : List ℕ} {found : Option (List ℕ)} {after : List ℕ} → grammar_block (block_of_grammar g) ≡ accepted g
    → Specimen.specimen (block_of_grammar g) n (length out) ≡ accepted found → output_of (accepted found) out ≡ after → first_phrase g n ≡ found
    → Row (specimen g n out found after)
specimen_row {g} {n} {out} {found} {after} read runs wrote is =
    let valid = (grammar_block_out (block_of_grammar g) g read).0 in
    row (specimen g n out found after) (runs, wrote, least_of (subst (LeastOrNone (Phrase g n)) is (first_phrase_least g n valid)))

pub first_row : {g : Grammar} {n call : ℕ} {out : List ℕ} {found : Option (List ℕ)} {after : List ℕ} → grammar_block (block_of_grammar g) ≡ accepted g
    → NextPhrase.next (block_of_grammar g) n (suc call) out ≡ accepted found → output_of (accepted found) out ≡ after → first_phrase g n ≡ found
    → Row (next g n (suc call) out found after)
first_row {g} {n} {call} {out} {found} {after} read runs wrote is =
    let valid = (grammar_block_out (block_of_grammar g) g read).0 in
    row (next g n (suc call) out found after) (runs, wrote, least_of (subst (LeastOrNone (Phrase g n)) is (first_phrase_least g n valid)))

pub next_row : {g : Grammar} {n : ℕ} {out : List ℕ} {found : Option (List ℕ)} {after : List ℕ} → grammar_block (block_of_grammar g) ≡ accepted g
    → NextPhrase.next (block_of_grammar g) n 0 out ≡ accepted found → output_of (accepted found) out ≡ after → next_phrase g n (take n out) ≡ found
    → Row (next g n 0 out found after)
next_row {g} {n} {out} {found} {after} read runs wrote is =
    let valid = (grammar_block_out (block_of_grammar g) g read).0 in
    row (next g n 0 out found after) (runs, wrote, least_of (subst (LeastOrNone (Sought g n 0 out)) is (next_phrase_least g n valid (take n out))))

-- changed costs
pub ranges_row : {g : Grammar} {low high : Utterance} {work : ℕ} {a : Ranges.Answer} → ranges_of g low high work ≡ accepted a → rises low high ≡ true
    → answer g low high ≡ a → Row (ranges g low high work (accepted a))
ranges_row {g} {low} {high} {work} {a} runs risen is =
    row (ranges g low high work (accepted a)) (runs, subst (Answers g low high) is (answer_sound g low high risen))

pub ranges_refused : {g : Grammar} {low high : Utterance} {work n : ℕ} → ranges_of g low high work ≡ refused n → Row (ranges g low high work (refused n))
ranges_refused {g} {low} {high} {work} {n} runs = row (ranges g low high work (refused n)) (runs, tt)

pub margins_row : {g : Grammar} {u : Utterance} {work out : ℕ} {l : List MarginEntry} → margins_for g u work out ≡ accepted l
    → utterance_block g.words (block_of_utterance g.words u) ≡ accepted u → margins_of g u ≡ l → Row (margins g u work out (accepted l))
margins_row {g} {u} {work} {out} {l} runs read is =
    let valid = (utterance_block_out g.words (block_of_utterance g.words u) u read).0 in
    row (margins g u work out (accepted l)) (runs, subst (Margins g u) is (margins_are g.words g u valid))

pub margins_refused : {g : Grammar} {u : Utterance} {work out n : ℕ} → margins_for g u work out ≡ refused n → Row (margins g u work out (refused n))
margins_refused {g} {u} {work} {out} {n} runs = row (margins g u work out (refused n)) (runs, tt)

-- the sheet of an office
pub office_row : {sheet block : List ℕ} → office_to_block sheet ≡ accepted block → Row (office sheet block)
unfolding office_to_block
office_row {sheet} {block} runs = row (office sheet block) (
  runs,
  granted (office_grammar sheet) (λ o. accepted (block_of_marked (convert_marked o))) runs λ o e _.
      let l = limited sheet e in
      (o, l.read, derivations_match o l.valid),
)

-- rows behind rows
pub all_join : (a b : List Case) → AllHold a → AllHold b → AllHold (a ++ b)
all_join [] b all k = k
all_join (c ∷ a) b (p and h) k = p and all_join a b h k
