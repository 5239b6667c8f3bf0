-- What the pass leaves of an accepted sheet is the converted grammar.
use mathlib.Core.Path.{◌≡◌, refl, sym, ap, ◌∙◌}
use mathlib.Core.List.{List, [], ◌∷◌, ◌++◌}
use Prim.Native.Nat.{ℕ, ◌+◌, ◌*◌, ◌≤◌}
use native.Mathlib.Omega.{arith}
use lib.ListN.{length, drop, length-append}
use lib.Seq.{take_at}
use Rattle.packing.specs.Source.{values}
use Rattle.packing.specs.Grammar.{rules_entries}
use Rattle.packing.specs.Flat.{Begins, rule_numbers}
use Rattle.packing.specs.Store.{store_all}
use Rattle.packing.specs.declared.Rule as K
use Rattle.packing.specs.declared.Rule.TheVariants.{Pair, Word}
use Rattle.packing.proofs.Store.{store_append, store_at}
use Rattle.office.specs.Office.{Item, symbol, spoken, OfficeRule, rule, Office, ItemsWithin, RulesWithin, Valid}
use Rattle.office.proofs.Steps.{rules_length, helpers_length, result_symbols, result_rules}
use Rattle.office.specs.Conversion.{helper_rules, rules_behind, helpers_behind, helpers, convert}
use Rattle.office_conversion.specs.Pass.{rows_of, Converted, WordsBelow, AllPassable}
use Rattle.office_conversion.proofs.Rows.{length_rows, rows_append, store_swap}

-- a valid office grammar can be passed
words_below : (S W : ℕ) → W ≤ 200 → (l : List Item) → ItemsWithin S W l → WordsBelow l
words_below S W few [] h = tt
words_below S W few (symbol A ∷ l) h = words_below S W few l h.1
words_below S W few (spoken x ∷ l) h = (omega (arith, h.0), words_below S W few l h.1)

all_passable : (S W : ℕ) → W ≤ 200 → (rs : List OfficeRule) → RulesWithin S W rs → AllPassable rs
all_passable S W few [] h = tt
all_passable S W few (rule A w l ∷ rs) h = ((h.0.2, words_below S W few l h.0.3), all_passable S W few rs h.1)

pub valid_passable : (o : Office) → Valid o → AllPassable o.rules
valid_passable o v = all_passable o.symbols o.words v.words.1 o.rules v.within

-- rows are a sheet's numbers
rows_values : (S W : ℕ) (rs : List K.Rule) → rows_of rs ≡ values (rules_entries S W rs)
unfolding rows_of rules_entries
rows_values S W [] = refl
rows_values S W (Pair h x y w ∷ rs) = rw (rows_values S W rs)
rows_values S W (Word h x w ∷ rs) = rw (rows_values S W rs)

module _ (o : Office) {a rules : List ℕ} {k : ℕ} (v : Converted o.symbols (length o.rules) o.rules a rules k) where
  -- S and R of the result, however many helpers there are: 56 is a test of these
  pub symbols_are : (convert o).symbols ≡ o.symbols + k
  unfolding helpers
  symbols_are = result_symbols o ∙ rw v.count

  pub rules_are : length (convert o).rules ≡ length o.rules + k
  unfolding helpers
  rules_are = result_rules o ∙ rw v.count

  -- the result's rules, where it passes no limit
  pub rules_there : length o.rules + k ≤ 256 → 1280 ≤ length a → Begins (rule_numbers (convert o)) rules
  unfolding convert helpers
  rules_there few room =
      let hs = helpers_behind o.symbols [] o.rules in
      let qs = rules_behind o.symbols [] o.rules in
      let gs = helper_rules o.symbols 0 hs in
      let m : length (rows_of qs) ≡ 5 * length o.rules = omega (arith, length_rows qs, rules_length o.symbols [] o.rules) in
      let n : length (rows_of gs) ≡ 5 * k = omega (arith, length_rows gs, helpers_length o.symbols 0 hs, v.count) in
      let all : length (rows_of qs ++ rows_of gs) ≡ 5 * length o.rules + 5 * k = omega (arith, length-append (rows_of qs) (rows_of gs), m, n) in
      let p : 5 * length o.rules ≡ 0 + length (rows_of qs) = omega (arith, m) in
      let one : rules ≡ store_all a 0 (rows_of qs ++ rows_of gs) =
      v.array ∙ sym (store_swap a 0 (5 * length o.rules) (rows_of qs) (rows_of gs) (omega (arith, m)))
      ∙ ap (λ (q : ℕ). store_all (store_all a 0 (rows_of qs)) q (rows_of gs)) p ∙ sym (store_append a 0 (rows_of qs) (rows_of gs)) in
      let whole : rules ≡ (rows_of qs ++ rows_of gs) ++ drop (0 + length (rows_of qs ++ rows_of gs)) a = one
      ∙ store_at a 0 (rows_of qs ++ rows_of gs) (omega (arith, all)) in
      let same : values (rules_entries (o.symbols + length hs) o.words (qs ++ gs)) ≡ rows_of qs ++ rows_of gs =
      sym (rows_values (o.symbols + length hs) o.words (qs ++ gs)) ∙ rows_append qs gs in
      rw (same, whole) (take_at (rows_of qs ++ rows_of gs) (drop (0 + length (rows_of qs ++ rows_of gs)) a) (length (rows_of qs ++ rows_of gs)) refl)
