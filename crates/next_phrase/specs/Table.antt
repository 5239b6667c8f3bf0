-- The next phrase's code as functions on lists: a table with a cell for each symbol and part of a string s, filled part by
-- part, shorter ones first, and rule by rule. Nobody need believe this page: proofs/ has that what is found so is what NextPhrase says.
-- Assumes nothing.
use Rattle.std.specs.Prelude.{List, ℕ, ◌+◌, ◌-◌, ◌*◌, ◌/◌, ◌%◌, eqb, ltb, length, get_or, set}
use Rattle.bits.specs.Bits.{pick}
use Rattle.packing.specs.Loop.{iter}
use Rattle.packing.specs.Meaning.{symbol_of}
use Rattle.packing.specs.declared.Sym.{Sym}
use Rattle.packing.specs.declared.Rule.{Rule}
use Rattle.phrases.specs.Recursion.{made}
use Rattle.phrases.specs.Numbers.{scale, no_number, lesser}
use Rattle.specimen.specs.Table.{fitted_at}
use Rattle.next_phrase.specs.declared.Cell.{Cell}

-- the cell of symbol A over the part of m words from place i on, read and put
abbrev pub cell_over : Sym → ℕ → ℕ → ℕ
cell_over A i m = ((m - 1) * 6 + i) * 32 + A.0

abbrev pub cell_at : List Cell → ℕ → Cell
cell_at t number = get_or t number (record { same = 0; above = 0; least = 0 })

-- a cell with no strings
abbrev pub no_cell : Cell
no_cell = record { same = no_number; above = no_number; least = no_number }

abbrev pub put_cell : List Cell → ℕ → Cell → List Cell
put_cell t number x = set t number x

-- two joined, none if one is none
abbrev pub sum : ℕ → ℕ → ℕ
sum u v = lesser u no_number + lesser v no_number

-- a cell with the strings joined of two parts', and with a word x, of some value, at a place where s has y
unfoldable pub with_joined : Cell → Cell → Cell → Cell
unfolding lesser
with_joined b c best = record {
  same = lesser (sum b.same c.same) best.same;
  above = lesser (sum b.above c.least) (lesser (sum b.same c.above) best.above);
  least = lesser (sum b.least c.least) best.least;
}

unfoldable pub with_word : ℕ → ℕ → ℕ → Cell → Cell
unfolding lesser
with_word value y x best =
    pick (eqb x y) (record { same = lesser value best.same; above = best.above; least = lesser value best.least })
    (pick (ltb y x) (record { same = best.same; above = lesser value best.above; least = lesser value best.least })
    (record { same = best.same; above = best.above; least = lesser value best.least }))

-- what a rule makes of a part's strings: with a left part of length j, with a word; and of the cell of its head
unfoldable pub with_split : List Cell → ℕ → ℕ → Sym → Sym → ℕ → Cell → Cell
unfolding with_joined
with_split t i m b c j best = with_joined (cell_at t (cell_over b i j)) (cell_at t (cell_over c (i + j) (m - j))) best

unfoldable pub with_rule : List Cell → List ℕ → ℕ → ℕ → Cell → Rule → Cell
unfolding with_split with_word made scale
with_rule t s i m best rule = made (with_split t i m) (λ x. with_word (x * scale (5 - i)) (get_or s i 0) x) m best rule

abbrev pub head_cell : List ℕ → ℕ → ℕ → ℕ → ℕ
head_cell rules r i m = cell_over (symbol_of (get_or rules (5 * r + 1) 0 % 32)) i m

unfoldable pub add_rule : List ℕ → List ℕ → ℕ → ℕ → List Cell → ℕ → List Cell
unfolding with_rule
add_rule rules s i m t r = put_cell t (head_cell rules r i m) (with_rule t s i m (cell_at t (head_cell rules r i m)) (fitted_at rules r))

-- all rules over a part; all parts, those that pass the end of s left out
unfoldable pub fill_part : List ℕ → ℕ → List ℕ → ℕ → ℕ → List Cell → List Cell
unfolding iter add_rule
fill_part rules count s i m t = iter (add_rule rules s i m) t count

unfoldable pub part_step : List ℕ → ℕ → List ℕ → List Cell → ℕ → List Cell
unfolding fill_part
part_step rules count s t p = pick (ltb (length s) (p % 6 + (p / 6 + 1))) t (fill_part rules count s (p % 6) (p / 6 + 1) t)

unfoldable pub fill_table : List ℕ → ℕ → List ℕ → List Cell → List Cell
unfolding iter part_step
fill_table rules count s t = iter (part_step rules count s) t (6 * length s)

-- what is asked for of the start's cell: of a later call the least string above, of a first one the least
abbrev pub asked_of : ℕ → Cell → ℕ
asked_of call c = pick (eqb call 0) c.above c.least
