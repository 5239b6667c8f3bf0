-- An office sheet of four rules, what it becomes, and its two derivations over an utterance of four slots; and the limit of
-- symbols.
use mathlib.Core.Path.{◌≡◌, refl}
use mathlib.Core.List.{List, [], ◌∷◌}
use native.Mathlib.Omega.{arith}
use Rattle.packing.specs.Meaning.{symbol_of, word, Edge, edge}
use Rattle.derivation.specs.Derivation.{leaf, node}
use Rattle.office.specs.Office.{Item, symbol, spoken, OfficeRule, rule, OfficeWithin}
use Rattle.office_theory.specs.Derivations.{OfficeTree, heard, ruled, parted, OfficeDerives, by_edge, by_rule, by_parts, office_weight}
use Rattle.office.specs.Conversion.{convert, marks}
use Rattle.office_theory.specs.Maps.{unless_marked, reduced, left_of, right_of, helper_number, expanded_by, to_grammar, to_office}
use Rattle.office_theory.specs.Matching.{without_marked}
use Rattle.office_theory.proofs.Sheets.{desk}

desk_within : OfficeWithin desk
desk_within = omega arith

abbrev heard_edges : List Edge
heard_edges =
    edge 0 1 (word 0) 4 ∷ edge 1 2 (word 1) 9 ∷ edge 1 2 (word 3) 12 ∷ edge 2 3 (word 1) 9 ∷ edge 2 3 (word 2) 7
    ∷ edge 3 4 (word 2) 7 ∷ []

-- rules 3 and 1, of weight 35
abbrev first : OfficeTree
first = ruled 3 (parted 1 (heard 0) (parted 2 (ruled 1 (heard 1)) (parted 3 (heard 4) (heard 5))))

first_derives : OfficeDerives desk heard_edges (symbol (symbol_of 0) ∷ []) 0 4 first
first_derives =
    by_rule refl (by_parts {i = 0} {j = 1} {k = 4} (omega arith) (omega arith) (by_edge {c = 4} (refl, omega arith))
    (by_parts {i = 1} {j = 2} {k = 4} (omega arith) (omega arith) (by_rule refl (by_edge {c = 9} (refl, omega arith)))
    (by_parts {i = 2} {j = 3} {k = 4} (omega arith) (omega arith) (by_edge {c = 7} (refl, omega arith)) (by_edge {c = 7} (refl, omega arith)))))

first_weighs : office_weight desk heard_edges first ≡ 35
unfolding office_weight
first_weighs = refl

first_out : to_grammar desk first ≡ node 3 1 (leaf 4 0) (node 9 2 (leaf 1 1) (node 10 3 (leaf 5 4) (leaf 5 5)))
unfolding expanded_by left_of right_of helper_number convert
first_out = refl

first_back : to_office desk (node 3 1 (leaf 4 0) (node 9 2 (leaf 1 1) (node 10 3 (leaf 5 4) (leaf 5 5)))) ≡ first
unfolding reduced unless_marked marks
first_back = refl

first_walk : without_marked (marks desk) (3 ∷ 4 ∷ 9 ∷ 1 ∷ 10 ∷ 5 ∷ 5 ∷ []) ≡ 3 ∷ 1 ∷ []
unfolding without_marked marks
first_walk = refl

-- rules 0 and 2, of weight 39
abbrev second : OfficeTree
second = ruled 0 (parted 1 (heard 0) (parted 3 (ruled 2 (parted 2 (heard 2) (heard 3))) (heard 5)))

second_weighs : office_weight desk heard_edges second ≡ 39
unfolding office_weight
second_weighs = refl

second_out : to_grammar desk second ≡ node 0 1 (leaf 4 0) (node 6 3 (node 2 2 (leaf 7 2) (leaf 8 3)) (leaf 5 5))
unfolding expanded_by left_of right_of helper_number convert
second_out = refl

-- rules of six items over one symbol and one word: each takes four helpers, and the word one for all. Seven are fine, and eight
-- pass 32 symbols
abbrev six : Item → Item → Item → OfficeRule
six x y z = rule (symbol_of 0) 0 (symbol (symbol_of 0) ∷ symbol (symbol_of 0) ∷ symbol (symbol_of 0) ∷ x ∷ y ∷ z ∷ [])

abbrev seven : List OfficeRule
seven =
    let s = symbol (symbol_of 0) in
    let w = spoken (word 0) in
    six s s s ∷ six s s w ∷ six s w s ∷ six s w w ∷ six w s s ∷ six w s w ∷ six w w s ∷ []

seven_fit : (convert (record { symbols = 1; words = 1; rules = seven })).symbols ≡ 30
unfolding convert
seven_fit = refl

eight_pass : (convert (record { symbols = 1; words = 1; rules = six (spoken (word 0)) (spoken (word 0)) (spoken (word 0)) ∷ seven })).symbols ≡ 34
unfolding convert
eight_pass = refl
