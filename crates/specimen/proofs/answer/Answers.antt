-- The table is filled as the definition fills it, and its string for the start says which answer holds. Assumes nothing.
use mathlib.Core.Path.{refl}
use Rattle.specimen.proofs.Said.{said}
use borrow.Author.Rules.{rules}
use Rattle.specimen.proofs.answer.Goals as goal

pub returns : goal.returns
returns c = λ g e v b.
    let a = c.args in
    said g v a.rules.now b a.n (search rules) (search rules) a.sizes e _ refl c.fill_table.ensures c.cell_of.ensures.0
    a.out.now c.write_string.ensures.0 c.write_string.ensures.1
