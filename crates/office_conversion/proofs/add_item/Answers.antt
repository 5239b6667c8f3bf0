-- `office_conversion::add_item` meets its contract: a symbol is passed over, and a word added.
use mathlib.Core.Path.{sym, ◌∙◌}
use Prim.Native.Nat.{◌+◌}
use native.Mathlib.Omega.{arith}
use lib.ListN.{get_or}
use Rattle.office_conversion.proofs.Words.{symbol_passed, word_passed, word_below}
use Rattle.office_conversion.proofs.add_item.Goals as goal

pub returns-then-kind-eq-SYMBOL_ITEM : goal.returns-then-kind-eq-SYMBOL_ITEM
returns-then-kind-eq-SYMBOL_ITEM c = (
  omega arith,
  omega arith,
  λ a hs rs v. symbol_passed _ _ a hs rs _ _ _ (get_or c.args.sheet.now c.args.at 0)
      (get_or c.args.sheet.now (c.args.at + 1) 0) (sym c.narrow_at-kind.ensures ∙ c.if-kind-eq-SYMBOL_ITEM.true) v,
)

pub add_word-requires : goal.add_word-requires
add_word-requires c = (
  c.requires.1,
  rw c.narrow_at-number.ensures (word_below (get_or c.args.sheet.now c.args.at 0)
      (get_or c.args.sheet.now (c.args.at + 1) 0) (λ e. c.if-kind-eq-SYMBOL_ITEM.false (c.narrow_at-kind.ensures ∙ e))
      c.requires.2),
)

pub returns : goal.returns
returns c = (
  c.add_word.ensures.0,
  c.add_word.ensures.1,
  λ a hs rs v.
      word_passed _ _ a hs rs _ _ _ (get_or c.args.sheet.now c.args.at 0) (get_or c.args.sheet.now (c.args.at + 1) 0)
      (λ e. c.if-kind-eq-SYMBOL_ITEM.false (c.narrow_at-kind.ensures ∙ e))
      (rw c.narrow_at-number.ensures at (c.add_word.ensures.2 a hs rs v)),
)
