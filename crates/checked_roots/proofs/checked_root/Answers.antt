-- The number of places is fuel enough for the root; then by what the trace answers.
use mathlib.Core.Path.{◌∙◌}
use native.Mathlib.Omega.{arith}
use Rattle.checked_roots.proofs.Checked.{no_tree, other_tree, right_tree}
use borrow.Author.Rules.{rules}
use Rattle.checked_roots.proofs.checked_root.Goals as goal

pub trace_checked-requires : goal.trace_checked-requires
trace_checked-requires c = rw c.root.ensures (search rules)

pub returns-in_default : goal.returns-in_default
returns-in_default c =
    let answer = no_tree _ _ _ _ _ _ _ ((rw c.root.ensures at c.trace_checked.ensures) _ (omega arith)) c.in_default.is in
    record { value = answer.0; trace_after = answer.1 }

pub returns-then-traced-wide : goal.returns-then-traced-wide
returns-then-traced-wide c =
    let answer = right_tree _ _ _ _ _ _ _ ((rw c.root.ensures at c.trace_checked.ensures) _ (omega arith)) c.in-Some.is
    (c.wide.ensures.0 ∙ c.root_weight.ensures) c.if-traced-wide.true in
    record { value = answer.0; trace_after = answer.1 }

pub returns-else-traced-wide : goal.returns-else-traced-wide
returns-else-traced-wide c =
    let answer = other_tree _ _ _ _ _ _ _ ((rw c.root.ensures at c.trace_checked.ensures) _ (omega arith)) c.in-Some.is
    (c.wide.ensures.0 ∙ c.root_weight.ensures) c.if-traced-wide.false in
    record { value = answer.0; trace_after = answer.1 }
