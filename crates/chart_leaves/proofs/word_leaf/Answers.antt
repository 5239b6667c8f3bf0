-- A rule with another word changes nothing.
use mathlib.Core.Path.{sym, ◌∙◌}
use Rattle.chart_keys.specs.Keys.{key_number}
use Rattle.chart_candidates.proofs.PassedOver.{other_word}
use Rattle.chart_leaves.proofs.word_leaf.Goals as goal

pub returns-then-word-heard : goal.returns-then-word-heard
returns-then-word-heard c =
    sym (other_word c.args.rules.now c.args.edges.now c.args.e (key_number c.args.floor)
    (key_number c.args.best) c.args.r (λ q. c.if-word-heard.true (c.narrow_at-word.ensures ∙ q ∙ sym c.requires.2)))
