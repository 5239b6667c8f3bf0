-- Parts that meet nowhere have nothing handed on.
use mathlib.Core.Path.{refl}
use Rattle.outside_entries.specs.Entries.{fourths, plain}
use Rattle.outside_weights.proofs.Apart.{apart_same}
use Rattle.outside_weights.proofs.push_parts.Goals as goal

pub returns-else-meet : goal.returns-else-meet
returns-else-meet c = (
  apart_same (plain c.args.t.now) c.args.d c.args.node c.args.first c.args.second c.args.around
      c.requires.4 (c.meet.ensures c.if-meet.false) c.requires.2 (fourths c.args.t.now),
  refl,
)
