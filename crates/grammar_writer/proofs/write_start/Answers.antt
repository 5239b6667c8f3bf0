-- Three fields, one after the other.
use mathlib.Core.Path.{refl}
use Rattle.grammar_writer.proofs.Rule.{start_stands}
use Rattle.grammar_writer.proofs.write_start.Goals as goal

pub returns : goal.returns
returns c =
    let a = c.args in (
      refl,
      start_stands a.out.now a.at a.width _ _ _ c.write_field.ensures c.write_field-2.ensures
          c.write_field-3.ensures,
    )
