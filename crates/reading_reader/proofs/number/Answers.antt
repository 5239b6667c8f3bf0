use Rattle.reading_reader.proofs.Reading.{number_next}
use Rattle.reading_reader.proofs.number.Goals as goal

pub returns-clause-next : goal.returns-clause-next
returns-clause-next c = number_next c.args.block.now c.args.at c.args.f c.field_at.result c.field_at.ensures
