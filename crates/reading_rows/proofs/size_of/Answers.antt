-- The length is the form's.
use mathlib.Core.Path.{ap}
use borrow.Author.Rules.{rules}
use Rattle.traced_readings.specs.declared.Form.{Form}
use Rattle.reading_rows.proofs.size_of.Goals as goal

pub returns : goal.returns
returns c = ap (λ (f : Form). f.size) c.form_of-form.ensures.0
