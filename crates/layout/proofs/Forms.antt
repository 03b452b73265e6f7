-- By the definition.
-- Assumes nothing.
use mathlib.Core.Path.{refl}
use Rattle.layout.specs.Forms.{WritingForm}

pub writing-form : WritingForm
writing-form = record { written = λ n. refl; refused = λ r. refl }
