-- By the definition.
-- Assumes nothing.
use mathlib.Core.Path.{refl}
use Rattle.message.specs.Forms.{ReadingForm}

pub reading-form : ReadingForm
reading-form = record { message = λ m n. refl; refused = λ r. refl }
