-- Computed by antt.
-- Assumes nothing.
use mathlib.Core.Path.{refl}
use Rattle.text.specs.Quoted.{quoted, QuotedPlain}

pub quoted-plain : QuotedPlain
unfolding quoted
quoted-plain = record { none = refl; each = λ c t. refl; letters = refl; digits = refl; marks = refl }
