-- The literals of the layout: antt computes them.
-- Assumes nothing.
use mathlib.Core.Path.{refl}
use Rattle.layout.specs.Number.{bytes_of, number_at}
use Rattle.layout.specs.Fields.{written}
use Rattle.layout.specs.Vectors.{VectorsHold}

pub vectors : VectorsHold
unfolding bytes_of number_at written
vectors = record { bytes = refl; number = refl; heading' = refl; filed = refl; account = refl; over = refl }
