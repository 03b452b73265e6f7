-- The literal lines: antt computes the table.
-- Assumes nothing.
use mathlib.Core.Path.{refl}
use Rattle.entry.specs.Vectors.{table, older_table}
use Rattle.text.specs.Text.{decimal_in, line_as, write_line_of}
use Rattle.text.specs.Quoted.{quoted}
use Rattle.text.specs.Vectors.{lines, older_lines, VectorsHold}

pub vectors : VectorsHold
unfolding decimal_in line_as write_line_of quoted table older_table lines older_lines
vectors = record { lines = refl; older = refl; short = refl }
