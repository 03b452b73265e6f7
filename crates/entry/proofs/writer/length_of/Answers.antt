-- The length is that of the row.
-- Assumes nothing.
use Rattle.layout.specs.Fields.{row_of_kind}
use Rattle.layout.proofs.Shapes.{shape-whole}
use Rattle.entry.specs.Bytes.{entry_rows, kind_of, length_of_told}
use Rattle.entry.proofs.writer.length_of.Goals as goal

pub returns : goal.returns
unfolding length_of_told
returns c = rw (c.shape.ensures, c.from.ensures) (shape-whole (row_of_kind entry_rows (kind_of c.args.entry.told)))
