-- The numbers of the entry, stored by the row of its kind, are its bytes.
-- Assumes nothing.
use Rattle.layout.specs.Fields.{row_of_kind}
use Rattle.layout.proofs.Shapes.{shape-whole}
use Rattle.entry.specs.Bytes.{entry_rows, kind_of, length_of_told}
use Rattle.entry.proofs.Stored.{row-bytes}
use Rattle.entry.proofs.writer.put_entry.Goals as goal

pub returns-clause-length : goal.returns-clause-length
unfolding length_of_told
returns-clause-length c = rw (c.shape-shape.ensures, c.from.ensures) (shape-whole (row_of_kind entry_rows (kind_of c.args.entry.told)))

pub returns-clause-bytes : goal.returns-clause-bytes
returns-clause-bytes c = rw (c.numbers_of-numbers.ensures, c.shape-shape.ensures, c.from.ensures, row-bytes c.args.account c.args.entry) at c.put_numbers.ensures
