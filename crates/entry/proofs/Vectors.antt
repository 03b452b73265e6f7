-- The literal entries: antt computes the tables.
-- Assumes nothing.
use mathlib.Core.Path.{refl}
use Rattle.layout.specs.Number.{bytes_of, number_at}
use Rattle.layout.specs.Fields.{written, numbers_at, row_of_kind}
use Rattle.events.specs.Kinds.{event_of}
use Rattle.entry.specs.Bytes.{entry_rows, bytes_as, bytes_of_entry, bytes_of_entries, length_of_told, verdict_by, told_by}
use Rattle.entry.specs.Answers.{read_of, write_of}
use Rattle.entry.specs.Vectors.{table, older_table, unreads, call, call_bytes, VectorsHold}

pub vectors : VectorsHold
unfolding bytes_of number_at written numbers_at row_of_kind event_of entry_rows bytes_as bytes_of_entry bytes_of_entries length_of_told verdict_by told_by read_of write_of table older_table unreads call call_bytes
vectors = record { entries = refl; older = refl; nothing = refl; answer = refl; left = refl; short = refl; short_left = refl }
