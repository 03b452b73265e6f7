-- The literal messages: antt computes both tables.
-- Assumes nothing.
use mathlib.Core.Path.{refl}
use Rattle.layout.specs.Number.{bytes_of, number_at}
use Rattle.layout.specs.Fields.{written, numbers_at, row_of_kind}
use Rattle.events.specs.Kinds.{event_of}
use Rattle.message.specs.Bytes.{messages, bytes_of_message, length_of_message, message_by}
use Rattle.message.specs.Answers.{read_of, write_of}
use Rattle.message.specs.Vectors.{table, unreads, unwrittens, VectorsHold}

pub vectors : VectorsHold
unfolding bytes_of number_at written numbers_at row_of_kind event_of messages bytes_of_message length_of_message message_by read_of write_of table unreads unwrittens
vectors = record { messages = refl; readings = refl; answers = refl; buffers = refl }
