-- The bytes lie over the beginning.
-- Assumes nothing.
use Rattle.std.proofs.Common.{arith}
use Rattle.layout.proofs.Stores.{stored}
use Rattle.layout.proofs.put_bytes.Goals as goal

pub returns-clause-buffer : goal.returns-clause-buffer
returns-clause-buffer g c = let a = c.args in stored a.buffer.now a.bytes c.copy_from_slice.new.self g.row.COUNT c.copy_from_slice.ensures.after (omega arith) (omega arith)
