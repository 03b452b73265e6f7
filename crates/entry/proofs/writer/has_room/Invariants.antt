-- What is left of the room, and the length of the entries passed.
-- Assumes nothing.
use Rattle.std.proofs.Common.{◌+◌, ◌≡◌, take}
use Rattle.entry.specs.Bytes.{wholes_of}
use Rattle.entry.proofs.writer.has_room.Given as goal

abbrev pub invariant-loop-entry : goal.invariant-loop-entry
invariant-loop-entry l = wholes_of (take l.entry-index l.entries) + l.left ≡ l.length
