-- Within the buffer the byte is stored, and past its end nothing is.
-- Assumes nothing.
use Rattle.std.proofs.Common.{sym}
use Rattle.layout.specs.Number.{bytes_of}
use Rattle.layout.proofs.Numbers.{bytes_of-one}
use Rattle.layout.proofs.Stores.{sets-out}
use Rattle.layout.proofs.put1.Goals as goal

pub returns-then-at-buffer : goal.returns-then-at-buffer
returns-then-at-buffer c = rw (bytes_of-one c.args.number c.ranges.number.fits)

pub returns-else-at-buffer : goal.returns-else-at-buffer
returns-else-at-buffer c = let a = c.args in sym (sets-out (bytes_of 1 a.number) a.buffer.now a.at c.if-at-buffer.false)
