-- The arm that was taken says which width it is, and the bytes of the number are those of its plain saying.
-- Assumes nothing.
use Rattle.std.proofs.Common.{[], ◌%◌, arith}
use Rattle.layout.specs.Number.{bytes_of}
use Rattle.layout.proofs.Numbers.{bytes_of-one}
use Rattle.layout.proofs.Shapes.{four_bytes}
use Rattle.layout.proofs.Plain.{numbers-plain}
use Rattle.layout.proofs.put.Goals as goal

pub returns-in-0-clause-buffer : goal.returns-in-0-clause-buffer
unfolding bytes_of
returns-in-0-clause-buffer c = rw c.in-0.is

pub returns-in-1-clause-buffer : goal.returns-in-1-clause-buffer
returns-in-1-clause-buffer c =
    rw (c.in-1.is, (numbers-plain [] 0 c.args.number).bytes1) (rw (c.to_be_bytes.ensures, bytes_of-one (c.args.number % 256) (omega arith)) at c.put1.ensures)

pub returns-in-2-clause-buffer : goal.returns-in-2-clause-buffer
returns-in-2-clause-buffer c = rw (c.in-2.is, (numbers-plain [] 0 c.args.number).bytes2) (rw c.to_be_bytes.ensures at c.put_bytes.ensures.buffer)

pub returns-in_default-clause-buffer : goal.returns-in_default-clause-buffer
returns-in_default-clause-buffer c =
    rw (four_bytes c.args.width (λ e. omega arith) (λ e. omega arith) (λ e. omega arith), (numbers-plain [] 0 c.args.number).bytes4)
    (rw c.to_be_bytes.ensures at c.put_bytes-in_default.ensures.buffer)
