-- Each way out is a law of the writer's definition.
-- Assumes nothing.
use Rattle.std.proofs.Common.{◌≡◌}
use Rattle.layout.specs.Fields.{row_of_kind}
use Rattle.layout.specs.Shapes.{shape_of}
use Rattle.layout.proofs.Shapes.{shape-whole}
use Rattle.message.specs.Bytes.{messages, kind_of, length_of_message}
use Rattle.message.proofs.Writer.{write-account, write-short, write-stored}
use Rattle.message.proofs.write_message.Goals as goal

pub returns-then-heading-gt-LAST_ACCOUNT : goal.returns-then-heading-gt-LAST_ACCOUNT
returns-then-heading-gt-LAST_ACCOUNT c =
    let a = c.args in
    let e = write-account a.message a.buffer.now (rw c.heading.ensures at c.if-heading-gt-LAST_ACCOUNT.true) in
    record { answer = rw e; buffer = rw e }

pub returns-then-buffer-shape : goal.returns-then-buffer-shape
unfolding length_of_message
returns-then-buffer-shape c =
    let a = c.args in
    let row : c.shape_of-shape.result ≡ shape_of (row_of_kind messages (kind_of a.message)) = rw c.kind.ensures at c.shape_of-shape.ensures in
    let whole : c.shape_of-shape.result.whole ≡ length_of_message a.message = rw row (shape-whole (row_of_kind messages (kind_of a.message))) in
    let e = write-short a.message a.buffer.now (rw c.heading.ensures at c.if-heading-gt-LAST_ACCOUNT.false) (rw whole at c.if-buffer-shape.true) in
    record { answer = rw e; buffer = rw e }

pub returns : goal.returns
unfolding length_of_message
returns c =
    let a = c.args in
    let row : c.shape_of-shape.result ≡ shape_of (row_of_kind messages (kind_of a.message)) = rw c.kind.ensures at c.shape_of-shape.ensures in
    let whole : c.shape_of-shape.result.whole ≡ length_of_message a.message = rw row (shape-whole (row_of_kind messages (kind_of a.message))) in
    let account = c.heading.ensures in
    let stored = rw (c.numbers.ensures, row) at c.put_numbers.ensures in
    let w = write-stored a.message a.buffer.now c.put_numbers.new.buffer (rw account at c.if-heading-gt-LAST_ACCOUNT.false) (rw whole at c.if-buffer-shape.false) stored in
    record { answer = rw whole w.0; buffer = w.1 }
