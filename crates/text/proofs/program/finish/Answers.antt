-- `text::program::finish` meets its contract: by the test of the length; a word, two numbers and the newline.
-- Assumes nothing.
use Rattle.text.proofs.Pieces.{last-line, finishes}
use Rattle.text.proofs.program.finish.Goals as goal

pub returns : goal.returns
returns c =
    let s = c.args.served in
    let line =
    last-line s.met s.refused c.new-line.result c.put.new.self c.put_number.new.self c.put_number-2.new.self c.put-2.new.self
    c.new-line.ensures c.put.ensures c.put_number.ensures c.put_number-2.ensures c.put-2.ensures in
    finishes s c.args.input.now c.len.result c.args.out.now c.store.new.places c.if-input-gt-LONGEST_INPUT.false
    (rw line at c.len.ensures.length) (rw (c.as_slice.ensures, line) at c.store.ensures)
