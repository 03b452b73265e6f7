-- `text::turns::put_lines` meets its contract: each line is put behind those of the entries passed.
-- Assumes nothing.
use Rattle.text.proofs.Pieces.{lined-start, lined-more}
use Rattle.text.proofs.turns.put_lines.Goals as goal

pub loop-entry-init : goal.loop-entry-init
loop-entry-init c = lined-start c.as_slice-entry-items.result.now c.args.account c.args.out.now

pub loop-entry-preserved : goal.loop-entry-preserved
loop-entry-preserved c =
    let entries = c.as_slice-entry-items.result.now in
    let v = c.loop-entry in
    let line = c.of-line.ensures in
    lined-more entries c.args.account c.args.out.now v.out v.at v.entry-index v.invariant _ c.len-at.result c.store.new.places c.loop-entry-test.true
    (rw line at c.len-at.ensures.length) c.len-at.ensures.room (rw (c.as_slice.ensures, line) at c.store.ensures)
