-- A row on its way.
-- Assumes nothing.
use Rattle.layout.proofs.Rows.{Going}
use Rattle.layout.proofs.put_row.Given as goal

abbrev pub invariant-loop-i : goal.invariant-loop-i
invariant-loop-i l = Going l.initial.buffer l.width-items l.numbers l.buffer l.to l.i
