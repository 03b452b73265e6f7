-- The loop of `text::turns::put_lines`: the lines of the entries passed are put.
-- Assumes nothing.
use Rattle.text.proofs.Pieces.{Lined}
use Rattle.text.proofs.turns.put_lines.Given as goal

abbrev pub invariant-loop-entry : goal.invariant-loop-entry
invariant-loop-entry l = Lined l.entry-items l.account l.initial.out l.out l.at l.entry-index
