-- The heading's numbers, and what follows in the places behind them.
-- Assumes nothing.
use Rattle.entry.proofs.Shapes.{shaped}
use Rattle.entry.proofs.kinds.numbers_of.Goals as goal

pub returns : goal.returns
returns c =
    let entry = c.args.entry in
    rw (c.heading_numbers-numbers.ensures, c.number-kind.ensures, c.from.ensures, c.then_of-then.ensures)
    ((shaped entry.told).places entry.transaction c.args.account entry.filed)
