-- How far the events are applied.
-- Assumes nothing.
use Rattle.filing.specs.Entries.{only_entry}
use Rattle.account.proofs.First.{Applying}
use Rattle.account.proofs.Account.settle.Given as goal

abbrev pub invariant-loop-at : goal.invariant-loop-at
invariant-loop-at l = Applying l.fn.self (only_entry l.fn.first) l.self l.entries l.ended l.at
