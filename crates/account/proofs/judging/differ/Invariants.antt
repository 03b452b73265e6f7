-- The transactions noted so far.
-- Assumes nothing.
use Rattle.std.proofs.Common.{◌+◌, [], length, map}
use Rattle.account.proofs.Differ.{Noted, transaction_in}
use Rattle.account.proofs.judging.differ.Given as goal

abbrev pub invariant-loop-at : goal.invariant-loop-at
invariant-loop-at l = Noted [] l.events l.at l.at l.transactions

abbrev pub invariant-loop-at-2 : goal.invariant-loop-at-2
invariant-loop-at-2 l = Noted (map transaction_in l.events) l.requests l.at (length l.events + l.at) l.transactions
