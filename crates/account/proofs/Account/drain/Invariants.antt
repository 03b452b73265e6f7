-- How far the requests are voted on.
-- Assumes nothing.
use Rattle.account.proofs.First.{Voting}
use Rattle.account.proofs.Account.drain.Given as goal

abbrev pub invariant-loop-at : goal.invariant-loop-at
invariant-loop-at l = Voting l.fn.self l.fn.entries l.self l.entries l.outcomes l.voted l.at
