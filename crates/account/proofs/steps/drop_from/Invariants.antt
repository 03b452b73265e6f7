-- The places gone through are without the transaction.
-- Assumes nothing.
use Rattle.account.proofs.TakenOut.{TakingOut}
use Rattle.account.proofs.steps.drop_from.Given as goal

abbrev pub invariant-loop-at : goal.invariant-loop-at
invariant-loop-at l = TakingOut l.transaction l.fn.row l.row l.left l.at
