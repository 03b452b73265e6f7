-- The outcomes of the events so far are known.
-- Assumes nothing.
use Rattle.account.specs.Places.{used}
use Rattle.account.specs.inside.First.{Knows}
use Rattle.account.proofs.outcomes.Outcomes.after.Given as goal

abbrev pub invariant-loop-slot : goal.invariant-loop-slot
invariant-loop-slot l = Knows l.fn.state (used l.events l.slot-index) l.outcomes
