-- The run is under way, at the accounts, the counts and the entry buffer of the moment. The measure is what is left of the messages.
-- Assumes nothing.
use Rattle.std.proofs.Common.{length, ◌-◌}
use Rattle.register.proofs.Suits.{first-suits}
use Rattle.register.proofs.Underway.{Underway}
use Rattle.register.proofs.runs.run.Given as goal

abbrev pub invariant-loop-ran : goal.invariant-loop-ran
invariant-loop-ran l = Underway _ first-suits l.messages l.fn.entries l.register l.ran l.entries

abbrev pub decreases-loop-ran : goal.decreases-loop-ran
decreases-loop-ran l = length l.messages - l.ran.consumed
