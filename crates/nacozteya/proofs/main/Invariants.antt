-- Each message brings the program further: the measure is what is left of the input.
-- Assumes nothing.
use Rattle.std.proofs.Common.{◌-◌, length}
use Rattle.nacozteya.proofs.main.Given as goal

abbrev pub decreases-loop-served : goal.decreases-loop-served
decreases-loop-served l = length l.input - l.served.from
