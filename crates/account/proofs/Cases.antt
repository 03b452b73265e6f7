-- The cases: antt computes the whole table, and all outcomes of eight undecided events.
-- Assumes nothing.
use mathlib.Core.Path.{refl}
use Rattle.rule.specs.Outcome.{outcomes}
use Rattle.rule.specs.Weigh.{weigh, decide}
use Rattle.rule.specs.Step.{settle, asked, committing, aborting}
use Rattle.rule.specs.Call.{call}
use Rattle.rule.specs.Rule.{guard}
use Rattle.events.specs.Events.{reason_of, guard_of, effect_of}
use Rattle.account.specs.Cases.{table}
use Rattle.account.specs.First.{CasesHold, BitsHold}

pub cases : CasesHold
unfolding outcomes weigh decide settle asked committing aborting call effect_of guard guard_of reason_of table
cases = refl

pub bits : BitsHold
unfolding outcomes effect_of guard guard_of reason_of
bits = refl
