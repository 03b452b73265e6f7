-- Accounts in order and not: antt computes the whole table.
-- Assumes nothing.
use mathlib.Core.Path.{refl}
use Rattle.rule.specs.Outcome.{outcomes}
use Rattle.rule.specs.Weigh.{weigh, decide}
use Rattle.rule.specs.InOrder.{is_in_order}
use Rattle.rule.specs.Rule.{guard}
use Rattle.events.specs.Events.{reason_of, guard_of, effect_of}
use Rattle.account.specs.Places.{lists_of}
use Rattle.account.specs.InOrder.{in_order_by}
use Rattle.account.specs.InOrderCases.{table, InOrderCasesHold}

pub order-cases : InOrderCasesHold
unfolding outcomes weigh decide is_in_order effect_of guard guard_of reason_of lists_of in_order_by table
order-cases = refl
