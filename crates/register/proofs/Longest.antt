-- The longest call by the first panel's rule: antt computes the account that the messages lead to, that it is in order, and what the commit writes.
-- Assumes nothing.
use mathlib.Core.Path.{refl}
use Rattle.rule.specs.Rule.{guard}
use Rattle.rule.specs.Outcome.{outcomes}
use Rattle.rule.specs.Weigh.{weigh, decide}
use Rattle.rule.specs.InOrder.{is_in_order}
use Rattle.rule.specs.Step.{settle, asked, committing}
use Rattle.rule.specs.Call.{call}
use Rattle.events.specs.Events.{reason_of, guard_of, effect_of}
use Rattle.layout.specs.Fields.{row_of_kind}
use Rattle.account.specs.First.{panel}
use Rattle.entry.specs.Bytes.{entry_rows, length_of_told, wholes_of}
use Rattle.entry.specs.Longest.{LongestBy}
use Rattle.entry.proofs.CallFits.{longest-by}

pub longest : LongestBy panel
unfolding guard outcomes weigh decide is_in_order settle asked committing call reason_of guard_of effect_of row_of_kind entry_rows length_of_told wholes_of
longest = longest-by panel refl refl refl
