-- The samples: antt computes every run.
-- Assumes nothing.
use mathlib.Core.Path.{refl}
use Rattle.rule.specs.Call.{call}
use Rattle.rule.specs.InOrder.{is_in_order}
use Rattle.rule.specs.Outcome.{outcomes}
use Rattle.rule.specs.Step.{settle, asked, committing, aborting}
use Rattle.rule.specs.Weigh.{weigh, decide}
use Rattle.account.specs.InOrder.{in_order_by}
use Rattle.rule.specs.Rule.{guard}
use Rattle.events.specs.Events.{reason_of, guard_of, effect_of}
use Rattle.account.specs.Places.{lists_of, account_of}
use Rattle.filing.specs.Entries.{entries_of}
use Rattle.account.specs.Steps.{step_by}
use Rattle.events.specs.Kinds.{event_of}
use Rattle.layout.specs.Fields.{written, numbers_at, row_of_kind}
use Rattle.layout.specs.Number.{bytes_of, number_at}
use Rattle.message.specs.Answers.{read_of}
use Rattle.message.specs.Bytes.{messages, message_by}
use Rattle.entry.specs.Bytes.{bytes_as, entry_rows, bytes_of_entry, bytes_of_entries}
use Rattle.register.specs.Register.{fresh_by, sent_by}
use Rattle.register.specs.Call.{after_message, called_by}
use Rattle.register.specs.Run.{run_from, run_by}
use Rattle.register.specs.Samples.{samples, SamplesHold}

pub samples-hold : SamplesHold
unfolding call is_in_order outcomes settle asked committing aborting weigh decide in_order_by effect_of guard guard_of reason_of lists_of account_of entries_of step_by event_of written numbers_at row_of_kind bytes_of number_at read_of messages message_by entry_rows bytes_as bytes_of_entry bytes_of_entries fresh_by sent_by after_message called_by run_from run_by samples
samples-hold = (refl, refl)
