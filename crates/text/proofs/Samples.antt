-- The samples: antt computes every text.
-- Assumes nothing.
use mathlib.Core.Path.{refl}
use Rattle.rule.specs.Rule.{guard}
use Rattle.rule.specs.Call.{call}
use Rattle.rule.specs.InOrder.{is_in_order}
use Rattle.rule.specs.Outcome.{outcomes}
use Rattle.rule.specs.Step.{settle, asked, committing, aborting}
use Rattle.rule.specs.Weigh.{weigh, decide}
use Rattle.events.specs.Events.{effect_of, guard_of, reason_of}
use Rattle.events.specs.Kinds.{event_of}
use Rattle.filing.specs.Entries.{entries_of}
use Rattle.account.specs.InOrder.{in_order_by}
use Rattle.account.specs.Places.{lists_of, account_of}
use Rattle.account.specs.Steps.{step_by}
use Rattle.layout.specs.Fields.{numbers_at, row_of_kind}
use Rattle.layout.specs.Number.{number_at}
use Rattle.message.specs.Answers.{read_of}
use Rattle.message.specs.Bytes.{messages, message_by}
use Rattle.register.specs.Register.{fresh_by, sent_by}
use Rattle.text.specs.Text.{decimal_in, lines_of, line_as}
use Rattle.text.specs.Quoted.{quoted}
use Rattle.text.specs.Output.{first_line, refused_line, last_line, turn_at, turns_from, output_of}
use Rattle.text.specs.Samples.{printed, SamplesHold}

pub samples-hold : SamplesHold
unfolding call is_in_order outcomes settle asked committing aborting weigh decide effect_of guard guard_of reason_of event_of entries_of in_order_by lists_of account_of step_by numbers_at row_of_kind number_at read_of messages message_by fresh_by sent_by decimal_in line_as lines_of quoted first_line refused_line last_line turn_at turns_from output_of printed
samples-hold = record { sample = refl; refused = refl; torn = refl; nothing = refl }
