-- By computing.
-- Assumes nothing.
use mathlib.Core.Path.{refl}
use Rattle.rule.specs.Rule.{guard}
use Rattle.rule.specs.Call.{call}
use Rattle.rule.specs.InOrder.{is_in_order}
use Rattle.rule.specs.Outcome.{outcomes}
use Rattle.rule.specs.Step.{settle, asked, committing, aborting}
use Rattle.rule.specs.Weigh.{weigh, decide}
use Rattle.events.specs.Events.{effect_of, guard_of, reason_of}
use Rattle.events.specs.Kinds.{event_of}
use Rattle.filing.specs.Entries.{entries_of}
use Rattle.account.specs.Places.{lists_of, account_of}
use Rattle.account.specs.InOrder.{in_order_by}
use Rattle.account.specs.Steps.{step_by, outlook_by}
use Rattle.layout.specs.Fields.{written, numbers_at, row_of_kind}
use Rattle.layout.specs.Number.{bytes_of, number_at}
use Rattle.message.specs.Answers.{read_of}
use Rattle.message.specs.Bytes.{messages, message_by}
use Rattle.entry.specs.Bytes.{entry_rows, bytes_of_entry, bytes_of_entries, told_by, verdict_by, bytes_as}
use Rattle.entry.specs.Answers as entry
use Rattle.image.specs.Words.{words_of_slot, words_of_slots, words_of, stored_in}
use Rattle.image.specs.Reading.{slot_from, is_slot, slots_from, are_slots, is_account, fields_from, account_from}
use Rattle.register.specs.Register.{sent_by, asked_by}
use Rattle.register.specs.Call.{after_message, called_by}
use Rattle.text.specs.Quoted.{quoted}
use Rattle.text.specs.Text.{decimal_in, write_line_of, line_as}
use Rattle.live.specs.Registers.{accounts_from}
use Rattle.live.specs.Live.{live_by, look_by}
use Rattle.live.specs.Lines.{line_of_entry}
use Rattle.live.specs.Vectors.{VectorsHold}

pub vectors-hold : VectorsHold
unfolding call is_in_order outcomes settle asked committing aborting weigh decide effect_of guard guard_of reason_of event_of entries_of lists_of account_of in_order_by step_by outlook_by written numbers_at row_of_kind bytes_of number_at read_of messages message_by entry_rows bytes_as bytes_of_entry bytes_of_entries words_of_slot words_of_slots words_of stored_in slot_from is_slot slots_from are_slots is_account fields_from account_from sent_by asked_by after_message called_by accounts_from live_by look_by decimal_in line_as write_line_of line_of_entry entry.read_of told_by verdict_by quoted
vectors-hold =
    record {
      opens = refl;
      open_counts = refl;
      commits = refl;
      commit_counts = refl;
      withdraw = refl;
      again = refl;
      short = refl;
      look = refl;
      no_third = refl;
      entry = refl;
      line = refl;
      overdraws = refl;
      entry3 = refl;
      line3 = refl;
      older = refl;
      no_account = refl;
    }
