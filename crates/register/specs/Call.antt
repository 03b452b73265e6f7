-- A call of the register: message bytes and an entry buffer in; a reply, a register and the buffer out (docs/REGISTER.md, 10.1 and 11.1).
-- What was read is sent as a value, and its entries are written; by any rule of the events.
-- Assumes nothing.
use Rattle.std.specs.Prelude.{ℕ, cond, Result, Ok, Err, List, ltb, length}
use Rattle.std.proofs.Math.Option.{Option, none, some}
use Rattle.refusal.specs.declared.Refusal.{Refusal}
use Rattle.refusal.specs.declared.Refusal.TheVariants.{NoRoom}
use Rattle.refusal.specs.Numbers.{number_of}
use Rattle.rule.specs.Rule.{Rule}
use Rattle.events.specs.declared.Event.{Event}
use Rattle.events.specs.declared.State.{State}
use Rattle.filing.specs.declared.Entries.{Entries}
use Rattle.layout.specs.Writes.{laid_over}
use Rattle.message.specs.declared.Message.{Message}
use Rattle.message.specs.Bytes.{heading_of}
use Rattle.message.specs.Answers.{read_of}
use Rattle.entry.specs.Bytes.{bytes_of_entries, list_of}
use Rattle.entry.specs.Answers.{longest_call}
use Rattle.register.specs.declared.Register.{Register}
use Rattle.register.specs.declared.Taken.{Taken}
use Rattle.register.specs.Register.{Sent, sent_by}

-- what a call replies: a refusal, or how many bytes the message had and how many bytes of entries were written
abbrev pub Reply : Type 0
Reply = Result Taken Refusal

-- what a reply says: the number of its refusal, if it is one;
abbrev pub refusal_of : Reply → Option ℕ
refusal_of (Err refusal) = some (number_of refusal)
refusal_of (Ok taken) = none

-- how many bytes the message had, and how many bytes of entries were written: both 0 for a refusal
abbrev pub consumed_of : Reply → ℕ
consumed_of (Err refusal) = 0
consumed_of (Ok taken) = taken.consumed

abbrev pub written_of : Reply → ℕ
written_of (Err refusal) = 0
written_of (Ok taken) = taken.written

-- what a call gives
pub record Called : Type 0 where
  pub reply : Reply
  pub register : Register
  pub buffer : List ℕ

-- a refusal leaves register and buffer as they were (10.1)
abbrev pub refused_with : Register → (buffer : List ℕ) → Refusal → Called
refused_with r buffer refusal = record { reply = Err refusal; register = r; buffer = buffer }

-- what was sent, in bytes: its refusal, or the register that follows and the entries at the beginning of the buffer, which is as it was behind them
abbrev pub wrote_as : Register → (buffer : List ℕ) (account consumed : ℕ) → Result Entries Refusal → Register → Called
wrote_as r buffer i consumed (Err refusal) next = refused_with r buffer refusal
wrote_as r buffer i consumed (Ok entries) next =
    record {
      reply = Ok (record { consumed = consumed; written = length (bytes_of_entries i (list_of entries)) });
      register = next;
      buffer = laid_over (bytes_of_entries i (list_of entries)) buffer;
    }

abbrev pub wrote_of : Register → (buffer : List ℕ) (account consumed : ℕ) → Sent → Called
wrote_of r buffer i consumed sent = wrote_as r buffer i consumed sent.answer sent.register

module _ (R : Rule State Event ℕ) where
  -- a message that was read: 4, which does not depend on what would be written (10.2), then what sending it gives
  unfoldable pub after_message : Register → (buffer : List ℕ) → Message → (consumed : ℕ) → Called
  after_message r buffer m consumed =
      cond (ltb (length buffer) longest_call) (refused_with r buffer NoRoom) (wrote_of r buffer (heading_of m).account consumed (sent_by R r m))

  -- what the reader gives: its refusal, 1 to 3, or a message
  abbrev pub after_reading : Register → (buffer : List ℕ) → Result (Message × ℕ) Refusal → Called
  after_reading r buffer (Err refusal) = refused_with r buffer refusal
  after_reading r buffer (Ok (m, consumed)) = after_message r buffer m consumed

  -- the call: the reader's refusals, then that of the buffer, then those of the account
  unfoldable pub called_by : Register → (bytes buffer : List ℕ) → Called
  called_by r bytes buffer = after_reading r buffer (read_of bytes)
