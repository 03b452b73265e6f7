-- A call is read, send, write (docs/REGISTER.md, 11.1): the call on a message's own bytes, with room for its entries, gives the register that sending the message gives,
-- its refusal, and the bytes of its entries; and those read back as the entries that were sent.
-- Assumes nothing.
use Rattle.std.specs.Prelude.{ℕ, ◌≤◌, ◌≡◌, List, ◌++◌, map, length, take}
use Rattle.std.proofs.Math.Option.{none}
use Rattle.rule.specs.Rule.{Rule}
use Rattle.events.specs.declared.Event.{Event}
use Rattle.events.specs.declared.State.{State}
use Rattle.account.specs.Steps as steps
use Rattle.account.specs.Steps.{refusal_in}
use Rattle.message.specs.declared.Message.{Message}
use Rattle.message.specs.Bytes.{heading_of, bytes_of_message, length_of_message}
use Rattle.message.specs.Inverse.{Writable}
use Rattle.entry.specs.Bytes.{bytes_of_entries, list_of}
use Rattle.register.specs.declared.Register.{Register}
use Rattle.register.specs.Register.{Sent, fresh_by, sent_by}
use Rattle.register.specs.Call.{Called, refusal_of, consumed_of, written_of, called_by}
use Rattle.register.specs.Sequence.{Input, ByteStrings, after, rule_entry, entries_in}

-- what a call gives, beside what sending its message gives
pub record IsSent (m : Message) (sent : Sent) (called : Called) : Type 0 where
  pub refusal : refusal_of called.reply ≡ refusal_in sent.answer
  pub register : called.register ≡ sent.register
  pub consumed : refusal_in sent.answer ≡ none → consumed_of called.reply ≡ length_of_message m
  pub entries : refusal_in sent.answer ≡ none → take (written_of called.reply) called.buffer ≡ bytes_of_entries (heading_of m).account (list_of (steps.entries_in sent.answer))

module _ (R : Rule State Event ℕ) where
  -- on any register
  abbrev pub CallIsSend : Type 0
  CallIsSend =
      (r : Register) (m : Message) (rest buffer : List ℕ) → Writable m → 323 ≤ length buffer
      → IsSent m (sent_by R r m) (called_by R r (bytes_of_message m ++ rest) buffer)

  -- on one that calls of a fresh register led to, whose numbers have room in their bytes
  abbrev pub SentReadsBack : Type 0
  SentReadsBack =
      (inputs : List Input) → ByteStrings inputs → (m : Message) (rest buffer : List ℕ) → Writable m → 323 ≤ length buffer
      → let r = after R (fresh_by R) inputs in
      let called = called_by R r (bytes_of_message m ++ rest) buffer in
      refusal_in (sent_by R r m).answer ≡ none → entries_in (take (written_of called.reply) called.buffer) ≡ map rule_entry (list_of (steps.entries_in (sent_by R r m).answer))
