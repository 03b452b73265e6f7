-- A call on a message's own bytes: the reader gives the message, there is room, and what is written is what sending gives, by cases on its answer. Of a register that calls of a fresh
-- one led to the entries read back.
-- Assumes nothing.
use Prim.Native.Nat.{ℕ, ◌≤◌}
use mathlib.Core.Path.{◌≡◌, refl, sym, ◌∙◌, ap}
use mathlib.Core.List.{List, ◌++◌, map}
use mathlib.Core.Option.{none}
use native.Mathlib.Omega.{arith}
use borrow.Author.Tests.{le-ltb}
use lib.ListN.{length, drop}
use lib.Seq.{take_at}
use Rattle.rule.specs.Rule.{Rule}
use Rattle.events.specs.declared.Event.{Event}
use Rattle.events.specs.declared.State.{State}
use Rattle.filing.specs.Entries.{entries_of}
use Rattle.account.specs.Steps as steps
use Rattle.account.specs.Steps.{refusal_in}
use Rattle.message.specs.declared.Message.{Message}
use Rattle.message.specs.Bytes.{heading_of, bytes_of_message, length_of_message}
use Rattle.message.specs.Inverse.{Writable}
use Rattle.message.proofs.Inverse.{reads-written}
use Rattle.entry.specs.Bytes.{bytes_of_entries, list_of}
use Rattle.entry.specs.Answers.{longest_call}
use Rattle.entry.proofs.CallFits.{listed}
use Rattle.register.specs.declared.Register.{Register}
use Rattle.register.specs.Register.{fresh_by, sent_by, Sent}
use Rattle.register.specs.Call.{wrote_of, after_message, called_by}
use Rattle.register.specs.Sequence.{after, exchanges, seen_by, rule_entry, entries_in}
use Rattle.register.specs.Sends.{IsSent, CallIsSend, SentReadsBack}
use Rattle.register.proofs.Suits.{Suits}
use Rattle.register.proofs.Sending.{taking, Sending, refused, taken, sending}
use Rattle.register.proofs.Demand3.{reached-sees, taken_back, taken-values}

module _ (R : Rule State Event ℕ) where
  -- with room for its entries a call on a message's bytes is what is written of what was sent
  call-wrote : (r : Register) (m : Message) (rest buffer : List ℕ) → Writable m → longest_call ≤ length buffer
      → called_by R r (bytes_of_message m ++ rest) buffer ≡ wrote_of r buffer (heading_of m).account (length_of_message m) (sent_by R r m)
  unfolding called_by after_message
  call-wrote r m rest buffer w l = rw (reads-written m rest w, le-ltb (length buffer) longest_call l)

  wrote-sent : (r : Register) (m : Message) (buffer : List ℕ) {sent : Sent} → Sending R r m sent
      → IsSent m sent (wrote_of r buffer (heading_of m).account (length_of_message m) sent)
  wrote-sent r m buffer (refused n high) =
      record {
        refusal = refl;
        register = refl;
        consumed = λ h. cc;
        entries = λ h. cc;
      }
  wrote-sent r m buffer (taken free) =
      let written = bytes_of_entries (heading_of m).account (list_of (entries_of (taking R r m).entries)) in
      record { refusal = refl; register = refl; consumed = λ h. refl; entries = λ h. take_at written (drop (length written) buffer) (length written) refl }

  pub call-is-send : CallIsSend R
  call-is-send r m rest buffer w l = rw (call-wrote r m rest buffer w l) (wrote-sent r m buffer (sending R r m))

  module _ (k : Suits R) where
    pub sent-reads-back : SentReadsBack R
    sent-reads-back inputs b m rest buffer w l h =
        ap entries_in ((call-is-send r m rest buffer w l).entries h) ∙ by (sending R r m) h
      where
        r : Register
        r = after R (fresh_by R) inputs

        i : ℕ
        i = (heading_of m).account

        by : {sent : Sent} → Sending R r m sent → refusal_in sent.answer ≡ none → entries_in (bytes_of_entries i (list_of (steps.entries_in sent.answer))) ≡ map rule_entry (list_of (steps.entries_in sent.answer))
        by (refused n high) h = cc
        by (taken free) h =
            let xs = (taking R r m).entries in
            let seen = seen_by i (exchanges R (fresh_by R) inputs) in
            let sees = (reached-sees R k inputs b).each i (omega (arith, w.account)) in
            ap (λ es. entries_in (bytes_of_entries i es)) (listed xs)
            ∙ taken_back R k r m free w seen sees
            ∙ sym (ap (map rule_entry) (listed xs) ∙ taken-values R k r m free w seen sees)
