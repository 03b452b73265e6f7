-- What a call comes to: a refusal, or the rule's step, of a message that was read, with room for its entries. By cases on what was read, on the buffer's length and on what sending gives.
-- Assumes nothing.
use Prim.Native.Nat.{ℕ, ◌≤◌}
use mathlib.Core.Path.{◌≡◌, refl}
use mathlib.Core.Logic.{inr}
use mathlib.Core.Bool.{Bool, true, false, cond}
use mathlib.Core.List.{List, map}
use native.Mathlib.Omega.{arith}
use lib.Dec.{ltb}
use lib.ListN.{length}
use borrow.Author.Tests.{ltb-false}
use Rattle.refusal.specs.Numbers.{number_of}
use Rattle.refusal.specs.declared.Refusal.TheVariants.{NoRoom}
use Rattle.std.specs.Prelude.{Result, Ok, Err}
use Rattle.refusal.specs.declared.Refusal.{Refusal}
use Rattle.rule.specs.Rule.{Rule}
use Rattle.events.specs.declared.Event.{Event}
use Rattle.events.specs.declared.State.{State}
use Rattle.filing.specs.Entries.{RuleEntry, entry_of}
use Rattle.account.specs.Places.{RuleAccount, account_of}
use Rattle.layout.specs.Writes.{laid_over}
use Rattle.message.specs.declared.Message.{Message}
use Rattle.message.specs.Answers.{read_of}
use Rattle.entry.specs.Bytes.{bytes_of_entries}
use Rattle.entry.specs.Answers.{longest_call}
use Rattle.entry.proofs.CallFits.{listed}
use Rattle.register.specs.declared.Register.{Register}
use Rattle.register.specs.Register.{with_account, sent_by, Sent}
use Rattle.register.specs.Call.{Called, refused_with, wrote_of, after_message, after_reading, called_by}
use Rattle.register.proofs.Standing.{Stands, Refusable, ReadingTells, reading-tells}
use Rattle.register.proofs.Sending as send
use Rattle.register.proofs.Sending.{place, taking, Free, Sending, sending}

-- a call that is taken: the account that follows in its place, and its entries at the beginning of the buffer
abbrev pub taken_as : Register → (buffer : List ℕ) (account consumed : ℕ) → RuleAccount → List RuleEntry → Called
taken_as r buffer i consumed next xs =
    let written = bytes_of_entries i (map entry_of xs) in
    record { reply = Ok (record { consumed = consumed; written = length written }); register = with_account r i (account_of next); buffer = laid_over written buffer }

module _ (R : Rule State Event ℕ) (r : Register) (bytes buffer : List ℕ) where
  -- a message that was read, with room for its entries, and that nothing refuses
  pub record Takes (m : Message) (consumed : ℕ) : Type 0 where
    pub read : read_of bytes ≡ Ok (m, consumed)
    pub room : longest_call ≤ length buffer
    pub free : Free R r m

  pub data Calling : Called → Type 0 where
    refused : (n : Refusal) → Refusable bytes (number_of n) → Calling (refused_with r buffer n)
    taken : (m : Message) (consumed : ℕ) → Takes m consumed → Calling (taken_as r buffer (place R r m) consumed (taking R r m).account (taking R r m).entries)

  pub calling : Calling (called_by R r bytes buffer)
  unfolding called_by after_message
  calling = by-reading (read_of bytes) refl (reading-tells bytes)
    where
      by-sent : (m : Message) (consumed : ℕ) → read_of bytes ≡ Ok (m, consumed) → Stands bytes → longest_call ≤ length buffer
          → {sent : Sent} → Sending R r m sent → Calling (wrote_of r buffer (place R r m) consumed sent)
      by-sent m consumed q stands l (send.refused n high) = refused n (inr (high, stands))
      by-sent m consumed q stands l (send.taken free) = rw (listed (taking R r m).entries) (taken m consumed (record { read = q; room = l; free = free }))

      by-room : (m : Message) (consumed : ℕ) → read_of bytes ≡ Ok (m, consumed) → Stands bytes → (b : Bool) → ltb (length buffer) longest_call ≡ b
          → Calling (cond b (refused_with r buffer NoRoom) (wrote_of r buffer (place R r m) consumed (sent_by R r m)))
      by-room m consumed q stands true e = refused NoRoom (inr (omega arith, stands))
      by-room m consumed q stands false e = by-sent m consumed q stands (ltb-false (length buffer) longest_call e) (sending R r m)

      by-reading : (x : Result (Message × ℕ) Refusal) → read_of bytes ≡ x → ReadingTells bytes x → Calling (after_reading R r buffer x)
      by-reading (Err n) q h = refused n h
      by-reading (Ok (m, consumed)) q h = by-room m consumed q h.1 (ltb (length buffer) longest_call) refl
