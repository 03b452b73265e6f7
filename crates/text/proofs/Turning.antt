-- What a message that is met comes to: the reader's refusal, a refusal of what it is sent to, or entries. By it, what the program goes on with is no more
-- than there is, and it goes on.
-- Assumes nothing.
use Prim.Native.Nat.{ℕ, ◌≤◌, ◌<◌}
use native.Mathlib.Omega.{arith}
use mathlib.Core.Path.{◌≡◌, refl}
use mathlib.Core.Logic.{inl, inr}
use mathlib.Core.Bool.{false, true≢false}
use mathlib.Core.List.{List}
use lib.ListN.{length}
use Rattle.rule.specs.Rule.{Rule}
use Rattle.events.specs.declared.Event.{Event}
use Rattle.events.specs.declared.State.{State}
use Rattle.filing.specs.declared.Entries.{Entries}
use Rattle.std.specs.Prelude.{Result, Ok, Err}
use Rattle.refusal.specs.declared.Refusal.{Refusal}
use Rattle.refusal.specs.Numbers.{number_of}
use Rattle.message.specs.declared.Message.{Message}
use Rattle.message.specs.Bytes.{heading_of}
use Rattle.message.specs.Answers.{read_of}
use Rattle.entry.specs.Bytes.{list_of}
use Rattle.register.specs.declared.Register.{Register}
use Rattle.register.specs.declared.runs.Passed.{Passed}
use Rattle.register.specs.Register.{Sent, not_sent}
use Rattle.register.specs.First.{sent_of}
use Rattle.register.specs.Run.{length_at, passed_of}
use Rattle.register.proofs.Whole.{some_bytes}
use Rattle.register.proofs.Passing.{passed-stops, passed-skips}
use Rattle.register.proofs.Standing.{Stands, Refusable, reading-tells}
use Rattle.register.proofs.Sending as send
use Rattle.register.proofs.Sending.{Sending, sending}
use Rattle.text.specs.Text.{lines_of}
use Rattle.text.specs.Output.{Turn, refused_turn, sent_turn, read_turn, turn_at, passed_at}

-- a message that is taken, with these entries
abbrev pub taken_turn : (account consumed : ℕ) → Register → Entries → Turn
taken_turn i consumed next entries = record { register = next; reply = Ok (record { consumed = consumed; written = 0 }); text = lines_of i (list_of entries) }

abbrev pub taken_sent : Register → Entries → Sent
taken_sent next entries = record { register = next; answer = Ok entries }

module _ (r : Register) (bytes : List ℕ) where
  pub data Turning : Turn → Type 0 where
    unread : (n : Refusal) → read_of bytes ≡ Err n → Turning (refused_turn r n)
    unsent : (m : Message) (consumed : ℕ) (n : Refusal) → read_of bytes ≡ Ok (m, consumed) → 3 ≤ number_of n → sent_of r m ≡ not_sent r n
        → Turning (refused_turn r n)
    taken : (m : Message) (consumed : ℕ) (next : Register) (entries : Entries) → read_of bytes ≡ Ok (m, consumed) → sent_of r m ≡ taken_sent next entries
        → Turning (taken_turn (heading_of m).account consumed next entries)

  pub turning : Turning (turn_at r bytes)
  unfolding turn_at
  turning = by-reading (read_of bytes) refl
    where
      by-sent : {R : Rule State Event ℕ} (m : Message) (consumed : ℕ) → read_of bytes ≡ Ok (m, consumed) → {sent : Sent} → sent_of r m ≡ sent → Sending R r m sent
          → Turning (sent_turn (heading_of m).account consumed sent)
      by-sent m consumed q e (send.refused n high) = unsent m consumed n q high e
      by-sent m consumed q e (send.taken free) = taken m consumed _ _ q e

      by-reading : (x : Result (Message × ℕ) Refusal) → read_of bytes ≡ x → Turning (read_turn r x)
      by-reading (Err n) q = unread n q
      by-reading (Ok (m, consumed)) q = by-sent m consumed q refl (sending _ r m)

  -- a message that was read stands whole at the beginning of the bytes
  pub stands_read : (m : Message) (consumed : ℕ) → read_of bytes ≡ Ok (m, consumed) → (consumed ≡ length_at bytes) × Stands bytes
  stands_read m consumed q = rw q at (reading-tells bytes)

  -- what the message does to the lengths
  pub record Moves (passed : Passed) : Type 0 where
    pub once : passed.refused ≤ 1
    pub within : passed.consumed ≤ length bytes
    pub forward : passed.stops ≡ false → 0 < passed.consumed

  refused-moves : (n : Refusal) → Refusable bytes (number_of n) → Moves (passed_of (Err n) (length_at bytes))
  refused-moves n (inl which) =
      rw (passed-stops n (length_at bytes) which) (record { once = omega arith; within = omega arith; forward = λ z. absurd (true≢false z) })
  refused-moves n (inr (high, stands)) =
      rw (passed-skips n (length_at bytes) high) (record { once = omega arith; within = stands.all_there; forward = λ z. some_bytes stands.whole })

  moves : {turn : Turn} → Turning turn → Moves (passed_of turn.reply (length_at bytes))
  moves (unread n q) = refused-moves n (rw q at (reading-tells bytes))
  moves (unsent m consumed n q high e) = refused-moves n (inr (high, (stands_read m consumed q).1))
  moves (taken m consumed next entries q e) =
      let s = stands_read m consumed q in
      record { once = omega arith; within = rw s.0 s.1.all_there; forward = λ z. rw s.0 (some_bytes s.1.whole) }

  pub turn-moves : Moves (passed_at r bytes)
  turn-moves = moves turning
