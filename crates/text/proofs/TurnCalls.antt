-- A message beside its call on bytes, with a buffer that is not too short: the reader says the same to both, and the call writes what sending gives.
-- Assumes nothing.
use Prim.Native.Nat.{ℕ, ◌≤◌}
use native.Mathlib.Omega.{arith}
use mathlib.Core.Path.{◌≡◌, refl, ap}
use mathlib.Core.List.{List, []}
use borrow.Author.Tests.{le-ltb}
use lib.ListN.{length, drop}
use lib.Seq.{take-append_seam}
use Rattle.filing.specs.declared.Entries.{Entries}
use Rattle.message.specs.declared.Message.{Message}
use Rattle.std.specs.Prelude.{Ok, Err}
use Rattle.refusal.specs.declared.Refusal.{Refusal}
use Rattle.refusal.specs.Numbers.{number_of}
use Rattle.message.specs.Bytes.{heading_of}
use Rattle.message.specs.Answers.{read_of}
use Rattle.entry.specs.Bytes.{bytes_of_entries, list_of}
use Rattle.register.specs.declared.Register.{Register}
use Rattle.register.specs.Register.{Sent}
use Rattle.register.specs.Call.{written_of, refused_with, wrote_of, after_message, called_by}
use Rattle.register.specs.Refusals.{account_in}
use Rattle.register.specs.First.{sent_of, call_of}
use Rattle.register.proofs.ReadAs.{account-read}
use Rattle.text.specs.Output.{Turn, refused_line, refused_turn}
use Rattle.text.specs.OutputCalls.{IsCall, TurnIsCall}
use Rattle.text.proofs.Turning.{taken_turn, taken_sent, Turning, unread, unsent, taken, turning}

module _ (r : Register) (bytes buffer : List ℕ) where
  pub call-unread : (n : Refusal) → read_of bytes ≡ Err n → call_of r bytes buffer ≡ refused_with r buffer n
  unfolding called_by
  call-unread n q = rw q

  -- a message that is sent and gives this
  pub call-sent : 323 ≤ length buffer → (m : Message) (consumed : ℕ) (sent : Sent) → read_of bytes ≡ Ok (m, consumed) → sent_of r m ≡ sent
      → call_of r bytes buffer ≡ wrote_of r buffer (heading_of m).account consumed sent
  unfolding called_by after_message
  call-sent room m consumed sent q e = rw (q, le-ltb (length buffer) 323 room, e)

  refused-call : (n : Refusal) → IsCall bytes (refused_turn r n) (refused_with r buffer n)
  refused-call n =
      record {
        register = refl;
        refusal = refl;
        consumed = refl;
        refused = λ refusal e. ap (λ (x : Refusal). refused_line (number_of x)) (let z : n ≡ refusal = cc in z);
        entries = [];
        taken = λ consumed written e. let z : ◌≡◌ {A = ℕ} 0 1 = cc in absurd (omega arith);
      }

  taken-call : (i consumed : ℕ) (next : Register) (entries : Entries) → i ≡ account_in bytes
      → IsCall bytes (taken_turn i consumed next entries) (wrote_of r buffer i consumed (taken_sent next entries))
  taken-call i consumed next entries same =
      let bytes' = bytes_of_entries i (list_of entries) in
      record {
        register = refl;
        refusal = refl;
        consumed = refl;
        refused = λ number e. let z : ◌≡◌ {A = ℕ} 0 1 = cc in absurd (omega arith);
        entries = list_of entries;
        taken =
            λ consumed' written e.
            let n : length bytes' ≡ written = ap written_of e in
            (rw (← n, ← same) (take-append_seam bytes' (drop (length bytes') buffer)), rw same);
      }

  is_call : 323 ≤ length buffer → {turn : Turn} → Turning r bytes turn → IsCall bytes turn (call_of r bytes buffer)
  is_call room (unread n q) = rw (call-unread n q) (refused-call n)
  is_call room (unsent m consumed n q high e) = rw (call-sent room m consumed _ q e) (refused-call n)
  is_call room (taken m consumed next entries q e) = rw (call-sent room m consumed _ q e) (taken-call (heading_of m).account consumed next entries (account-read bytes m consumed q))

pub turn-is-call : TurnIsCall
turn-is-call r bytes buffer room = is_call r bytes buffer room (turning r bytes)
