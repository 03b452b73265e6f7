-- What a message does to the lengths, by what its call comes to: a message that the run goes on from stands whole at the beginning of the bytes, and its entries fit the buffer.
-- Assumes nothing.
use Prim.Native.Nat.{ℕ, ◌≤◌, ◌<◌}
use mathlib.Core.Path.{◌≡◌, refl}
use mathlib.Core.Logic.{inl, inr}
use mathlib.Core.Bool.{false}
use mathlib.Core.List.{List, map}
use native.Mathlib.Omega.{arith}
use lib.ListN.{length, drop, length-append, length-drop}
use lib.Seq.{drop-append_seam}
use Rattle.std.specs.Prelude.{Ok, Err}
use Rattle.refusal.specs.Numbers.{number_of}
use Rattle.rule.specs.Rule.{Rule}
use Rattle.events.specs.declared.Event.{Event}
use Rattle.events.specs.declared.State.{State}
use Rattle.filing.specs.Entries.{entry_of}
use Rattle.message.specs.Bytes.{heading_of}
use Rattle.entry.specs.Bytes.{bytes_of_entries}
use Rattle.entry.specs.Answers.{longest_call}
use Rattle.register.specs.declared.Register.{Register}
use Rattle.register.specs.declared.runs.Passed.{Passed}
use Rattle.register.specs.Call.{Called, called_by, Reply}
use Rattle.register.specs.Run.{length_at, passed_of}
use Rattle.register.proofs.Whole.{some_bytes}
use Rattle.register.proofs.Passing.{passed-stops, passed-skips}
use Rattle.register.proofs.Suits.{Suits}
use Rattle.register.proofs.Standing.{Stands, Refusable, reading-tells}
use Rattle.register.proofs.Sending.{taking, taken-bytes}
use Rattle.register.proofs.Calling.{Calling, refused, taken, calling}

-- what a reply tells of the bytes
abbrev pub Tells : (bytes : List ℕ) → Reply → Type 0
Tells bytes (Err n) = Refusable bytes (number_of n)
Tells bytes (Ok done) = (done.consumed ≡ length_at bytes) × Stands bytes

-- what a message does to the buffer, and what it comes to
pub record Moved (bytes buffer left : List ℕ) (passed : Passed) : Type 0 where
  pub size : length left ≡ length buffer
  pub room : passed.written ≤ length buffer
  pub stays : drop passed.written left ≡ drop passed.written buffer
  pub once : passed.refused ≤ 1
  pub within : passed.consumed ≤ length bytes
  pub forward : passed.stops ≡ false → 0 < passed.consumed

module _ (R : Rule State Event ℕ) (k : Suits R) (r : Register) (bytes buffer : List ℕ) where
  tells : {x : Called} → Calling R r bytes buffer x → Tells bytes x.reply
  tells (refused n why) = why
  tells (taken m consumed t) = rw t.read at (reading-tells bytes)

  moves : {x : Called} → Calling R r bytes buffer x → Moved bytes buffer x.buffer (passed_of x.reply (length_at bytes))
  moves (refused n (inl which)) =
      rw (passed-stops n (length_at bytes) which)
      (record { size = refl; room = omega arith; stays = refl; once = omega arith; within = omega arith; forward = λ z. cc })
  moves (refused n (inr (high, stands))) =
      rw (passed-skips n (length_at bytes) high)
      (record { size = refl; room = omega arith; stays = refl; once = omega arith; within = stands.all_there; forward = λ z. some_bytes stands.whole })
  moves (taken m consumed t) =
      let i = (heading_of m).account in
      let written = bytes_of_entries i (map entry_of (taking R r m).entries) in
      let fits : length written ≤ longest_call = taken-bytes R r m k t.free i in
      let read : (consumed ≡ length_at bytes) × Stands bytes = rw t.read at (reading-tells bytes) in
      record {
        size = simp (length-append, length-drop) (omega (arith, fits, t.room));
        room = omega (arith, fits, t.room);
        stays = drop-append_seam written (drop (length written) buffer);
        once = omega arith;
        within = rw read.0 read.1.all_there;
        forward = λ z. rw read.0 (some_bytes read.1.whole);
      }

  pub call-moves : Moved bytes buffer (called_by R r bytes buffer).buffer (passed_of (called_by R r bytes buffer).reply (length_at bytes))
  call-moves = moves (calling R r bytes buffer)

  pub call-tells : Tells bytes (called_by R r bytes buffer).reply
  call-tells = tells (calling R r bytes buffer)
