-- What the entry buffer held before never shows: two calls whose buffers both have room for a call, or both have not, give the same reply, the same register and the same entries.
-- By cases on what was read and on the answer; of runs by induction on the bound, since the rest starts from buffers of one length again.
-- Assumes nothing.
use Prim.Native.Nat.{ℕ, zero, suc, ◌≤◌}
use mathlib.Core.Path.{◌≡◌, refl, sym, ◌∙◌, ap}
use mathlib.Core.Bool.{Bool, true, false, cond}
use mathlib.Core.List.{List, ◌++◌}
use native.Mathlib.Omega.{arith}
use lib.Dec.{eqb, ltb}
use lib.ListN.{length, take, drop, length-drop}
use lib.Seq.{take-append-add, take-append_seam, length-take-le}
use Rattle.refusal.specs.declared.Refusal.TheVariants.{NoRoom}
use Rattle.std.specs.Prelude.{Result, Ok, Err}
use Rattle.refusal.specs.declared.Refusal.{Refusal}
use Rattle.rule.specs.Rule.{Rule}
use Rattle.events.specs.declared.Event.{Event}
use Rattle.events.specs.declared.State.{State}
use Rattle.filing.specs.declared.Entries.{Entries}
use Rattle.message.specs.declared.Message.{Message}
use Rattle.message.specs.Bytes.{heading_of}
use Rattle.message.specs.Answers.{read_of}
use Rattle.entry.specs.Bytes.{bytes_of_entries, list_of}
use Rattle.entry.specs.Answers.{longest_call}
use Rattle.register.specs.declared.Register.{Register}
use Rattle.register.specs.declared.runs.Passed.{Passed}
use Rattle.register.specs.Register.{fresh_by, sent_by, Sent}
use Rattle.register.specs.Call.{Called, written_of, refused_with, wrote_as, wrote_of, after_message, after_reading, called_by}
use Rattle.register.specs.Run.{Run, ended, length_at, passed_of, joined, first, turn_of, run_from, run_by, Alike, BufferNeverShows}
use Rattle.register.proofs.Passing.{passed-written}
use Rattle.register.proofs.Suits.{Suits}
use Rattle.register.proofs.Moved.{call-moves}

-- two results that differ at most in buffer bytes after the entries
pub record Same (x y : Called) : Type 0 where
  pub reply : x.reply ≡ y.reply
  pub register : x.register ≡ y.register
  pub entries : take (written_of x.reply) x.buffer ≡ take (written_of x.reply) y.buffer

module _ (R : Rule State Event ℕ) (r : Register) (buffer other : List ℕ) (e : ltb (length buffer) longest_call ≡ ltb (length other) longest_call) where
  same-refused : (n : Refusal) → Same (refused_with r buffer n) (refused_with r other n)
  same-refused n = record { reply = refl; register = refl; entries = refl }

  same-wrote : (i consumed : ℕ) (answer : Result Entries Refusal) (next : Register) → Same (wrote_as r buffer i consumed answer next) (wrote_as r other i consumed answer next)
  same-wrote i consumed (Err n) next = same-refused n
  same-wrote i consumed (Ok entries) next =
      let xs = bytes_of_entries i (list_of entries) in
      record {
        reply = refl;
        register = refl;
        entries = take-append_seam xs (drop (length xs) buffer) ∙ sym (take-append_seam xs (drop (length xs) other));
      }

  same-message : (m : Message) (consumed : ℕ) → Same (after_message R r buffer m consumed) (after_message R r other m consumed)
  unfolding after_message
  same-message m consumed = rw (← e) (go (ltb (length buffer) longest_call))
    where
      i : ℕ
      i = (heading_of m).account

      sent : Sent
      sent = sent_by R r m

      go : (b : Bool) → Same (cond b (refused_with r buffer NoRoom) (wrote_of r buffer i consumed sent)) (cond b (refused_with r other NoRoom) (wrote_of r other i consumed sent))
      go true = same-refused NoRoom
      go false = same-wrote i consumed sent.answer sent.register

  same-reading : (x : Result (Message × ℕ) Refusal) → Same (after_reading R r buffer x) (after_reading R r other x)
  same-reading (Err n) = same-refused n
  same-reading (Ok (m, consumed)) = same-message m consumed

  pub same-call : (bytes : List ℕ) → Same (called_by R r bytes buffer) (called_by R r bytes other)
  unfolding called_by
  same-call bytes = same-reading (read_of bytes)

alike-ended : (xs ys : List ℕ) → Alike (ended xs) (ended ys)
alike-ended xs ys = record { counts = refl; entries = refl }

-- a message's part of the run, and then the rest
alike-joined : (p : Passed) (out other : List ℕ) (x y : Run) → p.written ≤ length out → p.written ≤ length other → take p.written out ≡ take p.written other
    → Alike x y → Alike (joined (first p out) x) (joined (first p other) y)
alike-joined p out other x y h k e a =
    record {
      counts = rw a.counts;
      entries =
          (rw (length-take-le p.written out h) at (take-append-add (take p.written out) x.entries x.counts.written))
          ∙ ap (λ (xs : List ℕ). xs ++ take x.counts.written x.entries) e
          ∙ ap (λ (xs : List ℕ). take p.written other ++ xs) a.entries
          ∙ sym (rw (length-take-le p.written other k) at (take-append-add (take p.written other) y.entries y.counts.written));
    }

module _ (R : Rule State Event ℕ) (k : Suits R) where
  -- both runs go on alike
  GoAlike : (Register → (bytes buffer : List ℕ) → Run) → Type 0
  GoAlike f = (r : Register) (bytes buffer other : List ℕ) → length buffer ≡ length other → Alike (f r bytes buffer) (f r bytes other)

  module _ (f : Register → (bytes buffer : List ℕ) → Run) (h : GoAlike f) (bytes : List ℕ) where
    -- what follows a call
    after : Called → Run
    after x =
        let p = passed_of x.reply (length_at bytes) in
        joined (first p x.buffer) (cond p.stops (ended (drop p.written x.buffer)) (f x.register (drop p.consumed bytes) (drop p.written x.buffer)))

    alike-after : (x y : Called) → Same x y → length x.buffer ≡ length y.buffer → (passed_of x.reply (length_at bytes)).written ≤ length x.buffer → Alike (after x) (after y)
    unfolding after GoAlike
    alike-after x y s size room =
        rw (← s.reply, ← s.register)
        (alike-joined p x.buffer y.buffer _ _ room (omega arith) (rw (passed-written x.reply (length_at bytes)) s.entries) (on p.stops))
      where
        p : Passed
        p = passed_of x.reply (length_at bytes)

        on : (b : Bool)
            → Alike
            (cond b (ended (drop p.written x.buffer)) (f x.register (drop p.consumed bytes) (drop p.written x.buffer)))
            (cond b (ended (drop p.written y.buffer)) (f x.register (drop p.consumed bytes) (drop p.written y.buffer)))
        on true = alike-ended (drop p.written x.buffer) (drop p.written y.buffer)
        on false =
            h x.register (drop p.consumed bytes) (drop p.written x.buffer) (drop p.written y.buffer)
            (length-drop p.written x.buffer ∙ rw size (sym (length-drop p.written y.buffer)))

    turn-alike : (r : Register) (buffer other : List ℕ) → length buffer ≡ length other → Alike (turn_of R f r bytes buffer) (turn_of R f r bytes other)
    unfolding after
    turn-alike r buffer other e = go (eqb (length bytes) 0)
      where
        go : (b : Bool) → Alike (cond b (ended buffer) (after (called_by R r bytes buffer))) (cond b (ended other) (after (called_by R r bytes other)))
        go true = alike-ended buffer other
        go false =
            let m = call-moves R k r bytes buffer in
            alike-after (called_by R r bytes buffer) (called_by R r bytes other) (same-call R r buffer other (ap (λ (n : ℕ). ltb n longest_call) e) bytes)
            (m.size ∙ e ∙ sym (call-moves R k r bytes other).size) (omega (arith, m.size, m.room))

  runs-alike : (most : ℕ) → GoAlike (run_from R most)
  unfolding run_from GoAlike
  runs-alike zero r bytes buffer other e = alike-ended buffer other
  runs-alike (suc most) r bytes buffer other e = turn-alike (run_from R most) (runs-alike most) bytes r buffer other e

  pub buffer-never-shows : BufferNeverShows R
  unfolding run_by GoAlike
  buffer-never-shows bytes buffer other e = runs-alike (length bytes) (fresh_by R) bytes buffer other e
