-- The seconds never matter in a run: by induction on the bound. Two calls on messages that differ only in their second agree but for the seconds, so they come to the same;
-- what they pass is the message's length, and behind it the bytes are such messages again.
-- Assumes nothing.
use Prim.Native.Nat.{ℕ, zero, suc, ◌+◌, ◌≤◌}
use mathlib.Core.Path.{◌≡◌, refl, sym, ◌∙◌}
use mathlib.Core.Logic.{inl, inr}
use mathlib.Core.Bool.{Bool, true, false, cond, true≢false}
use mathlib.Core.List.{List, ◌++◌, append_assoc}
use native.Mathlib.Omega.{arith}
use lib.Dec.{eqb}
use lib.ListN.{length, take, drop}
use lib.Seq.{take-append-add, drop-append-add, length-take-le}
use Rattle.std.specs.Prelude.{Ok, Err}
use Rattle.rule.specs.Rule.{Rule}
use Rattle.events.specs.declared.Event.{Event}
use Rattle.events.specs.declared.State.{State}
use Rattle.entry.specs.Bytes.{bytes_of_entry}
use Rattle.register.specs.declared.Register.{Register}
use Rattle.register.specs.declared.runs.Passed.{Passed}
use Rattle.register.specs.Register.{fresh_by}
use Rattle.register.specs.Call.{Called, written_of, called_by, Reply}
use Rattle.register.specs.Whole.{Whole}
use Rattle.register.specs.Seconds.{SameMessage, SameEntries, nothing_written, entry}
use Rattle.register.specs.Run.{Run, ended, length_at, passed_of, joined, first, turn_of, run_from, run_by}
use Rattle.register.specs.RunSeconds.{SameMessages, same_messages, SameRun, RunSecondsNeverMatter}
use Rattle.register.proofs.Suits.{Suits}
use Rattle.register.proofs.OtherSecond.{number-before, empty-same}
use Rattle.register.proofs.Seconds.{SameRegister, SameResult, call_same, fresh-same}
use Rattle.register.proofs.Standing.{Stands}
use Rattle.register.proofs.Moved.{Tells, call-moves, call-tells}
use Rattle.register.proofs.Passing.{passed-stops, passed-skips, passed-written}
use Rattle.register.proofs.WholeRuns.{bound-never-matters}

-- entries and then others
same-append : {xs xs' ys ys' : List ℕ} → SameEntries xs xs' → SameEntries ys ys' → SameEntries (xs ++ ys) (xs' ++ ys')
same-append nothing_written k = k
same-append {ys = ys} {ys' = ys'} (entry account e e' {rest = rest} {rest' = rest'} other more) k =
    rw (append_assoc (bytes_of_entry account e) rest ys, append_assoc (bytes_of_entry account e') rest' ys') (entry account e e' other (same-append more k))

same_ended : (buffer : List ℕ) → SameRun (ended buffer) (ended buffer)
same_ended buffer = record { counts = refl; entries = nothing_written; rest = refl }

-- a message's part of the run, and then the rest
same-joined : (p : Passed) (out out' : List ℕ) (x y : Run) → p.written ≤ length out → p.written ≤ length out' → SameEntries (take p.written out) (take p.written out')
    → SameRun x y → SameRun (joined (first p out) x) (joined (first p out') y)
same-joined p out out' x y h h' e s =
    record {
      counts = rw s.counts;
      entries = rw (front out x h, front out' y h') (same-append e s.entries);
      rest = behind out x h ∙ s.rest ∙ sym (behind out' y h');
    }
  where
    front : (o : List ℕ) (z : Run) → p.written ≤ length o → take (p.written + z.counts.written) (take p.written o ++ z.entries) ≡ take p.written o ++ take z.counts.written z.entries
    front o z l = rw (length-take-le p.written o l) at (take-append-add (take p.written o) z.entries z.counts.written)

    behind : (o : List ℕ) (z : Run) → p.written ≤ length o → drop (p.written + z.counts.written) (take p.written o ++ z.entries) ≡ drop z.counts.written z.entries
    behind o z l = rw (length-take-le p.written o l) at (drop-append-add (take p.written o) z.entries z.counts.written)

-- a message that the run goes on from is passed by its whole length
passes : (bytes : List ℕ) (reply : Reply) → Tells bytes reply → (passed_of reply (length_at bytes)).stops ≡ false → ((passed_of reply (length_at bytes)).consumed ≡ length_at bytes) × Stands bytes
passes bytes (Err n) (inl which) s = absurd (true≢false (rw (passed-stops n (length_at bytes) which) at s))
passes bytes (Err n) (inr (high, stands)) s = (rw (passed-skips n (length_at bytes) high), stands)
passes bytes (Ok taken) t s = t

module _ (R : Rule State Event ℕ) (k : Suits R) where
  -- both runs go on alike
  GoSame : (Register → (bytes buffer : List ℕ) → Run) → Type 0
  GoSame f = (r r' : Register) (bytes bytes' buffer : List ℕ) → SameRegister R r r' → SameMessages bytes bytes' → SameRun (f r bytes buffer) (f r' bytes' buffer)

  module _ (f : Register → (bytes buffer : List ℕ) → Run) (h : GoSame f) (r r' : Register) (bytes bytes' buffer : List ℕ) (registers : SameRegister R r r') (same : SameMessage bytes bytes')
      (behind : (whole : ℕ) → Whole bytes whole → whole ≤ length bytes → SameMessages (drop whole bytes) (drop whole bytes')) where
    called : Called
    called = called_by R r bytes buffer

    called' : Called
    called' = called_by R r' bytes' buffer

    both : SameResult R called called'
    unfolding called called'
    both = call_same R r r' buffer registers k bytes bytes' same

    -- what both messages come to
    p : Passed
    p = passed_of called.reply (length_at bytes)

    passed-same : passed_of called'.reply (length_at bytes') ≡ p
    unfolding p
    passed-same = rw (← both.replies, ← number-before bytes bytes' same 0 1 (omega arith))

    -- what follows the calls
    after : Called → Passed → (s : List ℕ) → Run
    after x q s =
        let left = drop q.written x.buffer in
        joined (first q x.buffer) (cond q.stops (ended left) (f x.register (drop q.consumed s) left))

    after_same : SameRun (after called p bytes) (after called' p bytes')
    unfolding after called called' p GoSame
    after_same = same-joined p called.buffer called'.buffer _ _ room room' (rw own (rw (← both.replies) at both.entries)) (on p.stops refl)
      where
        own : p.written ≡ written_of called.reply
        own = passed-written called.reply (length_at bytes)

        room : p.written ≤ length called.buffer
        room = let m = call-moves R k r bytes buffer in omega (arith, m.room, m.size)

        room' : p.written ≤ length called'.buffer
        room' = rw (← passed-same) (let m = call-moves R k r' bytes' buffer in omega (arith, m.room, m.size))

        left-same : drop p.written called'.buffer ≡ drop p.written called.buffer
        left-same = rw own (sym (rw (← both.replies) at both.rest))

        on : (b : Bool) → p.stops ≡ b
            → SameRun
            (cond b (ended (drop p.written called.buffer)) (f called.register (drop p.consumed bytes) (drop p.written called.buffer)))
            (cond b (ended (drop p.written called'.buffer)) (f called'.register (drop p.consumed bytes') (drop p.written called'.buffer)))
        on true q = rw left-same (same_ended (drop p.written called.buffer))
        on false q =
            let whole = passes bytes called.reply (call-tells R k r bytes buffer) q in
            rw left-same
            (h called.register called'.register (drop p.consumed bytes) (drop p.consumed bytes') (drop p.written called.buffer) both.registers
            (rw whole.0 (behind (length_at bytes) whole.1.whole whole.1.all_there)))

    turn-same : SameRun (turn_of R f r bytes buffer) (turn_of R f r' bytes' buffer)
    unfolding after called called' p
    turn-same = rw (empty-same bytes bytes' same) (go (eqb (length bytes') 0))
      where
        go : (b : Bool) → SameRun (cond b (ended buffer) (after called p bytes)) (cond b (ended buffer) (after called' (passed_of called'.reply (length_at bytes')) bytes'))
        go true = same_ended buffer
        go false = rw passed-same after_same

  runs_same : (most : ℕ) → GoSame (run_from R most)
  unfolding run_from GoSame
  runs_same zero r r' bytes bytes' buffer registers same = same_ended buffer
  runs_same (suc most) r r' bytes bytes' buffer registers (same_messages same behind) = turn-same (run_from R most) (runs_same most) r r' bytes bytes' buffer registers same behind

  pub run-seconds-never-matter : RunSecondsNeverMatter R
  unfolding run_by GoSame
  run-seconds-never-matter bytes bytes' buffer same =
      let most = length bytes + length bytes' in
      rw (← bound-never-matters R k most (fresh_by R) bytes buffer (omega arith), ← bound-never-matters R k most (fresh_by R) bytes' buffer (omega arith))
      (runs_same most (fresh_by R) (fresh_by R) bytes bytes' buffer (fresh-same R k) same)
