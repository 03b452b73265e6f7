-- A run is its calls: by induction on the bound, each turn by the cases of its reply, of which the laws on lengths tell what the bytes begin with.
-- Demand 3 of a run is then demand 3 of its calls.
-- Assumes nothing.
use Prim.Native.Nat.{ℕ, zero, suc, ◌+◌, ◌≤◌, ◌<◌}
use mathlib.Core.Path.{◌≡◌, refl, sym, ◌∙◌, ap}
use mathlib.Core.Logic.{◌⊎◌, inl, inr}
use mathlib.Core.Bool.{Bool, true, false, cond}
use mathlib.Core.List.{List, [], ◌∷◌, ◌++◌, append_assoc}
use native.Mathlib.Omega.{arith}
use lib.Dec.{eqb}
use lib.ListN.{length, take, drop, length-append, length-drop}
use lib.Seq.{take_all, drop-drop, length-take-le, get_or-drop}
use borrow.Author.Tests.{eqb-true, eqb-false}
use Rattle.refusal.specs.Numbers.{number_of}
use Rattle.refusal.specs.declared.Refusal.{Refusal}
use Rattle.std.specs.Prelude.{Ok, Err}
use Rattle.rule.specs.Rule.{Rule}
use Rattle.events.specs.declared.Event.{Event}
use Rattle.events.specs.declared.State.{State}
use Rattle.layout.specs.Number.{AreBytes}
use Rattle.register.specs.declared.Register.{Register}
use Rattle.register.specs.declared.runs.Ran.{Ran}
use Rattle.register.specs.Register.{fresh_by}
use Rattle.register.specs.Call.{Called, called_by, Reply}
use Rattle.register.specs.Sequence.{Input, Exchange, ByteStrings, exchanges}
use Rattle.register.specs.Run.{Run, ended as ended-run, numbers_of, length_at, passed_of, joined, first, run_from, run_by}
use Rattle.register.specs.RunCalls.{Calls, ended, stopped, skipped, taken, refused_among, entries_among, Sums, IsCalls, RunIsItsCalls, RunDemand3}
use Rattle.register.proofs.Passing.{passed-stops, passed-skips}
use Rattle.register.proofs.Suits.{Suits}
use Rattle.register.proofs.Standing.{Stands}
use Rattle.register.proofs.Moved.{Tells, Moved, call-moves, call-tells}
use Rattle.register.proofs.Whole.{some_bytes}
use Rattle.register.proofs.Underway.{run-ended, run_more}
use Rattle.register.proofs.Demand3.{serial-past}

-- the four numbers one by one
module _ (buffer : List ℕ) (seen : List Exchange) (passed : ℕ) (run : Run) where
  by_number : run.counts.met ≡ length seen → run.counts.refused ≡ refused_among seen → run.counts.consumed ≡ passed → run.counts.written ≡ length (entries_among seen)
      → run.entries ≡ entries_among seen ++ drop (length (entries_among seen)) buffer → Sums buffer seen passed run
  by_number m r c w e = record { counts = same; exported = ap numbers_of same; entries = e }
    where
      same : run.counts ≡ record { met = length seen; refused = refused_among seen; consumed = passed; written = length (entries_among seen) }
      same = λ i. record { met = m i; refused = r i; consumed = c i; written = w i }

  module _ (s : Sums buffer seen passed run) where
    met-is : run.counts.met ≡ length seen
    met-is = ap (λ (x : Ran). x.met) s.counts

    refused-is : run.counts.refused ≡ refused_among seen
    refused-is = ap (λ (x : Ran). x.refused) s.counts

    consumed-is : run.counts.consumed ≡ passed
    consumed-is = ap (λ (x : Ran). x.consumed) s.counts

    written_is : run.counts.written ≡ length (entries_among seen)
    written_is = ap (λ (x : Ran). x.written) s.counts

-- no call,
sums_none : (buffer : List ℕ) → Sums buffer [] 0 (ended-run buffer)
sums_none buffer = record { counts = refl; exported = refl; entries = refl }

module _ (x : Exchange) (seen : List Exchange) (whole passed : ℕ) (rest : Run) where
  -- one call more: refused,
  sums-refused : (buffer out : List ℕ) (n : Refusal) (stops : Bool) → x.reply ≡ Err n → Sums buffer seen passed rest
      → Sums buffer (x ∷ seen) (whole + passed) (joined (first (record { refused = 1; consumed = whole; written = 0; stops = stops }) out) rest)
  sums-refused buffer out n stops q s =
      by_number buffer (x ∷ seen) (whole + passed) _
      (omega (arith, met-is buffer seen passed rest s))
      (rw q (omega (arith, refused-is buffer seen passed rest s)))
      (omega (arith, consumed-is buffer seen passed rest s))
      (rw q (omega (arith, written_is buffer seen passed rest s)))
      (rw q s.entries)

  -- or taken
  sums-taken : (buffer : List ℕ) (written : ℕ) → x.reply ≡ Ok (record { consumed = whole; written = written }) → written ≤ length x.buffer → drop written x.buffer ≡ drop written buffer
      → Sums (drop written x.buffer) seen passed rest
      → Sums buffer (x ∷ seen) (whole + passed) (joined (first (record { refused = 0; consumed = whole; written = written; stops = false }) x.buffer) rest)
  sums-taken buffer written q l e s =
      let es = entries_among seen in
      let own = take written x.buffer in
      let size : length (own ++ es) ≡ written + length es = length-append own es ∙ ap (λ (n : ℕ). n + length es) (length-take-le written x.buffer l) in
      by_number buffer (x ∷ seen) (whole + passed) _
      (omega (arith, met-is (drop written x.buffer) seen passed rest s))
      (rw q (omega (arith, refused-is (drop written x.buffer) seen passed rest s)))
      (omega (arith, consumed-is (drop written x.buffer) seen passed rest s))
      (rw q (omega (arith, size, written_is (drop written x.buffer) seen passed rest s)))
      (rw (q, size, s.entries, e, drop-drop (length es) written buffer) (sym (append_assoc own es (drop (written + length es) buffer))))

module _ (R : Rule State Event ℕ) (k : Suits R) where
  -- A turn of a run that goes on from there by its calls.
  module _ (f : Register → (bytes buffer : List ℕ) → Run) (r : Register) (bytes buffer : List ℕ)
      (h : (n : Register) (xs ys : List ℕ) → length xs < length bytes → IsCalls R n xs ys (f n xs ys)) (more : 0 < length bytes) where
    called : Called
    called = called_by R r bytes buffer

    turn : Reply → Run
    turn reply =
        let p = passed_of reply (length_at bytes) in
        let left = drop p.written called.buffer in
        joined (first p called.buffer) (cond p.stops (ended-run left) (f called.register (drop p.consumed bytes) left))

    -- what is seen of it
    seen : Exchange
    seen = record { message = bytes; reply = called.reply; buffer = called.buffer }

    turn-stops : (n : Refusal) → called.reply ≡ Err n → (number_of n ≡ 1) ⊎ (number_of n ≡ 2) → called.buffer ≡ buffer → IsCalls R r bytes buffer (turn (Err n))
    unfolding called turn seen
    turn-stops n q which same =
        rw (passed-stops n (length_at bytes) which, same)
        (record {
          inputs = record { message = bytes; buffer = buffer } ∷ [];
          passed = 0;
          calls = stopped n more q which;
          sums = sums-refused seen [] 0 0 (ended-run buffer) buffer buffer n true q (sums_none buffer);
        })

    turn-skips : (n : Refusal) → called.reply ≡ Err n → 3 ≤ number_of n → Stands bytes → called.buffer ≡ buffer → IsCalls R r bytes buffer (turn (Err n))
    unfolding called turn seen
    turn-skips n q high stands same =
        let whole = length_at bytes in
        let more-calls = h called.register (drop whole bytes) buffer (omega (arith, some_bytes stands.whole, length-drop whole bytes)) in
        rw (passed-skips n whole high, same)
        (record {
          inputs = record { message = bytes; buffer = buffer } ∷ more-calls.inputs;
          passed = whole + more-calls.passed;
          calls = skipped n whole q high stands.whole more-calls.calls;
          sums = sums-refused seen (exchanges R called.register more-calls.inputs) whole more-calls.passed _ buffer buffer n false q more-calls.sums;
        })

    abbrev took : ℕ → Reply
    took written = Ok (record { consumed = length_at bytes; written = written })

    turn-takes : (written : ℕ) → called.reply ≡ took written → Stands bytes → Moved bytes buffer called.buffer (passed_of (took written) (length_at bytes))
        → IsCalls R r bytes buffer (turn (took written))
    unfolding called turn seen
    turn-takes written q stands m =
        let whole = length_at bytes in
        let left = drop written called.buffer in
        let more-calls = h called.register (drop whole bytes) left (omega (arith, some_bytes stands.whole, length-drop whole bytes)) in
        record {
          inputs = record { message = bytes; buffer = buffer } ∷ more-calls.inputs;
          passed = whole + more-calls.passed;
          calls = taken whole written q stands.whole more-calls.calls;
          sums = sums-taken seen (exchanges R called.register more-calls.inputs) whole more-calls.passed _ buffer written q (omega (arith, m.room, m.size)) m.stays more-calls.sums;
        }

    turn_is : (reply : Reply) → called.reply ≡ reply → Tells bytes reply → Moved bytes buffer called.buffer (passed_of reply (length_at bytes)) → IsCalls R r bytes buffer (turn reply)
    turn_is (Err n) q (inl which) m = turn-stops n q which (rw (passed-stops n (length_at bytes) which) at m.stays)
    turn_is (Err n) q (inr (high, stands)) m = turn-skips n q high stands (rw (passed-skips n (length_at bytes) high) at m.stays)
    turn_is (Ok done) q t m = rw t.0 (turn-takes done.written (q ∙ same) t.1 (rw t.0 at m))
      where
        same : Ok done ≡ took done.written
        same = λ i. Ok (record { consumed = t.0 i; written = done.written })

  -- a run of no bytes
  no_call : (r : Register) (bytes buffer : List ℕ) (run : Run) → length bytes ≡ 0 → run ≡ ended-run buffer → IsCalls R r bytes buffer run
  no_call r bytes buffer run l e =
      let none : [] ≡ bytes = take_all 0 bytes (omega arith) in
      rw (← none, e) (record { inputs = []; passed = 0; calls = ended; sums = sums_none buffer })

  one_more : (most : ℕ) → ((n : Register) (xs ys : List ℕ) → length xs ≤ most → IsCalls R n xs ys (run_from R most n xs ys)) → (r : Register) (bytes buffer : List ℕ) → length bytes ≤ suc most
      → IsCalls R r bytes buffer (run_from R (suc most) r bytes buffer)
  unfolding called turn
  one_more most h r bytes buffer l = go (eqb (length bytes) 0) refl
    where
      go : (b : Bool) → eqb (length bytes) 0 ≡ b → IsCalls R r bytes buffer (run_from R (suc most) r bytes buffer)
      go true q =
          let none = eqb-true (length bytes) 0 q in
          no_call r bytes buffer (run_from R (suc most) r bytes buffer) none (run-ended R k (suc most) r bytes buffer none)
      go false q =
          let more : 0 < length bytes = omega (arith, eqb-false (length bytes) 0 q) in
          rw (run_more R k most r bytes buffer more)
          (turn_is (run_from R most) r bytes buffer (λ n xs ys l'. h n xs ys (omega arith)) more (called_by R r bytes buffer).reply refl (call-tells R k r bytes buffer)
          (call-moves R k r bytes buffer))

  calls-from : (most : ℕ) (r : Register) (bytes buffer : List ℕ) → length bytes ≤ most → IsCalls R r bytes buffer (run_from R most r bytes buffer)
  calls-from zero r bytes buffer l = no_call r bytes buffer (run_from R 0 r bytes buffer) (omega arith) (run-ended R k 0 r bytes buffer (omega arith))
  calls-from (suc most) r bytes buffer l = one_more most (calls-from most) r bytes buffer l

  pub run-is-its-calls : RunIsItsCalls R
  unfolding run_by
  run-is-its-calls bytes buffer = calls-from (length bytes) (fresh_by R) bytes buffer (omega arith)

-- what is left of bytes are bytes, so every message of the calls is a string of bytes
pub bytes_left : (bytes : List ℕ) (n : ℕ) → AreBytes bytes → AreBytes (drop n bytes)
bytes_left bytes n b = λ i. rw (get_or-drop n bytes i 0) (b (n + i))

pub calls-bytes : {bytes buffer : List ℕ} {inputs : List Input} {seen : List Exchange} {passed : ℕ} → Calls bytes buffer inputs seen passed → AreBytes bytes → ByteStrings inputs
calls-bytes ended b = tt
calls-bytes (stopped n more q which) b = (b, tt)
calls-bytes (skipped {bytes = bytes} n whole q high w rest) b = (b, calls-bytes rest (bytes_left bytes whole b))
calls-bytes (taken {bytes = bytes} whole written q w rest) b = (b, calls-bytes rest (bytes_left bytes whole b))

pub run-demand3 : (R : Rule State Event ℕ) → Suits R → RunDemand3 R
run-demand3 R k bytes buffer b i l inputs passed c = serial-past R k inputs (calls-bytes c b) i l
