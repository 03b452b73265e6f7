-- A run that is under way: what is done, with the rest of the run at the present values, is the whole run. Each turn moves one message from the rest to what is done;
-- at the end nothing is left.
-- Assumes nothing.
use Prim.Native.Nat.{ℕ, zero, suc, ◌+◌, ◌-◌, ◌≤◌, ◌<◌, ◌^◌}
use mathlib.Core.Path.{◌≡◌, refl, sym, ◌∙◌, ap}
use mathlib.Core.Bool.{true, false, cond}
use mathlib.Core.List.{List, [], ◌++◌, append_assoc}
use native.Mathlib.Nat.{add_assoc, add-zero, zero-add}
use native.Mathlib.Omega.{arith}
use lib.ListN.{length, take, drop, take-append-drop, length-append, length-drop}
use lib.Seq.{drop-drop, take-append-add, drop-append-add, length-take-le}
use borrow.Author.Tests.{eq-eqb, ne_eqb}
use Rattle.rule.specs.Rule.{Rule}
use Rattle.events.specs.declared.Event.{Event}
use Rattle.events.specs.declared.State.{State}
use Rattle.register.specs.declared.Register.{Register}
use Rattle.register.specs.declared.runs.Ran.{Ran}
use Rattle.register.specs.declared.runs.Passed.{Passed}
use Rattle.register.specs.Register.{fresh_by}
use Rattle.register.specs.Call.{Called, called_by}
use Rattle.register.specs.Run.{Run, nothing, ended, length_at, passed_of, one, added, joined, first, run_from, run_by}
use Rattle.register.proofs.Suits.{Suits}
use Rattle.register.specs.Helpers.{Countable}
use Rattle.register.proofs.Moved.{Moved, call-moves}

module _ (R : Rule State Event ℕ) (k : Suits R) where
  -- what is done of a run: its counts, and the entries that are written
  abbrev pub done : Ran → (entries : List ℕ) → Run
  done ran entries = record { counts = ran; entries = take ran.written entries }

  pub record Underway (bytes buffer : List ℕ) (r : Register) (ran : Ran) (entries : List ℕ) : Type 0 where
    pub size : length entries ≡ length buffer
    pub within : ran.consumed ≤ length bytes
    pub met : ran.met ≤ ran.consumed
    pub refused : ran.refused ≤ ran.met
    pub room : ran.written ≤ length entries
    pub whole : run_by R bytes buffer ≡ joined (done ran entries) (run_from R (length bytes - ran.met) r (drop ran.consumed bytes) (drop ran.written entries))

  joined-assoc : (a b c : Run) → joined (joined a b) c ≡ joined a (joined b c)
  joined-assoc a b c = simp (add_assoc, append_assoc)

  -- nothing is done at the start, and nothing is left at the end
  joined-nothing : (a : Run) → joined (ended []) a ≡ a
  joined-nothing a = simp zero-add

  joined-ended : (ran : Ran) (xs ys : List ℕ) → joined (record { counts = ran; entries = xs }) (ended ys) ≡ record { counts = ran; entries = xs ++ ys }
  joined-ended ran xs ys = simp add-zero

  pub starts : (bytes buffer : List ℕ) → Underway bytes buffer (fresh_by R) nothing buffer
  unfolding run_by
  starts bytes buffer =
      let all : length bytes - 0 ≡ length bytes = omega arith in
      record {
        size = refl;
        within = omega arith;
        met = omega arith;
        refused = omega arith;
        room = omega arith;
        whole = rw all (sym (joined-nothing (run_from R (length bytes) (fresh_by R) bytes buffer)));
      }

  -- where no byte is left
  pub run-ended : (most : ℕ) (r : Register) (bytes buffer : List ℕ) → length bytes ≡ 0 → run_from R most r bytes buffer ≡ ended buffer
  unfolding run_from
  run-ended zero r bytes buffer h = refl
  run-ended (suc most) r bytes buffer h = rw (eq-eqb (length bytes) 0 h)

  pub ends : (bytes buffer : List ℕ) (r : Register) (ran : Ran) (entries : List ℕ) → Underway bytes buffer r ran entries → length bytes ≤ ran.consumed
      → run_by R bytes buffer ≡ record { counts = ran; entries = entries }
  ends bytes buffer r ran entries u h =
      let none : length (drop ran.consumed bytes) ≡ 0 = omega (arith, length-drop ran.consumed bytes) in
      u.whole
      ∙ rw (
        run-ended (length bytes - ran.met) r (drop ran.consumed bytes) (drop ran.written entries) none,
        joined-ended ran (take ran.written entries) (drop ran.written entries),
        take-append-drop ran.written entries,
      )

  -- where there is a message
  pub run_more : (most : ℕ) (r : Register) (bytes buffer : List ℕ) → 0 < length bytes → run_from R (suc most) r bytes buffer
      ≡ joined (first (passed_of (called_by R r bytes buffer).reply (length_at bytes)) (called_by R r bytes buffer).buffer)
      (cond (passed_of (called_by R r bytes buffer).reply (length_at bytes)).stops
      (ended (drop (passed_of (called_by R r bytes buffer).reply (length_at bytes)).written (called_by R r bytes buffer).buffer))
      (run_from R most (called_by R r bytes buffer).register (drop (passed_of (called_by R r bytes buffer).reply (length_at bytes)).consumed bytes)
      (drop (passed_of (called_by R r bytes buffer).reply (length_at bytes)).written (called_by R r bytes buffer).buffer)))
  unfolding run_from
  run_more most r bytes buffer h = rw (ne_eqb (length bytes) 0 (λ z. omega arith))

  -- a turn: the register gets what is left of the messages and of the entry buffer, and what it gives
  pub record Turn (bytes : List ℕ) (r : Register) (ran : Ran) (entries : List ℕ) (next : Register) (passed : Passed) (left : List ℕ) : Type 0 where
    pub comes : passed ≡ passed_of (called_by R r (drop ran.consumed bytes) (drop ran.written entries)).reply (length_at (drop ran.consumed bytes))
    pub follows : next ≡ (called_by R r (drop ran.consumed bytes) (drop ran.written entries)).register
    pub leaves : left ≡ take ran.written entries ++ (called_by R r (drop ran.consumed bytes) (drop ran.written entries)).buffer

  -- the seam between what was written before and what a call leaves
  module _ (w n : ℕ) (entries out : List ℕ) (h : w ≤ length entries) where
    front : length (take w entries) ≡ w
    front = length-take-le w entries h

    written-more : take w entries ++ take n out ≡ take (w + n) (take w entries ++ out)
    written-more = sym (rw front at (take-append-add (take w entries) out n))

    free_more : drop n out ≡ drop (w + n) (take w entries ++ out)
    free_more = sym (rw front at (drop-append-add (take w entries) out n))

  -- what is done, and a message's own part after it
  done_more : (ran : Ran) (p : Passed) (entries out : List ℕ) → ran.written ≤ length entries → (rest : Run)
      → joined (done ran entries) (joined (first p out) rest) ≡ joined (done (added ran (one p)) (take ran.written entries ++ out)) rest
  done_more ran p entries out h rest =
      sym (joined-assoc (done ran entries) (first p out) rest)
      ∙ ap (λ (xs : List ℕ). joined (record { counts = added ran (one p); entries = xs }) rest) (written-more ran.written p.written entries out h)

  module _ (bytes buffer : List ℕ) (r : Register) (ran : Ran) (entries : List ℕ) (next : Register) (passed : Passed) (left : List ℕ) (u : Underway bytes buffer r ran entries)
      (t : Turn bytes r ran entries next passed left) (more : ran.consumed < length bytes) where
    moved : Moved (drop ran.consumed bytes) (drop ran.written entries) (called_by R r (drop ran.consumed bytes) (drop ran.written entries)).buffer passed
    moved = rw t.comes (call-moves R k r (drop ran.consumed bytes) (drop ran.written entries))

    -- the entry buffer keeps its length
    pub size-kept : length left ≡ length buffer
    size-kept =
        rw t.leaves
        (simp (length-append, length-take-le ran.written entries u.room) (omega (arith, moved.size, length-drop ran.written entries, u.size, u.room)))

    -- the counts fit a word
    pub countable : length bytes < 2 ^ 64 → length buffer < 2 ^ 64 → Countable ran passed
    countable b e =
        let m = moved in
        let c = length-drop ran.consumed bytes in
        let w = length-drop ran.written entries in
        record { met = omega arith; refused = omega arith; consumed = omega arith; written = omega arith }

    -- the message is moved to what is done
    turn-whole : run_by R bytes buffer
        ≡ joined (done (added ran (one passed)) left)
        (cond passed.stops (ended (drop (ran.written + passed.written) left))
        (run_from R (length bytes - (ran.met + 1)) next (drop (ran.consumed + passed.consumed) bytes) (drop (ran.written + passed.written) left)))
    turn-whole =
        let rest = drop ran.consumed bytes in
        let free = drop ran.written entries in
        let called : Called = called_by R r rest free in
        let p : Passed = passed_of called.reply (length_at rest) in
        let most = length bytes - (ran.met + 1) in
        rw (t.comes, t.follows, t.leaves, ← drop-drop p.consumed ran.consumed bytes, ← free_more ran.written p.written entries called.buffer u.room)
        (u.whole
        ∙ ap (λ (n : ℕ). joined (done ran entries) (run_from R n r rest free)) (omega (arith, u.met))
        ∙ ap (joined (done ran entries)) (run_more most r rest free (omega (arith, length-drop ran.consumed bytes)))
        ∙ done_more ran p entries called.buffer u.room
        (cond p.stops (ended (drop p.written called.buffer)) (run_from R most called.register (drop p.consumed rest) (drop p.written called.buffer))))

    -- the run stops at the message,
    pub stops-there : passed.stops ≡ true → run_by R bytes buffer ≡ record { counts = added ran (one passed); entries = left }
    stops-there h =
        let at = ran.written + passed.written in
        (rw h at turn-whole)
        ∙ joined-ended (added ran (one passed)) (take at left) (drop at left)
        ∙ ap (λ (xs : List ℕ). record { counts = added ran (one passed); entries = xs }) (take-append-drop at left)

    -- or goes on behind it
    module _ (h : passed.stops ≡ false) where
      pub goes_on : Underway bytes buffer next (added ran (one passed)) left
      goes_on =
          let m = moved in
          let some = moved.forward h in
          let c = length-drop ran.consumed bytes in
          let w = length-drop ran.written entries in
          let z = size-kept in
          record { size = z; within = omega arith; met = omega arith; refused = omega arith; room = omega arith; whole = rw h at turn-whole }

      pub less-left : length bytes - (ran.consumed + passed.consumed) < length bytes - ran.consumed
      less-left = omega (arith, moved.forward h, moved.within, length-drop ran.consumed bytes)
