-- Laws of whole runs, each by induction on the bound: what one call keeps, the run keeps, since the rest of it starts from what that call left.
-- Assumes nothing.
use Prim.Native.Nat.{ℕ, zero, suc, ◌≤◌, ◌<◌}
use mathlib.Core.Path.{◌≡◌, refl, sym, ◌∙◌, ap}
use mathlib.Core.Bool.{Bool, true, false, cond}
use mathlib.Core.List.{List}
use native.Mathlib.Omega.{arith}
use lib.Dec.{eqb}
use lib.ListN.{length, take, drop, length-append, length-drop}
use lib.Seq.{drop-drop, drop-append-add, length-take-le}
use borrow.Author.Tests.{eqb-false}
use Rattle.rule.specs.Rule.{Rule}
use Rattle.events.specs.declared.Event.{Event}
use Rattle.events.specs.declared.State.{State}
use Rattle.register.specs.declared.Register.{Register}
use Rattle.register.specs.declared.runs.Passed.{Passed}
use Rattle.register.specs.Register.{fresh_by}
use Rattle.register.specs.Call.{Called, called_by}
use Rattle.register.specs.Run.{Run, ended, length_at, passed_of, joined, first, turn_of, run_from, run_by, EmptyRun, BoundNeverMatters, Kept, EachRunKept}
use Rattle.register.proofs.Suits.{Suits}
use Rattle.register.proofs.Moved.{Moved, call-moves}
use Rattle.register.proofs.Underway.{run-ended}

module _ (R : Rule State Event ℕ) (k : Suits R) where
  pub empty-run : EmptyRun R
  unfolding run_by run_from
  empty-run buffer = refl

  -- a turn, with the rest of the run as a parameter
  module _ (r : Register) (bytes buffer : List ℕ) where
    called : Called
    called = called_by R r bytes buffer

    passed : Passed
    passed = passed_of called.reply (length_at bytes)

    left : List ℕ
    left = drop passed.written called.buffer

    -- two ways to go on that agree on fewer bytes
    turn-agrees : (f g : Register → (bytes buffer : List ℕ) → Run) → ((n : Register) (xs ys : List ℕ) → length xs < length bytes → f n xs ys ≡ g n xs ys)
        → turn_of R f r bytes buffer ≡ turn_of R g r bytes buffer
    unfolding called passed left
    turn-agrees f g h = go (eqb (length bytes) 0) refl
      where
        on : (b : Bool) → passed.stops ≡ b → (length bytes ≡ 0 → ⊥)
            → cond b (ended left) (f called.register (drop passed.consumed bytes) left) ≡ cond b (ended left) (g called.register (drop passed.consumed bytes) left)
        on true s some = refl
        on false s some = h called.register (drop passed.consumed bytes) left (omega (arith, (call-moves R k r bytes buffer).forward s, length-drop passed.consumed bytes))

        go : (b : Bool) → eqb (length bytes) 0 ≡ b
            → cond b (ended buffer) (joined (first passed called.buffer) (cond passed.stops (ended left) (f called.register (drop passed.consumed bytes) left)))
            ≡ cond b (ended buffer) (joined (first passed called.buffer) (cond passed.stops (ended left) (g called.register (drop passed.consumed bytes) left)))
        go true q = refl
        go false q = ap (joined (first passed called.buffer)) (on passed.stops refl (eqb-false (length bytes) 0 q))

  two-bounds : (most other : ℕ) (r : Register) (bytes buffer : List ℕ) → length bytes ≤ most → length bytes ≤ other → run_from R most r bytes buffer ≡ run_from R other r bytes buffer
  unfolding run_from
  two-bounds zero other r bytes buffer h h' = sym (run-ended R k other r bytes buffer (omega arith))
  two-bounds (suc most) zero r bytes buffer h h' = run-ended R k (suc most) r bytes buffer (omega arith)
  two-bounds (suc most) (suc other) r bytes buffer h h' =
      turn-agrees r bytes buffer (run_from R most) (run_from R other) (λ n xs ys l. two-bounds most other n xs ys (omega arith) (omega arith))

  pub bound-never-matters : BoundNeverMatters R
  bound-never-matters most r bytes buffer h = two-bounds most (length bytes) r bytes buffer h (omega arith)

  -- what a run keeps that has ended,
  kept-ended : (bytes buffer : List ℕ) → Kept bytes buffer (ended buffer)
  kept-ended bytes buffer = record { size = refl; room = omega arith; stays = refl; within = omega arith; both = omega arith }

  -- what a message keeps, and then the rest of the run
  kept-joined : (bytes buffer out : List ℕ) (p : Passed) (x : Run) → Moved bytes buffer out p → Kept (drop p.consumed bytes) (drop p.written out) x → Kept bytes buffer (joined (first p out) x)
  kept-joined bytes buffer out p x m rest =
      let w = p.written in
      let n = x.counts.written in
      let front : length (take w out) ≡ w = length-take-le w out (omega (arith, m.room, m.size)) in
      let left = length-drop w out in
      let some = length-drop p.consumed bytes in
      record {
        size = length-append (take w out) x.entries ∙ omega (arith, front, rest.size, m.size, m.room);
        room = omega (arith, rest.room, m.size, m.room);
        stays = (rw front at (drop-append-add (take w out) x.entries n)) ∙ rest.stays ∙ rw m.stays (drop-drop n w buffer);
        within = omega (arith, rest.within, m.within);
        both = omega (arith, rest.both, m.once);
      }

  turn-keeps : (f : Register → (bytes buffer : List ℕ) → Run) → ((n : Register) (xs ys : List ℕ) → Kept xs ys (f n xs ys)) → (r : Register) (bytes buffer : List ℕ) → Kept bytes buffer (turn_of R f r bytes buffer)
  unfolding called passed left
  turn-keeps f h r bytes buffer = go (eqb (length bytes) 0)
    where
      rest : Run
      rest = f (called r bytes buffer).register (drop (passed r bytes buffer).consumed bytes) (left r bytes buffer)

      on : (b : Bool) → Kept (drop (passed r bytes buffer).consumed bytes) (left r bytes buffer) (cond b (ended (left r bytes buffer)) rest)
      on true = kept-ended (drop (passed r bytes buffer).consumed bytes) (left r bytes buffer)
      on false = h (called r bytes buffer).register (drop (passed r bytes buffer).consumed bytes) (left r bytes buffer)

      go : (b : Bool)
          → Kept bytes buffer (cond b (ended buffer) (joined (first (passed r bytes buffer) (called r bytes buffer).buffer) (cond (passed r bytes buffer).stops (ended (left r bytes buffer)) rest)))
      go true = kept-ended bytes buffer
      go false = kept-joined bytes buffer (called r bytes buffer).buffer (passed r bytes buffer) (cond (passed r bytes buffer).stops (ended (left r bytes buffer)) rest) (call-moves R k r bytes buffer) (on (passed r bytes buffer).stops)

  kept : (most : ℕ) (r : Register) (bytes buffer : List ℕ) → Kept bytes buffer (run_from R most r bytes buffer)
  unfolding run_from
  kept zero r bytes buffer = kept-ended bytes buffer
  kept (suc most) r bytes buffer = turn-keeps (run_from R most) (kept most) r bytes buffer

  pub each-run-kept : EachRunKept R
  unfolding run_by
  each-run-kept bytes buffer = kept (length bytes) (fresh_by R) bytes buffer
