-- Events whose guards are true in all outcomes of the older ones, as a walk down the events: the guard at the head, then on with the effect,
-- or, at an undecided event, on both ways. Each step of an account keeps it, by induction on the events; one law ties it to the numbered list.
-- Assumes nothing.
use Prim.Native.Nat.{ℕ, zero, ◌/◌, ◌%◌}
use mathlib.Core.Path.{◌≡◌, refl}
use mathlib.Core.Bool.{Bool, true, false, cond, not}
use mathlib.Core.List.{List, [], ◌∷◌, ◌++◌, append_assoc, append-nil}
use native.Mathlib.Omega.{arith}
use lib.Dec.{eqb}
use Rattle.rule.specs.Lists.{every, some_of}
use Rattle.rule.specs.Rule.{Rule, guard, Decision, undecided, committed, Slot, slot}
use Rattle.rule.specs.Outcome.{outcome, outcomes}
use Rattle.rule.specs.Step.{mark, without, settled_state, unsettled}
use Rattle.rule.specs.Call.{named_committed}
use Rattle.rule.specs.InOrder.{guarded}
use Rattle.rule.proofs.Lists.{and_left, and_right, and_both, or_left, or_right}
use Rattle.rule.proofs.Outcomes.{tally, no_of}
use Rattle.rule.proofs.Ways.{no_zero, zero-no, every_way, way-every}

module _ {G S E B : Type 0} (R : Rule S E B) where
  abbrev pub Safe : List (Slot G E) → S → Type 0
  Safe [] s = Unit {0}
  Safe (slot t g e undecided ∷ xs) s = (guard R e s ≡ true) × Safe xs s × Safe xs (R.effect e s)
  Safe (slot t g e committed ∷ xs) s = (guard R e s ≡ true) × Safe xs (R.effect e s)

  -- a commit leaves one way of two
  pub safe-mark : (u : ℕ) (xs : List (Slot G E)) (s : S) → Safe xs s → Safe (mark u xs) s
  safe-mark u [] s h = tt
  safe-mark u (slot t g e undecided ∷ xs) s h = go (eqb u t) (safe-mark u xs s h.1) (safe-mark u xs (R.effect e s) h.2)
    where
      go : (b : Bool) → Safe (mark u xs) s → Safe (mark u xs) (R.effect e s) → Safe (slot t g e (cond b committed undecided) ∷ mark u xs) s
      go true x y = (h.0, y)
      go false x y = (h.0, x, y)
  safe-mark u (slot t g e committed ∷ xs) s h = go (eqb u t) (safe-mark u xs (R.effect e s) h.1)
    where
      go : (b : Bool) → Safe (mark u xs) (R.effect e s) → Safe (slot t g e (cond b committed committed) ∷ mark u xs) s
      go true y = (h.0, y)
      go false y = (h.0, y)

  -- an abort of what is not committed leaves the other
  pub safe-without : (u : ℕ) (xs : List (Slot G E)) (s : S) → some_of (named_committed u) xs ≡ false → Safe xs s → Safe (without u xs) s
  safe-without u [] s q h = tt
  safe-without u (slot t g e undecided ∷ xs) s q h = go (eqb u t) (safe-without u xs s q h.1) (safe-without u xs (R.effect e s) q h.2)
    where
      go : (b : Bool) → Safe (without u xs) s → Safe (without u xs) (R.effect e s) → Safe (cond (not b) (slot t g e undecided ∷ without u xs) (without u xs)) s
      go true x y = x
      go false x y = (h.0, x, y)
  safe-without u (slot t g e committed ∷ xs) s q h =
      rw (or_left (eqb u t) (some_of (named_committed u) xs) q)
      (h.0, safe-without u xs (R.effect e s) (or_right (eqb u t) (some_of (named_committed u) xs) q) h.1)

  -- an acceptance adds a leaf at which no outcome votes no
  pub safe-accept :
      (t : ℕ) (g : G) (e : E) (d : Decision) (xs : List (Slot G E)) (s : S)
      → Safe xs s → tally R (no_of (guard R e)) xs s ≡ zero → Safe (xs ++ (slot t g e d ∷ [])) s
  safe-accept t g e undecided [] s h v = (no_zero (guard R e s) v, tt, tt)
  safe-accept t g e committed [] s h v = (no_zero (guard R e s) v, tt)
  safe-accept t g e d (slot t' g' e' undecided ∷ xs) s h v =
      (h.0, safe-accept t g e d xs s h.1 (omega arith), safe-accept t g e d xs (R.effect e' s) h.2 (omega arith))
  safe-accept t g e d (slot t' g' e' committed ∷ xs) s h v = (h.0, safe-accept t g e d xs (R.effect e' s) h.1 v)

  -- an application takes the head away
  pub safe-settled : (xs : List (Slot G E)) (s : S) → Safe xs s → Safe (unsettled xs) (settled_state R s xs)
  safe-settled [] s h = tt
  safe-settled (slot t g e undecided ∷ xs) s h = h
  safe-settled (slot t g e committed ∷ xs) s h = safe-settled xs (R.effect e s) h.1

  -- an event finds no vote of no on the walk down those before it,
  safe-split : (xs : List (Slot G E)) (t : ℕ) (g : G) (e : E) (d : Decision) (ys : List (Slot G E)) (s : S)
      → Safe (xs ++ (slot t g e d ∷ ys)) s → tally R (no_of (guard R e)) xs s ≡ zero
  safe-split [] t g e undecided ys s h = zero-no (guard R e s) h.0
  safe-split [] t g e committed ys s h = zero-no (guard R e s) h.0
  safe-split (slot t' g' e' undecided ∷ xs) t g e d ys s h =
      omega (arith, safe-split xs t g e d ys s h.1, safe-split xs t g e d ys (R.effect e' s) h.2)
  safe-split (slot t' g' e' committed ∷ xs) t g e d ys s h = safe-split xs t g e d ys (R.effect e' s) h.1

  -- so its guard is true in every outcome of the numbered list,
  pub safe-every : (xs : List (Slot G E)) (t : ℕ) (g : G) (e : E) (d : Decision) (ys : List (Slot G E)) (s : S)
      → Safe (xs ++ (slot t g e d ∷ ys)) s → every (guard R e) (outcomes R xs s) ≡ true
  safe-every xs t g e d ys s h =
      way-every R (guard R e) xs s (safe-split xs t g e d ys s h)

  -- the clause of an account in order on guards says the same
  pub safe-guarded : (s : S) (before rest : List (Slot G E)) → Safe (before ++ rest) s → guarded R s before rest ≡ true
  safe-guarded s before [] h = refl
  safe-guarded s before (slot t g e d ∷ rest) h =
      and_both (every (guard R e) (outcomes R before s)) (guarded R s (before ++ (slot t g e d ∷ [])) rest)
      (safe-every before t g e d rest s h)
      (safe-guarded s (before ++ (slot t g e d ∷ [])) rest (rw (append_assoc before (slot t g e d ∷ []) rest) h))

  pub guarded-safe : (s : S) (before rest : List (Slot G E)) → Safe before s → guarded R s before rest ≡ true → Safe (before ++ rest) s
  guarded-safe s before [] h q = rw (append-nil before) h
  guarded-safe s before (slot t g e d ∷ rest) h q =
      rw (← append_assoc before (slot t g e d ∷ []) rest)
      (guarded-safe s (before ++ (slot t g e d ∷ [])) rest
      (safe-accept t g e d before s h (every_way R (guard R e) before s (and_left (every (guard R e) (outcomes R before s)) (guarded R s (before ++ (slot t g e d ∷ [])) rest) q)))
      (and_right (every (guard R e) (outcomes R before s)) (guarded R s (before ++ (slot t g e d ∷ [])) rest) q))

-- two rules whose effects agree wherever the guard holds have the same outcomes of safe events
module _ {G S E B : Type 0} (R Q : Rule S E B) (same : (e : E) (s : S) → guard R e s ≡ true → Q.effect e s ≡ R.effect e s) where
  pub outcome-agree : (xs : List (Slot G E)) (n : ℕ) (s : S) → Safe R xs s → outcome Q xs n s ≡ outcome R xs n s
  outcome-agree [] n s h = refl
  outcome-agree (slot t g e committed ∷ xs) n s h = rw (same e s h.0) (outcome-agree xs n (R.effect e s) h.1)
  outcome-agree (slot t g e undecided ∷ xs) n s h =
      go (eqb (n % 2) 1) (outcome-agree xs (n / 2) s h.1) (outcome-agree xs (n / 2) (R.effect e s) h.2)
    where
      go :
          (b : Bool) → outcome Q xs (n / 2) s ≡ outcome R xs (n / 2) s
          → outcome Q xs (n / 2) (R.effect e s) ≡ outcome R xs (n / 2) (R.effect e s)
          → outcome Q xs (n / 2) (cond b (Q.effect e s) s) ≡ outcome R xs (n / 2) (cond b (R.effect e s) s)
      go true x y = rw (same e s h.0) y
      go false x y = x
