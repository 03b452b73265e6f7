-- A test in every outcome of the events in progress, as a walk down the events on which it is never voted no; and what one event more, the newest, does to it.
-- Assumes nothing.
use Prim.Native.Nat.{ℕ, zero, ◌+◌}
use mathlib.Core.Path.{◌≡◌, refl, sym, ◌∙◌, ap₂}
use mathlib.Core.Bool.{Bool, true, false, cond, false≢true}
use mathlib.Core.List.{List, [], ◌∷◌, ◌++◌}
use native.Mathlib.Omega.{arith}
use Rattle.rule.specs.Lists.{every}
use Rattle.rule.specs.Rule.{Rule, Slot, slot, undecided, committed}
use Rattle.rule.specs.Outcome.{outcomes}
use Rattle.rule.proofs.Outcomes.{tally, total-tally, no_of, every-no, no-every}

-- a test that holds is no vote of no, and the other way round
pub no_zero : (b : Bool) → cond b 0 1 ≡ zero → b ≡ true
no_zero true h = refl
no_zero false h = absurd (omega arith)

pub zero-no : (b : Bool) → b ≡ true → cond b 0 1 ≡ zero
zero-no true h = refl
zero-no false h = absurd (false≢true h)

module _ {G S E B : Type 0} (R : Rule S E B) where
  -- the test holds in every outcome
  abbrev pub Way : (S → Bool) → List (Slot G E) → S → Type 0
  Way p xs s = tally R (no_of p) xs s ≡ zero

  pub every_way : (p : S → Bool) (xs : List (Slot G E)) (s : S) → every p (outcomes R xs s) ≡ true → Way p xs s
  every_way p xs s h = sym (total-tally R (no_of p) xs s) ∙ every-no p (outcomes R xs s) h

  pub way-every : (p : S → Bool) (xs : List (Slot G E)) (s : S) → Way p xs s → every p (outcomes R xs s) ≡ true
  way-every p xs s h = no-every p (outcomes R xs s) (total-tally R (no_of p) xs s ∙ h)

  -- a test that holds wherever two others do
  pub way-both : (p q r : S → Bool) → ((s : S) → p s ≡ true → q s ≡ true → r s ≡ true) → (xs : List (Slot G E)) (s : S) → Way p xs s → Way q xs s → Way r xs s
  way-both p q r f [] s h k = zero-no (r s) (f s (no_zero (p s) h) (no_zero (q s) k))
  way-both p q r f (slot t g e committed ∷ xs) s h k = way-both p q r f xs (R.effect e s) h k
  way-both p q r f (slot t g e undecided ∷ xs) s h k =
      let without = way-both p q r f xs s (omega arith) (omega arith) in
      let with' = way-both p q r f xs (R.effect e s) (omega arith) (omega arith) in
      omega arith

  module _ (f : S → ℕ) (t : ℕ) (g : G) (e : E) where
    -- one event more: past a committed one, and at an undecided one both without and with it
    pub tally-past : (xs : List (Slot G E)) (s : S) → tally R f (xs ++ (slot t g e committed ∷ [])) s ≡ tally R (λ (x : S). f (R.effect e x)) xs s
    tally-past [] s = refl
    tally-past (slot t' g' e' committed ∷ xs) s = tally-past xs (R.effect e' s)
    tally-past (slot t' g' e' undecided ∷ xs) s = ap₂ (λ (a b : ℕ). a + b) (tally-past xs s) (tally-past xs (R.effect e' s))

    pub tally-both : (xs : List (Slot G E)) (s : S)
        → tally R f (xs ++ (slot t g e undecided ∷ [])) s ≡ tally R f xs s + tally R (λ (x : S). f (R.effect e x)) xs s
    tally-both [] s = refl
    tally-both (slot t' g' e' committed ∷ xs) s = tally-both xs (R.effect e' s)
    tally-both (slot t' g' e' undecided ∷ xs) s = omega (arith, tally-both xs s, tally-both xs (R.effect e' s))
