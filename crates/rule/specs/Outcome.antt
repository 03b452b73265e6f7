-- The outcomes of the events in progress (docs/REGISTER.md, 4.1 to 4.3).
-- Assumes nothing.
use Rattle.std.specs.Prelude.{ℕ, zero, suc, ◌+◌, ◌/◌, ◌%◌, ◌^◌, Bool, cond, List, [], ◌∷◌, map, eqb}
use Rattle.rule.specs.Lists.{numbers}
use Rattle.rule.specs.Rule.{Rule, Slot, slot, undecided, committed}

-- how many of these events are undecided: the u of 4.1
abbrev pub undecided_of : {G E : Type 0} → List (Slot G E) → ℕ
undecided_of [] = zero
undecided_of (slot t g e undecided ∷ xs) = suc (undecided_of xs)
undecided_of (slot t g e committed ∷ xs) = undecided_of xs

-- how many undecided events the outcome of this number applies
abbrev pub applied_in : {G E : Type 0} → List (Slot G E) → ℕ → ℕ
applied_in [] n = zero
applied_in (slot t g e undecided ∷ xs) n = n % 2 + applied_in xs (n / 2)
applied_in (slot t g e committed ∷ xs) n = applied_in xs n

-- whether bit i of a number is 1; bit 0 is the lowest (4.2)
abbrev pub bit : ℕ → ℕ → Bool
bit n i = eqb (n / 2 ^ i % 2) 1

module _ {G S E B : Type 0} (R : Rule S E B) where
  -- the state in the outcome of this number, from the applied one on, oldest event first (4.3);
  -- the lowest bit is the oldest undecided event's, the rest of the number is the rest of the events'
  abbrev pub outcome : List (Slot G E) → ℕ → S → S
  outcome [] n s = s
  outcome (slot t g e undecided ∷ xs) n s = outcome xs (n / 2) (cond (eqb (n % 2) 1) (R.effect e s) s)
  outcome (slot t g e committed ∷ xs) n s = outcome xs n (R.effect e s)

  -- the states in all outcomes, from number 0 on (4.1)
  unfoldable pub outcomes : List (Slot G E) → S → List S
  outcomes xs s = map (λ (n : ℕ). outcome xs n s) (numbers 0 (2 ^ undecided_of xs))
