-- Weighing is exact: what each verdict says of the outcomes by their numbers; and what the numbers say (docs/REGISTER.md, 4).
-- Assumes nothing.
use Rattle.std.specs.Prelude.{ℕ, zero, suc, ◌+◌, ◌*◌, ◌<◌, ◌≤◌, ◌^◌, ◌≡◌, ◌↔◌, Bool, true, false, cond, List, [], ◌∷◌, ◌++◌, length, get_or}
use Rattle.std.proofs.Math.Option.{none, some}
use Rattle.std.specs.Int.Count.{ones}
use Rattle.rule.specs.Rule.{Rule, guard, Slot, slot, undecided, committed, accept, reject, hold}
use Rattle.rule.specs.Outcome.{undecided_of, applied_in, bit, outcome, outcomes}
use Rattle.rule.specs.Weigh.{weigh, decide_behind}

-- the number of a choice among so many: its lowest bit is 1 exactly if the oldest is chosen, and what stands above it is the number of the choice among the others
abbrev pub number_of : ℕ → (ℕ → Bool) → ℕ
number_of zero chosen = 0
number_of (suc u) chosen = cond (chosen 0) 1 0 + 2 * number_of u (λ (i : ℕ). chosen (suc i))

-- the numbers below 2 to the power u are the choices among u, each the choice of its own bits
pub record Choices (u : ℕ) : Type 0 where
  pub below : (chosen : ℕ → Bool) → number_of u chosen < 2 ^ u
  pub chooses : (chosen : ℕ → Bool) (i : ℕ) → i < u → bit (number_of u chosen) i ≡ chosen i
  pub whole : (n : ℕ) → n < 2 ^ u → number_of u (bit n) ≡ n

module _ {G S E B : Type 0} (R : Rule S E B) where
  -- the state after the events in progress, where `chosen i` says whether that undecided event is applied which has i older undecided ones
  abbrev pub chosen_state : List (Slot G E) → (ℕ → Bool) → S → S
  chosen_state [] chosen s = s
  chosen_state (slot t g e undecided ∷ xs) chosen s =
      chosen_state xs (λ (i : ℕ). chosen (suc i)) (cond (chosen zero) (R.effect e s) s)
  chosen_state (slot t g e committed ∷ xs) chosen s = chosen_state xs chosen (R.effect e s)

  -- the guard in an outcome, by its number
  abbrev pub guard_in : E → S → List (Slot G E) → ℕ → Bool
  guard_in e s xs n = guard R e (outcome R xs n s)

  -- what the list of outcomes is
  pub record Numbered (xs : List (Slot G E)) (s : S) : Type 0 where
    -- there are 2^u of them (4.1)
    pub count : length (outcomes R xs s) ≡ 2 ^ undecided_of xs
    -- an outcome's number chooses by its bits, the lowest for the oldest undecided event (4.2)
    pub bits : (n : ℕ) → outcome R xs n s ≡ chosen_state xs (bit n) s
    -- in the list each stands at its number
    pub listed : (n : ℕ) (other : S) → n < 2 ^ undecided_of xs → get_or (outcomes R xs s) n other ≡ outcome R xs n s
    -- An undecided event, wherever it stands, is applied to the state of those before it if its place among the undecided ones is chosen, and else left out;
    pub undecided_one :
        (before behind : List (Slot G E)) (t : ℕ) (g : G) (e : E) (chosen : ℕ → Bool)
        → xs ≡ before ++ (slot t g e undecided ∷ behind)
        → chosen_state xs chosen s
        ≡ chosen_state behind (λ (i : ℕ). chosen (suc (undecided_of before) + i)) (cond (chosen (undecided_of before)) (R.effect e (chosen_state before chosen s)) (chosen_state before chosen s))
    -- a committed one always is applied.
    pub committed_one :
        (before behind : List (Slot G E)) (t : ℕ) (g : G) (e : E) (chosen : ℕ → Bool)
        → xs ≡ before ++ (slot t g e committed ∷ behind)
        → chosen_state xs chosen s ≡ chosen_state behind (λ (i : ℕ). chosen (undecided_of before + i)) (R.effect e (chosen_state before chosen s))
    -- the count of ones is the number of undecided events applied
    pub applied : (n : ℕ) → n < 2 ^ undecided_of xs → applied_in xs n ≡ ones n

  -- the three verdicts, each exactly if (4.5)
  pub record Exact (e : E) (xs : List (Slot G E)) (s : S) : Type 0 where
    pub accepted :
        (weigh R e (outcomes R xs s) ≡ accept)
        ↔ ((n : ℕ) → n < 2 ^ undecided_of xs → guard_in e s xs n ≡ true)
    pub rejected :
        (weigh R e (outcomes R xs s) ≡ reject)
        ↔ ((n : ℕ) → n < 2 ^ undecided_of xs → guard_in e s xs n ≡ false)
    pub held :
        (weigh R e (outcomes R xs s) ≡ hold)
        ↔ (((n : ℕ) × (n < 2 ^ undecided_of xs) × (guard_in e s xs n ≡ true)) × ((n : ℕ) × (n < 2 ^ undecided_of xs) × (guard_in e s xs n ≡ false)))

  -- how a request is decided, whatever is in progress and held
  pub record Decided (e : E) (s : S) (progress held : List (Slot G E)) : Type 0 where
    -- held unweighed behind a held request (4.4),
    pub behind : (held ≡ [] → ⊥) → decide_behind R held e s progress ≡ record { verdict = hold; weighed = 0; reason = none }
    -- and with no place free in progress (4.4);
    pub full : held ≡ [] → R.progress_limit ≤ length progress → decide_behind R held e s progress ≡ record { verdict = hold; weighed = 0; reason = none }
    -- else as it is weighed, with 2^u (4.5);
    pub free : held ≡ [] → length progress < R.progress_limit → (decide_behind R held e s progress).verdict ≡ weigh R e (outcomes R progress s)
    pub count : held ≡ [] → length progress < R.progress_limit → (decide_behind R held e s progress).weighed ≡ 2 ^ undecided_of progress
    -- and where it is rejected, with the reason in outcome 0, which there is (4.7);
    pub rejected : held ≡ [] → length progress < R.progress_limit → weigh R e (outcomes R progress s) ≡ reject
        → (n : ℕ) × ((decide_behind R held e s progress).reason ≡ some n) × (R.reason e (outcome R progress 0 s) ≡ some n)
    pub other : ((decide_behind R held e s progress).verdict ≡ reject → ⊥) → (decide_behind R held e s progress).reason ≡ none
    -- with no event in progress it is never held (13.3 e)
    pub idle : held ≡ [] → 1 ≤ R.progress_limit → progress ≡ [] → (decide_behind R held e s progress).verdict ≡ hold → ⊥
