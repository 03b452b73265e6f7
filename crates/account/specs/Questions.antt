-- What the outcome question of an account promises by a rule of the events, through what is said of its answer: which number is given, as the first test that holds of a list; else the state in the outcome
-- and how many undecided events are applied in it (docs/REGISTER.md, 10.1 and 11.2).
-- Assumes nothing.
use Rattle.std.specs.Prelude.{ℕ, ◌^◌, ◌≡◌, not, List, [], ◌∷◌, ltb}
use Rattle.std.proofs.Math.Option.{none, some}
use Rattle.std.specs.Int.Count.{ones}
use Rattle.rule.specs.Rule.{Rule}
use Rattle.rule.specs.Outcome.{undecided_of, bit}
use Rattle.rule.specs.Exact.{chosen_state}
use Rattle.rule.specs.Tests.{Test, test, first_of}
use Rattle.events.specs.declared.Event.{Event}
use Rattle.events.specs.declared.State.{State}
use Rattle.account.specs.declared.Account.{Account}
use Rattle.account.specs.Places.{lists_of}
use Rattle.account.specs.InOrder.{in_order_by}
use Rattle.account.specs.Steps.{shown_by, outlook_by}

-- `T` has the table's effects as they stand
module _ (R T : Rule State Event ℕ) where
  -- 5, then 12
  abbrev pub question_tests_by : Account → ℕ → List Test
  question_tests_by a n = test (not (in_order_by R a)) 5 ∷ test (not (ltb n (2 ^ undecided_of (lists_of a).progress))) 12 ∷ []

  pub record QuestionAnsweredBy (a : Account) (n : ℕ) : Type 0 where
    pub refusal : (shown_by (outlook_by R a n)).refusal ≡ first_of (question_tests_by a n)
    -- a refusal tells nothing more;
    pub nothing : (number : ℕ) → (shown_by (outlook_by R a n)).refusal ≡ some number
        → shown_by (outlook_by R a n) ≡ record { refusal = some number; state = none; applied = 0 }
    -- else it tells the state in that outcome, by the table's effects and the bits of the number, and how many of these bits are 1 (11.2)
    pub told : (shown_by (outlook_by R a n)).refusal ≡ none
        → shown_by (outlook_by R a n) ≡ record { refusal = none; state = some (chosen_state T (lists_of a).progress (bit n) a.state); applied = ones n }

  abbrev pub QuestionPromiseBy : Type 0
  QuestionPromiseBy = (a : Account) (n : ℕ) → QuestionAnsweredBy a n
