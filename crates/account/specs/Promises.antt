-- What the steps of an account promise by a rule of the events, through what is said of their answers: which number is given, as the first test that holds of a list on the account's own places;
-- that a refusal changes nothing; what a step that is taken gives (docs/REGISTER.md, 10.1 and 11.1).
-- Assumes nothing.
use Rattle.std.specs.Prelude.{ℕ, ◌≤◌, ◌≡◌, Bool, true, false, ◌&&◌, ◌||◌, not, List, [], ◌∷◌, map, leb, eqb, length, take, replicate}
use Rattle.std.proofs.Math.Option.{none, some}
use Rattle.rule.specs.Lists.{some_of}
use Rattle.rule.specs.Rule as rule
use Rattle.rule.specs.Call.{call, written}
use Rattle.rule.specs.Tests.{Test, test, first_of}
use Rattle.events.specs.declared.Event.{Event}
use Rattle.events.specs.declared.State.{State}
use Rattle.filing.specs.declared.Filed.{Filed}
use Rattle.filing.specs.declared.Decision.{Decision}
use Rattle.filing.specs.declared.Decision.TheVariants.{Undecided, Committed}
use Rattle.filing.specs.declared.Slot.{Slot}
use Rattle.filing.specs.declared.Told.TheVariants.{Noted}
use Rattle.filing.specs.Entries.{entry_of}
use Rattle.account.specs.declared.Account.{Account}
use Rattle.account.specs.Places.{lists_of}
use Rattle.account.specs.InOrder.{in_order_by}
use Rattle.account.specs.Steps.{refusal_in, entries_in, step_by}

abbrev pub is_committed : Decision → Bool
is_committed Undecided = false
is_committed Committed = true

-- whether one of the first `count` places is that transaction's; whether one is, and is committed
abbrev pub stands : ℕ → List Slot → ℕ → Bool
stands t row count = some_of (λ (x : Slot). eqb t x.transaction) (take count row)

abbrev pub stands_committed : ℕ → List Slot → ℕ → Bool
stands_committed t row count = some_of (λ (x : Slot). eqb t x.transaction && is_committed x.decision) (take count row)

module _ (a : Account) where
  abbrev pub in_progress : ℕ → Bool
  in_progress t = stands t a.progress a.progressing

  abbrev pub on_hold : ℕ → Bool
  on_hold t = stands t a.held a.holding

  abbrev pub committed_there : ℕ → Bool
  committed_there t = stands_committed t a.progress a.progressing

-- where so many requests may be held
module _ (R : rule.Rule State Event ℕ) (held_limit : ℕ) where
  -- a step: 5; of a request then 6 and 7, of a commit 8 to 10, of an abort 8 and 11
  abbrev pub step_tests_by : Account → rule.Message Filed Event → List Test
  step_tests_by a (rule.request t g e) =
      test (not (in_order_by R a)) 5 ∷ test (in_progress a t || on_hold a t) 6 ∷ test (leb held_limit (length (take a.holding a.held))) 7 ∷ []
  step_tests_by a (rule.commit t g) =
      test (not (in_order_by R a)) 5 ∷ test (not (in_progress a t || on_hold a t)) 8 ∷ test (on_hold a t) 9 ∷ test (committed_there a t) 10 ∷ []
  step_tests_by a (rule.abort t g) =
      test (not (in_order_by R a)) 5 ∷ test (not (in_progress a t || on_hold a t)) 8 ∷ test (committed_there a t) 11 ∷ []

  pub record StepAnsweredBy (a : Account) (m : rule.Message Filed Event) : Type 0 where
    pub refusal : refusal_in (step_by R a m).answer ≡ first_of (step_tests_by a m)
    -- a refusal leaves the account as it is and writes nothing;
    pub unchanged : (number : ℕ) → refusal_in (step_by R a m).answer ≡ some number → (step_by R a m).account ≡ a
    pub silent : (number : ℕ) → refusal_in (step_by R a m).answer ≡ some number
        → entries_in (step_by R a m).answer ≡ record { at = replicate 17 (record { transaction = 0; filed = record { second = 0 }; told = Noted }); count = 0 }
    -- else the account has the lists that the rule's call gives, and the entries are the rule's
    pub lists : refusal_in (step_by R a m).answer ≡ none → lists_of (step_by R a m).account ≡ (call R (lists_of a) m).account
    pub entries : refusal_in (step_by R a m).answer ≡ none
        → take (entries_in (step_by R a m).answer).count (entries_in (step_by R a m).answer).at ≡ map entry_of (written (call R (lists_of a) m).answer)
    -- and there are never more entries than places for them
    pub few : (entries_in (step_by R a m).answer).count ≤ 17

  abbrev pub StepPromiseBy : Type 0
  StepPromiseBy = (a : Account) (m : rule.Message Filed Event) → StepAnsweredBy a m
