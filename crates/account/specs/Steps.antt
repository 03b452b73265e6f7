-- What request, commit and abort give, and what the outcome question answers, by any rule of the events and for every account whatever its places hold
-- (docs/REGISTER.md, 4, 5, 10.1 and 11.2).
-- Assumes nothing.
use Rattle.std.specs.Prelude.{ℕ, ◌^◌, cond, [], ltb, Result, Ok, Err}
use Rattle.std.proofs.Math.Option.{Option, none, some}
use Rattle.rule.specs.Rule as rule
use Rattle.rule.specs.Outcome.{undecided_of, applied_in, outcome}
use Rattle.rule.specs.Call as Rule-Call
use Rattle.events.specs.declared.Event.{Event}
use Rattle.events.specs.declared.State.{State}
use Rattle.filing.specs.declared.Filed.{Filed}
use Rattle.filing.specs.declared.Entries.{Entries}
use Rattle.filing.specs.Entries.{entries_of}
use Rattle.refusal.specs.declared.Refusal.{Refusal}
use Rattle.refusal.specs.declared.Refusal.TheVariants.{NotInOrder, NoSuchOutcome}
use Rattle.refusal.specs.Numbers.{number_of, numbered}
use Rattle.account.specs.declared.Account.{Account}
use Rattle.account.specs.declared.Outlook.{Outlook}
use Rattle.account.specs.Places.{lists_of, account_of}
use Rattle.account.specs.InOrder.{in_order_by}

-- what a step gives: the account that follows, and the entries written, or the refusal
pub record Stepped : Type 0 where
  pub account : Account
  pub answer : Result Entries Refusal

-- what is said of a step's answer: the number of its refusal, if it is one (10.1), and the entries, none where it is one
abbrev pub refusal_in : Result Entries Refusal → Option ℕ
refusal_in (Ok entries) = none
refusal_in (Err r) = some (number_of r)

abbrev pub entries_in : Result Entries Refusal → Entries
entries_in (Ok entries) = entries
entries_in (Err r) = entries_of []

-- a refusal: the same account, and the refusal of that number
abbrev pub refused_step : Account → Refusal → Stepped
refused_step a r = record { account = a; answer = Err r }

abbrev pub refused_by : Account → ℕ → Stepped
refused_by a n = refused_step a (numbered n)

-- a step that is taken
abbrev pub taken_step : Account → Entries → Stepped
taken_step a entries = record { account = a; answer = Ok entries }

-- the rule's call, in places
abbrev pub stepped_by : Account → rule.Account Filed State Event → Rule-Call.Answer Filed Event ℕ → Stepped
stepped_by a next (Rule-Call.refused n) = refused_by a n
stepped_by a next (Rule-Call.taken xs) = taken_step (account_of next) (entries_of xs)

-- what is said of the outcome question's answer: the number of its refusal, if it is one, or the state and the number of undecided events applied in it (11.2)
pub record Shown : Type 0 where
  pub refusal : Option ℕ
  pub state : Option State
  pub applied : ℕ

abbrev pub shown_by : Result Outlook Refusal → Shown
shown_by (Ok told) = record { refusal = none; state = some told.state; applied = told.applied }
shown_by (Err r) = record { refusal = some (number_of r); state = none; applied = 0 }

module _ (R : rule.Rule State Event ℕ) where
  -- a step of an account: 5 if it is not in order, else the rule's call
  unfoldable pub step_by : Account → rule.Message Filed Event → Stepped
  step_by a m =
      cond (in_order_by R a)
      (stepped_by a (Rule-Call.call R (lists_of a) m).account (Rule-Call.call R (lists_of a) m).answer)
      (refused_step a NotInOrder)

  -- the outcome question: 5, then 12 where there is no outcome of that number, else the answer (10.1, 11.2)
  unfoldable pub outlook_by : Account → ℕ → Result Outlook Refusal
  outlook_by a n =
      cond (in_order_by R a)
      (cond (ltb n (2 ^ undecided_of (lists_of a).progress))
      (Ok (record { state = outcome R (lists_of a).progress n (lists_of a).state; applied = applied_in (lists_of a).progress n }))
      (Err NoSuchOutcome))
      (Err NotInOrder)
