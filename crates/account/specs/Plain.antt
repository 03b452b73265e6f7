-- Each way that a step of an account and the outcome question can take, with all that it gives, by any rule of the events and whatever the places hold; and the account's lists, literally
-- (docs/REGISTER.md, 2.3, 10.1 and 11.2).
-- Assumes nothing.
use Rattle.std.specs.Prelude.{ℕ, ◌^◌, ◌≤◌, ◌<◌, ◌≡◌, true, false, ◌&&◌, List, map, leb, take, drop, Ok, Err}
use Rattle.std.specs.Int.Count.{ones}
use Rattle.rule.specs.Rule as rule
use Rattle.rule.specs.Call as Rule-Call
use Rattle.rule.specs.Lists.{every}
use Rattle.rule.specs.InOrder.{is_in_order}
use Rattle.rule.specs.Outcome.{undecided_of, bit}
use Rattle.rule.specs.Exact.{chosen_state}
use Rattle.events.specs.declared.Event.{Event}
use Rattle.events.specs.declared.State.{State}
use Rattle.filing.specs.declared.Filed.{Filed}
use Rattle.filing.specs.Slots.{slot_of, is_blank}
use Rattle.filing.specs.Entries.{RuleEntry, entries_of}
use Rattle.refusal.specs.declared.Refusal.TheVariants.{NotInOrder, NoSuchOutcome}
use Rattle.refusal.specs.Numbers.{number_of, numbered}
use Rattle.account.specs.declared.Account.{Account}
use Rattle.account.specs.Places.{lists_of, account_of}
use Rattle.account.specs.InOrder.{in_order_by}
use Rattle.account.specs.Steps.{step_by, outlook_by}

-- the lists of an account, in order or not: its used places, in their order
abbrev pub ListsPlain : Type 0
ListsPlain =
    (a : Account)
    → lists_of a ≡ record { state = a.state; progress = map slot_of (take a.progressing a.progress); held = map slot_of (take a.holding a.held) }

module _ (R : rule.Rule State Event ℕ) where
  -- in order: the counts within their limits, every unused place blank, in both rows, and each clause of the rule on all that is used
  abbrev pub OrderPlain : Account → Type 0
  OrderPlain a =
      in_order_by R a
      ≡ (leb a.progressing R.progress_limit && leb a.holding R.held_limit
      && every is_blank (drop a.progressing a.progress)
      && every is_blank (drop a.holding a.held)
      && is_in_order R (record { state = a.state; progress = map slot_of (take a.progressing a.progress); held = map slot_of (take a.holding a.held) }))

  -- a step: 5, and then the rule's answer; a refusal leaves the account and is all that is answered, with the number that the rule gives
  pub record StepPlain (a : Account) (m : rule.Message Filed Event) : Type 0 where
    pub out_of_order : in_order_by R a ≡ false
        → step_by R a m ≡ record { account = a; answer = Err NotInOrder }
    pub refused : (n : ℕ) → in_order_by R a ≡ true → (Rule-Call.call R (lists_of a) m).answer ≡ Rule-Call.refused n
        → (step_by R a m ≡ record { account = a; answer = Err (numbered n) }) × (number_of (numbered n) ≡ n)
    pub taken : (xs : List RuleEntry) → in_order_by R a ≡ true → (Rule-Call.call R (lists_of a) m).answer ≡ Rule-Call.taken xs
        → step_by R a m ≡ record { account = account_of (Rule-Call.call R (lists_of a) m).account; answer = Ok (entries_of xs) }

  -- the outcome question: 5, whatever the number is; 12 from 2 to the power u on; else the state by the bits of the number, and how many of them are 1
  pub record QuestionPlain (a : Account) (n : ℕ) : Type 0 where
    pub out_of_order : in_order_by R a ≡ false → outlook_by R a n ≡ Err NotInOrder
    pub no_outcome : in_order_by R a ≡ true → 2 ^ undecided_of (map slot_of (take a.progressing a.progress)) ≤ n → outlook_by R a n ≡ Err NoSuchOutcome
    pub answered : in_order_by R a ≡ true → n < 2 ^ undecided_of (map slot_of (take a.progressing a.progress))
        → outlook_by R a n ≡ Ok (record { state = chosen_state R (map slot_of (take a.progressing a.progress)) (bit n) a.state; applied = ones n })

pub record PlainHolds : Type 0 where
  pub lists : ListsPlain
  pub order : (R : rule.Rule State Event ℕ) (a : Account) → OrderPlain R a
  pub step : (R : rule.Rule State Event ℕ) (a : Account) (m : rule.Message Filed Event) → StepPlain R a m
  pub question : (R : rule.Rule State Event ℕ) (a : Account) (n : ℕ) → QuestionPlain R a n
