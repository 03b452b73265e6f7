-- On an account in order the outcomes are those of the table's own effects (docs/REGISTER.md, 3.3), whatever a rule's effects are where a guard fails.
-- Assumes nothing.
use Rattle.std.specs.Prelude.{ℕ, ◌≡◌, true}
use Rattle.rule.specs.Rule.{Rule}
use Rattle.rule.specs.Outcome.{outcome, bit}
use Rattle.rule.specs.Exact.{chosen_state}
use Rattle.events.specs.declared.Event.{Event}
use Rattle.events.specs.declared.State.{State}
use Rattle.account.specs.declared.Account.{Account}
use Rattle.account.specs.Places.{lists_of}
use Rattle.account.specs.InOrder.{in_order_by}

-- `T` has the table's effects as they stand
module _ (R T : Rule State Event ℕ) where
  -- each outcome is the one that the table's effects lead to, by the bits of its number
  abbrev pub OutcomesOfTheTableBy : Type 0
  OutcomesOfTheTableBy = (a : Account) → in_order_by R a ≡ true → (n : ℕ)
      → (outcome R (lists_of a).progress n a.state ≡ outcome T (lists_of a).progress n a.state)
      × (outcome R (lists_of a).progress n a.state ≡ chosen_state T (lists_of a).progress (bit n) a.state)
