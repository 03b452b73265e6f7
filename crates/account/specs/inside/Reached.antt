-- The way of the outcome question through the events in progress (docs/REGISTER.md, 4.3): the state, and what is left of the outcome's number.
-- Assumes nothing.
use Rattle.std.specs.Prelude.{ℕ, ◌/◌, ◌%◌, ◌^◌, cond, List, eqb}
use Rattle.rule.specs.Rule.{Rule}
use Rattle.rule.specs.Outcome.{undecided_of, outcome}
use Rattle.events.specs.declared.Event.{Event}
use Rattle.events.specs.declared.State.{State}
use Rattle.filing.specs.declared.Slot.{Slot}
use Rattle.filing.specs.Slots.{RuleSlot, is_undecided}
use Rattle.account.specs.declared.question.Reached.{Reached}

abbrev pub reached : State → ℕ → Reached
reached s n = record { state = s; left = n }

module _ (R : Rule State Event ℕ) where
  -- one event further; an undecided one takes the lowest bit off the number
  unfoldable pub followed_by : Reached → Slot → Reached
  followed_by r x =
      cond (is_undecided x.decision)
      (cond (eqb (r.left % 2) 1) (reached (R.effect x.event r.state) (r.left / 2)) (reached r.state (r.left / 2)))
      (reached (R.effect x.event r.state) r.left)

  -- past all of them: the state in the outcome, and the number without the bits of the undecided events
  unfoldable pub reached_past : List RuleSlot → ℕ → State → Reached
  reached_past xs n s = reached (outcome R xs n s) (n / 2 ^ undecided_of xs)
