-- An account in order, by any rule of its events (docs/REGISTER.md, 6).
-- Assumes nothing.
use Rattle.std.specs.Prelude.{ℕ, Bool, ◌&&◌, leb, drop}
use Rattle.rule.specs.Lists.{every}
use Rattle.rule.specs.Rule.{Rule}
use Rattle.rule.specs.InOrder.{is_in_order}
use Rattle.events.specs.declared.Event.{Event}
use Rattle.events.specs.declared.State.{State}
use Rattle.filing.specs.Slots.{is_blank}
use Rattle.account.specs.declared.Account.{Account}
use Rattle.account.specs.Places.{lists_of}

module _ (R : Rule State Event ℕ) where
  -- neither count too high (6.1), nothing but the blank in unused places (6.3), and every clause that the rule has on the account's lists
  unfoldable pub in_order_by : Account → Bool
  in_order_by a =
      leb a.progressing R.progress_limit && leb a.holding R.held_limit
      && every is_blank (drop a.progressing a.progress)
      && every is_blank (drop a.holding a.held)
      && is_in_order R (lists_of a)
