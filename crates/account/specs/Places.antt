-- An account's places and its lists: an account has eight places in progress and eight held, of which the first few are used; the rule's account has lists (docs/REGISTER.md, 2.3 to 2.5).
-- Assumes nothing.
use Rattle.std.specs.Prelude.{ℕ, ◌-◌, List, ◌++◌, map, length, take, replicate}
use Rattle.rule.specs.Rule as rule
use Rattle.events.specs.declared.Event.{Event}
use Rattle.events.specs.declared.State.{State}
use Rattle.filing.specs.declared.Filed.{Filed}
use Rattle.filing.specs.declared.Slot.{Slot}
use Rattle.filing.specs.Slots.{RuleSlot, slot_of, place_of, places, blank}
use Rattle.account.specs.declared.Account.{Account}

abbrev pub RuleAccount : Type 0
RuleAccount = rule.Account Filed State Event

-- the used places, in their order
abbrev pub used : List Slot → ℕ → List RuleSlot
used slots count = map slot_of (take count slots)

-- that many places, the first of which hold the list; the others are blank
abbrev pub padded : ℕ → List RuleSlot → List Slot
padded size xs = map place_of xs ++ replicate (size - length xs) blank

-- the account's lists,
unfoldable pub lists_of : Account → RuleAccount
lists_of a = record { state = a.state; progress = used a.progress a.progressing; held = used a.held a.holding }

-- and the account that has these lists
unfoldable pub account_of : RuleAccount → Account
account_of a =
    record {
      state = a.state;
      progress = padded places a.progress;
      progressing = length a.progress;
      held = padded places a.held;
      holding = length a.held;
    }
