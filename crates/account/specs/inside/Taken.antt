-- A step that is taken, as the account's own helpers have it: the rule's step in places, over any rule of the events (docs/REGISTER.md, 5 and 9.4).
-- Assumes nothing.
use Rattle.std.specs.Prelude.{ℕ, ◌+◌, ◌≡◌, true, List, [], ◌∷◌, set}
use Rattle.rule.specs.Lists.{every}
use Rattle.rule.specs.Rule.{Rule}
use Rattle.rule.specs.InOrder.{without_decision, guarded}
use Rattle.rule.specs.Step as rule-step
use Rattle.events.specs.declared.Event.{Event}
use Rattle.events.specs.declared.State.{State}
use Rattle.filing.specs.declared.Filed.{Filed}
use Rattle.filing.specs.declared.Slot.{Slot}
use Rattle.filing.specs.declared.Entry.{Entry}
use Rattle.filing.specs.declared.Entries.{Entries}
use Rattle.filing.specs.Slots.{RuleSlot}
use Rattle.filing.specs.Entries.{RuleEntry, entry_of, entries_of}
use Rattle.account.specs.declared.Account.{Account}
use Rattle.account.specs.Places.{RuleAccount, account_of}
use Rattle.account.specs.Steps.{Stepped, taken_step}

abbrev pub RuleStep : Type 0
RuleStep = rule-step.Step Filed State Event ℕ

-- the rule's step, in places
unfoldable pub taken_as : RuleStep → Stepped
taken_as step = taken_step (account_of step.account) (entries_of step.entries)

-- an account of the rule
abbrev pub listed : State → (progress held : List RuleSlot) → RuleAccount
listed s progress held = record { state = s; progress = progress; held = held }

-- with one event more in progress, the newest
abbrev pub begun : Account → Slot → Account
begun a x = record { state = a.state; progress = set a.progress a.progressing x; progressing = a.progressing + 1; held = a.held; holding = a.holding }

module _ (R : Rule State Event ℕ) where
  -- what follows a commit or an abort of an account that is its lists', whose requests held have no decision, behind the call's own entry
  abbrev pub SettlesBy : Account → Entry → Account → Entries → Type 0
  SettlesBy a first next entries =
      (x : RuleAccount) (own : RuleEntry)
      → a ≡ account_of x → every without_decision x.held ≡ true
      → first ≡ entry_of own → guarded R x.state [] x.progress ≡ true
      → taken_step next entries ≡ taken_as (rule-step.after (own ∷ []) (rule-step.settle R x.state x.progress x.held))

  -- the requests held of such an account, behind what was written
  abbrev pub DrainsBy : Account → Entries → Account → Entries → Type 0
  DrainsBy a before next entries =
      (x : RuleAccount) (written : List RuleEntry)
      → a ≡ account_of x → every without_decision x.held ≡ true
      → before ≡ entries_of written → guarded R x.state [] x.progress ≡ true
      → taken_step next entries ≡ taken_as (rule-step.after written (rule-step.drain R x.state x.progress x.held))
