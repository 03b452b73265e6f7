-- The first panel on an account (docs/REGISTER.md, 2.3 and 3): the limits, the rule of the events with these limits, an account's calls by it, and what is promised of them.
-- The definitions and the promises are over any rule of these events; here, once, they are applied to the first panel's.
-- Assumes nothing.
use Rattle.std.specs.Prelude.{ℕ, ◌≤◌, ◌≡◌, Bool, Result}
use Rattle.rule.specs.Rule.{Rule, Message}
use Rattle.events.specs.declared.Event.{Event}
use Rattle.events.specs.declared.Life.TheVariants.{Opened}
use Rattle.events.specs.declared.State.{State}
use Rattle.events.specs.Panel.{first_panel, first_table}
use Rattle.events.specs.Table.{Table}
use Rattle.filing.specs.declared.Filed.{Filed}
use Rattle.filing.specs.Slots.{places}
use Rattle.refusal.specs.declared.Refusal.{Refusal}
use Rattle.account.specs.declared.Account.{Account}
use Rattle.account.specs.declared.Outlook.{Outlook}
use Rattle.account.specs.InOrder.{in_order_by}
use Rattle.account.specs.Steps.{Stepped, step_by, outlook_by}
use Rattle.account.specs.Promises.{StepPromiseBy}
use Rattle.account.specs.Questions.{QuestionPromiseBy}
use Rattle.account.specs.InOrderExactly.{InOrderExactlyBy, BrokenClausesBy}
use Rattle.account.specs.Table.{OutcomesOfTheTableBy}
use Rattle.account.specs.Cases.{CasesHoldBy, BitsHoldBy}

-- how many events may be in progress and how many requests held: as many as there are places
abbrev pub progress_limit : ℕ
progress_limit = places

abbrev pub held_limit : ℕ
held_limit = places

-- the commit rule of the first panel,
abbrev pub panel : Rule State Event ℕ
panel = first_panel progress_limit held_limit

-- and the same with the table's effects as they stand: where every guard holds the two have the same outcomes
abbrev pub table_panel : Rule State Event ℕ
table_panel = first_table progress_limit held_limit

-- an account in order, a step of it, and the outcome question
abbrev pub in_order_of : Account → Bool
in_order_of a = in_order_by panel a

abbrev pub step_of : Account → Message Filed Event → Stepped
step_of a m = step_by panel a m

abbrev pub outlook_of : Account → ℕ → Result Outlook Refusal
outlook_of a n = outlook_by panel a n

-- the panel, and the same with the table's effects, are those with 8 places for events in progress and 8 for requests held, whose table is told row by row with the events (2.3, 3.1)
pub record TableOfThePanel (s : State) (a : ℕ) : Type 0 where
  pub panel' : panel ≡ first_panel 8 8
  pub table_panel' : table_panel ≡ first_table 8 8
  pub rows : Table 8 8 s a

abbrev pub TableHolds : Type 0
TableHolds = (s : State) (a : ℕ) → TableOfThePanel s a

-- on an account in order the outcomes are those of the table's own effects (3.3)
abbrev pub OutcomesOfTheTable : Type 0
OutcomesOfTheTable = OutcomesOfTheTableBy panel table_panel

-- the states in order, in plain numbers: the balance within its limit (6.1), and none unless the account is opened (6.2)
abbrev pub BalanceFits : State → Type 0
BalanceFits s = (s.balance ≤ 1_000_000) × ((s.life ≡ Opened → ⊥) → s.balance ≡ 0)

-- the test of order is true exactly if each clause holds; and what breaks a clause is not in order (6)
abbrev pub InOrderExactly : Type 0
InOrderExactly = InOrderExactlyBy panel 8 8 BalanceFits

abbrev pub BrokenClauses : Type 0
BrokenClauses = BrokenClausesBy panel 8 8 BalanceFits

-- what the steps and the outcome question promise (10.1, 11.1 and 11.2)
abbrev pub StepPromise : Type 0
StepPromise = StepPromiseBy panel 8

abbrev pub QuestionPromise : Type 0
QuestionPromise = QuestionPromiseBy panel table_panel

-- the cases, and the bits of all outcomes of eight undecided events (14, 4.2)
abbrev pub CasesHold : Type 0
CasesHold = CasesHoldBy panel

abbrev pub BitsHold : Type 0
BitsHold = BitsHoldBy panel
