-- The first panel's rule on an account: it is one that the laws are about, and so what they promise is promised of it; with the names of what the functions' proofs go by.
-- Assumes nothing.
use Prim.Native.Nat.{ℕ}
use mathlib.Core.Path.{◌≡◌, refl, sym}
use mathlib.Core.Logic.{◌↔◌}
use mathlib.Core.Bool.{true}
use mathlib.Core.List.{List}
use native.Mathlib.Omega.{arith}
use lib.Dec.{lit≤}
use Rattle.rule.specs.Rule.{Message, new_account}
use Rattle.rule.specs.Call.{call, reached}
use Rattle.rule.specs.InOrder.{Sound, InOrder, is_in_order}
use Rattle.rule.specs.Demand.{Demand3After}
use Rattle.rule.proofs.InOrder.{reached-clauses, call-order}
use Rattle.rule.proofs.Demand.{demand3}
use Rattle.events.specs.declared.Event.{Event}
use Rattle.events.specs.declared.State.{State}
use Rattle.events.proofs.Against.{panel-guard, reason-small}
use Rattle.events.proofs.Guards.{effect-table}
use Rattle.events.proofs.Panel as events-panel
use Rattle.events.proofs.Table as events-table
use Rattle.events.proofs.Answers.{range-tells}
use Rattle.filing.specs.declared.Filed.{Filed}
use Rattle.filing.specs.declared.Entries.{Entries}
use Rattle.filing.specs.declared.Weighing.{Weighing}
use Rattle.filing.specs.Slots.{RuleSlot}
use Rattle.account.specs.declared.Account.{Account}
use Rattle.account.specs.declared.outcomes.Outcomes.{Outcomes}
use Rattle.account.specs.declared.question.Reached.{Reached}
use Rattle.account.specs.Places.{RuleAccount}
use Rattle.account.specs.First.{progress_limit, held_limit, panel, table_panel, BalanceFits, TableHolds, OutcomesOfTheTable, InOrderExactly, BrokenClauses, StepPromise, QuestionPromise}
use Rattle.account.specs.inside.Reached.{reached_past}
use Rattle.account.proofs.Ranged.{Ranged}
use Rattle.account.proofs.Applying as applying
use Rattle.account.proofs.Voting as voting
use Rattle.account.proofs.Asked as asked
use Rattle.account.proofs.Promises as promises
use Rattle.account.proofs.Table as table
use Rattle.account.proofs.Questions as questions
use Rattle.account.proofs.InOrderExactly as exactly

-- a range answers for its guards, and its limits are the places
pub first-ranged : Ranged panel
first-ranged = record { tells = range-tells progress_limit held_limit; few = lit≤ tt; few_held = lit≤ tt; reasoned = λ e s h. let some = (reason-small e s 0 h).0 in omega (arith, some) }

pub sound : Sound panel
sound = events-panel.sound progress_limit held_limit

-- every account reached from fresh is in order,
pub panel-order : (ms : List (Message Filed Event)) → InOrder panel (reached panel (new_account panel Filed) ms)
panel-order ms = reached-clauses panel sound ms

-- a call leaves an account in order,
pub panel-call-order : (a : RuleAccount) (m : Message Filed Event) → is_in_order panel a ≡ true → is_in_order panel (call panel a m).account ≡ true
panel-call-order a m h = call-order panel sound a m h

-- and demand 3 holds of every account reached
pub panel-demand3 : (ms : List (Message Filed Event)) → Demand3After panel ms
panel-demand3 ms = demand3 panel (lit≤ tt) ms

-- the table row by row, and that the outcomes of an account in order are the table's
pub table-holds : TableHolds
table-holds s a = record { panel' = refl; table_panel' = refl; rows = events-table.table-holds 8 8 s a }

pub outcomes-of-the-table : OutcomesOfTheTable
outcomes-of-the-table = table.outcomes-of-the-table panel table_panel (λ e s g. sym (effect-table e s (rw (panel-guard progress_limit held_limit e) at g)))

-- the states in order in plain numbers, and in order exactly
balance-fits : (s : State) → (panel.fits s ≡ true) ↔ BalanceFits s
balance-fits s = (events-table.table-holds progress_limit held_limit s 0).fields.fits

pub order-exactly : InOrderExactly
order-exactly = exactly.order-exactly panel BalanceFits balance-fits

pub broken-clauses : BrokenClauses
broken-clauses = exactly.broken-clauses panel BalanceFits balance-fits

-- the steps, and the outcome question
pub step-promise : StepPromise
step-promise = promises.step-promise panel first-ranged

pub question-promise : QuestionPromise
question-promise = questions.question-promise panel table_panel outcomes-of-the-table

-- ---- what the proofs of the functions go by

-- where a request is taken, how it is weighed
abbrev pub Weighed : Account → Event → Weighing → Type 0
Weighed a e w = asked.Weighed panel a e w

-- on the way through the events in progress, and through the requests held
abbrev pub Applying : Account → Entries → Account → Entries → (ended at : ℕ) → Type 0
Applying self entries₀ next entries ended at = applying.Applying panel self entries₀ next entries ended at

abbrev pub Voting : Account → Entries → Account → Entries → Outcomes → (voted at : ℕ) → Type 0
Voting self entries₀ next entries outcomes voted at = voting.Voting panel self entries₀ next entries outcomes voted at

-- the way of the outcome question
abbrev pub reached_behind : List RuleSlot → (number : ℕ) → State → Reached
reached_behind xs n s = reached_past panel xs n s
