-- What judging an account finds, and the refusals by it, as the account's own helpers have it, over any rule of the events (docs/REGISTER.md, 6 and 10.1).
-- Assumes nothing.
use Rattle.std.specs.Prelude.{ℕ, ◌+◌, ◌<◌, ◌≡◌, Bool, true, false, cond, not, ◌&&◌, List, [], ◌∷◌, map, length, take, eqb, leb, get_or, Option, None, Some, Result, Ok, Err}
use Rattle.rule.specs.Lists.{some_of}
use Rattle.rule.specs.Rule.{Rule}
use Rattle.rule.specs.Step.{named}
use Rattle.events.specs.declared.Event.{Event}
use Rattle.events.specs.declared.State.{State}
use Rattle.filing.specs.declared.Slot.{Slot}
use Rattle.filing.specs.Slots.{places, blank, is_undecided, slot_of}
use Rattle.refusal.specs.declared.Refusal.{Refusal}
use Rattle.refusal.specs.declared.Refusal.TheVariants.{NotInOrder, KnownTransaction, AllHeld, UnknownTransaction, HeldTransaction, CommittedAlready, CommittedBefore}
use Rattle.account.specs.declared.Account.{Account}
use Rattle.account.specs.declared.judging.Found.{Found}
use Rattle.account.specs.declared.judging.Found.TheVariants.{InProgress, OnHold}
use Rattle.account.specs.declared.judging.Judged.{Judged}
use Rattle.account.specs.Places.{lists_of}
use Rattle.account.specs.InOrder.{in_order_by}
use Rattle.account.specs.inside.Known.{KnowsBy}

-- the places of both rows
abbrev pub both_rows : ℕ
both_rows = places + places

-- no two of these numbers are the same
abbrev pub all_differ : List ℕ → Bool
all_differ [] = true
all_differ (t ∷ ts) = not (some_of (eqb t) ts) && all_differ ts

-- where a transaction stands among these slots: in progress at a place, held, or at none
abbrev pub Finds : ℕ → (events requests : List Slot) → Option Found → Type 0
Finds t es rs None = (some_of (named t) (map slot_of es) ≡ false) × (some_of (named t) (map slot_of rs) ≡ false)
Finds t es rs (Some (InProgress at x)) = (at < length es) × (get_or es at blank ≡ x) × (x.transaction ≡ t)
Finds t es rs (Some (OnHold x)) = (at : ℕ) × (at < length rs) × (get_or rs at blank ≡ x) × (x.transaction ≡ t)

-- what is found of an account in order and a transaction: the outcomes of its events, and where the transaction stands
pub record JudgedBy (R : Rule State Event ℕ) (a : Account) (t : ℕ) (j : Judged) : Type 0 where
  pub knows : KnowsBy R a.state (lists_of a).progress j.outcomes
  pub finds : Finds t (take a.progressing a.progress) (take a.holding a.held) j.found

-- whether an account is in order, and what is found of one that is
abbrev pub JudgesBy : Rule State Event ℕ → Account → ℕ → Result Judged Refusal → Type 0
JudgesBy R a t (Ok j) = (in_order_by R a ≡ true) × JudgedBy R a t j
JudgesBy R a t (Err r) = (in_order_by R a ≡ false) × (r ≡ NotInOrder)

-- what is asked, by what was found: whether a request is taken, which place a commit marks, which slot an abort drops
abbrev pub request_answer_by : Rule State Event ℕ → Option Found → (holding : ℕ) → Result (Unit {0}) Refusal
request_answer_by R None holding = cond (leb R.held_limit holding) (Err AllHeld) (Ok tt)
request_answer_by R (Some found) holding = Err KnownTransaction

abbrev pub commit_answer : Option Found → Result ℕ Refusal
commit_answer None = Err UnknownTransaction
commit_answer (Some (OnHold x)) = Err HeldTransaction
commit_answer (Some (InProgress at x)) = cond (is_undecided x.decision) (Ok at) (Err CommittedAlready)

abbrev pub abort_answer : Option Found → Result Slot Refusal
abort_answer None = Err UnknownTransaction
abort_answer (Some (OnHold x)) = Ok x
abort_answer (Some (InProgress at x)) = cond (is_undecided x.decision) (Ok x) (Err CommittedBefore)
