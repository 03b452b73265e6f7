-- What the account's own helpers cite, applied to the first panel once: the definitions are over any rule of the events.
-- Assumes nothing.
use Rattle.std.specs.Prelude.{ℕ, Bool, List, Option, Result}
use Rattle.events.specs.declared.Event.{Event}
use Rattle.events.specs.declared.State.{State}
use Rattle.filing.specs.declared.Slot.{Slot}
use Rattle.filing.specs.declared.Weighing.{Weighing}
use Rattle.filing.specs.declared.Entry.{Entry}
use Rattle.filing.specs.declared.Entries.{Entries}
use Rattle.filing.specs.Slots.{RuleSlot}
use Rattle.refusal.specs.declared.Refusal.{Refusal}
use Rattle.account.specs.declared.Account.{Account}
use Rattle.account.specs.declared.judging.Found.{Found}
use Rattle.account.specs.declared.judging.Judged.{Judged}
use Rattle.account.specs.declared.outcomes.Outcomes.{Outcomes}
use Rattle.account.specs.declared.question.Reached.{Reached}
use Rattle.account.specs.First.{panel}
use Rattle.account.specs.inside.Known.{KnowsBy, DecidesBy, StaysHeldBy}
use Rattle.account.specs.inside.Judged.{JudgesBy, request_answer_by}
use Rattle.account.specs.inside.Taken.{SettlesBy, DrainsBy}
use Rattle.account.specs.inside.Reached.{followed_by}

-- weighing
abbrev pub Knows : State → List RuleSlot → Outcomes → Type 0
Knows s xs o = KnowsBy panel s xs o

abbrev pub Decides : (requests : List RuleSlot) → Event → (progressing : ℕ) → Outcomes → Weighing → Type 0
Decides requests e progressing o w = DecidesBy panel requests e progressing o w

abbrev pub StaysHeld : (requests : List Slot) → (progressing : ℕ) → Outcomes → Bool → Type 0
StaysHeld requests progressing o r = StaysHeldBy panel requests progressing o r

-- judging, and whether a request is taken by it
abbrev pub Judges : Account → (transaction : ℕ) → Result Judged Refusal → Type 0
Judges a t r = JudgesBy panel a t r

abbrev pub request_answer : Option Found → (holding : ℕ) → Result (Unit {0}) Refusal
request_answer found holding = request_answer_by panel found holding

-- what follows a commit or an abort
abbrev pub Settles : Account → Entry → Account → Entries → Type 0
Settles a first next entries = SettlesBy panel a first next entries

abbrev pub Drains : Account → Entries → Account → Entries → Type 0
Drains a before next entries = DrainsBy panel a before next entries

-- the way of the outcome question
abbrev pub followed : Reached → Slot → Reached
followed r x = followed_by panel r x
