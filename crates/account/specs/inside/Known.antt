-- What weighing knows of the outcomes of the events in progress (4.1 to 4.5), and the decision on a request by it, over any rule of the events. The list of all outcomes is the rule's; what is known answers for it.
-- Assumes nothing.
use Rattle.std.specs.Prelude.{ℕ, ◌<◌, ◌≡◌, Bool, true, cond, List, [], map, length}
use Rattle.rule.specs.Rule.{Rule}
use Rattle.rule.specs.Outcome.{outcome, outcomes}
use Rattle.rule.specs.Weigh.{decide_behind}
use Rattle.rule.specs.InOrder.{guarded, oldest_stays_held}
use Rattle.events.specs.declared.Event.{Event}
use Rattle.events.specs.declared.State.{State}
use Rattle.events.specs.Range.{range_of}
use Rattle.filing.specs.declared.Verdict.{Verdict}
use Rattle.filing.specs.declared.Verdict.TheVariants.{Accepted, Rejected, Held}
use Rattle.filing.specs.declared.Weighing.{Weighing}
use Rattle.filing.specs.declared.Slot.{Slot}
use Rattle.filing.specs.Slots.{RuleSlot, slot_of}
use Rattle.filing.specs.Entries.{is_accepted, weighing_of}
use Rattle.account.specs.declared.outcomes.Outcomes.{Outcomes}

module _ (R : Rule State Event ℕ) where
  -- how many outcomes there are, the state in outcome 0, whether each event finds its guard true however the older ones end, and then the range of all outcomes
  pub record KnowsBy (s : State) (xs : List RuleSlot) (r : Outcomes) : Type 0 where
    pub number : r.number ≡ length (outcomes R xs s)
    pub first : r.first ≡ outcome R xs 0 s
    pub guards : r.guarded ≡ guarded R s [] xs
    pub range : r.guarded ≡ true → r.range ≡ range_of (outcomes R xs s)

  -- a decision on a request behind those held, by what is known of the outcomes of so many events in progress: to accept only where a place is free;
  -- and the rule's, where each event in progress finds its guard
  pub record DecidesBy (requests : List RuleSlot) (e : Event) (progressing : ℕ) (o : Outcomes) (r : Weighing) : Type 0 where
    pub free : is_accepted r.verdict ≡ true → progressing < R.progress_limit
    pub decided : (s : State) (xs : List RuleSlot) → KnowsBy s xs o → o.guarded ≡ true → length xs ≡ progressing → weighing_of r ≡ decide_behind R requests e s xs

  -- whether the oldest of the requests held, if there is one, stays held
  abbrev pub StaysHeldBy : List Slot → ℕ → Outcomes → Bool → Type 0
  StaysHeldBy requests progressing o r =
      (s : State) (xs : List RuleSlot) → KnowsBy s xs o → o.guarded ≡ true → length xs ≡ progressing → r ≡ oldest_stays_held R s xs (map slot_of requests)

-- the verdict, by whether the guard is true in every outcome and whether it is in some
abbrev pub verdict_by : (every some : Bool) → Verdict
verdict_by every some = cond every Accepted (cond some Held Rejected)
