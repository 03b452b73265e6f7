-- A range is exact: what it is of any states, in plain words; that it answers for an event's guard in all of them and in some; and that, kept through events in progress each of
-- which finds its guard true however the older ones end, it is the range of the list of all outcomes (4.1 to 4.3).
-- Assumes nothing.
use Rattle.std.specs.Prelude.{ℕ, ◌≤◌, ◌≡◌, ◌↔◌, true, List, [], ◌∷◌, ◌++◌, map}
use Rattle.rule.specs.Lists.{every, some_of}
use Rattle.rule.specs.Rule.{Rule, guard, Slot}
use Rattle.rule.specs.Outcome.{outcomes}
use Rattle.rule.specs.InOrder.{guarded}
use Rattle.events.specs.declared.Event.{Event}
use Rattle.events.specs.declared.Life.{Life}
use Rattle.events.specs.declared.Life.TheVariants.{New, Opened, Closed}
use Rattle.events.specs.declared.State.{State}
use Rattle.events.specs.Panel.{first_panel}
use Rattle.events.specs.Range.{range_of, every_in, some_in, range_after, range_perhaps, range_through}

module _ (states : List State) where
  -- one of the states, of which something is said
  abbrev pub Among : (State → Type 0) → Type 0
  Among P = (before : List State) × (s : State) × (behind : List State) × (states ≡ before ++ (s ∷ behind)) × P s

  abbrev pub Occurs : Life → Type 0
  Occurs life = Among (λ (s : State). s.life ≡ life)

  -- what a range is
  pub record Glance : Type 0 where
    pub new : ((range_of states).new ≡ true) ↔ Occurs New
    pub opened : ((range_of states).opened ≡ true) ↔ Occurs Opened
    pub closed : ((range_of states).closed ≡ true) ↔ Occurs Closed
    -- every opened one is between lowest and highest, each of which is the balance of an opened one; where none is opened both are 0
    pub between :
        (before behind : List State) (s : State) → states ≡ before ++ (s ∷ behind) → s.life ≡ Opened
        → ((range_of states).lowest ≤ s.balance) × (s.balance ≤ (range_of states).highest)
    pub lowest : Occurs Opened → Among (λ (s : State). (s.life ≡ Opened) × (s.balance ≡ (range_of states).lowest))
    pub highest : Occurs Opened → Among (λ (s : State). (s.life ≡ Opened) × (s.balance ≡ (range_of states).highest))
    pub none : (Occurs Opened → ⊥) → ((range_of states).lowest ≡ 0) × ((range_of states).highest ≡ 0)

abbrev pub GlanceHolds : Type 0
GlanceHolds = (states : List State) → Glance states

-- what a range tells of an event, on states of which there is one at least, by the guards and effects of a rule
module _ (R : Rule State Event ℕ) (first : State) (others : List State) (e : Event) where
  pub record Tells : Type 0 where
    pub all : every_in e (range_of (first ∷ others)) ≡ every (guard R e) (first ∷ others)
    pub any : some_in e (range_of (first ∷ others)) ≡ some_of (guard R e) (first ∷ others)
    -- where the guard holds in all of them: the range after the event in all of them, and with it in a second lot of them
    pub after : every (guard R e) (first ∷ others) ≡ true → range_after e (range_of (first ∷ others)) ≡ range_of (map (R.effect e) (first ∷ others))
    pub perhaps : every (guard R e) (first ∷ others) ≡ true
        → range_perhaps e (range_of (first ∷ others)) ≡ range_of ((first ∷ others) ++ map (R.effect e) (first ∷ others))

-- a range answers for a rule: it tells of every event, on any states
abbrev pub TellsOf : Rule State Event ℕ → Type 0
TellsOf R = (first : State) (others : List State) (e : Event) → Tells R first others e

-- and so kept through the events in progress it answers for all outcomes
module _ {G : Type 0} (R : Rule State Event ℕ) (s : State) (xs : List (Slot G Event)) where
  pub record Answers : Type 0 where
    pub range : range_through xs (range_of (s ∷ [])) ≡ range_of (outcomes R xs s)
    pub all : (e : Event) → every_in e (range_through xs (range_of (s ∷ []))) ≡ every (guard R e) (outcomes R xs s)
    pub any : (e : Event) → some_in e (range_through xs (range_of (s ∷ []))) ≡ some_of (guard R e) (outcomes R xs s)

abbrev pub AnswersOf : Rule State Event ℕ → Type 1
AnswersOf R = (G : Type 0) (s : State) (xs : List (Slot G Event)) → guarded R s [] xs ≡ true → Answers R s xs

-- for the first panel's, whatever the limits
abbrev pub RangeTells : Type 0
RangeTells = (progress_limit held_limit : ℕ) → TellsOf (first_panel progress_limit held_limit)

abbrev pub RangeAnswers : Type 1
RangeAnswers = (progress_limit held_limit : ℕ) → AnswersOf (first_panel progress_limit held_limit)
