-- What is known of many states at a glance, and how it is kept: `range_of` says what it is of a list of states; the others, what the code does with it.
-- Assumes nothing.
use Rattle.std.specs.Prelude.{ℕ, ◌+◌, min, max, Bool, cond, ◌&&◌, ◌||◌, not, List, [], ◌∷◌, map, leb}
use Rattle.rule.specs.Lists.{some_of, keep}
use Rattle.rule.specs.Rule.{Slot, slot, undecided, committed}
use Rattle.events.specs.declared.Event.{Event}
use Rattle.events.specs.declared.Event.TheVariants.{Open, Withdraw, Deposit, Close}
use Rattle.events.specs.declared.Life.{Life}
use Rattle.events.specs.declared.Life.TheVariants.{Opened}
use Rattle.events.specs.declared.State.{State}
use Rattle.events.specs.declared.Range.{Range}
use Rattle.events.specs.Events.{is_new, is_opened, is_closed, table_effect}
use Rattle.events.specs.Condition.{most, condition_of, chosen, asks, takes}

-- the lowest of some numbers, and the highest; of none it is 0
abbrev pub lowest_of : List ℕ → ℕ
lowest_of [] = 0
lowest_of (n ∷ []) = n
lowest_of (n ∷ m ∷ ns) = min n (lowest_of (m ∷ ns))

abbrev pub highest_of : List ℕ → ℕ
highest_of [] = 0
highest_of (n ∷ ns) = max n (highest_of ns)

-- the balances of the opened ones
abbrev pub opened_balances : List State → List ℕ
opened_balances states = map (λ (s : State). s.balance) (keep (λ (s : State). is_opened s.life) states)

unfoldable pub range_of : List State → Range
range_of states =
    record {
      lowest = lowest_of (opened_balances states);
      highest = highest_of (opened_balances states);
      new = some_of (λ (s : State). is_new s.life) states;
      opened = some_of (λ (s : State). is_opened s.life) states;
      closed = some_of (λ (s : State). is_closed s.life) states;
    }

-- of one state
abbrev pub range_of_one : State → Range
range_of_one s =
    record {
      lowest = cond (is_opened s.life) s.balance 0;
      highest = cond (is_opened s.life) s.balance 0;
      new = is_new s.life;
      opened = is_opened s.life;
      closed = is_closed s.life;
    }

-- of the states of two ranges
abbrev pub joined : Range → Range → Range
joined x y =
    record {
      lowest = cond x.opened (cond y.opened (min x.lowest y.lowest) x.lowest) y.lowest;
      highest = max x.highest y.highest;
      new = x.new || y.new;
      opened = x.opened || y.opened;
      closed = x.closed || y.closed;
    }

-- no life but this one occurs in a range; this one does
abbrev pub alone : Life → Range → Bool
alone l x = chosen l (not (x.opened || x.closed)) (not (x.new || x.closed)) (not (x.new || x.opened))

abbrev pub occurs : Life → Range → Bool
occurs l x = chosen l x.new x.opened x.closed

-- whether the event's guard holds in all of them: no other life occurs,
abbrev pub every_in : Event → Range → Bool
every_in e x =
    asks (condition_of e) (not (x.opened || x.closed)) (not (x.new || x.closed)) (not (x.new || x.opened))
    && takes (condition_of e) x.lowest x.highest

-- and in some: its life occurs
abbrev pub some_in : Event → Range → Bool
some_in e x = asks (condition_of e) x.new x.opened x.closed && takes (condition_of e) x.highest x.lowest

-- an event that is applied in all of them: what it does to the lowest and to the highest,
abbrev pub moved : Event → ℕ → State
moved e balance = table_effect e (record { life = Opened; balance = balance })

abbrev pub range_moved : (lowest highest : State) → Range
range_moved low high = record { lowest = low.balance; highest = high.balance; new = is_new low.life; opened = is_opened low.life; closed = is_closed low.life }

abbrev pub range_after : Event → Range → Range
range_after e x = range_moved (moved e x.lowest) (moved e x.highest)

-- and one that is applied in one half of the outcomes
abbrev pub range_perhaps : Event → Range → Range
range_perhaps e x = joined x (range_after e x)

-- both as they are stored, whatever the guard says: a deposit that has no room in four bytes leaves the balance
abbrev pub stored_effect : Event → State → State
stored_effect (Open a) s = table_effect (Open a) s
stored_effect (Withdraw a) s = table_effect (Withdraw a) s
stored_effect (Deposit a) s = record { life = s.life; balance = cond (leb (s.balance + a) most) (s.balance + a) s.balance }
stored_effect Close s = table_effect Close s

abbrev pub stored_after : Event → Range → Range
stored_after e x = range_moved (stored_effect e (record { life = Opened; balance = x.lowest })) (stored_effect e (record { life = Opened; balance = x.highest }))

abbrev pub stored_perhaps : Event → Range → Range
stored_perhaps e x = joined x (stored_after e x)

-- through events in progress, oldest first
abbrev pub range_through : {G : Type 0} → List (Slot G Event) → Range → Range
range_through [] x = x
range_through (slot t g e undecided ∷ xs) x = range_through xs (range_perhaps e x)
range_through (slot t g e committed ∷ xs) x = range_through xs (range_after e x)
