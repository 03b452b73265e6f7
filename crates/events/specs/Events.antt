-- The events of an account (3.1): the reasons against each (3.4), its guard and its effect, and which states there are (2.1). No other page takes an event apart, but for its kind and what it asks.
-- Assumes nothing.
use Rattle.std.specs.Prelude.{ℕ, ◌+◌, ◌-◌, Bool, true, false, cond, not, ◌&&◌, List, [], ◌∷◌, leb, ltb, eqb}
use Rattle.std.proofs.Math.Option.{Option, none, some}
use Rattle.rule.specs.Tests.{Test, test, first_of}
use Rattle.rule.specs.Rule.{absent}
use Rattle.events.specs.declared.Event.{Event}
use Rattle.events.specs.declared.Event.TheVariants.{Open, Withdraw, Deposit, Close}
use Rattle.events.specs.declared.Life.{Life}
use Rattle.events.specs.declared.Life.TheVariants.{New, Opened, Closed}
use Rattle.events.specs.declared.State.{State}

-- the highest balance
abbrev pub limit : ℕ
limit = 1_000_000

abbrev pub is_new : Life → Bool
is_new New = true
is_new Opened = false
is_new Closed = false

abbrev pub is_opened : Life → Bool
is_opened New = false
is_opened Opened = true
is_opened Closed = false

abbrev pub is_closed : Life → Bool
is_closed New = false
is_closed Opened = false
is_closed Closed = true

-- the table of reasons (3.4), in the order in which they count: 1 the wrong life, 2 an amount of zero, 3 too few steps, 4 over the limit
abbrev pub reasons_of : Event → State → List Test
reasons_of (Open a) s = test (not (is_new s.life)) 1 ∷ test (ltb limit a) 4 ∷ []
reasons_of (Withdraw a) s = test (not (is_opened s.life)) 1 ∷ test (eqb a 0) 2 ∷ test (ltb s.balance a) 3 ∷ []
reasons_of (Deposit a) s = test (not (is_opened s.life)) 1 ∷ test (eqb a 0) 2 ∷ test (ltb limit (s.balance + a)) 4 ∷ []
reasons_of Close s = test (not (is_opened s.life)) 1 ∷ []

-- the reason against an event in a state: the first that applies
unfoldable pub reason_of : Event → State → Option ℕ
reason_of e s = first_of (reasons_of e s)

-- the guard: there is no reason
unfoldable pub guard_of : Event → State → Bool
guard_of e s = absent (reason_of e s)

-- a reason as the number that stands for it, 0 where there is none; and back
abbrev pub reason_byte : Option ℕ → ℕ
reason_byte none = 0
reason_byte (some n) = n

abbrev pub reason_from : ℕ → Option ℕ
reason_from n = cond (eqb n 0) none (some n)

-- the table's effects
abbrev pub table_effect : Event → State → State
table_effect (Open a) s = record { life = Opened; balance = a }
table_effect (Withdraw a) s = record { life = s.life; balance = s.balance - a }
table_effect (Deposit a) s = record { life = s.life; balance = s.balance + a }
table_effect Close s = record { life = Closed; balance = 0 }

-- the table's effect where the guard holds; where it does not, nothing changes
unfoldable pub effect_of : Event → State → State
effect_of e s = cond (guard_of e s) (table_effect e s) s

-- a balance within the limit, and 0 unless the account is opened
abbrev pub state_fits : State → Bool
state_fits s = leb s.balance limit && cond (is_opened s.life) true (eqb s.balance 0)

-- the event of a blank place (2.5)
abbrev pub is_blank_event : Event → Bool
is_blank_event (Open a) = eqb a 0
is_blank_event (Withdraw a) = false
is_blank_event (Deposit a) = false
is_blank_event Close = false
