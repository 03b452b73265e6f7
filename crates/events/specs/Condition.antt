-- The guards as rows (3.1): what each event asks of a state, in a form that is the same for all of them. Contracts of the code's helpers; `guard-holds` ties the rows to the table.
-- Assumes nothing.
use Rattle.std.specs.Prelude.{ℕ, ◌-◌, Bool, true, ◌&&◌, leb}
use Rattle.events.specs.declared.Event.{Event}
use Rattle.events.specs.declared.Event.TheVariants.{Open, Withdraw, Deposit, Close}
use Rattle.events.specs.declared.Life.{Life}
use Rattle.events.specs.declared.Life.TheVariants.{New, Opened, Closed}
use Rattle.events.specs.declared.State.{State}
use Rattle.events.specs.declared.condition.Bound.{Bound}
use Rattle.events.specs.declared.condition.Bound.TheVariants.{AtLeast, AtMost}
use Rattle.events.specs.declared.condition.Condition.{Condition}
use Rattle.events.specs.Events.{limit, is_new, is_opened, is_closed}

-- the highest number of four bytes
abbrev pub most : ℕ
most = 4_294_967_295

-- what each event asks: whether its amount is possible, the life, and a balance of at least the bound, or of at most
abbrev pub condition_of : Event → Condition
condition_of (Open a) = record { possible = leb a limit; life = New; bound = AtLeast 0 }
condition_of (Withdraw a) = record { possible = leb 1 a; life = Opened; bound = AtLeast a }
condition_of (Deposit a) = record { possible = leb 1 a && leb a limit; life = Opened; bound = AtMost (limit - a) }
condition_of Close = record { possible = true; life = Opened; bound = AtLeast 0 }

-- the one of three that is this life's
abbrev pub chosen : Life → (new opened closed : Bool) → Bool
chosen New new opened closed = new
chosen Opened new opened closed = opened
chosen Closed new opened closed = closed

-- the test of the life asked, where the amount is possible
abbrev pub asks : Condition → (new opened closed : Bool) → Bool
asks c new opened closed = chosen c.life new opened closed && c.possible

-- every balance from the lowest to the highest is within the bound,
abbrev pub within : Bound → (lowest highest : ℕ) → Bool
within (AtLeast bound) lowest highest = leb bound lowest
within (AtMost bound) lowest highest = leb highest bound

-- and so as it asks; with the two exchanged, one of them is
abbrev pub takes : Condition → (lowest highest : ℕ) → Bool
takes c lowest highest = within c.bound lowest highest

abbrev pub holds : Condition → State → Bool
holds c s = asks c (is_new s.life) (is_opened s.life) (is_closed s.life) && takes c s.balance s.balance
