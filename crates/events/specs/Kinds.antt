-- An event by its kind and its amount (9.2).
-- Assumes nothing.
use Rattle.std.specs.Prelude.{ℕ, cond, eqb}
use Rattle.events.specs.declared.Event.{Event}
use Rattle.events.specs.declared.Event.TheVariants.{Open, Withdraw, Deposit, Close}

abbrev pub event_kind : Event → ℕ
event_kind (Open a) = 1
event_kind (Withdraw a) = 2
event_kind (Deposit a) = 3
event_kind Close = 4

abbrev pub amount_of : Event → ℕ
amount_of (Open a) = a
amount_of (Withdraw a) = a
amount_of (Deposit a) = a
amount_of Close = 0

-- the event of a kind 1 to 4 with that amount; of any other kind as of 4
unfoldable pub event_of : (kind amount : ℕ) → Event
event_of kind amount =
    cond (eqb kind 1) (Open amount)
    (cond (eqb kind 2) (Withdraw amount)
    (cond (eqb kind 3) (Deposit amount) Close))
