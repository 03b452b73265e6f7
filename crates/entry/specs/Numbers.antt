-- What follows the heading of an entry as the code holds it: four numbers, 0 where the entry has no such number (clause 9.1).
-- Assumes nothing.
use Rattle.std.specs.Prelude.{ℕ, cond, List, get_or, Option, Some, None}
use Rattle.events.specs.declared.Event.{Event}
use Rattle.filing.specs.declared.Verdict.{Verdict}
use Rattle.filing.specs.declared.Verdict.TheVariants.{Accepted, Rejected, Held}
use Rattle.filing.specs.declared.Told.{Told}
use Rattle.filing.specs.declared.Told.TheVariants.{Voted, Noted, Applied, Dropped}
use Rattle.events.specs.Kinds.{event_kind, amount_of, event_of}
use Rattle.entry.specs.Answers.{event_fits}
use Rattle.entry.specs.declared.kinds.Then.{Then}

abbrev pub with_event : Event → (number reason : ℕ) → Then
with_event e number reason = record { event = event_kind e; amount = amount_of e; number = number; reason = reason }

-- the reason of a rejection, 0 for any other vote
abbrev pub reason_only : Verdict → (reason : ℕ) → ℕ
reason_only Accepted reason = 0
reason_only Rejected reason = reason
reason_only Held reason = 0

abbrev pub then_in : Told → Then
then_in (Voted e weighing) = with_event e weighing.weighed (reason_only weighing.verdict weighing.reason)
then_in Noted = record { event = 0; amount = 0; number = 0; reason = 0 }
then_in (Applied e balance) = with_event e balance 0
then_in (Dropped e) = with_event e 0 0

-- the vote of that verdict by the numbers of its entry, if its event is one
abbrev pub voted_in : Verdict → (numbers : List ℕ) → Option Told
voted_in verdict numbers =
    cond (event_fits (get_or numbers 4 0) (get_or numbers 5 0))
    (Some (Voted (event_of (get_or numbers 4 0) (get_or numbers 5 0)) (record { verdict = verdict; weighed = get_or numbers 6 0; reason = get_or numbers 7 0 })))
    None
