-- What an account asks of a rule of the events: the range of many states answers for the rule's guards and goes on with its effects, no more events in progress and requests held
-- than an account has places, and no reason is 0.
-- Assumes nothing.
use Prim.Native.Nat.{ℕ, ◌≤◌}
use mathlib.Core.Path.{◌≡◌}
use mathlib.Core.Option.{some}
use Rattle.rule.specs.Rule.{Rule}
use Rattle.events.specs.declared.Event.{Event}
use Rattle.events.specs.declared.State.{State}
use Rattle.events.specs.Glance.{TellsOf}
use Rattle.filing.specs.Slots.{places}

pub record Ranged (R : Rule State Event ℕ) : Type 0 where
  pub tells : TellsOf R
  pub few : R.progress_limit ≤ places
  pub few_held : R.held_limit ≤ places
  pub reasoned : (e : Event) (s : State) → R.reason e s ≡ some 0 → ⊥
