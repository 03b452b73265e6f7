-- What the register asks of a rule of the events: no more events in progress and requests held than an account has places, room for one event, states that stay in order
-- from that of a new account on, balances that have room in their bytes, and reasons that have and are not 0. The first panel's rule has it all.
-- Assumes nothing.
use Prim.Native.Nat.{ℕ, ◌≤◌, ◌<◌}
use native.Mathlib.Omega.{arith}
use mathlib.Core.Path.{◌≡◌, refl}
use mathlib.Core.Option.{some}
use lib.Dec.{lit≤}
use Rattle.rule.specs.Rule.{Rule}
use Rattle.rule.specs.InOrder.{Sound}
use Rattle.events.specs.declared.Event.{Event}
use Rattle.events.specs.declared.State.{State}
use Rattle.events.proofs.Against.{reason-small}
use Rattle.events.proofs.Panel.{sound, balance-kept}
use Rattle.filing.specs.Slots.{places}
use Rattle.account.specs.First.{panel}
use Rattle.register.specs.Register.{nowhere}
use Rattle.register.specs.Fits.{StateFits, BalanceFits}

pub record Suits (R : Rule State Event ℕ) : Type 0 where
  pub ordered : Sound R
  pub few : R.progress_limit ≤ places
  pub few_held : R.held_limit ≤ places
  pub roomy : 1 ≤ R.progress_limit
  pub new : R.fresh ≡ nowhere.state
  pub fresh : StateFits R.fresh
  pub kept : (e : Event) (s : State) → StateFits s → StateFits (R.effect e s)
  pub shown : (s : State) → StateFits s → BalanceFits (R.shown s)
  pub reasoned : (e : Event) (s : State) (n : ℕ) → R.reason e s ≡ some n → (1 ≤ n) × (n < 256)

pub first-suits : Suits panel
first-suits =
    record {
      ordered = sound places places;
      few = lit≤ tt;
      few_held = lit≤ tt;
      roomy = lit≤ tt;
      new = refl;
      fresh = lit≤ tt;
      kept = balance-kept;
      shown = λ s h. h;
      reasoned = λ e s n h. let small = reason-small e s n h in (small.0, omega (arith, small.1));
    }
