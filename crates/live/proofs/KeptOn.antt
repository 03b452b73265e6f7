-- Many calls on an image are the calls of a register; and all that is said of keeping one.
-- Assumes nothing.
use Prim.Native.Nat.{ℕ}
use native.Mathlib.Nat.{le_refl}
use mathlib.Core.Path.{◌≡◌, refl, ap, ◌∙◌}
use mathlib.Core.List.{List, [], ◌∷◌}
use lib.ListN.{replicate}
use Rattle.rule.specs.Rule.{Rule}
use Rattle.events.specs.declared.Event.{Event}
use Rattle.events.specs.declared.State.{State}
use Rattle.register.specs.declared.Register.{Register}
use Rattle.register.specs.Register.{fresh_by}
use Rattle.register.specs.Call.{called_by}
use Rattle.register.specs.Sequence.{Input, Exchange, after, exchanges}
use Rattle.register.proofs.Suits.{Suits, first-suits}
use Rattle.live.specs.Registers.{register_of}
use Rattle.live.specs.Live.{live_by}
use Rattle.live.specs.Keeping.{image_after_all, live_exchanges, KeepsOn, KeepingHoldsBy}
use Rattle.live.specs.First.{KeepingHolds}
use Rattle.live.proofs.RegisterImages.{zeroed}
use Rattle.live.proofs.Keeping.{keeps}
use Rattle.live.proofs.OwnAlone.{own_alone, looks}

module _ (R : Rule State Event ℕ) (k : Suits R) where
  register-on : (inputs : List Input) (image : List ℕ) → register_of (image_after_all R image inputs) ≡ after R (register_of image) inputs
  register-on [] image = refl
  register-on (x ∷ xs) image = register-on xs (live_by R image x.message x.buffer).image ∙ ap (λ (r : Register). after R r xs) (keeps R k image x.message x.buffer).register

  seen-on : (inputs : List Input) (image : List ℕ) → live_exchanges R image inputs ≡ exchanges R (register_of image) inputs
  unfolding live_by
  seen-on [] image = refl
  seen-on (x ∷ xs) image =
      let called = called_by R (register_of image) x.message x.buffer in
      let first : Exchange = record { message = x.message; reply = called.reply; buffer = called.buffer } in
      ap (◌∷◌ first) (seen-on xs (live_by R image x.message x.buffer).image ∙ ap (λ (r : Register). exchanges R r xs) (keeps R k image x.message x.buffer).register)

  zeroed-is : register_of (replicate 1_344 0) ≡ fresh_by R
  zeroed-is = (zeroed R k.new).reads 1_344 (le_refl 1_344)

  keeps_on : (inputs : List Input) → KeepsOn R inputs
  keeps_on inputs =
      record {
        register = register-on inputs;
        seen = seen-on inputs;
        zeroed = register-on inputs (replicate 1_344 0) ∙ ap (λ (r : Register). after R r inputs) zeroed-is;
        zeroed_seen = seen-on inputs (replicate 1_344 0) ∙ ap (λ (r : Register). exchanges R r inputs) zeroed-is;
      }

  pub keeping-holds : KeepingHoldsBy R
  keeping-holds = record { call = keeps R k; own = own_alone R k; calls = keeps_on; look = looks R k }

-- of the rule that is applied
pub first-keeping : KeepingHolds
first-keeping = keeping-holds _ first-suits
