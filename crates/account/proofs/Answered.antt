-- A step by its answer: what the answer refuses is refused so, and what it takes is the rule's step, of an account in order. By any rule of the events.
-- Assumes nothing.
use Prim.Native.Nat.{ℕ}
use mathlib.Core.Path.{◌≡◌, sym, ap, ◌∙◌}
use mathlib.Core.Bool.{true, false}
use mathlib.Core.Option.{none}
use Rattle.std.specs.Prelude.{Result, Ok, Err}
use Rattle.rule.specs.Rule as rule
use Rattle.rule.specs.Step.{step}
use Rattle.rule.specs.Call.{refusal, call}
use Rattle.events.specs.declared.Event.{Event}
use Rattle.events.specs.declared.State.{State}
use Rattle.filing.specs.declared.Filed.{Filed}
use Rattle.refusal.specs.declared.Refusal.{Refusal}
use Rattle.refusal.specs.declared.Refusal.TheVariants.{NotInOrder}
use Rattle.refusal.proofs.Literal.{literal-holds}
use Rattle.account.specs.declared.Account.{Account}
use Rattle.account.specs.Places.{lists_of}
use Rattle.account.specs.InOrder.{in_order_by}
use Rattle.account.specs.Steps.{refused_step, step_by}
use Rattle.account.specs.inside.Taken.{taken_as}
use Rattle.account.proofs.Judged.{number_in}

module _ (R : rule.Rule State Event ℕ) (a : Account) (m : rule.Message Filed Event) where
  -- an account that is not in order,
  pub step-disorder : in_order_by R a ≡ false → refused_step a NotInOrder ≡ step_by R a m
  unfolding step_by
  step-disorder o = rw o

  -- and one that is, with what the message is answered by the rule
  module _ (o : in_order_by R a ≡ true) {T : Type 0} (answer : Result T Refusal) (says : number_in answer ≡ refusal R (lists_of a) m) where
    pub step-refused : (r : Refusal) → answer ≡ Err r → refused_step a r ≡ step_by R a m
    unfolding step_by call
    step-refused r e = rw (o, ← says, e, literal-holds.told r)

    pub is-taken : (x : T) → answer ≡ Ok x → refusal R (lists_of a) m ≡ none
    is-taken x e = sym says ∙ ap number_in e

    pub step-taken : (x : T) → answer ≡ Ok x → taken_as (step R (lists_of a) m) ≡ step_by R a m
    unfolding step_by call taken_as
    step-taken x e = rw (o, is-taken x e)
