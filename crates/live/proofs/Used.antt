-- An account that was read and made a step that was taken: of its places as many are stored as it used or uses, and that is all of it.
-- Assumes nothing.
use Prim.Native.Nat.{ℕ, max}
use native.Mathlib.Omega.{arith}
use mathlib.Core.Path.{◌≡◌, ap, sym, ◌∙◌}
use mathlib.Core.Bool.{true}
use mathlib.Core.List.{List}
use Rattle.rule.specs.Rule as rule
use Rattle.events.specs.declared.Event.{Event}
use Rattle.events.specs.declared.State.{State}
use Rattle.filing.specs.declared.Filed.{Filed}
use Rattle.std.specs.Prelude.{Ok}
use Rattle.filing.specs.declared.Entries.{Entries}
use Rattle.account.specs.declared.Account.{Account}
use Rattle.account.specs.InOrder.{in_order_by}
use Rattle.account.specs.Steps.{Stepped, step_by}
use Rattle.account.proofs.Kept.{step-order}
use Rattle.image.specs.Words.{stored_in, stored_to}
use Rattle.image.specs.Reading.{account_from}
use Rattle.image.specs.Images.{Kept}
use Rattle.image.proofs.Images.{images-hold}
use Rattle.register.proofs.Suits.{Suits}
use Rattle.live.proofs.OwnAlone.{step-taken}

module _ (R : rule.Rule State Event ℕ) (k : Suits R) (image : List ℕ) (from : ℕ) (a : Account) (m : rule.Message Filed Event) (stepped : Stepped) (entries : Entries) (progress held : ℕ) where
  pub used-stored : a ≡ account_from image from → stepped ≡ step_by R a m → stepped.answer ≡ Ok entries
      → progress ≡ max a.progressing stepped.account.progressing → held ≡ max a.holding stepped.account.holding
      → stored_to image from stepped.account progress held ≡ stored_in image from stepped.account
  used-stored e s t p h =
      let taken = step-taken R k a m entries (ap (λ (x : Stepped). x.answer) (sym s) ∙ t) in
      let before : in_order_by R (account_from image from) ≡ true = ap (in_order_by R) (sym e) ∙ taken.0 in
      let after : in_order_by R stepped.account ≡ true = ap (λ (x : Stepped). in_order_by R x.account) s ∙ step-order R k.ordered a m taken.0 in
      let kept : Kept stepped.account = rw s taken.1 in
      images-hold.used R k.few image from progress held stepped.account before after kept.progress kept.held
      (omega (arith, p, ap (λ (x : Account). x.progressing) e)) (omega (arith, p))
      (omega (arith, h, ap (λ (x : Account). x.holding) e)) (omega (arith, h))
