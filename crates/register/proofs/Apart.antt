-- What was read is told by the message and its length.
-- Assumes nothing.
use Prim.Native.Nat.{ℕ}
use mathlib.Core.Path.{◌≡◌, ap}
use Rattle.std.specs.Prelude.{Result, Ok}
use Rattle.refusal.specs.declared.Refusal.{Refusal}
use Rattle.message.specs.declared.Message.{Message}

pub same-read : (m m' : Message) (consumed consumed' : ℕ) → ◌≡◌ {A = Result (Message × ℕ) Refusal} (Ok (m, consumed)) (Ok (m', consumed')) → (m ≡ m') × (consumed ≡ consumed')
same-read m m' consumed consumed' e =
    let z : ◌≡◌ {A = Message × ℕ} (m, consumed) (m', consumed') = cc in
    (ap (λ (p : Message × ℕ). p.0) z, ap (λ (p : Message × ℕ). p.1) z)
