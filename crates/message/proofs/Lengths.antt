-- The whole length of each kind by ranges: kinds 1 to 3, 4 to 6, and the others.
-- Assumes nothing.
use Prim.Native.Nat.{ℕ, zero, suc, ◌≤◌, ◌<◌}
use native.Mathlib.Omega.{arith}
use mathlib.Core.Path.{◌≡◌, refl}
use Rattle.layout.specs.Fields.{row_of_kind, whole_of}
use Rattle.layout.proofs.Tables.{absent}
use Rattle.message.specs.Bytes.{messages}

pub with_amount : (kind : ℕ) → 1 ≤ kind → kind ≤ 3 → whole_of (row_of_kind messages kind) ≡ 15
unfolding row_of_kind messages
with_amount zero h k = absurd (omega arith)
with_amount (suc zero) h k = refl
with_amount (suc (suc zero)) h k = refl
with_amount (suc (suc (suc zero))) h k = refl
with_amount (suc (suc (suc (suc kind)))) h k = absurd (omega arith)

pub without_amount : (kind : ℕ) → 3 < kind → kind ≤ 6 → whole_of (row_of_kind messages kind) ≡ 11
unfolding row_of_kind messages
without_amount zero h k = absurd (omega arith)
without_amount (suc zero) h k = absurd (omega arith)
without_amount (suc (suc zero)) h k = absurd (omega arith)
without_amount (suc (suc (suc zero))) h k = absurd (omega arith)
without_amount (suc (suc (suc (suc zero)))) h k = refl
without_amount (suc (suc (suc (suc (suc zero))))) h k = refl
without_amount (suc (suc (suc (suc (suc (suc zero)))))) h k = refl
without_amount (suc (suc (suc (suc (suc (suc (suc kind))))))) h k = absurd (omega arith)

pub below-kinds : (kind : ℕ) → kind < 1 → whole_of (row_of_kind messages kind) ≡ 0
unfolding messages
below-kinds kind h = rw (absent messages kind (omega arith))

pub above-kinds : (kind : ℕ) → 6 < kind → whole_of (row_of_kind messages kind) ≡ 0
unfolding messages
above-kinds kind h = rw (absent messages kind (omega arith))
