-- The whole length of the kinds of entry: 17 to 19 by their range, and those that are none of 17 to 23.
-- Assumes nothing.
use Prim.Native.Nat.{ℕ, ◌≤◌, ◌<◌}
use native.Mathlib.Omega.{arith}
use mathlib.Core.Path.{◌≡◌, refl}
use mathlib.Core.Bool.{Bool, true, false}
use borrow.Author.Tests.{eqb-true, eqb-false}
use lib.Dec.{eqb}
use Rattle.layout.specs.Fields.{row_of_kind, whole_of}
use Rattle.layout.proofs.Tables.{absent}
use Rattle.entry.specs.Bytes.{entry_rows}

pub vote-length : (kind : ℕ) → 17 ≤ kind → kind ≤ 19 → whole_of (row_of_kind entry_rows kind) ≡ 18
unfolding row_of_kind entry_rows
vote-length kind h k = go (eqb kind 17) (eqb kind 18) refl refl
  where
    go : (a b : Bool) → eqb kind 17 ≡ a → eqb kind 18 ≡ b → whole_of (row_of_kind entry_rows kind) ≡ 18
    go true b p q = rw (eqb-true kind 17 p)
    go false true p q = rw (eqb-true kind 18 q)
    go false false p q =
        let n : kind ≡ 17 → ⊥ = eqb-false kind 17 p in
        let m : kind ≡ 18 → ⊥ = eqb-false kind 18 q in
        let e : kind ≡ 19 = omega arith in
        rw e

pub below-kinds : (kind : ℕ) → kind < 17 → whole_of (row_of_kind entry_rows kind) ≡ 0
unfolding entry_rows
below-kinds kind h = rw (absent entry_rows kind (omega arith))

pub above-kinds : (kind : ℕ) → 23 < kind → whole_of (row_of_kind entry_rows kind) ≡ 0
unfolding entry_rows
above-kinds kind h = rw (absent entry_rows kind (omega arith))
