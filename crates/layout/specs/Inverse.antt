-- Reading and writing of numbers and of fields are inverse, in every width and wherever they stand (docs/REGISTER.md, 8.3).
-- Assumes nothing.
use Rattle.std.specs.Prelude.{ℕ, ◌+◌, ◌^◌, ◌≤◌, ◌<◌, ◌≡◌, List, [], ◌∷◌, ◌++◌, length, take, drop}
use Rattle.layout.specs.Number.{bytes_of, number_at, AreBytes}
use Rattle.layout.specs.Fields.{written, numbers_at, total}

abbrev pub NumbersRead : Type 0
NumbersRead =
    (width number : ℕ) (before after : List ℕ) → number < 256 ^ width
    → number_at (before ++ bytes_of width number ++ after) (length before) width ≡ number

abbrev pub NumbersWritten : Type 0
NumbersWritten =
    (width at : ℕ) (bytes : List ℕ) → at + width ≤ length bytes → AreBytes bytes
    → bytes_of width (number_at bytes at width) ≡ take width (drop at bytes)

-- there is a number for each width, and it fits
pub data Fit : (widths numbers : List ℕ) → Type 0 where
  none : Fit [] []
  one : {width number : ℕ} {widths numbers : List ℕ} → number < 256 ^ width → Fit widths numbers → Fit (width ∷ widths) (number ∷ numbers)

abbrev pub FieldsRead : Type 0
FieldsRead =
    (widths numbers before after : List ℕ) → Fit widths numbers
    → numbers_at widths (before ++ written widths numbers ++ after) (length before) ≡ numbers

abbrev pub FieldsWritten : Type 0
FieldsWritten =
    (widths bytes : List ℕ) (at : ℕ) → at + total widths ≤ length bytes → AreBytes bytes
    → written widths (numbers_at widths bytes at) ≡ take (total widths) (drop at bytes)
