-- The heading and what is filed: numbers that fit are fields that fit; what is filed is read where the plain saying reads it, and fits.
-- Assumes nothing.
use Prim.Native.Nat.{ℕ, ◌^◌, ◌≤◌, ◌<◌}
use native.Mathlib.Omega.{arith}
use mathlib.Core.Path.{◌≡◌}
use mathlib.Core.List.{List, ◌++◌}
use Rattle.filing.specs.declared.Filed.{Filed}
use Rattle.layout.specs.Number.{number_at, AreBytes}
use Rattle.layout.specs.Fields.{heading, last_account}
use Rattle.layout.specs.Heading.{heading_numbers, FiledFits}
use Rattle.layout.specs.Inverse.{Fit, one}
use Rattle.layout.specs.Plain.{filed_in}
use Rattle.layout.proofs.Numbers.{number_at-fits}
use Rattle.layout.proofs.Plain.{numbers-plain}

-- a heading whose numbers fit, and what follows it
pub fit-heading : {then numbers : List ℕ} (kind transaction account : ℕ) (g : Filed) → kind < 256 ^ 1 → transaction < 256 ^ 4 → account ≤ last_account
    → FiledFits g → Fit then numbers → Fit (heading ++ then) (heading_numbers kind transaction account g ++ numbers)
fit-heading kind transaction account g k t a s fit =
    let a' : account < 256 ^ 2 = omega arith in
    one k (one t (one a' (one s.second fit)))

-- what is filed in the bytes, read by its width
abbrev pub filed_at : (bytes : List ℕ) → Filed
filed_at bytes = record { second = number_at bytes 7 4 }

-- plainly,
pub filed-plain : (bytes : List ℕ) → filed_at bytes ≡ filed_in bytes
filed-plain bytes = rw (numbers-plain bytes 7 0).read4

-- and it fits
pub filed-fits : (bytes : List ℕ) → AreBytes bytes → FiledFits (filed_at bytes)
filed-fits bytes b = record { second = number_at-fits 4 7 bytes b }
