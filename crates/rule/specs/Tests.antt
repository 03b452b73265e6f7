-- Refusals as a list of tests, each with its number (docs/REGISTER.md, 10.1): the first that holds gives its number.
-- Assumes nothing.
use Rattle.std.specs.Prelude.{ℕ, ◌≡◌, Bool, true, false, cond, List, [], ◌∷◌}
use Rattle.std.proofs.Math.Option.{Option, none, some}

-- a test and the number that is given if it holds
pub record Test : Type 0 where
  pub holds : Bool
  pub number : ℕ

abbrev pub test : (holds : Bool) (number : ℕ) → Test
test holds number = record { holds = holds; number = number }

-- the number of the first test that holds, in their order
abbrev pub first_of : List Test → Option ℕ
first_of [] = none
first_of (t ∷ ts) = cond t.holds (some t.number) (first_of ts)

-- a test that holds is taken, whatever follows, and one that does not hold is passed
pub record FirstTaken : Type 0 where
  pub none' : first_of [] ≡ none
  pub taken : (number : ℕ) (ts : List Test) → first_of (test true number ∷ ts) ≡ some number
  pub passed : (number : ℕ) (ts : List Test) → first_of (test false number ∷ ts) ≡ first_of ts
