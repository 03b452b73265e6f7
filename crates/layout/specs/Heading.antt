-- The numbers that messages and entries begin with (docs/REGISTER.md, 8.1 and 9.1). What is filed is taken apart into numbers here and made of
-- numbers here; everything else of messages and entries has it whole.
-- Assumes nothing.
use Rattle.std.specs.Prelude.{ℕ, ◌<◌, ◌^◌, List, [], ◌∷◌, get_or}
use Rattle.filing.specs.declared.Filed.{Filed}

-- a number for each width of the heading
abbrev pub heading_numbers : (kind transaction account : ℕ) → Filed → List ℕ
heading_numbers kind transaction account g = kind ∷ transaction ∷ account ∷ g.second ∷ []

-- what is filed, from the numbers of a message or an entry
abbrev pub filed_from : (numbers : List ℕ) → Filed
filed_from numbers = record { second = get_or numbers 3 0 }

-- its numbers fit their bytes
pub record FiledFits (g : Filed) : Type 0 where
  pub second : g.second < 256 ^ 4
