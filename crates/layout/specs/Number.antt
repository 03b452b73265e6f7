-- Numbers in bytes, the highest byte first (docs/REGISTER.md, 8.1).
-- Assumes nothing.
use Rattle.std.specs.Prelude.{ℕ, zero, suc, ◌+◌, ◌*◌, ◌/◌, ◌%◌, ◌<◌, List, [], ◌∷◌, ◌++◌, get_or}

-- the bytes of a number, highest first: as many as `width` says; of a number that they do not hold, its lowest ones
unfoldable pub bytes_of : (width number : ℕ) → List ℕ
bytes_of zero number = []
bytes_of (suc width) number = bytes_of width (number / 256) ++ (number % 256 ∷ [])

-- the number in the bytes from `at` on, as many as `width` says; a byte past the end counts as 0
unfoldable pub number_at : (bytes : List ℕ) (at width : ℕ) → ℕ
number_at bytes at zero = 0
number_at bytes at (suc width) = number_at bytes at width * 256 + get_or bytes (at + width) 0

-- each of them is a byte
abbrev pub AreBytes : List ℕ → Type 0
AreBytes bytes = (i : ℕ) → get_or bytes i 0 < 256
