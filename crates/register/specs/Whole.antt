-- How long a message is, in plain numbers: its kind, which is its first byte, and its whole length (docs/REGISTER.md, 8.1).
-- Assumes nothing.
use Rattle.std.specs.Prelude.{ℕ, ◌≤◌, List, get_or}

-- no kind but 1 to 6 has a length
pub data Whole (bytes : List ℕ) : (whole : ℕ) → Type 0 where
  with_amount : 1 ≤ get_or bytes 0 0 → get_or bytes 0 0 ≤ 3 → Whole bytes 15
  without_amount : 4 ≤ get_or bytes 0 0 → get_or bytes 0 0 ≤ 6 → Whole bytes 11
