-- What was read so far.
-- Assumes nothing.
use Rattle.std.proofs.Common.{◌≡◌, ℕ, List, length, get_or, ◌+◌, ◌<◌}
use Rattle.layout.proofs.bytes_at.Given as goal

pub record Found (bytes found : List ℕ) (at count i : ℕ) : Type 0 where
  pub places : length found ≡ count
  pub bytes' : (k : ℕ) → k < i → get_or found k 0 ≡ get_or bytes (at + k) 0

abbrev pub invariant-loop-i : goal.invariant-loop-i
invariant-loop-i g l = Found l.bytes l.found l.at g.row.COUNT l.i
