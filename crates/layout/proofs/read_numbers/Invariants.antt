-- What was read and what is left to read are the row.
-- Assumes nothing.
use Rattle.std.proofs.Common.{ℕ, ◌*◌, ◌≤◌, ◌≡◌, List, ◌++◌, map, length, take, drop}
use Rattle.layout.specs.Fields.{numbers_at}
use Rattle.layout.specs.Shapes.{bytes_in}
use Rattle.layout.proofs.read_numbers.Given as goal

pub record Reads (bytes widths numbers : List ℕ) (from i : ℕ) : Type 0 where
  pub near : from ≤ 4 * i
  pub places : length numbers ≡ 10
  pub rest : take i numbers ++ numbers_at (drop i (map bytes_in widths)) bytes from ≡ numbers_at (map bytes_in widths) bytes 0

abbrev pub invariant-loop-i : goal.invariant-loop-i
invariant-loop-i l = Reads l.bytes l.width-items l.numbers l.from l.i
