-- A row of numbers on its way into a buffer: storing what is left of it from here on is storing the whole row from its beginning on.
-- Assumes nothing.
use Prim.Native.Nat.{ℕ, ◌+◌, ◌*◌, ◌≤◌, ◌<◌}
use native.Mathlib.Omega.{arith}
use mathlib.Core.Path.{◌≡◌, ◌∙◌}
use mathlib.Core.List.{List, map}
use lib.ListN.{length, get_or, drop}
use lib.Seq.{sets, length-sets}
use Rattle.layout.specs.Number.{bytes_of}
use Rattle.layout.specs.Fields.{written}
use Rattle.layout.specs.Shapes.{bytes_in}
use Rattle.layout.proofs.Shapes.{put-place, none_left}

-- the numbers before place i are stored, and the next one goes to `to`
pub record Going (buffer₀ widths numbers buffer : List ℕ) (to i : ℕ) : Type 0 where
  pub near : to ≤ 4 * i
  pub size : length buffer ≡ length buffer₀
  pub rest : sets buffer to (written (drop i (map bytes_in widths)) (drop i numbers)) ≡ sets buffer₀ 0 (written (map bytes_in widths) numbers)

module _ (buffer₀ widths numbers : List ℕ) where
  pub going_next : (buffer next : List ℕ) (to i width : ℕ) → length widths ≡ 10 → length numbers ≡ 10 → i < 10
      → Going buffer₀ widths numbers buffer to i
      → width ≡ bytes_in (get_or widths i 0) → width ≤ 4
      → next ≡ sets buffer to (bytes_of (bytes_in (get_or widths i 0)) (get_or numbers i 0))
      → Going buffer₀ widths numbers next (to + width) (i + 1)
  going_next buffer next to i width ws ns below g w most stored =
      let near = g.near in
      record {
        near = omega arith;
        size = rw (stored, length-sets) g.size;
        rest = put-place widths numbers buffer next to i width (omega arith) (omega arith) w stored ∙ g.rest;
      }

  pub going-all : (buffer : List ℕ) (to i : ℕ) → length widths ≡ i → Going buffer₀ widths numbers buffer to i
      → buffer ≡ sets buffer₀ 0 (written (map bytes_in widths) numbers)
  unfolding written
  going-all buffer to i h g = rw (none_left widths i h) at g.rest
