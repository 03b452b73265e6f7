-- A row of numbers as the code holds it: ten places, of which those behind the last number have the width 0 (clauses 8.1 and 9.1).
-- Assumes nothing.
use Rattle.std.specs.Prelude.{ℕ, ◌-◌, cond, List, ◌++◌, eqb, length, replicate}
use Rattle.std.proofs.Math.Option.{Option, none, some}
use Rattle.layout.specs.declared.Shape.{Shape}
use Rattle.layout.specs.Fields.{KindRow, heading}

-- a number has 1, 2 or 4 bytes, and none where its width is 0; any other width counts as 4
abbrev pub bytes_in : (width : ℕ) → ℕ
bytes_in width = cond (eqb width 0) 0 (cond (eqb width 1) 1 (cond (eqb width 2) 2 4))

-- the places behind the last number hold 0
abbrev pub padded : List ℕ → List ℕ
padded numbers = numbers ++ replicate (10 - length numbers) 0

-- the row of a table as the code holds it; all 0 where there is none
abbrev pub shape_of : Option KindRow → Shape
shape_of none = record { widths = replicate 10 0; whole = 0 }
shape_of (some r) = record { widths = padded (heading ++ r.then); whole = r.whole }
