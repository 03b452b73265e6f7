-- What was read and what is left to read are the row.
-- Assumes nothing.
use Rattle.std.proofs.Common.{◌≤◌, length, ◌∙◌, arith, length-set, append-nil}
use lib.Seq.{take_all}
use Rattle.layout.specs.Fields.{numbers_at}
use Rattle.layout.proofs.Shapes.{read-place, none_left}
use Rattle.layout.proofs.read_numbers.Goals as goal

pub loop-i-preserved : goal.loop-i-preserved
loop-i-preserved c =
    let a = c.args in
    let v = c.loop-i in
    record {
      near = omega arith;
      places = rw length-set v.invariant.places;
      rest =
          read-place a.widths v.numbers a.bytes.now v.from v.i c.bytes_in-from.result c.number.result (omega arith) (omega arith) c.bytes_in-from.ensures.0 c.number.ensures
          ∙ v.invariant.rest;
    }

pub returns : goal.returns
unfolding numbers_at
returns c =
    let v = c.loop-i in
    let a = c.args in
    let numbers : length v.numbers ≤ v.i = omega arith in
    rw (none_left a.widths v.i (omega arith), take_all v.i v.numbers numbers, append-nil) at v.invariant.rest
