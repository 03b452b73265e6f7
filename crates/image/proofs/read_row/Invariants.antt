-- The first places are read and the others blank, and whether all so far are places is known.
-- Assumes nothing.
use Rattle.std.proofs.Common.{◌≡◌, ◌-◌, ◌++◌, map, take, replicate}
use Rattle.rule.specs.Lists.{every}
use Rattle.filing.specs.Slots.{places, blank}
use Rattle.image.specs.Reading.{slot_from, is_slot}
use Rattle.image.proofs.read_row.Given as goal

abbrev pub invariant-loop-i : goal.invariant-loop-i
invariant-loop-i l = record {
  read : l.row ≡ map slot_from (take l.i l.chunk-items) ++ replicate (places - l.i) blank;
  tested : l.valid ≡ every is_slot (take l.i l.chunk-items);
}
