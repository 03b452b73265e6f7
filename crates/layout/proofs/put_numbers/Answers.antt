-- Near the end the row is stored over a copy of what stands there, and past it nothing is.
-- Assumes nothing.
use Rattle.std.proofs.Common.{◌≡◌, ◌-◌, arith, sym, ap, ◌∙◌, map, length, take}
use Rattle.layout.specs.Fields.{written}
use Rattle.layout.specs.Shapes.{bytes_in}
use Rattle.layout.proofs.Stores.{sets-out, stored-behind, stored-beside}
use Rattle.layout.proofs.put_numbers.Goals as goal

pub returns-then-room-ge-LONGEST_ROW : goal.returns-then-room-ge-LONGEST_ROW
returns-then-room-ge-LONGEST_ROW c =
    let a = c.args in
    stored-behind a.buffer.now (written (map bytes_in a.widths) a.numbers) c.put_row.new.buffer a.at (length a.buffer.now - a.at) (omega arith) c.put_row.ensures

pub returns-then-room-gt0 : goal.returns-then-room-gt0
returns-then-room-gt0 c =
    let a = c.args in
    let room : c.saturating_sub-room.result ≡ length a.buffer.now - a.at = c.saturating_sub-room.ensures in
    let row = c.put_row-then-room-gt0.ensures in
    stored-beside a.buffer.now (written (map bytes_in a.widths) a.numbers) c.copy_from_slice.new.self _ c.copy_from_slice-then-room-gt0.new.self a.at (length a.buffer.now - a.at) (omega arith)
    c.copy_from_slice.ensures.after (rw room at c.copy_from_slice-then-room-gt0.ensures.after ∙ ap (take (length a.buffer.now - a.at)) row)

pub returns-else-room-gt0 : goal.returns-else-room-gt0
returns-else-room-gt0 c = let a = c.args in sym (sets-out (written (map bytes_in a.widths) a.numbers) a.buffer.now a.at (omega arith))
