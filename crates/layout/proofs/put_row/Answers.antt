-- A row on its way, place by place.
-- Assumes nothing.
use Rattle.std.proofs.Common.{◌-◌, arith, get_or, length}
use Rattle.layout.specs.Number.{bytes_of}
use Rattle.layout.specs.Shapes.{bytes_in}
use Rattle.layout.proofs.Stores.{stored-behind}
use Rattle.layout.proofs.Rows.{going_next, going-all}
use Rattle.layout.proofs.put_row.Goals as goal

pub loop-i-preserved : goal.loop-i-preserved
loop-i-preserved c =
    let a = c.args in
    let v = c.loop-i in
    let put = c.put-to in
    let stored =
    stored-behind v.buffer (bytes_of (bytes_in (get_or a.widths v.i 0)) (get_or a.numbers v.i 0)) put.new.buffer v.to (length v.buffer - v.to) (omega arith) put.ensures.buffer in
    going_next a.buffer.now a.widths a.numbers v.buffer _ v.to v.i put.result (omega arith) (omega arith) (omega arith) v.invariant
    put.ensures.count.0 put.ensures.count.1 stored

pub returns : goal.returns
returns c =
    let v = c.loop-i in
    let a = c.args in
    going-all a.buffer.now a.widths a.numbers _ v.to v.i (omega arith) v.invariant
