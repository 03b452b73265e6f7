-- With fewer than eight events so far there are at most 128 outcomes, so that with one more their number still fits.
-- Assumes nothing.
use Rattle.std.proofs.Common.{◌≤◌, ◌<◌, length, get_or, arith}
use Rattle.filing.specs.Slots.{blank}
use Rattle.account.specs.Places.{used}
use Rattle.account.proofs.Places.{used-more, count-used}
use Rattle.account.proofs.Known.{knows-few}
use Rattle.account.proofs.outcomes.Outcomes.after.Goals as goal

pub with-outcomes-requires : goal.with-outcomes-requires
with-outcomes-requires c =
    let v = c.loop-slot in
    let events = c.args.events.now in
    let few : length (used events v.slot-index) ≤ 7 = rw (count-used events v.slot-index (omega arith)) (omega arith) in
    knows-few _ c.args.state (used events v.slot-index) v.outcomes v.invariant few

pub loop-slot-preserved : goal.loop-slot-preserved
loop-slot-preserved c =
    let v = c.loop-slot in
    let events = c.args.events.now in
    let x = get_or events v.slot-index blank in
    let below : v.slot-index < length events = omega arith in
    rw (used-more events v.slot-index blank below) (c.with-outcomes.ensures c.args.state (used events v.slot-index) x.transaction x.filed v.invariant)
