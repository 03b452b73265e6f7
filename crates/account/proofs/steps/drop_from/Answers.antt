-- Each place that is gone through is taken out or kept.
-- Assumes nothing.
use Rattle.std.proofs.Common.{◌<◌, length, arith}
use Rattle.account.proofs.TakenOut.{out-gone, out-kept}
use Rattle.account.proofs.steps.drop_from.Goals as goal
use Rattle.account.proofs.steps.drop_from.Goals.{then-transaction-slot, else-transaction-slot}

pub loop-at-preserved : goal.loop-at-preserved
loop-at-preserved c =
    let a = c.args in
    let v = c.loop-at in
    let row = a.row.now in
    let below : v.at < length row = omega arith in
    elim c.if-transaction-slot.branch [
      | then-transaction-slot w ↦ rw (w.row-is, w.left-is) (out-kept a.transaction row v.at below v.row v.left v.invariant w.if-transaction-slot.true)
      | else-transaction-slot w ↦ rw (w.row-is, w.left-is) (out-gone a.transaction row v.at below v.row v.left v.invariant w.if-transaction-slot.false)
    ]
