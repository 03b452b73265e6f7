-- Numbers that rise differ; and those noted tell whether the slots are apart.
-- Assumes nothing.
use Rattle.std.proofs.Common.{sym, ◌∙◌, arith}
use Rattle.account.proofs.Differ.{rising-differ, all-apart}
use Rattle.account.proofs.judging.differ.Goals as goal

pub returns-then-rise : goal.returns-then-rise
returns-then-rise c =
    let v = c.loop-at-2 in
    c.if-rise.true ∙ sym (rising-differ _ (c.rise.ensures c.if-rise.true)) ∙ all-apart c.args.events.now c.args.requests.now v.at v.transactions (omega arith) v.invariant

pub returns-else-rise : goal.returns-else-rise
returns-else-rise c =
    let v = c.loop-at-2 in
    c.pairs_differ.ensures ∙ all-apart c.args.events.now c.args.requests.now v.at v.transactions (omega arith) v.invariant
