-- Not in order; no such outcome, where something is left of the number; else what the way reached.
-- Assumes nothing.
use Rattle.std.proofs.Common.{◌<◌, ◌≤◌, length, sym, ap, ◌∙◌, arith}
use Rattle.std.proofs.Math.Seq.{get_or-take}
use Rattle.filing.specs.Slots.{blank}
use Rattle.account.specs.declared.question.Reached.{Reached}
use Rattle.account.proofs.Clauses.{clauses}
use Rattle.account.proofs.Walks.{reached-next, reached-end, outlook-order, outlook-none, outlook-there}
use Rattle.account.proofs.Account.outlook.Goals as goal

pub returns-then-not-in_order : goal.returns-then-not-in_order
returns-then-not-in_order c = outlook-order _ c.args.self.now c.args.number (sym c.in_order.ensures ∙ c.if-not-in_order.true)

pub loop-slot-preserved : goal.loop-slot-preserved
loop-slot-preserved c =
    let a = c.args.self.now in
    let v = c.loop-slot in
    let few = (clauses _ a (sym c.in_order.ensures ∙ c.if-not-in_order.false)).progressing in
    let room : a.progressing ≤ length a.progress = omega arith in
    let below : v.slot-index < a.progressing = omega arith in
    rw (c.past-reached.ensures, get_or-take a.progressing a.progress v.slot-index blank below) (reached-next _ v.reached a.progressing a.progress v.slot-index below room)
    ∙ v.invariant

pub returns-then-reached-gt0 : goal.returns-then-reached-gt0
returns-then-reached-gt0 c =
    let a = c.args.self.now in
    let v = c.loop-slot in
    let few = (clauses _ a (sym c.in_order.ensures ∙ c.if-not-in_order.false)).progressing in
    let past : a.progressing ≤ v.slot-index = omega arith in
    let end = reached-end _ v.reached a.progressing a.progress v.slot-index past ∙ v.invariant in
    let left = ap (λ (r : Reached). r.left) end in
    outlook-none _ a c.args.number (sym c.in_order.ensures ∙ c.if-not-in_order.false) (omega (arith, c.if-reached-gt0.true))

pub returns : goal.returns
returns c =
    let a = c.args.self.now in
    let v = c.loop-slot in
    let few = (clauses _ a (sym c.in_order.ensures ∙ c.if-not-in_order.false)).progressing in
    let past : a.progressing ≤ v.slot-index = omega arith in
    let end = reached-end _ v.reached a.progressing a.progress v.slot-index past ∙ v.invariant in
    let left = ap (λ (r : Reached). r.left) end in
    rw end (outlook-there _ a c.args.number (sym c.in_order.ensures ∙ c.if-not-in_order.false) (omega (arith, c.if-reached-gt0.false)))
