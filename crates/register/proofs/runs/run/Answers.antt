-- Every turn is one of `proofs/Turned.antt`.
-- Assumes nothing.
use Rattle.std.proofs.Common.{◌≡◌, ◌-◌, length, sym, ap, ◌∙◌, arith}
use borrow.Rule.Slice.PartMut.{put_mid}
use Rattle.register.specs.Run.{Run, nothing}
use Rattle.register.proofs.Suits.{first-suits}
use Rattle.register.proofs.Underway.{starts, ends}
use Rattle.register.proofs.Turned.{Goes, goes}
use Rattle.register.proofs.runs.run.Goals as goal
use Rattle.register.proofs.runs.run.Goals.{After-passed_by-passed}

pub loop-ran-init : goal.loop-ran-init
loop-ran-init c =
    let e = c.default-ran.ensures in
    let same : c.default-ran.result ≡ nothing = λ i. record { met = e.0 i; refused = e.1.0 i; consumed = e.1.1.0 i; written = e.1.1.1 i } in
    rw (c.fresh-register.ensures, same) (starts _ first-suits c.args.messages.now c.args.entries.now)

-- the turn of the message that the run has reached
turn : (c : After-passed_by-passed)
    → Goes _ first-suits c.args.messages.now c.args.entries.now c.loop-ran.register c.loop-ran.ran c.loop-ran.entries c.call-reply.new.self c.passed_by-passed.result
    (put_mid c.loop-ran.ran.written (length c.loop-ran.entries - c.loop-ran.ran.written) c.loop-ran.entries c.call-reply.new.buffer)
turn c =
    let v = c.loop-ran in
    let call = c.call-reply in
    goes _ first-suits c.args.messages.now c.args.entries.now v.register v.ran v.entries v.invariant c.loop-ran-test.true c.number1.result c.whole_length-whole.result c.number1.ensures c.whole_length-whole.ensures
    call.result call.new.self call.new.buffer c.passed_by-passed.result call.ensures.reply call.ensures.register call.ensures.buffer c.passed_by-passed.ensures

pub add-requires : goal.add-requires
add-requires c = (turn (goal.at.add-requires c).After-passed_by-passed).counts (omega arith) (omega arith)

pub returns-then-passed : goal.returns-then-passed
returns-then-passed c =
    let whole = (turn (goal.at.returns-then-passed c).After-passed_by-passed).stops c.if-passed.true in
    record { counts = c.add.ensures ∙ sym (ap (λ (x : Run). x.counts) whole); entries = sym (ap (λ (x : Run). x.entries) whole) }

pub loop-ran-smaller : goal.loop-ran-smaller
loop-ran-smaller c = rw c.add.ensures ((turn (goal.at.loop-ran-smaller c).After-passed_by-passed).less c.if-passed.false)

pub loop-ran-preserved : goal.loop-ran-preserved
loop-ran-preserved c = rw c.add.ensures ((turn (goal.at.loop-ran-preserved c).After-passed_by-passed).again c.if-passed.false)

-- and at the end nothing is left
pub returns : goal.returns
returns c =
    let v = c.loop-ran in
    let whole = ends _ first-suits c.args.messages.now c.args.entries.now v.register v.ran v.entries v.invariant c.loop-ran-test.false in
    record { counts = sym (ap (λ (x : Run). x.counts) whole); entries = sym (ap (λ (x : Run). x.entries) whole) }
