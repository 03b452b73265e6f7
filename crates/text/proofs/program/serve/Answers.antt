-- `text::program::serve` meets its contract: the pieces are those of a step.
-- Assumes nothing.
use Rattle.text.proofs.Steps.{within, passed_is, serves-none, serves-one}
use Rattle.text.proofs.program.serve.Goals as goal

pub returns-then-input-served : goal.returns-then-input-served
returns-then-input-served c = let a = c.args in serves-none a.served a.input.now a.out.now c.if-input-served.true

-- what the message came to is that of a step, and so the next one starts within the input
pub start_after-requires : goal.start_after-requires
start_after-requires c =
    let s = c.args.served in
    let input = c.args.input.now in
    let next = passed_is s input c.whole_length.result c.turn-turned.result.reply c.passed_by-passed.result c.whole_length.ensures c.turn-turned.ensures.reply c.passed_by-passed.ensures in
    rw next (within s input c.if-input-served.false)

pub returns : goal.returns
returns c =
    let s = c.args.served in
    let input = c.args.input.now in
    let turned = c.turn-turned in
    let passed = c.passed_by-passed in
    let next = passed_is s input c.whole_length.result turned.result.reply passed.result c.whole_length.ensures turned.ensures.reply passed.ensures in
    serves-one s input turned.new.register passed.result c.start_after.result c.counted_by.result c.counted_by-2.result turned.result.written c.args.out.now turned.new.out
    c.if-input-served.false turned.ensures.register turned.ensures.text next c.start_after.ensures c.counted_by.ensures c.counted_by-2.ensures
