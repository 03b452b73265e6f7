-- Each way out is a law of the reader's definition.
-- Assumes nothing.
use Rattle.std.proofs.Common.{arith, sym}
use Rattle.std.proofs.lemmas.Result.{err_from_is_err_and}
use Rattle.std.proofs.lemmas.Grind.{common_steps}
use Rattle.message.specs.Answers.{read_of}
use Rattle.message.proofs.Reader.{code-unknown, code-short, code-elsewhere, code-taken}
use Rattle.message.proofs.read_message.Goals as goal

pub returns-in_err-first : goal.returns-in_err-first
unfolding read_of
returns-in_err-first c = grind (arith, common_steps)

pub returns-in_err-kind : goal.returns-in_err-kind
returns-in_err-kind c =
    let first = rw c.in_ok-first.ensures.ok_part at c.first.ensures.value in
    let p = err_from_is_err_and c.from_residual-in_err-kind.result c.from_residual-in_err-kind.ensures.1 in
    rw (p.1, p.2) (sym (code-unknown c.args.bytes.now first c.in_err-kind.ensures))

pub returns-then-bytes-shape : goal.returns-then-bytes-shape
returns-then-bytes-shape c =
    let first = rw c.in_ok-first.ensures.ok_part at c.first.ensures.value in
    sym (code-short c.args.bytes.now first c.in_ok-kind.ensures c.shape-shape.ensures c.if-bytes-shape.true)

pub returns-then-numbers : goal.returns-then-numbers
returns-then-numbers c =
    let first = rw c.in_ok-first.ensures.ok_part at c.first.ensures.value in
    sym (code-elsewhere c.args.bytes.now first c.in_ok-kind.ensures c.shape-shape.ensures c.if-bytes-shape.false c.read_numbers-numbers.ensures c.if-numbers.true)

pub returns : goal.returns
returns c =
    let first = rw c.in_ok-first.ensures.ok_part at c.first.ensures.value in
    let read =
    code-taken c.args.bytes.now first c.in_ok-kind.ensures c.shape-shape.ensures c.if-bytes-shape.false c.read_numbers-numbers.ensures c.if-numbers.false in
    rw (c.message.ensures, c.filed_from.ensures) (sym read)
