-- Each way out is a law of the reader's definition.
-- Assumes nothing.
use Rattle.std.proofs.Common.{arith, sym}
use Rattle.std.proofs.lemmas.Grind.{common_steps}
use Rattle.layout.specs.Number.{number_at}
use Rattle.layout.specs.Fields.{row_of_kind}
use Rattle.entry.specs.Bytes.{entry_rows}
use Rattle.entry.specs.Answers.{read_of}
use Rattle.entry.proofs.Reading.{code-unknown, code-short, code-reason, code-elsewhere, code-told}
use Rattle.entry.proofs.reader.read_entry.Goals as goal

pub returns-in_err-first : goal.returns-in_err-first
unfolding read_of number_at row_of_kind entry_rows
returns-in_err-first c = grind (arith, common_steps)

pub returns-in_err-kind : goal.returns-in_err-kind
returns-in_err-kind c = cc (code-unknown c.args.bytes.now c.in_ok-first.ensures.value c.try_from.ensures c.in_err-kind.ensures.value)

pub returns-then-bytes-shape : goal.returns-then-bytes-shape
returns-then-bytes-shape c =
    sym (code-short c.args.bytes.now c.in_ok-first.ensures.value c.try_from.ensures c.in_ok-kind.ensures.value c.shape-shape.ensures c.if-bytes-shape.true)

pub returns-then-numbers : goal.returns-then-numbers
returns-then-numbers c =
    sym
    (code-elsewhere c.args.bytes.now c.in_ok-first.ensures.value c.try_from.ensures c.in_ok-kind.ensures.value c.shape-shape.ensures c.if-bytes-shape.false
    c.read_numbers-numbers.ensures c.if-numbers.true)

pub told-requires : goal.told-requires
told-requires c =
    code-reason c.args.bytes.now c.in_ok-first.ensures.value c.try_from.ensures c.in_ok-kind.ensures.value c.shape-shape.ensures c.if-bytes-shape.false
    c.read_numbers-numbers.ensures (λ i. omega (arith, c.type_inv.bytes i))

pub returns-in_err-told : goal.returns-in_err-told
returns-in_err-told c =
    let read =
    code-told c.args.bytes.now c.in_ok-first.ensures.value c.try_from.ensures c.in_ok-kind.ensures.value c.shape-shape.ensures c.if-bytes-shape.false
    c.read_numbers-numbers.ensures c.if-numbers.false in
    rw (read, ← c.in_err-told.ensures) c.from_residual-in_err-told.ensures

pub returns : goal.returns
returns c =
    let read =
    code-told c.args.bytes.now c.in_ok-first.ensures.value c.try_from.ensures c.in_ok-kind.ensures.value c.shape-shape.ensures c.if-bytes-shape.false
    c.read_numbers-numbers.ensures c.if-numbers.false in
    rw (read, ← c.in_ok-told.ensures, c.filed_from.ensures, c.number.ensures)
