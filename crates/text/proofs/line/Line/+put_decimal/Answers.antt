-- `text::line::Line::put_decimal` meets its contract: the digits of a tenth, and the last one.
-- Assumes nothing.
use Rattle.std.proofs.Common.{◌≡◌, ◌+◌, ◌/◌, ◌%◌, [], ◌∷◌, arith}
use Rattle.text.specs.Text.{decimal}
use Rattle.text.proofs.Decimals.{decimal-plain}
use Rattle.text.proofs.Texts.{grown}
use Rattle.text.proofs.line.Line.+put_decimal.Goals as goal
use Rattle.text.proofs.line.Line.+put_decimal.Goals.{then-number-ge10, else-number-ge10}

pub returns : goal.returns
returns t c =
    let number = c.args.number in
    let line = c.args.self.now in
    let plain = decimal-plain number in
    let last = (48 + number % 10) ∷ [] in
    elim c.if-number-ge10.branch [
      | then-number-ge10 w ↦
          rw (plain.more w.if-number-ge10.true (omega arith))
          (grown (decimal (number / 10)) last line c.if-number-ge10.self c.push.new.self (rw w.self-is w.put_decimal.ensures) c.push.ensures)
      | else-number-ge10 w ↦
          let digit : number % 10 ≡ number = omega arith in
          rw (plain.one w.if-number-ge10.false) (rw (w.self-is, digit) at c.push.ensures)
    ]
