-- `text::line::Line::of` meets its contract: heading, what the entry tells, and the newline.
-- Assumes nothing.
use Rattle.std.proofs.Common.{◌≡◌, [], arith}
use Rattle.std.proofs.lemmas.Grind.{common_steps}
use Rattle.filing.specs.declared.Verdict.TheVariants.{Rejected}
use Rattle.text.specs.Text.{reason_fields, then_fields}
use Rattle.text.proofs.Lines.{Behind, dropped-behind, applied-behind, reason-behind, noted-behind, no-reason, heading-grown, line-grown}
use Rattle.text.proofs.line.Line.of.Goals as goal
use Rattle.text.proofs.line.Line.of.Goals.{in-Voted+then-eq+then-not-older, in-Voted+else-eq, else-eq-via-then-eq+else-not-older, else-eq-via-else-eq, in-Noted, in-Applied, in-Dropped}

pub returns : goal.returns
returns c =
    let a = c.args in
    let l = c.put_number-3.new.self in
    let m = c.match-entry.line in
    let heading =
    heading-grown a.account a.entry c.new-line.result c.put.new.self c.put_number.new.self c.put_number-2.new.self l
    c.new-line.ensures (rw c.name.ensures at c.put.ensures) c.put_number.ensures (rw c.from.ensures at c.put_number-2.ensures) c.put_number-3.ensures in
    let told : Behind l m (then_fields a.older a.entry.told) =
    elim c.match-entry.branch [
      | in-Voted+then-eq+then-not-older w ↦
          let vote = w.in-Voted.vote in
          let rejected : vote.verdict ≡ Rejected = grind (arith, common_steps) in
          rw (w.in-Voted.is, w.if-not-older.true, rejected, w.line-is)
          (reason-behind w.in-Voted.event l w.put_event.new.self w.put_event.ensures vote.weighed w.put_number-in-Voted.new.self w.put_number-in-Voted.ensures
          vote.reason w.put_reason.new.self w.put_reason.ensures.byte w.put_reason.ensures.line)
      | in-Voted+else-eq w ↦
          let vote = w.in-Voted.vote in
          let none : reason_fields a.older vote.verdict vote.reason ≡ [] =
          elim w.else-eq.branch [
            | else-eq-via-then-eq+else-not-older w' ↦ rw w'.if-not-older.false (no-reason vote.verdict vote.reason)
            | else-eq-via-else-eq w' ↦ grind (arith, common_steps)
          ] in
          rw (w.in-Voted.is, none, w.line-is)
          (applied-behind w.in-Voted.event l w.put_event.new.self w.put_event.ensures vote.weighed w.put_number-in-Voted.new.self w.put_number-in-Voted.ensures)
      | in-Noted w ↦ rw (w.in-Noted.is, w.line-is) (noted-behind _ l c.put_number-3.ensures)
      | in-Applied w ↦
          rw (w.in-Applied.is, w.line-is)
          (applied-behind w.in-Applied.event l w.put_event-in-Applied.new.self w.put_event-in-Applied.ensures
          w.in-Applied.balance w.put_number-in-Applied.new.self w.put_number-in-Applied.ensures)
      | in-Dropped w ↦ rw (w.in-Dropped.is, w.line-is) (dropped-behind w.in-Dropped.event l w.put_event-in-Dropped.new.self w.put_event-in-Dropped.ensures)
    ] in
    line-grown a.account a.entry a.older l m c.put-2.new.self c.ranges.account.fits heading told c.put-2.ensures
