-- Each way out is one law of `proofs/Writes.antt`.
-- Assumes nothing.
use Rattle.std.proofs.Common.{◌≡◌, length, sym, ◌∙◌}
use Rattle.std.proofs.lemmas.Result.{err_from_is_err_and}
use Rattle.message.specs.Bytes.{heading_of}
use Rattle.entry.specs.Bytes.{bytes_of_entries, list_of}
use Rattle.register.proofs.Suits.{first-suits}
use Rattle.register.proofs.Writes.{sent-keeps, reading-refused, room-refused, WithRoom, with_room}
use Rattle.register.proofs.Register.call.Goals as goal
use Rattle.register.proofs.Register.call.Goals.{After-send}

pub returns-in_err-message : goal.returns-in_err-message
returns-in_err-message c =
    let called = reading-refused _ first-suits c.args.self.now c.args.bytes.now c.args.buffer.now c.in_err-message.field-0.0 (sym c.in_err-message.ensures) in
    let p = err_from_is_err_and c.from_residual.result c.from_residual.ensures.1 in
    record { reply = rw (called, p.1, p.2); register = rw called; buffer = rw called }

pub returns-then-buffer-lt-LONGEST_CALL : goal.returns-then-buffer-lt-LONGEST_CALL
returns-then-buffer-lt-LONGEST_CALL c =
    let m = c.in_ok-message in
    let called = room-refused _ first-suits c.args.self.now c.args.bytes.now c.args.buffer.now m.message m.consumed (sym m.ensures) c.if-buffer-lt-LONGEST_CALL.true in
    record { reply = rw called; register = rw called; buffer = rw called }

-- a message that was sent, with room for its entries
sent : (c : After-send) → WithRoom _ first-suits c.args.self.now c.args.bytes.now c.args.buffer.now c.in_ok-message.message c.in_ok-message.consumed (sym c.in_ok-message.ensures)
sent c =
    let m = c.in_ok-message in
    with_room _ first-suits c.args.self.now c.args.bytes.now c.args.buffer.now m.message m.consumed (sym m.ensures) c.if-buffer-lt-LONGEST_CALL.false

pub returns-in_err-entries : goal.returns-in_err-entries
returns-in_err-entries c =
    let refused = sym c.in_err-entries.ensures.answer in
    let called = (sent (goal.at.returns-in_err-entries c).After-send).refused' c.in_err-entries.field-0.0 refused in
    let p = err_from_is_err_and c.from_residual-in_err-entries.result c.from_residual-in_err-entries.ensures.1 in
    record {
      reply = rw (called, p.1, p.2);
      register = rw called (c.send.ensures.register ∙ sent-keeps _ c.args.self.now c.in_ok-message.message c.in_err-entries.field-0.0 refused);
      buffer = rw called;
    }

pub returns-in_err-written : goal.returns-in_err-written
returns-in_err-written c =
    let wrote = (sent (goal.at.returns-in_err-written c).After-send).written c.in_ok-entries.entries (sym c.in_ok-entries.ensures.answer) in
    let e = rw (c.as_slice.ensures, c.account_of.ensures, wrote) at c.in_err-written.ensures.answer in
    cc

pub returns : goal.returns
returns c =
    let room = sent (goal.at.returns c).After-send in
    let entries = c.in_ok-entries.entries in
    let called = room.taken' entries (sym c.in_ok-entries.ensures.answer) in
    let wrote = room.written entries (sym c.in_ok-entries.ensures.answer) in
    let e = rw (c.as_slice.ensures, c.account_of.ensures, wrote) at c.in_ok-written.ensures.answer in
    let n : c.in_ok-written.written ≡ length (bytes_of_entries (heading_of c.in_ok-message.message).account (list_of entries)) = cc in
    record {
      reply = rw (called, n);
      register = rw called c.send.ensures.register;
      buffer = rw called (rw (c.as_slice.ensures, c.account_of.ensures, wrote) at c.write_entries.ensures.buffer);
    }
