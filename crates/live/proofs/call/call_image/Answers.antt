-- Each way out is one law of `proofs/Finished.antt` or `proofs/Used.antt`.
-- Assumes nothing.
use Rattle.std.proofs.Common.{ℕ, ◌≤◌, ◌≡◌, List, length, Ok, refl, ap, sym, ◌∙◌, arith}
use Rattle.std.proofs.lemmas.Result.{err_from_is_err_and}
use Rattle.refusal.specs.declared.Refusal.TheVariants.{NoRoom}
use Rattle.account.specs.declared.Account.{Account}
use Rattle.account.specs.First.{step_of}
use Rattle.message.specs.declared.Message.{Message}
use Rattle.message.specs.Bytes.{heading_of}
use Rattle.message.specs.Answers.{read_of}
use Rattle.entry.specs.Bytes.{bytes_of_entries, list_of}
use Rattle.entry.specs.Answers.{longest_call}
use Rattle.image.specs.Reading.{account_from}
use Rattle.register.specs.Register.{rule_message}
use Rattle.register.proofs.Suits.{first-suits}
use Rattle.live.specs.Registers.{word_at}
use Rattle.live.specs.Helpers.{finished_of}
use Rattle.live.specs.First.{live_of}
use Rattle.live.proofs.Finished.{refused_live, live-unread, live-roomless, Named, live-finished, entries-written}
use Rattle.live.proofs.Used.{used-stored}
use Rattle.live.proofs.call.call_image.Goals as goal

-- a message that was read, once its account is
named : (image bytes buffer : List ℕ) (m : Message) (consumed number at : ℕ) (a : Account)
    → Ok (m, consumed) ≡ read_of bytes → longest_call ≤ length buffer → number ≡ (heading_of m).account → at ≡ word_at number → a ≡ account_from image at → Named image bytes buffer m consumed a
named image bytes buffer m consumed number at a r room n w s = record { read = sym r; room = room; account = s ∙ ap (account_from image) (w ∙ ap word_at n) }

pub returns-in_err-message : goal.returns-in_err-message
returns-in_err-message c =
    let a = c.args in
    let live : live_of a.image.now a.bytes.now a.buffer.now ≡ refused_live a.image.now a.buffer.now c.in_err-message.field-0.0 =
    live-unread _ a.image.now a.bytes.now a.buffer.now c.in_err-message.field-0.0 (sym c.in_err-message.ensures) in
    let p = err_from_is_err_and c.from_residual.result c.from_residual.ensures.1 in
    record { reply = rw (live, p.1, p.2); image = rw live; buffer = rw live }

pub returns-then-buffer-lt-LONGEST_CALL : goal.returns-then-buffer-lt-LONGEST_CALL
returns-then-buffer-lt-LONGEST_CALL c =
    let a = c.args in
    let live : live_of a.image.now a.bytes.now a.buffer.now ≡ refused_live a.image.now a.buffer.now NoRoom =
    live-roomless _ a.image.now a.bytes.now a.buffer.now c.in_ok-message.message c.in_ok-message.consumed (sym c.in_ok-message.ensures) c.if-buffer-lt-LONGEST_CALL.true in
    record { reply = rw live; image = rw live; buffer = rw live }

pub returns-in_err-entries : goal.returns-in_err-entries
returns-in_err-entries c =
    let a = c.args in
    let m = c.in_ok-message.message in
    let account = c.read_account-account.result in
    let n =
    named a.image.now a.bytes.now a.buffer.now m c.in_ok-message.consumed c.account_of-number.result c.word_at-at.result account
    c.in_ok-message.ensures c.if-buffer-lt-LONGEST_CALL.false c.account_of-number.ensures c.word_at-at.ensures c.read_account-account.ensures in
    let stepped = step_of account (rule_message m) in
    let live : live_of a.image.now a.bytes.now a.buffer.now ≡ finished_of a.image.now a.buffer.now (heading_of m).account c.in_ok-message.consumed stepped =
    live-finished _ a.image.now a.bytes.now a.buffer.now m c.in_ok-message.consumed account n stepped refl in
    let refused = sym c.in_err-entries.ensures.answer in
    let p = err_from_is_err_and c.from_residual-in_err-entries.result c.from_residual-in_err-entries.ensures.1 in
    record { reply = rw (live, refused, p.1, p.2); image = rw (live, refused); buffer = rw (live, refused) }

pub returns-in_err-written : goal.returns-in_err-written
returns-in_err-written c =
    let a = c.args in
    let m = c.in_ok-message.message in
    let account = c.read_account-account.result in
    let n =
    named a.image.now a.bytes.now a.buffer.now m c.in_ok-message.consumed c.account_of-number.result c.word_at-at.result account
    c.in_ok-message.ensures c.if-buffer-lt-LONGEST_CALL.false c.account_of-number.ensures c.word_at-at.ensures c.read_account-account.ensures in
    let wrote = entries-written _ a.image.now a.bytes.now a.buffer.now m c.in_ok-message.consumed account n first-suits c.in_ok-entries.entries (sym c.in_ok-entries.ensures.answer) in
    let e = rw (c.as_slice.ensures, c.account_of-number.ensures, wrote) at c.in_err-written.ensures.answer in
    let z : ◌≡◌ {A = ℕ} 0 1 = cc in absurd (omega arith)

pub returns : goal.returns
returns c =
    let a = c.args in
    let m = c.in_ok-message.message in
    let account = c.read_account-account.result in
    let n =
    named a.image.now a.bytes.now a.buffer.now m c.in_ok-message.consumed c.account_of-number.result c.word_at-at.result account
    c.in_ok-message.ensures c.if-buffer-lt-LONGEST_CALL.false c.account_of-number.ensures c.word_at-at.ensures c.read_account-account.ensures in
    let stepped = step_of account (rule_message m) in
    let live : live_of a.image.now a.bytes.now a.buffer.now ≡ finished_of a.image.now a.buffer.now (heading_of m).account c.in_ok-message.consumed stepped =
    live-finished _ a.image.now a.bytes.now a.buffer.now m c.in_ok-message.consumed account n stepped refl in
    let taken = sym c.in_ok-entries.ensures.answer in
    let wrote = entries-written _ a.image.now a.bytes.now a.buffer.now m c.in_ok-message.consumed account n first-suits c.in_ok-entries.entries taken in
    let e = rw (c.as_slice.ensures, c.account_of-number.ensures, wrote) at c.in_ok-written.ensures.answer in
    let written : c.in_ok-written.written ≡ length (bytes_of_entries (heading_of m).account (list_of c.in_ok-entries.entries)) = cc in
    let next = c.step.ensures.account in
    let stored =
    used-stored _ first-suits a.image.now (word_at (heading_of m).account) account (rule_message m) stepped c.in_ok-entries.entries c.max.result c.max-2.result n.account refl taken
    (rw (← next) c.max.ensures) (rw (← next) c.max-2.ensures) in
    let at : c.word_at-at.result ≡ word_at (heading_of m).account = c.word_at-at.ensures ∙ ap word_at c.account_of-number.ensures in
    record {
      reply = rw (live, taken, written);
      image = rw (live, taken) (c.put_used.ensures ∙ rw (at, next) stored);
      buffer = rw (live, taken) (rw (c.as_slice.ensures, c.account_of-number.ensures, wrote) at c.write_entries.ensures.buffer);
    }
