-- The head, and then the places of each row, one after the other.
-- Assumes nothing.
use Rattle.std.proofs.Common.{◌+◌, ◌≤◌, length, refl, sym, ◌∙◌, leb-true, arith}
use Rattle.image.specs.Words.{account_words, stored_to}
use Rattle.image.proofs.Accounts.{account-stored}
use Rattle.image.proofs.put_used.Goals as goal

pub returns-then-has_room : goal.returns-then-has_room
unfolding stored_to
returns-then-has_room c =
    let a = c.args in
    let room : a.from + account_words ≤ length a.image.now = leb-true (a.from + account_words) (length a.image.now) (sym c.has_room.ensures ∙ c.if-has_room.true) in
    account-stored a.account a.progress a.held a.image.now _ _ _ a.from (omega arith) (omega arith) room
    (c.copy_from_slice.ensures.after ∙ c.head_words.ensures)
    (rw (← c.min.ensures) c.put_row.ensures) (rw (← c.min-then-has_room.ensures) c.put_row-then-has_room.ensures)

pub returns-else-has_room : goal.returns-else-has_room
unfolding stored_to
returns-else-has_room c = rw (sym c.has_room.ensures ∙ c.if-has_room.false) refl
