-- Field by field; and too few words are no account.
-- Assumes nothing.
use Rattle.std.proofs.Common.{◌+◌, ◌≤◌, length, refl, sym, ◌∙◌, leb-true}
use Rattle.image.specs.Words.{account_words}
use Rattle.image.specs.Reading.{account_from}
use Rattle.image.proofs.Accounts.{account-read}
use Rattle.image.proofs.read_account.Goals as goal
use Rattle.image.proofs.read_account.Goals.{then-valid, else-valid}

pub returns-after-valid : goal.returns-after-valid
returns-after-valid c =
    let a = c.args in
    let room : a.from + account_words ≤ length a.image.now = leb-true (a.from + account_words) (length a.image.now) (sym c.has_room.ensures ∙ c.if-has_room.true) in
    account-read a.image.now a.from room _ c.life_word.result c.read_row-progress.result c.read_row-held.result _ _ _
    c.life_of-life.ensures c.life_word.ensures c.read_row-progress.ensures c.read_row-held.ensures
    (elim c.if-valid.branch [ then-valid w ↦ rw w.if-valid.true w.account-is | else-valid w ↦ rw w.if-valid.false w.account-is ])

pub returns-else-has_room : goal.returns-else-has_room
unfolding account_from
returns-else-has_room c = rw (sym c.has_room.ensures ∙ c.if-has_room.false) refl
