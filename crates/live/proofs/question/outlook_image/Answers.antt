-- 3, or the account that its words are.
-- Assumes nothing.
use Rattle.std.proofs.Common.{refl, arith}
use borrow.Author.Tests.{lt-ltb, le-ltb}
use Rattle.layout.specs.Fields.{last_account}
use Rattle.register.specs.Register.{asked_by}
use Rattle.live.specs.Live.{look_by}
use Rattle.live.proofs.Standing.{account-of-image}
use Rattle.live.proofs.question.outlook_image.Goals as goal

pub returns-then-account-gt-LAST_ACCOUNT : goal.returns-then-account-gt-LAST_ACCOUNT
unfolding look_by asked_by
returns-then-account-gt-LAST_ACCOUNT c = rw (lt-ltb last_account c.args.account c.if-account-gt-LAST_ACCOUNT.true) refl

pub returns : goal.returns
unfolding look_by asked_by
returns c =
    let a = c.args in
    let within = c.if-account-gt-LAST_ACCOUNT.false in
    rw (le-ltb last_account a.account within, account-of-image a.image.now a.account (omega arith))
    (rw (c.read_account.ensures, c.word_at.ensures) at c.outlook.ensures)
