-- 3 where there is no account of that number, else what the account answers.
-- Assumes nothing.
use borrow.Author.Tests.{lt-ltb, le-ltb}
use Rattle.layout.specs.Fields.{last_account}
use Rattle.register.specs.Register.{asked_by}
use Rattle.register.proofs.Register.outlook.Goals as goal

pub returns-then-account-gt-LAST_ACCOUNT : goal.returns-then-account-gt-LAST_ACCOUNT
unfolding asked_by
returns-then-account-gt-LAST_ACCOUNT c = rw (lt-ltb last_account c.args.account c.if-account-gt-LAST_ACCOUNT.true)

pub returns : goal.returns
unfolding asked_by
returns c = rw (le-ltb last_account c.args.account c.if-account-gt-LAST_ACCOUNT.false) c.outlook.ensures
