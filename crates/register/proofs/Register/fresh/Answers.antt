-- A fresh account, as many times as there are accounts.
-- Assumes nothing.
use Rattle.std.proofs.Common.{rules}
use Rattle.account.specs.Places.{account_of}
use Rattle.register.specs.Register.{fresh_by}
use Rattle.register.proofs.Register.fresh.Goals as goal

pub returns : goal.returns
unfolding fresh_by account_of
returns c = search rules
