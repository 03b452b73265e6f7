-- All places of each row are all of the account.
-- Assumes nothing.
use Rattle.std.proofs.Common.{◌∙◌, arith}
use Rattle.image.proofs.Accounts.{all-stored}
use Rattle.image.proofs.put_account.Goals as goal

pub returns : goal.returns
returns c =
    let a = c.args in
    c.put_used.ensures ∙ all-stored a.account a.image.now a.from (omega arith) (omega arith)
