-- The range of the one outcome is what the helper ensures.
-- Assumes nothing.
use Rattle.account.proofs.Known.{knows-none}
use Rattle.account.proofs.outcomes.Outcomes.of.Goals as goal

pub returns : goal.returns
returns c = knows-none _ c.args.state c.of.result c.of.ensures
