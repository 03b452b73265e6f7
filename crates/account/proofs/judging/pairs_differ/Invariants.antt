-- From here on the numbers differ exactly if they all do.
-- Assumes nothing.
use Rattle.std.proofs.Common.{◌≡◌, drop}
use Rattle.account.specs.inside.Judged.{all_differ}
use Rattle.account.proofs.judging.pairs_differ.Given as goal

abbrev pub invariant-loop-at : goal.invariant-loop-at
invariant-loop-at l = all_differ (drop l.at l.numbers) ≡ all_differ l.numbers
