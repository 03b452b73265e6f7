-- The way from here on reaches what the whole way reaches.
-- Assumes nothing.
use Rattle.std.proofs.Common.{◌≡◌}
use Rattle.account.specs.Places.{used}
use Rattle.account.proofs.First.{reached_behind}
use Rattle.account.proofs.Slices.{used_from}
use Rattle.account.proofs.Account.outlook.Given as goal

abbrev pub invariant-loop-slot : goal.invariant-loop-slot
invariant-loop-slot l =
    reached_behind (used_from l.slot-index l.self.progressing l.self.progress) l.reached.left l.reached.state ≡ reached_behind (used l.self.progress l.self.progressing) l.fn.number l.self.state
