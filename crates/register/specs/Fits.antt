-- Numbers that fit their bytes: of every event and commit that a message brings, and so of every entry (docs/REGISTER.md, 8.1 and 9.1).
-- Assumes nothing.
use Rattle.std.specs.Prelude.{ℕ, ◌<◌, ◌≤◌, ◌^◌}
use Rattle.events.specs.declared.Event.{Event}
use Rattle.events.specs.declared.State.{State}
use Rattle.events.specs.Events.{limit}
use Rattle.events.specs.Kinds.{amount_of}
use Rattle.filing.specs.declared.Filed.{Filed}
use Rattle.layout.specs.Heading.{FiledFits}

-- transaction and amount have 4 bytes each
abbrev pub EventFits : ℕ → Filed → Event → Type 0
EventFits t g e = (t < 256 ^ 4) × FiledFits g × (amount_of e < 256 ^ 4)

abbrev pub CommitFits : ℕ → Filed → Type 0
CommitFits t g = (t < 256 ^ 4) × FiledFits g

-- the balance is within the limit (2.1), which has room in 4 bytes
abbrev pub StateFits : State → Type 0
StateFits s = s.balance ≤ limit

abbrev pub BalanceFits : ℕ → Type 0
BalanceFits b = b ≤ limit
