-- A place of an account as a value, and the rule's slot (docs/REGISTER.md, 2.3 to 2.5).
-- Assumes nothing.
use Rattle.std.specs.Prelude.{ℕ, Bool, true, false, ◌&&◌, eqb}
use Rattle.rule.specs.Rule as rule
use Rattle.events.specs.declared.Event.{Event}
use Rattle.events.specs.declared.Event.TheVariants.{Open}
use Rattle.events.specs.Events.{is_blank_event}
use Rattle.filing.specs.declared.Filed.{Filed}
use Rattle.filing.specs.declared.Decision.{Decision}
use Rattle.filing.specs.declared.Decision.TheVariants.{Undecided, Committed}
use Rattle.filing.specs.declared.Slot.{Slot}

-- the places of each row of an account, of events in progress and of requests held (2.3)
abbrev pub places : ℕ
places = 8

-- the rule's slot, of the first panel's events and what is filed with them
abbrev pub RuleSlot : Type 0
RuleSlot = rule.Slot Filed Event

abbrev pub is_undecided : Decision → Bool
is_undecided Undecided = true
is_undecided Committed = false

abbrev pub decision_of : Decision → rule.Decision
decision_of Undecided = rule.undecided
decision_of Committed = rule.committed

abbrev pub decision_in : rule.Decision → Decision
decision_in rule.undecided = Undecided
decision_in rule.committed = Committed

-- a place as the rule has it,
abbrev pub slot_of : Slot → RuleSlot
slot_of x = rule.slot x.transaction x.filed x.event (decision_of x.decision)

-- and back
abbrev pub place_of : RuleSlot → Slot
place_of (rule.slot t g e d) = record { transaction = t; filed = g; event = e; decision = decision_in d }

-- the place, committed
abbrev pub committed_slot : Slot → Slot
committed_slot x = record { transaction = x.transaction; filed = x.filed; event = x.event; decision = Committed }

-- what is filed in an unused place, and what stands there (2.5)
abbrev pub blank_filed : Filed
blank_filed = record { second = 0 }

abbrev pub blank : Slot
blank = record { transaction = 0; filed = blank_filed; event = Open 0; decision = Undecided }

abbrev pub is_blank_filed : Filed → Bool
is_blank_filed g = eqb g.second 0

-- whether a place is the blank
abbrev pub is_blank : Slot → Bool
is_blank x = eqb x.transaction 0 && is_blank_filed x.filed && is_blank_event x.event && is_undecided x.decision
