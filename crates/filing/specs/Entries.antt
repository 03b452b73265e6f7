-- An entry as a value, and the rule's entry; the entries of one call (docs/REGISTER.md, 9).
-- Assumes nothing.
use Rattle.std.specs.Prelude.{ℕ, ◌+◌, ◌-◌, Bool, true, false, cond, List, ◌∷◌, ◌++◌, map, length, replicate, set, ltb}
use Rattle.rule.specs.Rule as rule
use Rattle.events.specs.declared.Event.{Event}
use Rattle.events.specs.Events.{reason_byte, reason_from}
use Rattle.filing.specs.declared.Filed.{Filed}
use Rattle.filing.specs.declared.Verdict.{Verdict}
use Rattle.filing.specs.declared.Verdict.TheVariants.{Accepted, Rejected, Held}
use Rattle.filing.specs.declared.Weighing.{Weighing}
use Rattle.filing.specs.declared.Told.TheVariants.{Voted, Noted, Applied, Dropped}
use Rattle.filing.specs.declared.Entry.{Entry}
use Rattle.filing.specs.declared.Entries.{Entries}
use Rattle.filing.specs.Slots.{places, blank_filed}

-- the rule's entry, with what is filed and the balance shown
abbrev pub RuleEntry : Type 0
RuleEntry = rule.Entry Filed Event ℕ

abbrev pub is_accepted : Verdict → Bool
is_accepted Accepted = true
is_accepted Rejected = false
is_accepted Held = false

abbrev pub is_held : Verdict → Bool
is_held Accepted = false
is_held Rejected = false
is_held Held = true

abbrev pub verdict_of : Verdict → rule.Verdict
verdict_of Accepted = rule.accept
verdict_of Rejected = rule.reject
verdict_of Held = rule.hold

abbrev pub verdict_in : rule.Verdict → Verdict
verdict_in rule.accept = Accepted
verdict_in rule.reject = Rejected
verdict_in rule.hold = Held

-- a weighing as the rule has it, and back; 0 stands for no reason
abbrev pub weighing_of : Weighing → rule.Weighing
weighing_of w = record { verdict = verdict_of w.verdict; weighed = w.weighed; reason = reason_from w.reason }

abbrev pub weighing_in : rule.Weighing → Weighing
weighing_in w = record { verdict = verdict_in w.verdict; weighed = w.weighed; reason = reason_byte w.reason }

-- the rule's entry as a value
abbrev pub entry_of : RuleEntry → Entry
entry_of (rule.voted t g e w) = record { transaction = t; filed = g; told = Voted e (weighing_in w) }
entry_of (rule.noted t g) = record { transaction = t; filed = g; told = Noted }
entry_of (rule.applied t g e b) = record { transaction = t; filed = g; told = Applied e b }
entry_of (rule.dropped t g e) = record { transaction = t; filed = g; told = Dropped e }

-- the entries of one call are its own, one for each event in progress and one for each request held, at most; a place that no entry takes is the blank one
abbrev pub most : ℕ
most = 1 + places + places

abbrev pub blank_entry : Entry
blank_entry = record { transaction = 0; filed = blank_filed; told = Noted }

unfoldable pub entries_of : List RuleEntry → Entries
entries_of xs = record { at = map entry_of xs ++ replicate (most - length xs) blank_entry; count = length xs }

abbrev pub only_entry : Entry → Entries
only_entry x = record { at = x ∷ replicate (most - 1) blank_entry; count = 1 }

-- one entry more, the newest; where no place is left there is none
abbrev pub pushed : Entries → Entry → Entries
pushed xs x = cond (ltb xs.count most) (record { at = set xs.at xs.count x; count = xs.count + 1 }) xs
