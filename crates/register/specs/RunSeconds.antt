-- The seconds never matter in a run (docs/REGISTER.md, 13.2, of what is exported): two byte strings whose messages, one after the other, differ only in their seconds.
-- Assumes nothing.
use Rattle.std.specs.Prelude.{ℕ, ◌≤◌, ◌≡◌, List, length, take, drop}
use Rattle.rule.specs.Rule.{Rule}
use Rattle.events.specs.declared.Event.{Event}
use Rattle.events.specs.declared.State.{State}
use Rattle.register.specs.Whole.{Whole}
use Rattle.register.specs.Seconds.{SameMessage, SameEntries}
use Rattle.register.specs.Run.{Run, run_by}

-- the messages that they begin with differ at most in the second, and so on behind each message that stands there whole
pub data SameMessages : (bytes bytes' : List ℕ) → Type 0 where
  same_messages : {bytes bytes' : List ℕ} → SameMessage bytes bytes'
      → ((whole : ℕ) → Whole bytes whole → whole ≤ length bytes → SameMessages (drop whole bytes) (drop whole bytes')) → SameMessages bytes bytes'

-- equal numbers, the same entries but for their seconds, and the rest of the buffers equal
pub record SameRun (x y : Run) : Type 0 where
  pub counts : x.counts ≡ y.counts
  pub entries : SameEntries (take x.counts.written x.entries) (take y.counts.written y.entries)
  pub rest : drop x.counts.written x.entries ≡ drop y.counts.written y.entries

abbrev pub RunSecondsNeverMatter : Rule State Event ℕ → Type 0
RunSecondsNeverMatter R = (bytes bytes' buffer : List ℕ) → SameMessages bytes bytes' → SameRun (run_by R bytes buffer) (run_by R bytes' buffer)
