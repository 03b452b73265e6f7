-- The live calls of the first panel: the definitions, which are over any rule of the events, applied to it once.
-- Assumes nothing.
use Rattle.std.specs.Prelude.{ℕ, List, Result}
use Rattle.refusal.specs.declared.Refusal.{Refusal}
use Rattle.account.specs.declared.Outlook.{Outlook}
use Rattle.account.specs.First.{panel}
use Rattle.live.specs.Live.{Live, live_by, look_by}
use Rattle.live.specs.Keeping.{KeepingHoldsBy}
use Rattle.live.specs.Lines.{line_of_entry}
use Rattle.live.specs.Exports.{ExportedCall, exported_call, ExportedLook, exported_look, ExportedLine, exported_line}

abbrev pub live_of : (image bytes buffer : List ℕ) → Live
live_of image bytes buffer = live_by panel image bytes buffer

abbrev pub look_of : (image : List ℕ) (account number : ℕ) → Result Outlook Refusal
look_of image i n = look_by panel image i n

-- what is said of keeping a register as an image (15.6 and 15.7)
abbrev pub KeepingHolds : Type 0
KeepingHolds = KeepingHoldsBy panel

-- what is exported
abbrev pub exported_call_of : (image message entries counts : List ℕ) → ExportedCall
exported_call_of image message entries counts = exported_call (live_of image message entries) counts

abbrev pub exported_look_of : (image : List ℕ) (account number : ℕ) (state : List ℕ) → ExportedLook
exported_look_of image i n state = exported_look (look_of image i n) state

-- an entry's line, in which no rule has a say
abbrev pub exported_line_of : (entry line counts : List ℕ) → ExportedLine
exported_line_of entry line counts = exported_line (line_of_entry entry line) counts
