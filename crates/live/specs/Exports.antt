-- What a caller from outside gets of a call and of the outcome question, the number of the refusal or 0, and of an entry's line its length; the rest through what it lends
-- (docs/REGISTER.md, 15.8 and 15.9).
-- Assumes nothing.
use Rattle.std.specs.Prelude.{ℕ, List, [], ◌∷◌, Option, Some, None, Result, Ok, Err}
use Rattle.std.proofs.lemmas.List.Edits.{sets}
use Rattle.events.specs.declared.State.{State}
use Rattle.refusal.specs.declared.Refusal.{Refusal}
use Rattle.refusal.specs.Numbers.{number_of}
use Rattle.account.specs.declared.Outlook.{Outlook}
use Rattle.image.specs.Words.{life_word}
use Rattle.register.specs.Call.{consumed_of, written_of}
use Rattle.register.specs.Run.{reply_number}
use Rattle.live.specs.Live.{Live}
use Rattle.live.specs.declared.lines.Lined.{Lined}
use Rattle.live.specs.Lines.{Line}

pub record ExportedCall : Type 0 where
  pub answer : ℕ
  pub image : List ℕ
  pub entries : List ℕ
  pub counts : List ℕ

-- the bytes of the message and those of the entries over the first places for counts, as many as there are
abbrev pub exported_call : Live → (counts : List ℕ) → ExportedCall
exported_call live counts =
    record {
      answer = reply_number live.reply;
      image = live.image;
      entries = live.buffer;
      counts = sets counts 0 (consumed_of live.reply ∷ written_of live.reply ∷ []);
    }

pub record ExportedLook : Type 0 where
  pub answer : ℕ
  pub state : List ℕ

-- life, balance, and the number of undecided events that are applied
abbrev pub state_words : State → (applied : ℕ) → List ℕ
state_words s applied = life_word s.life ∷ s.balance ∷ applied ∷ []

-- over the first places, as many as there are; a refusal stores nothing
abbrev pub exported_look : Result Outlook Refusal → (state : List ℕ) → ExportedLook
exported_look (Err refusal) state = record { answer = number_of refusal; state = state }
exported_look (Ok told) state = record { answer = 0; state = sets state 0 (state_words told.state told.applied) }

-- how many bytes an entry has, and how many its line: both 0 where there is no line
abbrev pub entry_in : Option Lined → ℕ
entry_in (Some lined) = lined.entry
entry_in None = 0

abbrev pub line_in : Option Lined → ℕ
line_in (Some lined) = lined.line
line_in None = 0

pub record ExportedLine : Type 0 where
  pub answer : ℕ
  pub line : List ℕ
  pub counts : List ℕ

-- the length of the line; the bytes of the entry and those of the line over the first places for counts, as many as there are
abbrev pub exported_line : Line → (counts : List ℕ) → ExportedLine
exported_line l counts = record { answer = line_in l.lined; line = l.buffer; counts = sets counts 0 (entry_in l.lined ∷ line_in l.lined ∷ []) }
