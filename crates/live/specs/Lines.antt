-- The line of an entry that is given by its bytes (docs/REGISTER.md, 15.9).
-- Assumes nothing.
use Rattle.std.specs.Prelude.{ℕ, List, Option, Some, None, Result, Ok, Err}
use Rattle.refusal.specs.declared.Refusal.{Refusal}
use Rattle.entry.specs.declared.Found.{Found}
use Rattle.entry.specs.Answers.{read_of}
use Rattle.text.specs.Text.{write_line_of}
use Rattle.live.specs.declared.lines.Lined.{Lined}

-- how many bytes the entry has and how many its line, if there is one, and every byte of the buffer
pub record Line : Type 0 where
  pub lined : Option Lined
  pub buffer : List ℕ

abbrev pub no_line : List ℕ → Line
no_line buffer = record { lined = None; buffer = buffer }

-- what the writer of lines gives for an entry of so many bytes: its line, or none where there is too little room
abbrev pub line_written : (whole : ℕ) → Result ℕ Refusal → (left : List ℕ) → Line
line_written whole (Ok n) left = record { lined = Some (record { entry = whole; line = n }); buffer = left }
line_written whole (Err refusal) left = no_line left

abbrev pub line_found : (buffer : List ℕ) → Option (Found × ℕ) → Line
line_found buffer None = no_line buffer
line_found buffer (Some (found, whole)) =
    line_written whole (write_line_of found.entry found.kind found.account buffer).answer (write_line_of found.entry found.kind found.account buffer).buffer

unfoldable pub line_of_entry : (bytes buffer : List ℕ) → Line
line_of_entry bytes buffer = line_found buffer (read_of bytes)
