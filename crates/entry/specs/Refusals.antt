-- When the writer of a call's entries refuses, and what it leaves (docs/REGISTER.md, 10.1 and 11.4).
-- Assumes nothing.
use Rattle.std.specs.Prelude.{ℕ, ◌≡◌, List, [], ◌∷◌, ltb, length, Option}
use Rattle.rule.specs.Tests.{test, first_of}
use Rattle.filing.specs.declared.Entry.{Entry}
use Rattle.layout.specs.Writes.{said_of_writing, Stays}
use Rattle.entry.specs.declared.Found.{Found}
use Rattle.entry.specs.Answers as Answers'
use Rattle.entry.specs.Answers.{write_of}
use Rattle.entry.specs.Plain.{lengths_in}

-- 4 exactly if the buffer has less than 323 bytes, or if the entries do not fit; of the entries of a call the latter never holds (Longest)
abbrev pub WriterRefuses : Type 0
WriterRefuses =
    (entries : List Entry) (account : ℕ) (buffer : List ℕ)
    → (said_of_writing (write_of entries account buffer).answer).refusal
    ≡ first_of (test (ltb (length buffer) 323) 4 ∷ test (ltb (length buffer) (lengths_in entries)) 4 ∷ [])

abbrev pub WriterStays : Type 0
WriterStays = (entries : List Entry) (account : ℕ) (buffer : List ℕ) → Stays buffer (write_of entries account buffer)

-- what is said of the reader's answer tells the answers apart
abbrev pub ReadingsApart : Type 0
ReadingsApart = (r s : Option (Found × ℕ)) → Answers'.said_of_entry r ≡ Answers'.said_of_entry s → r ≡ s
