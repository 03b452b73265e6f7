-- When the reader and the writer refuse: the tests of each in their order (docs/REGISTER.md, 10.1).
-- Assumes nothing.
use Rattle.std.specs.Prelude.{ℕ, ◌≡◌, cond, not, ◌&&◌, List, [], ◌∷◌, eqb, leb, ltb, length, get_or, Result}
use Rattle.refusal.specs.declared.Refusal.{Refusal}
use Rattle.rule.specs.Tests.{Test, test, first_of}
use Rattle.layout.specs.Fields.{row_of_kind, whole_of}
use Rattle.layout.specs.Plain.{two_at}
use Rattle.layout.specs.Writes as Writes'
use Rattle.layout.specs.Writes.{Stays}
use Rattle.message.specs.declared.Message.{Message}
use Rattle.message.specs.Bytes.{messages, heading_of}
use Rattle.message.specs.Answers.{said_of_reading, read_of, write_of}
use Rattle.message.specs.Plain.{length_in}

-- kinds 1 to 3 have 15 bytes, 4 to 6 have 11, and there are no others
abbrev pub kind_length : (kind : ℕ) → ℕ
kind_length kind = cond (leb kind 3) 15 11

abbrev pub LengthsPlain : Type 0
LengthsPlain = (kind : ℕ) → whole_of (row_of_kind messages kind) ≡ cond (leb 1 kind && leb kind 6) (kind_length kind) 0

-- the reader: 1, 2, 1 and 3, in plain numbers; the kind is the first byte, the account the sixth and the seventh
abbrev pub reader_tests : (bytes : List ℕ) → List Test
reader_tests bytes =
    test (eqb (length bytes) 0) 1 ∷
    test (not (leb 1 (get_or bytes 0 0) && leb (get_or bytes 0 0) 6)) 2 ∷
    test (ltb (length bytes) (kind_length (get_or bytes 0 0))) 1 ∷
    test (ltb 15 (two_at bytes 5)) 3 ∷
    []

-- the writer: 3, 4
abbrev pub writer_tests : Message → (buffer : List ℕ) → List Test
writer_tests m buffer = test (ltb 15 (heading_of m).account) 3 ∷ test (ltb (length buffer) (length_in m)) 4 ∷ []

-- each number exactly if its test is the first that holds
abbrev pub ReaderRefuses : Type 0
ReaderRefuses = (bytes : List ℕ) → (said_of_reading (read_of bytes)).refusal ≡ first_of (reader_tests bytes)

abbrev pub WriterRefuses : Type 0
WriterRefuses = (m : Message) (buffer : List ℕ) → (Writes'.said_of_writing (write_of m buffer).answer).refusal ≡ first_of (writer_tests m buffer)

abbrev pub WriterStays : Type 0
WriterStays = (m : Message) (buffer : List ℕ) → Stays buffer (write_of m buffer)

-- what is said of the reader's answer tells the answers apart
abbrev pub ReadingsApart : Type 0
ReadingsApart = (r s : Result (Message × ℕ) Refusal) → said_of_reading r ≡ said_of_reading s → r ≡ s
