-- Reader and writer of messages are inverse (docs/REGISTER.md, 8.3 and 13.2).
-- Assumes nothing.
use Rattle.std.specs.Prelude.{ℕ, ◌≤◌, ◌<◌, ◌^◌, ◌≡◌, List, ◌++◌, take, Ok}
use Rattle.layout.specs.Number.{AreBytes}
use Rattle.layout.specs.Fields.{last_account}
use Rattle.layout.specs.Heading.{FiledFits}
use Rattle.message.specs.declared.Message.{Message}
use Rattle.message.specs.Bytes.{heading_of, amount_in, bytes_of_message, length_of_message}
use Rattle.message.specs.Answers.{read_of}

-- the message's account is one of the register's, and its numbers fit their bytes
pub record Writable (m : Message) : Type 0 where
  pub transaction : (heading_of m).transaction < 256 ^ 4
  pub account : (heading_of m).account ≤ last_account
  pub filed : FiledFits (heading_of m).filed
  pub amount : amount_in m < 256 ^ 4

-- reading what was written gives the message and its length, whatever bytes follow
abbrev pub ReadsWritten : Type 0
ReadsWritten = (m : Message) (rest : List ℕ) → Writable m → read_of (bytes_of_message m ++ rest) ≡ Ok (m, length_of_message m)

-- what was read: its bytes are those that were read, its length is its own, and it can be written
pub record Read (bytes : List ℕ) (m : Message) (whole : ℕ) : Type 0 where
  pub bytes' : take whole bytes ≡ bytes_of_message m
  pub length' : whole ≡ length_of_message m
  pub writable : Writable m

-- writing what was read gives the bytes back, for every byte string
abbrev pub WritesRead : Type 0
WritesRead = (bytes : List ℕ) (m : Message) (whole : ℕ) → AreBytes bytes → read_of bytes ≡ Ok (m, whole) → Read bytes m whole
