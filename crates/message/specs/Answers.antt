-- What the reader and the writer of messages answer (docs/REGISTER.md, 10.1 and 11.3).
-- Assumes nothing.
use Rattle.std.specs.Prelude.{ℕ, cond, List, eqb, ltb, length, Result, Ok, Err}
use Rattle.std.proofs.Math.Option.{Option, none, some}
use Rattle.refusal.specs.declared.Refusal.{Refusal}
use Rattle.refusal.specs.declared.Refusal.TheVariants.{Torn, UnknownKind, UnknownAccount, NoRoom}
use Rattle.refusal.specs.Numbers.{number_of}
use Rattle.layout.specs.Number.{number_at}
use Rattle.layout.specs.Fields.{KindRow, row_of_kind, last_account}
use Rattle.layout.specs.Reading.{Reader, read_fields, read_row}
use Rattle.layout.specs.Writes.{Wrote, wrote_over, refused_with}
use Rattle.message.specs.declared.Message.{Message}
use Rattle.message.specs.Bytes.{messages, heading_of, message_of, bytes_of_message, length_of_message}

-- what the reader's answer says: the number of its refusal, if it is one, how many bytes it consumed, 0 for a refusal, and the message
pub record SaidOfReading : Type 0 where
  pub refusal : Option ℕ
  pub consumed : ℕ
  pub message : Option Message

abbrev pub said_of_reading : Result (Message × ℕ) Refusal → SaidOfReading
said_of_reading (Ok r) = record { refusal = none; consumed = r.1; message = some r.0 }
said_of_reading (Err r) = record { refusal = some (number_of r); consumed = 0; message = none }

-- 2: no message has this kind; 1: bytes are missing; 3: the register has no such account
abbrev pub message_reader : Reader (Result (Message × ℕ) Refusal)
message_reader =
    record {
      unknown = Err UnknownKind;
      short = Err Torn;
      elsewhere = Err UnknownAccount;
      taken = λ (whole : ℕ) (numbers : List ℕ). Ok (message_of numbers, whole);
    }

abbrev pub read_numbers : (whole : ℕ) (numbers : List ℕ) → Result (Message × ℕ) Refusal
read_numbers whole numbers = read_fields message_reader whole numbers

abbrev pub read_kind : Option KindRow → (bytes : List ℕ) → Result (Message × ℕ) Refusal
read_kind found bytes = read_row message_reader found bytes

-- the reader: 1 where there is no byte; else the kind is looked at before the length, and both before the account (10.2)
unfoldable pub read_of : (bytes : List ℕ) → Result (Message × ℕ) Refusal
read_of bytes = cond (eqb (length bytes) 0) (Err Torn) (read_kind (row_of_kind messages (number_at bytes 0 1)) bytes)

-- the writer: the account is looked at before the buffer
unfoldable pub write_of : Message → (buffer : List ℕ) → Wrote
write_of m buffer =
    cond (ltb last_account (heading_of m).account) (refused_with UnknownAccount buffer)
    (cond (ltb (length buffer) (length_of_message m)) (refused_with NoRoom buffer) (wrote_over (bytes_of_message m) buffer))
