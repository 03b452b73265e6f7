-- Messages as literal bytes (docs/REGISTER.md, 8.1 and 10.1): only a literal fixes kinds, lengths, the order of the fields and of the bytes in them.
-- One table with a row for each kind, no two bytes of a row alike but the account's first, which is 0; a table of refusals, each row the first test
-- that holds of several; one statement, which antt computes.
-- Assumes nothing.
use Rattle.std.specs.Prelude.{ℕ, ◌≡◌, List, [], ◌∷◌, ◌++◌, map, replicate}
use Rattle.std.proofs.Math.Option.{none, some}
use Rattle.events.specs.declared.Event.TheVariants.{Open, Withdraw, Deposit, Close}
use Rattle.layout.specs.Writes as Writing'
use Rattle.message.specs.declared.Heading.{Heading}
use Rattle.message.specs.declared.Message.{Message}
use Rattle.message.specs.declared.Message.TheVariants.{Request, Commit, Abort}
use Rattle.message.specs.Bytes.{bytes_of_message}
use Rattle.message.specs.Answers.{SaidOfReading, said_of_reading, read_of, write_of}

-- a buffer to write into: 17 bytes, no two alike and none that a message of the table has
abbrev pub buffer : List ℕ
buffer =
    0xe0 ∷ 0xe1 ∷ 0xe2 ∷ 0xe3 ∷ 0xe4 ∷ 0xe5 ∷ 0xe6 ∷ 0xe7 ∷ 0xe8 ∷ 0xe9 ∷ 0xea ∷ 0xeb ∷ 0xec ∷ 0xed ∷ 0xee ∷ 0xef ∷ 0xf0 ∷ []

-- a row: a message, its length, its bytes, and the buffer's bytes that are left behind them
pub record Vector : Type 0 where
  pub message : Message
  pub length' : ℕ
  pub bytes : List ℕ
  pub behind : List ℕ

abbrev pub vector : Message → (length' : ℕ) (bytes behind : List ℕ) → Vector
vector message length' bytes behind = record { message = message; length' = length'; bytes = bytes; behind = behind }

abbrev pub heading : (transaction account second : ℕ) → Heading
heading transaction account second = record { transaction = transaction; account = account; filed = record { second = second } }

unfoldable pub table : List Vector
table =
    vector (Request (heading 0x1a2b3c4d 0x0f 0x5e6f7081) (Open 0x92a3b4c5)) 15
    (0x01 ∷ 0x1a ∷ 0x2b ∷ 0x3c ∷ 0x4d ∷ 0x00 ∷ 0x0f ∷ 0x5e ∷ 0x6f ∷ 0x70 ∷ 0x81 ∷ 0x92 ∷ 0xa3 ∷ 0xb4 ∷ 0xc5 ∷ [])
    (0xef ∷ 0xf0 ∷ [])
    ∷
    vector (Request (heading 0x1b2c3d4e 0x0e 0x5f607182) (Withdraw 0x93a4b5c6)) 15
    (0x02 ∷ 0x1b ∷ 0x2c ∷ 0x3d ∷ 0x4e ∷ 0x00 ∷ 0x0e ∷ 0x5f ∷ 0x60 ∷ 0x71 ∷ 0x82 ∷ 0x93 ∷ 0xa4 ∷ 0xb5 ∷ 0xc6 ∷ [])
    (0xef ∷ 0xf0 ∷ [])
    ∷
    vector (Request (heading 0x1c2d3e4f 0x0d 0x50617283) (Deposit 0x94a5b6c7)) 15
    (0x03 ∷ 0x1c ∷ 0x2d ∷ 0x3e ∷ 0x4f ∷ 0x00 ∷ 0x0d ∷ 0x50 ∷ 0x61 ∷ 0x72 ∷ 0x83 ∷ 0x94 ∷ 0xa5 ∷ 0xb6 ∷ 0xc7 ∷ [])
    (0xef ∷ 0xf0 ∷ [])
    ∷
    vector (Request (heading 0x1d2e3f40 0x0c 0x51627384) Close) 11
    (0x04 ∷ 0x1d ∷ 0x2e ∷ 0x3f ∷ 0x40 ∷ 0x00 ∷ 0x0c ∷ 0x51 ∷ 0x62 ∷ 0x73 ∷ 0x84 ∷ [])
    (0xeb ∷ 0xec ∷ 0xed ∷ 0xee ∷ 0xef ∷ 0xf0 ∷ [])
    ∷
    vector (Commit (heading 0x1e2f3041 0x0b 0x52637485)) 11
    (0x05 ∷ 0x1e ∷ 0x2f ∷ 0x30 ∷ 0x41 ∷ 0x00 ∷ 0x0b ∷ 0x52 ∷ 0x63 ∷ 0x74 ∷ 0x85 ∷ [])
    (0xeb ∷ 0xec ∷ 0xed ∷ 0xee ∷ 0xef ∷ 0xf0 ∷ [])
    ∷
    vector (Abort (heading 0x1f203142 0x0a 0x53647586)) 11
    (0x06 ∷ 0x1f ∷ 0x20 ∷ 0x31 ∷ 0x42 ∷ 0x00 ∷ 0x0a ∷ 0x53 ∷ 0x64 ∷ 0x75 ∷ 0x86 ∷ [])
    (0xeb ∷ 0xec ∷ 0xed ∷ 0xee ∷ 0xef ∷ 0xf0 ∷ [])
    ∷
    []

-- what a row comes to: the message's bytes, what the writer answers and leaves of the buffer, what the reader answers to what was left
pub record Found : Type 0 where
  pub bytes : List ℕ
  pub answer : Writing'.SaidOfWriting
  pub left : List ℕ
  pub reading : SaidOfReading

abbrev pub found : Vector → Found
found v =
    record {
      bytes = bytes_of_message v.message;
      answer = Writing'.said_of_writing (write_of v.message buffer).answer;
      left = (write_of v.message buffer).buffer;
      reading = said_of_reading (read_of (v.bytes ++ v.behind));
    }

abbrev pub said : Vector → Found
said v =
    record {
      bytes = v.bytes;
      answer = record { refusal = none; length' = v.length' };
      left = v.bytes ++ v.behind;
      reading = record { refusal = none; consumed = v.length'; message = some v.message };
    }

-- a row of the reader's refusals: the bytes, and the number given
pub record Unread : Type 0 where
  pub bytes : List ℕ
  pub number : ℕ

abbrev pub unread : (bytes : List ℕ) (number : ℕ) → Unread
unread bytes number = record { bytes = bytes; number = number }

-- empty; kinds below and above; requests one byte short, of account 16; accounts 16, and 256 whose second byte is 0
unfoldable pub unreads : List Unread
unreads =
    unread [] 1 ∷
    unread (0 ∷ []) 2 ∷
    unread (7 ∷ 1 ∷ 2 ∷ []) 2 ∷
    unread (1 ∷ []) 1 ∷
    unread (3 ∷ 0 ∷ 0 ∷ 0 ∷ 1 ∷ 0 ∷ 16 ∷ 0 ∷ 0 ∷ 0 ∷ 2 ∷ 0 ∷ 0 ∷ 0 ∷ []) 1 ∷
    unread (6 ∷ 0 ∷ 0 ∷ 0 ∷ 1 ∷ 0 ∷ 16 ∷ 0 ∷ 0 ∷ 0 ∷ []) 1 ∷
    unread (3 ∷ 0 ∷ 0 ∷ 0 ∷ 1 ∷ 0 ∷ 16 ∷ 0 ∷ 0 ∷ 0 ∷ 2 ∷ 0 ∷ 0 ∷ 0 ∷ 3 ∷ []) 3 ∷
    unread (6 ∷ 0 ∷ 0 ∷ 0 ∷ 1 ∷ 1 ∷ 0 ∷ 0 ∷ 0 ∷ 0 ∷ 2 ∷ []) 3 ∷
    []

-- a row of the writer's refusals: the message, the length of a buffer of nines, and the number given
pub record Unwritten : Type 0 where
  pub message : Message
  pub room : ℕ
  pub number : ℕ

abbrev pub unwritten : Message → (room number : ℕ) → Unwritten
unwritten message room number = record { message = message; room = room; number = number }

unfoldable pub unwrittens : List Unwritten
unwrittens =
    unwritten (Commit (heading 1 16 2)) 0 3 ∷
    unwritten (Request (heading 1 16 2) (Deposit 3)) 15 3 ∷
    unwritten (Request (heading 1 15 2) (Deposit 3)) 14 4 ∷
    unwritten (Abort (heading 1 0 2)) 10 4 ∷
    []

pub record VectorsHold : Type 0 where
  pub messages : map found table ≡ map said table
  pub readings : map (λ (u : Unread). said_of_reading (read_of u.bytes)) unreads
      ≡ map (λ (u : Unread). record { refusal = some u.number; consumed = 0; message = none }) unreads
  pub answers : map (λ (u : Unwritten). Writing'.said_of_writing (write_of u.message (replicate u.room 9)).answer) unwrittens
      ≡ map (λ (u : Unwritten). record { refusal = some u.number; length' = 0 }) unwrittens
  pub buffers : map (λ (u : Unwritten). (write_of u.message (replicate u.room 9)).buffer) unwrittens
      ≡ map (λ (u : Unwritten). replicate u.room 9) unwrittens
