-- What the reader takes from the bytes and what the writer leaves in the buffer, field by field in plain numbers (docs/REGISTER.md, 8.1):
-- the definitions of messages said a second time, from outside, for every byte string and every message.
-- Assumes nothing.
use Rattle.std.specs.Prelude.{ℕ, ◌≤◌, ◌≡◌, ◌↔◌, List, [], ◌∷◌, ◌++◌, map, length, get_or}
use Rattle.std.proofs.Math.Option.{none, some}
use Rattle.events.specs.declared.Event.TheVariants.{Open, Withdraw, Deposit, Close}
use Rattle.layout.specs.Plain.{two_at, four_at, four_of, filed_in, heading_bytes}
use Rattle.layout.specs.Writes as Writing'
use Rattle.message.specs.declared.Heading.{Heading}
use Rattle.message.specs.declared.Message.{Message}
use Rattle.message.specs.declared.Message.TheVariants.{Request, Commit, Abort}
use Rattle.message.specs.Bytes.{heading_of, amount_in, bytes_of_message, length_of_message}
use Rattle.message.specs.Answers.{SaidOfReading, said_of_reading, read_of, write_of}
use Rattle.message.specs.Inverse.{Writable}

-- a message of each kind, in the order of the kinds 1 to 6
abbrev pub of_each_kind : Heading → (amount : ℕ) → List Message
of_each_kind h a = Request h (Open a) ∷ Request h (Withdraw a) ∷ Request h (Deposit a) ∷ Request h Close ∷ Commit h ∷ Abort h ∷ []

-- whatever the numbers are: the bytes of each message, its length, its heading and its amount
pub record Plain (h : Heading) (a : ℕ) : Type 0 where
  pub bytes : let heading = heading_bytes h.transaction h.account h.filed in
      map bytes_of_message (of_each_kind h a)
      ≡ (1 ∷ (heading ++ four_of a)) ∷ (2 ∷ (heading ++ four_of a)) ∷ (3 ∷ (heading ++ four_of a)) ∷ (4 ∷ heading) ∷ (5 ∷ heading) ∷ (6 ∷ heading) ∷ []
  pub lengths : map length_of_message (of_each_kind h a) ≡ 15 ∷ 15 ∷ 15 ∷ 11 ∷ 11 ∷ 11 ∷ []
  pub headings : map heading_of (of_each_kind h a) ≡ h ∷ h ∷ h ∷ h ∷ h ∷ h ∷ []
  pub amounts : map amount_in (of_each_kind h a) ≡ a ∷ a ∷ a ∷ 0 ∷ 0 ∷ 0 ∷ []

abbrev pub MessagesPlain : Type 0
MessagesPlain = (h : Heading) (a : ℕ) → Plain h a

-- 15 bytes with an amount, 11 without
abbrev pub length_in : Message → ℕ
length_in (Request h (Open a)) = 15
length_in (Request h (Withdraw a)) = 15
length_in (Request h (Deposit a)) = 15
length_in (Request h Close) = 11
length_in (Commit h) = 11
length_in (Abort h) = 11

-- the answer of a reader that took a message of that length
abbrev pub taken : Message → (whole : ℕ) → SaidOfReading
taken m whole = record { refusal = none; consumed = whole; message = some m }

-- the heading in the bytes
abbrev pub heading_in : (bytes : List ℕ) → Heading
heading_in bytes = record { transaction = four_at bytes 1; account = two_at bytes 5; filed = filed_in bytes }

-- kind, heading and amount in the bytes are those of the message
abbrev pub Stands : (bytes : List ℕ) → Message → Type 0
Stands bytes (Request h (Open a)) = (get_or bytes 0 0 ≡ 1) × (heading_in bytes ≡ h) × (four_at bytes 11 ≡ a)
Stands bytes (Request h (Withdraw a)) = (get_or bytes 0 0 ≡ 2) × (heading_in bytes ≡ h) × (four_at bytes 11 ≡ a)
Stands bytes (Request h (Deposit a)) = (get_or bytes 0 0 ≡ 3) × (heading_in bytes ≡ h) × (four_at bytes 11 ≡ a)
Stands bytes (Request h Close) = (get_or bytes 0 0 ≡ 4) × (heading_in bytes ≡ h)
Stands bytes (Commit h) = (get_or bytes 0 0 ≡ 5) × (heading_in bytes ≡ h)
Stands bytes (Abort h) = (get_or bytes 0 0 ≡ 6) × (heading_in bytes ≡ h)

pub record Begins (bytes : List ℕ) (m : Message) (whole : ℕ) : Type 0 where
  pub stands : Stands bytes m
  pub account : two_at bytes 5 ≤ 15
  pub length' : whole ≡ length_in m
  pub enough : whole ≤ length bytes

-- a message is taken exactly if the bytes begin with it
abbrev pub ReaderTakes : Type 0
ReaderTakes = (bytes : List ℕ) (m : Message) (whole : ℕ) → (said_of_reading (read_of bytes) ≡ taken m whole) ↔ Begins bytes m whole

-- what was written is there to be read: the answer is the message's length, and the buffer begins with the message
pub record Leaves (m : Message) (buffer : List ℕ) : Type 0 where
  pub answer : Writing'.said_of_writing (write_of m buffer).answer ≡ record { refusal = none; length' = length_in m }
  pub back : said_of_reading (read_of (write_of m buffer).buffer) ≡ taken m (length_in m)

abbrev pub WriterReadBack : Type 0
WriterReadBack = (m : Message) (buffer : List ℕ) → Writable m → length_in m ≤ length buffer → Leaves m buffer
