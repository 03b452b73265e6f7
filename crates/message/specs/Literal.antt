-- The words in which messages are told, each said a second time in numbers and lists (docs/REGISTER.md, 8.1), and what reader and writer give, test by test and whatever else holds (10.1):
-- a word that stands in a statement cannot be changed with it.
-- Assumes nothing.
use Rattle.std.specs.Prelude.{ℕ, ◌+◌, ◌*◌, ◌≤◌, ◌<◌, ◌≡◌, ◌↔◌, ◌⊎◌, List, [], ◌∷◌, ◌++◌, map, length, get_or, drop, Ok, Err}
use Rattle.std.proofs.Math.Option.{none, some}
use Rattle.events.specs.declared.Event.TheVariants.{Open, Withdraw, Deposit, Close}
use Rattle.refusal.specs.Numbers.{numbered}
use Rattle.message.specs.declared.Heading.{Heading}
use Rattle.message.specs.declared.Message.{Message}
use Rattle.message.specs.declared.Message.TheVariants.{Request, Commit, Abort}
use Rattle.message.specs.declared.kinds.Kind.{Kind}
use Rattle.message.specs.declared.kinds.Kind.TheVariants as Kind'
use Rattle.message.specs.Kinds.{number_in, kind_numbered}
use Rattle.message.specs.Bytes.{kind_of, heading_of, amount_in, bytes_of_message, length_of_message}
use Rattle.message.specs.Answers.{read_of, write_of}
use Rattle.message.specs.Plain.{of_each_kind, length_in, taken, heading_in, Stands}
use Rattle.message.specs.Refusals.{kind_length}

-- a message of each kind: its kind, its heading, its amount, its length
pub record KindsLiteral (h : Heading) (a : ℕ) : Type 0 where
  pub each : of_each_kind h a ≡ Request h (Open a) ∷ Request h (Withdraw a) ∷ Request h (Deposit a) ∷ Request h Close ∷ Commit h ∷ Abort h ∷ []
  pub kinds : map kind_of (Request h (Open a) ∷ Request h (Withdraw a) ∷ Request h (Deposit a) ∷ Request h Close ∷ Commit h ∷ Abort h ∷ []) ≡ 1 ∷ 2 ∷ 3 ∷ 4 ∷ 5 ∷ 6 ∷ []
  pub headings : map heading_of (Request h (Open a) ∷ Request h (Withdraw a) ∷ Request h (Deposit a) ∷ Request h Close ∷ Commit h ∷ Abort h ∷ []) ≡ h ∷ h ∷ h ∷ h ∷ h ∷ h ∷ []
  pub amounts : map amount_in (Request h (Open a) ∷ Request h (Withdraw a) ∷ Request h (Deposit a) ∷ Request h Close ∷ Commit h ∷ Abort h ∷ []) ≡ a ∷ a ∷ a ∷ 0 ∷ 0 ∷ 0 ∷ []
  pub lengths : map length_in (Request h (Open a) ∷ Request h (Withdraw a) ∷ Request h (Deposit a) ∷ Request h Close ∷ Commit h ∷ Abort h ∷ []) ≡ 15 ∷ 15 ∷ 15 ∷ 11 ∷ 11 ∷ 11 ∷ []
  pub by_kind : map kind_length (1 ∷ 2 ∷ 3 ∷ 4 ∷ 5 ∷ 6 ∷ []) ≡ 15 ∷ 15 ∷ 15 ∷ 11 ∷ 11 ∷ 11 ∷ []
  pub taken' : (m : Message) (whole : ℕ) → taken m whole ≡ record { refusal = none; consumed = whole; message = some m }

-- the six numbers of kinds, and back; every other number is of no kind
pub record NumbersLiteral : Type 0 where
  pub numbers : map number_in (Kind'.Open ∷ Kind'.Withdraw ∷ Kind'.Deposit ∷ Kind'.Close ∷ Kind'.Commit ∷ Kind'.Abort ∷ []) ≡ 1 ∷ 2 ∷ 3 ∷ 4 ∷ 5 ∷ 6 ∷ []
  pub back : (kind : Kind) → kind_numbered (number_in kind) ≡ Ok kind
  pub none : (number : ℕ) → (number ≡ 0) ⊎ (6 < number) → kind_numbered number ≡ Err (numbered 2)

-- the heading in the bytes of a message: transaction, account, second
abbrev pub HeadingLiteral : Type 0
HeadingLiteral =
    (kind t₁ t₂ t₃ t₄ a₁ a₂ s₁ s₂ s₃ s₄ : ℕ) (rest : List ℕ)
    → heading_in (kind ∷ t₁ ∷ t₂ ∷ t₃ ∷ t₄ ∷ a₁ ∷ a₂ ∷ s₁ ∷ s₂ ∷ s₃ ∷ s₄ ∷ rest)
    ≡ record {
      transaction = t₁ * 16_777_216 + t₂ * 65_536 + t₃ * 256 + t₄;
      account = a₁ * 256 + a₂;
      filed = record { second = s₁ * 16_777_216 + s₂ * 65_536 + s₃ * 256 + s₄ };
    }

-- a message that stands in bytes: its kind, its heading, and its amount from 11 on
pub record StandsLiteral (bytes : List ℕ) (h : Heading) (a : ℕ) : Type 0 where
  pub opens : Stands bytes (Request h (Open a))
      ↔ ((get_or bytes 0 0 ≡ 1) × (heading_in bytes ≡ h) × (get_or bytes 11 0 * 16_777_216 + get_or bytes 12 0 * 65_536 + get_or bytes 13 0 * 256 + get_or bytes 14 0 ≡ a))
  pub withdraws : Stands bytes (Request h (Withdraw a))
      ↔ ((get_or bytes 0 0 ≡ 2) × (heading_in bytes ≡ h) × (get_or bytes 11 0 * 16_777_216 + get_or bytes 12 0 * 65_536 + get_or bytes 13 0 * 256 + get_or bytes 14 0 ≡ a))
  pub deposits : Stands bytes (Request h (Deposit a))
      ↔ ((get_or bytes 0 0 ≡ 3) × (heading_in bytes ≡ h) × (get_or bytes 11 0 * 16_777_216 + get_or bytes 12 0 * 65_536 + get_or bytes 13 0 * 256 + get_or bytes 14 0 ≡ a))
  pub closes : Stands bytes (Request h Close) ↔ ((get_or bytes 0 0 ≡ 4) × (heading_in bytes ≡ h))
  pub commits : Stands bytes (Commit h) ↔ ((get_or bytes 0 0 ≡ 5) × (heading_in bytes ≡ h))
  pub aborts : Stands bytes (Abort h) ↔ ((get_or bytes 0 0 ≡ 6) × (heading_in bytes ≡ h))

-- the reader's refusals: no byte; a kind that is none, however few bytes follow; too few bytes, whatever they are; an account above 15 in a whole message
pub record ReaderLiteral (kind : ℕ) (rest : List ℕ) : Type 0 where
  pub empty : read_of [] ≡ Err (numbered 1)
  pub unknown : (kind ≡ 0) ⊎ (6 < kind) → read_of (kind ∷ rest) ≡ Err (numbered 2)
  pub short_amount : 1 ≤ kind → kind ≤ 3 → length rest < 14 → read_of (kind ∷ rest) ≡ Err (numbered 1)
  pub short : 4 ≤ kind → kind ≤ 6 → length rest < 10 → read_of (kind ∷ rest) ≡ Err (numbered 1)
  pub elsewhere_amount : (t₁ t₂ t₃ t₄ a₁ a₂ : ℕ) → 1 ≤ kind → kind ≤ 3 → 8 ≤ length rest → 15 < a₁ * 256 + a₂ → read_of (kind ∷ t₁ ∷ t₂ ∷ t₃ ∷ t₄ ∷ a₁ ∷ a₂ ∷ rest) ≡ Err (numbered 3)
  pub elsewhere : (t₁ t₂ t₃ t₄ a₁ a₂ : ℕ) → 4 ≤ kind → kind ≤ 6 → 4 ≤ length rest → 15 < a₁ * 256 + a₂ → read_of (kind ∷ t₁ ∷ t₂ ∷ t₃ ∷ t₄ ∷ a₁ ∷ a₂ ∷ rest) ≡ Err (numbered 3)

-- the writer: 3 for an account above 15, whatever the buffer is; 4 in a buffer that is shorter than the message; else its bytes, how many they are, and the rest of the buffer as it was
pub record WriterLiteral (m : Message) (buffer : List ℕ) : Type 0 where
  pub elsewhere : 15 < (heading_of m).account → write_of m buffer ≡ record { answer = Err (numbered 3); buffer = buffer }
  pub roomless : (heading_of m).account ≤ 15 → length buffer < length_of_message m → write_of m buffer ≡ record { answer = Err (numbered 4); buffer = buffer }
  pub written : (heading_of m).account ≤ 15 → length_of_message m ≤ length buffer
      → write_of m buffer ≡ record { answer = Ok (length (bytes_of_message m)); buffer = bytes_of_message m ++ drop (length (bytes_of_message m)) buffer }

pub record LiteralHolds : Type 0 where
  pub numbers : NumbersLiteral
  pub kinds : (h : Heading) (a : ℕ) → KindsLiteral h a
  pub heading : HeadingLiteral
  pub stands : (bytes : List ℕ) (h : Heading) (a : ℕ) → StandsLiteral bytes h a
  pub reader : (kind : ℕ) (rest : List ℕ) → ReaderLiteral kind rest
  pub writer : (m : Message) (buffer : List ℕ) → WriterLiteral m buffer
