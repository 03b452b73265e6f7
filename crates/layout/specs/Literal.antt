-- The words in which bytes are told, each said a second time in cells, over all numbers and wherever they stand (docs/REGISTER.md, 8.1 and 9.1): numbers of 2 and of 4 bytes, the heading, what
-- is filed, a row of a table of kinds, a buffer that begins with bytes. A word that stands in a statement cannot be changed with it.
-- Assumes nothing.
use Rattle.std.specs.Prelude.{ℕ, ◌+◌, ◌*◌, ◌/◌, ◌%◌, ◌<◌, ◌≡◌, List, [], ◌∷◌, ◌++◌, length, take, drop, Ok, Err}
use Rattle.std.proofs.Math.Option.{none, some}
use Rattle.refusal.specs.declared.Refusal.{Refusal}
use Rattle.layout.specs.Number.{bytes_of, number_at}
use Rattle.layout.specs.Fields.{written, numbers_at, total, heading, last_account, KindRow, kind_row, row_of_kind, whole_of, then_of, widths_of}
use Rattle.layout.specs.Heading.{heading_numbers, filed_from, FiledFits}
use Rattle.layout.specs.Writes.{laid_over, wrote_over, refused_with}
use Rattle.layout.specs.Plain.{two_at, four_at, two_of, four_of, filed_in, heading_bytes}

-- a number among other bytes, highest byte first, and its bytes
pub record NumberLiteral (before after : List ℕ) (a b c d n : ℕ) : Type 0 where
  pub two : two_at (before ++ (a ∷ b ∷ after)) (length before) ≡ 256 * a + b
  pub four : four_at (before ++ (a ∷ b ∷ c ∷ d ∷ after)) (length before) ≡ 16_777_216 * a + 65_536 * b + 256 * c + d
  pub two_bytes : two_of n ≡ n / 256 % 256 ∷ n % 256 ∷ []
  pub four_bytes : four_of n ≡ n / 16_777_216 % 256 ∷ n / 65_536 % 256 ∷ n / 256 % 256 ∷ n % 256 ∷ []

-- kind, transaction, account and second: as numbers, as widths, as bytes; and the second in the numbers and in the bytes
pub record HeadingLiteral (k t a s : ℕ) : Type 0 where
  pub numbers : heading_numbers k t a (record { second = s }) ≡ k ∷ t ∷ a ∷ s ∷ []
  pub widths : heading ≡ 1 ∷ 4 ∷ 2 ∷ 4 ∷ []
  pub bytes : heading_bytes t a (record { second = s })
      ≡ t / 16_777_216 % 256 ∷ t / 65_536 % 256 ∷ t / 256 % 256 ∷ t % 256 ∷
      a / 256 % 256 ∷ a % 256 ∷
      s / 16_777_216 % 256 ∷ s / 65_536 % 256 ∷ s / 256 % 256 ∷ s % 256 ∷ []
  pub from_numbers : (rest : List ℕ) → filed_from (k ∷ t ∷ a ∷ s ∷ rest) ≡ record { second = s }
  pub from_bytes : (t₁ t₂ t₃ t₄ a₁ a₂ s₁ s₂ s₃ s₄ : ℕ) (rest : List ℕ)
      → filed_in (k ∷ t₁ ∷ t₂ ∷ t₃ ∷ t₄ ∷ a₁ ∷ a₂ ∷ s₁ ∷ s₂ ∷ s₃ ∷ s₄ ∷ rest) ≡ record { second = s₁ * 16_777_216 + s₂ * 65_536 + s₃ * 256 + s₄ }
  -- every number of 4 bytes is a second
  pub fits : s < 4_294_967_296 → FiledFits (record { second = s })
  pub last : last_account ≡ 15

-- fields one after the other, however many
pub record FieldsLiteral (width number at : ℕ) (widths numbers bytes : List ℕ) : Type 0 where
  pub no_bytes : written [] numbers ≡ []
  pub more_bytes : written (width ∷ widths) (number ∷ numbers) ≡ bytes_of width number ++ written widths numbers
  pub no_numbers : numbers_at [] bytes at ≡ []
  pub more_numbers : numbers_at (width ∷ widths) bytes at ≡ number_at bytes at width ∷ numbers_at widths bytes (at + width)
  pub no_total : total [] ≡ 0
  pub more_total : total (width ∷ widths) ≡ width + total widths

-- a table of kinds: the first row that has the kind, and what a row has
pub record TableLiteral (kind other whole : ℕ) (then : List ℕ) (rows : List KindRow) : Type 0 where
  pub row : kind_row kind whole then ≡ record { kind = kind; whole = whole; then = then }
  pub empty : row_of_kind [] kind ≡ none
  pub first : row_of_kind (record { kind = kind; whole = whole; then = then } ∷ rows) kind ≡ some (record { kind = kind; whole = whole; then = then })
  pub later : (kind ≡ other → ⊥) → row_of_kind (record { kind = other; whole = whole; then = then } ∷ rows) kind ≡ row_of_kind rows kind
  pub no_whole : whole_of none ≡ 0
  pub whole' : whole_of (some (record { kind = kind; whole = whole; then = then })) ≡ whole
  pub no_then : then_of none ≡ []
  pub then' : then_of (some (record { kind = kind; whole = whole; then = then })) ≡ then
  pub widths : widths_of (some (record { kind = kind; whole = whole; then = then })) ≡ 1 ∷ 4 ∷ 2 ∷ 4 ∷ then

-- a buffer that begins with bytes, all of it; what a writer leaves and answers, and a refusal
pub record BufferLiteral (bytes buffer : List ℕ) (r : Refusal) : Type 0 where
  pub over : laid_over bytes buffer ≡ bytes ++ drop (length bytes) buffer
  pub front : take (length bytes) (laid_over bytes buffer) ≡ bytes
  pub behind : drop (length bytes) (laid_over bytes buffer) ≡ drop (length bytes) buffer
  pub wrote : wrote_over bytes buffer ≡ record { answer = Ok (length bytes); buffer = bytes ++ drop (length bytes) buffer }
  pub refused : refused_with r buffer ≡ record { answer = Err r; buffer = buffer }

pub record LiteralHolds : Type 0 where
  pub number : (before after : List ℕ) (a b c d n : ℕ) → NumberLiteral before after a b c d n
  pub heading' : (k t a s : ℕ) → HeadingLiteral k t a s
  pub fields : (width number at : ℕ) (widths numbers bytes : List ℕ) → FieldsLiteral width number at widths numbers bytes
  pub table : (kind other whole : ℕ) (then : List ℕ) (rows : List KindRow) → TableLiteral kind other whole then rows
  pub buffer : (bytes buffer : List ℕ) (r : Refusal) → BufferLiteral bytes buffer r
