-- Numbers, the heading and buffers (docs/REGISTER.md, 8.1 and 9.1) in plain arithmetic and plain rows: the definitions of this crate
-- said a second time, from outside. A byte order or a field's place that definition and code changed together would be seen here.
-- Assumes nothing.
use Rattle.std.specs.Prelude.{ℕ, ◌+◌, ◌*◌, ◌-◌, ◌/◌, ◌%◌, ◌^◌, ◌≤◌, ◌<◌, ◌≡◌, List, [], ◌∷◌, ◌++◌, length, get_or}
use Rattle.filing.specs.declared.Filed.{Filed}
use Rattle.layout.specs.Number.{bytes_of, number_at, AreBytes}
use Rattle.layout.specs.Fields.{written, heading}
use Rattle.layout.specs.Heading.{heading_numbers}
use Rattle.layout.specs.Writes.{laid_over}

-- the number in 2 bytes, and in 4
abbrev pub two_at : (bytes : List ℕ) (at : ℕ) → ℕ
two_at bytes at = get_or bytes at 0 * 256 + get_or bytes (at + 1) 0

abbrev pub four_at : (bytes : List ℕ) (at : ℕ) → ℕ
four_at bytes at =
    get_or bytes at 0 * 16_777_216 + get_or bytes (at + 1) 0 * 65_536 + get_or bytes (at + 2) 0 * 256 + get_or bytes (at + 3) 0

-- the 2 bytes of a number, and its 4
abbrev pub two_of : (number : ℕ) → List ℕ
two_of number = number / 256 % 256 ∷ number % 256 ∷ []

abbrev pub four_of : (number : ℕ) → List ℕ
four_of number = number / 16_777_216 % 256 ∷ number / 65_536 % 256 ∷ number / 256 % 256 ∷ number % 256 ∷ []

-- what stands in 1, 2 and 4 bytes: there are no other widths
pub record Plain (bytes : List ℕ) (at number : ℕ) : Type 0 where
  pub read1 : number_at bytes at 1 ≡ get_or bytes at 0
  pub read2 : number_at bytes at 2 ≡ two_at bytes at
  pub read4 : number_at bytes at 4 ≡ four_at bytes at
  pub bytes1 : bytes_of 1 number ≡ number % 256 ∷ []
  pub bytes2 : bytes_of 2 number ≡ two_of number
  pub bytes4 : bytes_of 4 number ≡ four_of number

abbrev pub NumbersPlain : Type 0
NumbersPlain = (bytes : List ℕ) (at number : ℕ) → Plain bytes at number

-- a list of numbers below 256 is one of bytes
pub record Byte : Type 0 where
  pub none : AreBytes []
  pub more : (byte : ℕ) (bytes : List ℕ) → byte < 256 → AreBytes bytes → AreBytes (byte ∷ bytes)

-- in any width: as many bytes as it says, the highest first
pub record Bytes (width number : ℕ) : Type 0 where
  pub length' : length (bytes_of width number) ≡ width
  pub each : (i : ℕ) → i < width → get_or (bytes_of width number) i 0 ≡ number / 256 ^ (width - 1 - i) % 256

abbrev pub BytesHighestFirst : Type 0
BytesHighestFirst = (width number : ℕ) → Bytes width number

-- what is filed in the bytes of a message or an entry: the second, in four bytes from the eighth on
abbrev pub filed_in : (bytes : List ℕ) → Filed
filed_in bytes = record { second = four_at bytes 7 }

-- transaction, account and second, highest byte first
abbrev pub heading_bytes : (transaction account : ℕ) → Filed → List ℕ
heading_bytes transaction account g = four_of transaction ++ (two_of account ++ four_of g.second)

-- kind, transaction, account, second: 1, 4, 2 and 4 bytes, one after the other
abbrev pub HeadingPlain : Type 0
HeadingPlain =
    (kind transaction account : ℕ) (g : Filed)
    → written heading (heading_numbers kind transaction account g) ≡ kind % 256 ∷ heading_bytes transaction account g

-- bytes laid over a buffer stand at its beginning, and behind them stands what stood there
pub record Over (bytes buffer : List ℕ) : Type 0 where
  pub first : (i : ℕ) → i < length bytes → get_or (laid_over bytes buffer) i 0 ≡ get_or bytes i 0
  pub behind : (i : ℕ) → length bytes ≤ i → get_or (laid_over bytes buffer) i 0 ≡ get_or buffer i 0

abbrev pub LaidOverPlain : Type 0
LaidOverPlain = (bytes buffer : List ℕ) → Over bytes buffer
