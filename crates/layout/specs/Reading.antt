-- Reading by a table of kinds (docs/REGISTER.md, 8.2, 9.6 and 10.1): messages and entries are read alike, and differ in what is answered.
-- Assumes nothing.
use Rattle.std.specs.Prelude.{ℕ, cond, List, ltb, length, get_or}
use Rattle.std.proofs.Math.Option.{Option, none, some}
use Rattle.layout.specs.Fields.{KindRow, widths_of, numbers_at, last_account}

-- what a reader answers: where no row has the kind, where bytes are missing, where the register has no such account, and else by the whole length and the numbers
pub record Reader (A : Type 0) : Type 0 where
  pub unknown : A
  pub short : A
  pub elsewhere : A
  pub taken : (whole : ℕ) (numbers : List ℕ) → A

module _ {A : Type 0} (reader : Reader A) where
  abbrev pub read_fields : (whole : ℕ) (numbers : List ℕ) → A
  read_fields whole numbers = cond (ltb last_account (get_or numbers 2 0)) reader.elsewhere (reader.taken whole numbers)

  -- the length is looked at before the account
  abbrev pub read_row : Option KindRow → (bytes : List ℕ) → A
  read_row none bytes = reader.unknown
  read_row (some r) bytes = cond (ltb (length bytes) r.whole) reader.short (read_fields r.whole (numbers_at (widths_of (some r)) bytes 0))
