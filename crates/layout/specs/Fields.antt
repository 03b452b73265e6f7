-- Fields one after the other, each a number of its own width, and the tables of kinds (docs/REGISTER.md, 8.1 and 9.1).
-- Assumes nothing.
use Rattle.std.specs.Prelude.{ℕ, ◌+◌, cond, List, [], ◌∷◌, ◌++◌, eqb}
use Rattle.std.proofs.Math.Option.{Option, none, some}
use Rattle.layout.specs.Number.{bytes_of, number_at}

-- the bytes of numbers, each by its width
unfoldable pub written : (widths numbers : List ℕ) → List ℕ
written [] numbers = []
written (width ∷ widths) [] = []
written (width ∷ widths) (number ∷ numbers) = bytes_of width number ++ written widths numbers

-- the numbers of these widths in the bytes from `at` on
unfoldable pub numbers_at : (widths bytes : List ℕ) (at : ℕ) → List ℕ
numbers_at [] bytes at = []
numbers_at (width ∷ widths) bytes at = number_at bytes at width ∷ numbers_at widths bytes (at + width)

-- how many bytes these widths take
abbrev pub total : (widths : List ℕ) → ℕ
total [] = 0
total (width ∷ widths) = width + total widths

-- kind, transaction, account, second: messages and entries begin so
abbrev pub heading : List ℕ
heading = 1 ∷ 4 ∷ 2 ∷ 4 ∷ []

-- the highest number of an account (7.1)
abbrev pub last_account : ℕ
last_account = 15

-- a row of a table of kinds: the kind, the whole length, and the widths of what follows the heading
pub record KindRow : Type 0 where
  pub kind : ℕ
  pub whole : ℕ
  pub then : List ℕ

abbrev pub kind_row : (kind whole : ℕ) (then : List ℕ) → KindRow
kind_row kind whole then = record { kind = kind; whole = whole; then = then }

-- the row of a kind, if the table has one
unfoldable pub row_of_kind : List KindRow → (kind : ℕ) → Option KindRow
row_of_kind [] kind = none
row_of_kind (r ∷ rows) kind = cond (eqb kind r.kind) (some r) (row_of_kind rows kind)

-- the whole length that a row gives, and 0 where there is no row
abbrev pub whole_of : Option KindRow → ℕ
whole_of none = 0
whole_of (some r) = r.whole

-- the widths of what follows the heading,
abbrev pub then_of : Option KindRow → List ℕ
then_of none = []
then_of (some r) = r.then

-- and of all fields
abbrev pub widths_of : Option KindRow → List ℕ
widths_of found = heading ++ then_of found
