-- The ways out of a reader by the row of a kind, one law each; the same by the shape and the numbers that the code reads; what an answer tells that is
-- none of the reader's own for bytes without a message or an entry; and what is written by a row.
-- Assumes nothing.
use Prim.Native.Nat.{ℕ, ◌≤◌, ◌<◌}
use native.Mathlib.Omega.{arith}
use mathlib.Core.Path.{◌≡◌, refl, ap, sym, ◌∙◌}
use mathlib.Core.Bool.{Bool, true, false, cond}
use mathlib.Core.List.{List, map}
use mathlib.Core.Option.{Option, none, some}
use borrow.Author.Tests.{ltb-false, lt-ltb, le-ltb}
use lib.Dec.{ltb}
use lib.ListN.{length, get_or, take}
use Rattle.layout.specs.declared.Shape.{Shape}
use Rattle.layout.specs.Number.{number_at, AreBytes}
use Rattle.layout.specs.Fields.{KindRow, row_of_kind, whole_of, widths_of, written, numbers_at, total, last_account}
use Rattle.layout.specs.Shapes.{bytes_in, padded, shape_of}
use Rattle.layout.specs.Reading.{Reader, read_fields, read_row}
use Rattle.layout.proofs.Fields.{written-numbers_at}
use Rattle.layout.proofs.Shapes.{Hold, shape-whole, found-holds, padded-read, padded-at, padded-written}
use Rattle.layout.proofs.Tables.{Each, unknown}

-- a test that does not come out with its own answer is false
pub past : {A : Type 0} (b : Bool) (own next answer : A) → (own ≡ answer → ⊥) → cond b own next ≡ answer → (b ≡ false) × (next ≡ answer)
past true own next answer other e = absurd (other e)
past false own next answer other e = (refl, e)

module _ {A : Type 0} (reader : Reader A) where
  pub short_row : (found : Option KindRow) (bytes : List ℕ) → length bytes < whole_of found → read_row reader found bytes ≡ reader.short
  short_row none bytes h = absurd (omega arith)
  short_row (some r) bytes h = rw (lt-ltb (length bytes) r.whole h)

  pub elsewhere-row : (found : Option KindRow) (bytes : List ℕ) → 0 < whole_of found → whole_of found ≤ length bytes → last_account < number_at bytes 5 2
      → read_row reader found bytes ≡ reader.elsewhere
  unfolding numbers_at
  elsewhere-row none bytes p h a = absurd (omega arith)
  elsewhere-row (some r) bytes p h a = rw (le-ltb (length bytes) r.whole h, lt-ltb last_account (number_at bytes 5 2) a)

  -- where the numbers are these
  pub taken-row : (found : Option KindRow) (bytes numbers : List ℕ) → 0 < whole_of found → whole_of found ≤ length bytes
      → numbers_at (widths_of found) bytes 0 ≡ numbers → get_or numbers 2 0 ≤ last_account → read_row reader found bytes ≡ reader.taken (whole_of found) numbers
  taken-row none bytes numbers p h e a = absurd (omega arith)
  taken-row (some r) bytes numbers p h e a = rw (e, le-ltb (length bytes) r.whole h, le-ltb last_account (get_or numbers 2 0) a)

  -- what an answer says of the row by which it was read
  pub record TakenBy (found : Option KindRow) (bytes : List ℕ) (answer : A) : Type 0 where
    pub positive : 0 < whole_of found
    pub enough : whole_of found ≤ length bytes
    pub account : get_or (numbers_at (widths_of found) bytes 0) 2 0 ≤ last_account
    pub answered : reader.taken (whole_of found) (numbers_at (widths_of found) bytes 0) ≡ answer

  module _ (answer : A) (known : reader.unknown ≡ answer → ⊥) (whole : reader.short ≡ answer → ⊥) (here : reader.elsewhere ≡ answer → ⊥) where
    row-taken : (found : Option KindRow) (bytes : List ℕ) → 0 < whole_of found → read_row reader found bytes ≡ answer → TakenBy found bytes answer
    row-taken none bytes p e = absurd (omega arith)
    row-taken (some r) bytes p e =
        let numbers = numbers_at (widths_of (some r)) bytes 0 in
        let s = past (ltb (length bytes) r.whole) reader.short (read_fields reader r.whole numbers) answer whole e in
        let t = past (ltb last_account (get_or numbers 2 0)) reader.elsewhere (reader.taken r.whole numbers) answer here s.1 in
        record {
          positive = p;
          enough = ltb-false (length bytes) r.whole s.0;
          account = ltb-false last_account (get_or numbers 2 0) t.0;
          answered = t.1;
        }

    pub taken-by : (rows : List KindRow) (kind : ℕ) (bytes : List ℕ) → Each (λ (r : KindRow). 0 < r.whole) rows
        → read_row reader (row_of_kind rows kind) bytes ≡ answer → TakenBy (row_of_kind rows kind) bytes answer
    taken-by rows kind bytes each e =
        let found = row_of_kind rows kind in
        let p : whole_of found ≡ 0 → ⊥ = λ z. known (sym (ap (λ (f : Option KindRow). read_row reader f bytes) (unknown rows kind each z)) ∙ e) in
        row-taken found bytes (omega arith) e

-- by the shape that the code has found
module _ (rows : List KindRow) (kind : ℕ) {shape : Shape} (bytes : List ℕ) (s : shape ≡ shape_of (row_of_kind rows kind)) where
  whole_is : shape.whole ≡ whole_of (row_of_kind rows kind)
  whole_is = rw s (shape-whole (row_of_kind rows kind))

  pub shape-unknown : {A : Type 0} (reader : Reader A) → Each (λ (r : KindRow). 0 < r.whole) rows → shape.whole ≡ 0
      → read_row reader (row_of_kind rows kind) bytes ≡ reader.unknown
  shape-unknown reader each z = rw (unknown rows kind each (sym whole_is ∙ z))

  pub shape-short : {A : Type 0} (reader : Reader A) → length bytes < shape.whole → read_row reader (row_of_kind rows kind) bytes ≡ reader.short
  shape-short reader h = short_row reader (row_of_kind rows kind) bytes (rw whole_is at h)

  module _ (p : shape.whole ≡ 0 → ⊥) where
    positive : 0 < whole_of (row_of_kind rows kind)
    positive = rw (← whole_is) (omega arith)

    -- and by the numbers that it has read: those of the row, and 0 in the places behind them
    module _ (hold : Hold rows) {numbers : List ℕ} (n : numbers ≡ numbers_at (map bytes_in shape.widths) bytes 0) where
      pub row_at : (i : ℕ) → get_or numbers i 0 ≡ get_or (numbers_at (widths_of (row_of_kind rows kind)) bytes 0) i 0
      row_at i =
          let found = row_of_kind rows kind in
          rw (n, s, (found-holds rows kind hold positive).widths, padded-read (widths_of found) bytes 0) (padded-at (numbers_at (widths_of found) bytes 0) i)

      pub shape-elsewhere : {A : Type 0} (reader : Reader A) → shape.whole ≤ length bytes → last_account < get_or numbers 2 0
          → read_row reader (row_of_kind rows kind) bytes ≡ reader.elsewhere
      unfolding numbers_at
      shape-elsewhere reader h a = elsewhere-row reader (row_of_kind rows kind) bytes positive (rw whole_is at h) (rw (row_at 2) at a)

      pub shape-taken : {A : Type 0} (reader : Reader A) → shape.whole ≤ length bytes → get_or numbers 2 0 ≤ last_account
          → read_row reader (row_of_kind rows kind) bytes ≡ reader.taken shape.whole (numbers_at (widths_of (row_of_kind rows kind)) bytes 0)
      shape-taken reader h a =
          let found = row_of_kind rows kind in
          let known : get_or (numbers_at (widths_of found) bytes 0) 2 0 ≤ last_account = rw (row_at 2) at a in
          taken-row reader found bytes (numbers_at (widths_of found) bytes 0) positive (rw whole_is at h) refl known ∙ rw whole_is

-- ---- both ways

module _ (rows : List KindRow) (kind : ℕ) (hold : Hold rows) (p : 0 < whole_of (row_of_kind rows kind)) where
  -- numbers stored by the shape, places behind them and all, are written as the row says
  pub shape-written : (numbers : List ℕ) → length (widths_of (row_of_kind rows kind)) ≡ length numbers
      → written (map bytes_in (shape_of (row_of_kind rows kind)).widths) (padded numbers) ≡ written (widths_of (row_of_kind rows kind)) numbers
  shape-written numbers h = rw (found-holds rows kind hold p).widths (padded-written (widths_of (row_of_kind rows kind)) numbers h)

  -- numbers read by the row are written as the bytes that were read
  pub read_written : (bytes : List ℕ) (whole : ℕ) → AreBytes bytes → whole_of (row_of_kind rows kind) ≤ length bytes → whole_of (row_of_kind rows kind) ≡ whole
      → take whole bytes ≡ written (widths_of (row_of_kind rows kind)) (numbers_at (widths_of (row_of_kind rows kind)) bytes 0)
  read_written bytes whole b h w =
      let found = row_of_kind rows kind in
      let sum : total (widths_of found) ≡ whole_of found = (found-holds rows kind hold p).sum in
      sym (written-numbers_at (widths_of found) bytes 0 (omega arith) b ∙ ap (λ (n : ℕ). take n bytes) (sum ∙ w))
