-- The ways out of the reader of an entry, one law each: what the tests that led there say of the bytes picks the case of the definition.
-- Assumes nothing.
use Prim.Native.Nat.{ℕ, ◌≤◌, ◌<◌}
use native.Mathlib.Nat.{zero-add}
use native.Mathlib.Omega.{arith}
use mathlib.Core.Path.{◌≡◌, refl, sym, ◌∙◌}
use mathlib.Core.Bool.{Bool, true, false, cond, ◌||◌}
use mathlib.Core.List.{List, [], ◌∷◌, map}
use Rattle.std.specs.Prelude.{Option, Some, None, Result, Ok, Err, slice_get}
use Rattle.std.specs.Result.{result_ok}
use Rattle.refusal.specs.declared.Refusal.{Refusal}
use lib.Dec.{eqb, lit<}
use lib.ListN.{length, get_or}
use Rattle.filing.specs.declared.Entry.{Entry}
use Rattle.layout.specs.declared.Shape.{Shape}
use Rattle.layout.specs.Number.{number_at, AreBytes}
use Rattle.layout.specs.Fields.{KindRow, row_of_kind, whole_of, then_of, widths_of, numbers_at, last_account}
use Rattle.layout.specs.Shapes.{bytes_in, shape_of}
use Rattle.layout.specs.Reading.{read_row}
use Rattle.events.specs.Kinds.{event_of}
use Rattle.layout.proofs.Numbers.{number_at-fits}
use Rattle.layout.proofs.Tables.{Each, present, unknown}
use Rattle.layout.proofs.Heading.{filed_at}
use Rattle.layout.proofs.Shapes.{shape-whole}
use Rattle.layout.proofs.Reading.{short_row, elsewhere-row, taken-row, shape-short, row_at, shape-elsewhere, shape-taken}
use Rattle.entry.specs.Bytes.{entry_rows, told_by, entry_by, entry_from}
use Rattle.entry.specs.Answers.{found_as, event_fits, told_in, then_fits, entry_reader, read_of}
use Rattle.entry.specs.declared.Found.{Found}
use Rattle.entry.specs.declared.kinds.Kind.{Kind}
use Rattle.entry.specs.Kinds.{number_in, kind_numbered}
use Rattle.entry.proofs.KindNumbers.{kind-known, kind-unknown, kind-long}
use Rattle.filing.specs.declared.Told.{Told}
use Rattle.layout.specs.Heading.{filed_from}
use Rattle.entry.proofs.Shapes.{rows-hold}

-- the entry that the bytes hold by its places: the number that follows the event, of the width that the kind gives it,
abbrev pub number_after : (bytes : List ℕ) (kind : ℕ) → ℕ
number_after bytes kind = cond (eqb kind 21) (number_at bytes 16 4) (number_at bytes 16 2)

-- the reason, which kind 23 alone has,
abbrev pub reason_after : (bytes : List ℕ) (kind : ℕ) → ℕ
reason_after bytes kind = cond (eqb kind 23) (number_at bytes 18 1) 0

-- and the entry of that kind
abbrev pub entry_at : (bytes : List ℕ) (kind : ℕ) → Entry
entry_at bytes kind =
    record {
      transaction = number_at bytes 1 4;
      filed = filed_at bytes;
      told = told_by kind (event_of (number_at bytes 11 1) (number_at bytes 12 4)) (number_after bytes kind) (reason_after bytes kind);
    }

-- what follows the heading, by its places
module _ (bytes : List ℕ) (kind : ℕ) (p : 0 < whole_of (row_of_kind entry_rows kind)) where
  pub fits_read : then_fits (numbers_at (then_of (row_of_kind entry_rows kind)) bytes 11) ≡ cond (eqb kind 20) true (event_fits (number_at bytes 11 1) (number_at bytes 12 4))
  unfolding row_of_kind entry_rows numbers_at
  fits_read =
      present
      (λ (k : ℕ). then_fits (numbers_at (then_of (row_of_kind entry_rows k)) bytes 11) ≡ cond (eqb k 20) true (event_fits (number_at bytes 11 1) (number_at bytes 12 4)))
      entry_rows kind (refl, (refl, (refl, (refl, (refl, (refl, (refl, tt))))))) p

  -- the same by the numbers
  fits-row : then_fits (numbers_at (then_of (row_of_kind entry_rows kind)) bytes 11)
      ≡ (eqb kind 20
      || event_fits (get_or (numbers_at (widths_of (row_of_kind entry_rows kind)) bytes 0) 4 0) (get_or (numbers_at (widths_of (row_of_kind entry_rows kind)) bytes 0) 5 0))
  unfolding row_of_kind entry_rows numbers_at
  fits-row =
      present
      (λ (k : ℕ). then_fits (numbers_at (then_of (row_of_kind entry_rows k)) bytes 11)
      ≡ (eqb k 20
      || event_fits (get_or (numbers_at (widths_of (row_of_kind entry_rows k)) bytes 0) 4 0) (get_or (numbers_at (widths_of (row_of_kind entry_rows k)) bytes 0) 5 0)))
      entry_rows kind (refl, (refl, (refl, (refl, (refl, (refl, (refl, tt))))))) p

  -- the reason is a byte, or 0 where the kind has none
  reason-fits : AreBytes bytes → get_or (numbers_at (widths_of (row_of_kind entry_rows kind)) bytes 0) 7 0 < 256
  unfolding row_of_kind entry_rows numbers_at
  reason-fits b =
      present
      (λ (k : ℕ). get_or (numbers_at (widths_of (row_of_kind entry_rows k)) bytes 0) 7 0 < 256)
      entry_rows kind (lit< tt, (lit< tt, (lit< tt, (lit< tt, (lit< tt, (lit< tt, (number_at-fits 1 18 bytes b, tt))))))) p

  pub told-read : kind ≡ number_at bytes 0 1 → entry_from (numbers_at (widths_of (row_of_kind entry_rows kind)) bytes 0) ≡ entry_at bytes kind
  unfolding row_of_kind entry_rows numbers_at told_by
  told-read k =
      present
      (λ (k : ℕ). k ≡ number_at bytes 0 1 → entry_from (numbers_at (widths_of (row_of_kind entry_rows k)) bytes 0) ≡ entry_at bytes k)
      entry_rows kind ((λ e. rw (← e)), ((λ e. rw (← e)), ((λ e. rw (← e)), ((λ e. rw (← e)), ((λ e. rw (← e)), ((λ e. rw (← e)), ((λ e. rw (← e)), tt))))))) p k

pub by_kind : (bytes : List ℕ) (kind : ℕ) → kind ≡ number_at bytes 0 1 → read_of bytes ≡ read_row entry_reader (row_of_kind entry_rows kind) bytes
unfolding read_of
by_kind bytes kind k = rw k

pub every-length : Each (λ (r : KindRow). 0 < r.whole) entry_rows
unfolding entry_rows
every-length = omega arith

-- by the row of the kind
module _ (bytes : List ℕ) (kind whole : ℕ) (k : kind ≡ number_at bytes 0 1) (w : whole ≡ whole_of (row_of_kind entry_rows kind)) where
  pub read-unknown : whole ≡ 0 → read_of bytes ≡ None
  read-unknown z = by_kind bytes kind k ∙ rw (unknown entry_rows kind every-length (sym w ∙ z))

  pub read_short : length bytes < whole → read_of bytes ≡ None
  read_short h = by_kind bytes kind k ∙ short_row entry_reader (row_of_kind entry_rows kind) bytes (rw w at h)

  module _ (z : whole ≡ 0 → ⊥) (h : whole ≤ length bytes) where
    positive : 0 < whole_of (row_of_kind entry_rows kind)
    positive = rw (← w) (omega arith)

    pub read-account : last_account < number_at bytes 5 2 → read_of bytes ≡ None
    read-account a = by_kind bytes kind k ∙ elsewhere-row entry_reader (row_of_kind entry_rows kind) bytes positive (rw w at h) a

    pub read-fitting : number_at bytes 5 2 ≤ last_account
        → read_of bytes
        ≡ cond (cond (eqb kind 20) true (event_fits (number_at bytes 11 1) (number_at bytes 12 4))) (found_as (entry_at bytes kind) kind (number_at bytes 5 2) whole) None
    unfolding numbers_at
    read-fitting a =
        let found = row_of_kind entry_rows kind in
        by_kind bytes kind k
        ∙ taken-row entry_reader found bytes (numbers_at (widths_of found) bytes 0) positive (rw w at h) refl a
        ∙ rw (fits_read bytes kind positive, told-read bytes kind positive k, w, ← k)

-- the first byte is the number of the kind
first-number : (bytes : List ℕ) {first : ℕ} → Some first ≡ slice_get bytes 0 → first ≡ number_at bytes 0 1
unfolding number_at
first-number [] f = cc
first-number (b ∷ bs) f = cc (zero-add b)

kind-read : (first : ℕ) (r : Result Kind Refusal) {kind : Kind} → r ≡ kind_numbered first → Some kind ≡ result_ok r → number_in kind ≡ first
kind-read first (Ok j) {kind = kind} t e = let same : kind ≡ j = cc in rw same (kind-known first j (sym t))
kind-read first (Err r) t e = cc

-- what is read of numbers by what they tell
abbrev pub found_telling : (numbers : List ℕ) (kind whole : ℕ) → Option Told → Option (Found × ℕ)
found_telling numbers kind whole None = None
found_telling numbers kind whole (Some told) =
    found_as (record { transaction = get_or numbers 1 0; filed = filed_from numbers; told = told }) kind (get_or numbers 2 0) whole

-- by the first byte, the kind, the shape and the numbers that the code reads
module _ (bytes : List ℕ) {first : ℕ} (f : Some first ≡ slice_get bytes 0) {r : Result Kind Refusal} (t : r ≡ kind_numbered first) where
  pub code-unknown : None ≡ result_ok r → read_of bytes ≡ None
  code-unknown e = go r t e
    where
      go : (r : Result Kind Refusal) → r ≡ kind_numbered first → None ≡ result_ok r → read_of bytes ≡ None
      go (Ok j) t e = cc
      go (Err q) t e = by_kind bytes first (first-number bytes f) ∙ rw (kind-unknown first q (sym t))

  module _ {kind : Kind} (e : Some kind ≡ result_ok r) {shape : Shape} (s : shape ≡ shape_of (row_of_kind entry_rows (number_in kind))) where
    k : number_in kind ≡ number_at bytes 0 1
    k = kind-read first r t e ∙ first-number bytes f

    pub code-short : length bytes < shape.whole → read_of bytes ≡ None
    code-short h = by_kind bytes (number_in kind) k ∙ shape-short entry_rows (number_in kind) bytes s entry_reader h

    module _ (h : shape.whole ≤ length bytes) {numbers : List ℕ} (n : numbers ≡ numbers_at (map bytes_in shape.widths) bytes 0) where
      long : shape.whole ≡ 0 → ⊥
      long z = let w : shape.whole ≡ whole_of (row_of_kind entry_rows (number_in kind)) = rw s (shape-whole (row_of_kind entry_rows (number_in kind))) in omega (arith, kind-long kind)

      pub code-reason : AreBytes bytes → get_or numbers 7 0 < 256
      code-reason b = rw (row_at entry_rows (number_in kind) bytes s long rows-hold n 7) (reason-fits bytes (number_in kind) (kind-long kind) b)

      pub code-elsewhere : last_account < get_or numbers 2 0 → read_of bytes ≡ None
      code-elsewhere a = by_kind bytes (number_in kind) k ∙ shape-elsewhere entry_rows (number_in kind) bytes s long rows-hold n entry_reader h a

      code-fitting : get_or numbers 2 0 ≤ last_account
          → read_of bytes
          ≡ cond (eqb (number_in kind) 20 || event_fits (get_or numbers 4 0) (get_or numbers 5 0))
          (found_as (entry_by (number_in kind) numbers) (number_in kind) (get_or numbers 2 0) shape.whole) None
      unfolding numbers_at
      code-fitting a =
          let at = row_at entry_rows (number_in kind) bytes s long rows-hold n in
          by_kind bytes (number_in kind) k
          ∙ shape-taken entry_rows (number_in kind) bytes s long rows-hold n entry_reader h a
          ∙ rw (at 1, at 2, at 3, at 4, at 5, at 6, at 7, fits-row bytes (number_in kind) (kind-long kind), ← k)

      pub code-told : get_or numbers 2 0 ≤ last_account → read_of bytes ≡ found_telling numbers (number_in kind) shape.whole (told_in (number_in kind) numbers)
      code-told a = code-fitting a ∙ go (eqb (number_in kind) 20 || event_fits (get_or numbers 4 0) (get_or numbers 5 0))
        where
          go : (b : Bool)
              → cond b (found_as (entry_by (number_in kind) numbers) (number_in kind) (get_or numbers 2 0) shape.whole) None
              ≡ found_telling numbers (number_in kind) shape.whole (cond b (Some (entry_by (number_in kind) numbers).told) None)
          go true = refl
          go false = refl
