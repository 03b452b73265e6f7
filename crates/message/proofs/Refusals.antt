-- The tests of the reader and the writer in plain numbers: a kind has a row exactly if it is 1 to 6, and its length is that of its range.
-- Assumes nothing.
use Prim.Native.Nat.{ℕ, ◌<◌}
use native.Mathlib.Omega.{arith}
use mathlib.Core.Path.{◌≡◌, refl, ap, ◌∙◌}
use mathlib.Core.Bool.{Bool, true, false, cond, not, ◌&&◌, true≢false, false≢true}
use mathlib.Core.List.{List, [], ◌∷◌}
use mathlib.Core.Option.{Option, none, some}
use borrow.Author.Tests.{leb-true, leb-false, ltb-false}
use lib.Dec.{leb, ltb, eqb}
use lib.ListN.{length, get_or}
use Rattle.std.specs.Prelude.{Result, Ok, Err}
use Rattle.refusal.specs.declared.Refusal.{Refusal}
use Rattle.refusal.specs.declared.Refusal.TheVariants.{UnknownAccount, NoRoom, Torn}
use Rattle.refusal.specs.Numbers.{number_of}
use Rattle.refusal.proofs.Literal as Told
use Rattle.rule.specs.Tests.{test, first_of}
use Rattle.layout.specs.Number.{number_at}
use Rattle.layout.specs.Fields.{KindRow, row_of_kind, whole_of, widths_of, numbers_at}
use Rattle.layout.specs.Plain.{two_at}
use Rattle.layout.specs.Writes as Writes'
use Rattle.layout.specs.Writes.{wrote_over, refused_with}
use Rattle.layout.proofs.Tables.{unknown}
use Rattle.layout.proofs.Plain.{numbers-plain}
use Rattle.layout.proofs.Writes.{wrote-stays, cond-stays}
use Rattle.message.specs.declared.Message.{Message}
use Rattle.message.specs.Bytes.{messages, heading_of, message_of, bytes_of_message, length_of_message}
use Rattle.message.specs.Answers.{SaidOfReading, said_of_reading, read_of, read_kind, read_numbers, write_of}
use Rattle.message.specs.Refusals.{kind_length, LengthsPlain, ReaderRefuses, WriterRefuses, WriterStays, ReadingsApart}
use Rattle.message.proofs.Lengths.{with_amount, without_amount, below-kinds, above-kinds}
use Rattle.message.proofs.Shapes.{shaped}
use Rattle.message.proofs.Writer.{length-message}

-- the refusal where a test comes first
reading-cond : (b : Bool) (r : Refusal) (next : Result (Message × ℕ) Refusal) → (said_of_reading (cond b (Err r) next)).refusal ≡ cond b (some (number_of r)) (said_of_reading next).refusal
reading-cond true r next = refl
reading-cond false r next = refl

-- the length of a kind, by its two tests
module _ (kind : ℕ) where
  known-length : leb 1 kind && leb kind 6 ≡ true → whole_of (row_of_kind messages kind) ≡ kind_length kind
  known-length e = go (leb 1 kind) (leb kind 6) (leb kind 3) refl refl refl e
    where
      go : (a b d : Bool) → leb 1 kind ≡ a → leb kind 6 ≡ b → leb kind 3 ≡ d → a && b ≡ true → whole_of (row_of_kind messages kind) ≡ cond d 15 11
      go false b d p q r e = absurd (false≢true e)
      go true false d p q r e = absurd (false≢true e)
      go true true true p q r e = with_amount kind (leb-true 1 kind p) (leb-true kind 3 r)
      go true true false p q r e = without_amount kind (leb-false kind 3 r) (leb-true kind 6 q)

  unknown-length : leb 1 kind && leb kind 6 ≡ false → whole_of (row_of_kind messages kind) ≡ 0
  unknown-length e = go (leb 1 kind) (leb kind 6) refl refl e
    where
      go : (a b : Bool) → leb 1 kind ≡ a → leb kind 6 ≡ b → a && b ≡ false → whole_of (row_of_kind messages kind) ≡ 0
      go true true p q e = absurd (true≢false e)
      go true false p q e = above-kinds kind (leb-false kind 6 q)
      go false b p q e = below-kinds kind (leb-false 1 kind p)

pub lengths-plain : LengthsPlain
lengths-plain kind = go (leb 1 kind && leb kind 6) refl
  where
    go : (b : Bool) → leb 1 kind && leb kind 6 ≡ b → whole_of (row_of_kind messages kind) ≡ cond b (kind_length kind) 0
    go true e = known-length kind e
    go false e = unknown-length kind e

positive : (b : Bool) → 0 < cond b 15 11
positive true = omega arith
positive false = omega arith

-- the refusals where there is a row
row-refuses : (found : Option KindRow) (bytes : List ℕ) (whole : ℕ) → whole_of found ≡ whole → 0 < whole
    → (said_of_reading (read_kind found bytes)).refusal ≡ first_of (test (ltb (length bytes) whole) 1 ∷ test (ltb 15 (two_at bytes 5)) 3 ∷ [])
unfolding numbers_at
row-refuses none bytes whole w p = absurd (omega arith)
row-refuses (some r) bytes whole w p =
    let numbers = numbers_at (widths_of (some r)) bytes 0 in
    rw (← w, ← (numbers-plain bytes 5 0).read2)
    (reading-cond (ltb (length bytes) r.whole) Torn (read_numbers r.whole numbers)
    ∙ ap (cond (ltb (length bytes) r.whole) (some 1)) (reading-cond (ltb 15 (number_at bytes 5 2)) UnknownAccount (Ok (message_of numbers, r.whole))))

kind-refuses : (kind : ℕ) (bytes : List ℕ) → (said_of_reading (read_kind (row_of_kind messages kind) bytes)).refusal
    ≡ first_of (test (not (leb 1 kind && leb kind 6)) 2 ∷ test (ltb (length bytes) (kind_length kind)) 1 ∷ test (ltb 15 (two_at bytes 5)) 3 ∷ [])
unfolding messages
kind-refuses kind bytes = go (leb 1 kind && leb kind 6) refl
  where
    go : (b : Bool) → leb 1 kind && leb kind 6 ≡ b → (said_of_reading (read_kind (row_of_kind messages kind) bytes)).refusal
        ≡ first_of (test (not b) 2 ∷ test (ltb (length bytes) (kind_length kind)) 1 ∷ test (ltb 15 (two_at bytes 5)) 3 ∷ [])
    go true e = row-refuses (row_of_kind messages kind) bytes (kind_length kind) (known-length kind e) (positive (leb kind 3))
    go false e = rw (unknown messages kind (omega arith) (unknown-length kind e))

pub reader-refuses : ReaderRefuses
unfolding read_of
reader-refuses bytes =
    let kind = get_or bytes 0 0 in
    rw (numbers-plain bytes 0 0).read1
    (reading-cond (eqb (length bytes) 0) Torn (read_kind (row_of_kind messages kind) bytes) ∙ ap (cond (eqb (length bytes) 0) (some 1)) (kind-refuses kind bytes))

pub writer-refuses : WriterRefuses
unfolding write_of
writer-refuses m buffer = rw (← (shaped m).length') (go (ltb 15 (heading_of m).account) (ltb (length buffer) (length_of_message m)))
  where
    go : (a b : Bool)
        → (Writes'.said_of_writing (cond a (refused_with UnknownAccount buffer) (cond b (refused_with NoRoom buffer) (wrote_over (bytes_of_message m) buffer))).answer).refusal
        ≡ cond a (some 3) (cond b (some 4) none)
    go true b = refl
    go false true = refl
    go false false = refl

pub writer-stays : WriterStays
unfolding write_of
writer-stays m buffer =
    let next = cond (ltb (length buffer) (length_of_message m)) (refused_with NoRoom buffer) (wrote_over (bytes_of_message m) buffer) in
    cond-stays (ltb 15 (heading_of m).account) UnknownAccount buffer next
    (λ a. cond-stays (ltb (length buffer) (length_of_message m)) NoRoom buffer (wrote_over (bytes_of_message m) buffer)
    (λ b. wrote-stays (bytes_of_message m) buffer (rw (length-message m) (ltb-false (length buffer) (length_of_message m) b))))

pub readings-apart : ReadingsApart
readings-apart (Ok (m, n)) (Ok (k, o)) e = let f = ap (λ (g : SaidOfReading). g.message) e in let h = ap (λ (g : SaidOfReading). g.consumed) e in cc
readings-apart (Ok r) (Err s) e = let f = ap (λ (g : SaidOfReading). g.refusal) e in cc
readings-apart (Err r) (Ok s) e = let f = ap (λ (g : SaidOfReading). g.refusal) e in cc
readings-apart (Err r) (Err s) e =
    let f = ap (λ (g : SaidOfReading). g.refusal) e in
    let same : number_of r ≡ number_of s = cc in
    ap Err (Told.same-refusal r s same)
