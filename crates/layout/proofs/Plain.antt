-- The plain sayings of numbers, the heading and buffers. A number of 2 or 4 bytes by computing it, of any width by induction on the width.
-- Assumes nothing.
use Prim.Native.Nat.{ℕ, zero, suc, ◌+◌, ◌-◌, ◌/◌, ◌%◌, ◌^◌, ◌≤◌, ◌<◌}
use native.Mathlib.Nat.{add-zero, pow-zero, pow-suc, div-div-eq-div-mul, div-one, mul_comm}
use native.Mathlib.Omega.{arith}
use mathlib.Core.Path.{◌≡◌, refl, ◌∙◌}
use mathlib.Core.Bool.{Bool, true, false}
use mathlib.Core.List.{List, [], ◌∷◌, ◌++◌}
use borrow.Author.Tests.{ltb-true, ltb-false}
use lib.Dec.{ltb, lit<}
use lib.ListN.{length, get_or, drop, get_or-append}
use lib.Seq.{get_or_at, get_or-append-add, get_or-drop}
use Rattle.layout.specs.Number.{bytes_of, number_at, AreBytes}
use Rattle.layout.specs.Fields.{written}
use Rattle.layout.specs.Plain.{NumbersPlain, Byte, BytesHighestFirst, HeadingPlain, LaidOverPlain}
use Rattle.layout.proofs.Numbers.{length-bytes_of, number_at-one}

pub numbers-plain : NumbersPlain
unfolding bytes_of number_at
numbers-plain bytes at number =
    record {
      read1 = number_at-one at bytes;
      read2 = rw add-zero (omega arith);
      read4 = rw add-zero (omega arith);
      bytes1 = refl;
      bytes2 = refl;
      bytes4 = rw (div-div-eq-div-mul number 256 256, div-div-eq-div-mul number 65536 256);
    }

pub byte : Byte
byte = record { none = λ i. lit< tt; more = λ byte bytes h p. go byte bytes h p }
  where
    go : (byte : ℕ) (bytes : List ℕ) → byte < 256 → AreBytes bytes → AreBytes (byte ∷ bytes)
    go byte bytes h p zero = h
    go byte bytes h p (suc i) = p i

each-byte : (width number i : ℕ) → i < width → get_or (bytes_of width number) i 0 ≡ number / 256 ^ (width - 1 - i) % 256
unfolding bytes_of
each-byte zero number i h = absurd (omega arith)
each-byte (suc width) number i h = go (ltb i width) refl (each-byte width (number / 256) i)
  where
    go : (b : Bool) → ltb i width ≡ b → (i < width → get_or (bytes_of width (number / 256)) i 0 ≡ number / 256 / 256 ^ (width - 1 - i) % 256)
        → get_or (bytes_of width (number / 256) ++ (number % 256 ∷ [])) i 0 ≡ number / 256 ^ (suc width - 1 - i) % 256
    go true e rest =
        let k : i < width = ltb-true i width e in
        let n : suc width - 1 - i ≡ suc (width - 1 - i) = omega arith in
        let inside : i < length (bytes_of width (number / 256)) = rw length-bytes_of k in
        rw (n, pow-suc, mul_comm, ← div-div-eq-div-mul, get_or-append (bytes_of width (number / 256)) (number % 256 ∷ []) 0 i inside) (rest k)
    go false e rest =
        let k : width ≤ i = ltb-false i width e in
        let last : length (bytes_of width (number / 256)) ≡ i = length-bytes_of width (number / 256) ∙ omega arith in
        let n : suc width - 1 - i ≡ 0 = omega arith in
        rw (n, pow-zero, div-one) (get_or_at (bytes_of width (number / 256)) (number % 256) [] 0 i last)

pub bytes-highest-first : BytesHighestFirst
bytes-highest-first width number = record { length' = length-bytes_of width number; each = each-byte width number }

pub heading-plain : HeadingPlain
unfolding written
heading-plain kind transaction account g =
    let n = numbers-plain [] 0 in
    rw ((n kind).bytes1, (n transaction).bytes4, (n account).bytes2, (n g.second).bytes4)

pub laid-over-plain : LaidOverPlain
laid-over-plain bytes buffer =
    record {
      first = get_or-append bytes (drop (length bytes) buffer) 0;
      behind =
          λ i h.
          let k : i ≡ length bytes + (i - length bytes) = omega arith in
          rw k (get_or-append-add bytes (drop (length bytes) buffer) (i - length bytes) 0 ∙ get_or-drop (length bytes) buffer (i - length bytes) 0);
    }
