-- The ways out of the reader, one law each: what the tests that led there say of the bytes picks the case of the definition.
-- Assumes nothing.
use Prim.Native.Nat.{ℕ, ◌≤◌, ◌<◌}
use native.Mathlib.Omega.{arith}
use mathlib.Core.Path.{◌≡◌, refl, sym, ◌∙◌}
use mathlib.Core.List.{List, [], ◌∷◌, map}
use borrow.Author.Tests.{eq-eqb, ne_eqb}
use lib.ListN.{length, get_or}
use Rattle.std.specs.Prelude.{Ok, Err, Some, slice_get}
use Rattle.refusal.specs.declared.Refusal.{Refusal}
use Rattle.refusal.specs.declared.Refusal.TheVariants.{Torn, UnknownKind, UnknownAccount}
use Rattle.layout.specs.declared.Shape.{Shape}
use Rattle.layout.specs.Number.{number_at}
use Rattle.layout.specs.Fields.{KindRow, row_of_kind, whole_of, then_of, widths_of, numbers_at, last_account}
use Rattle.layout.specs.Shapes.{bytes_in, shape_of}
use Rattle.events.specs.Kinds.{event_of}
use Rattle.layout.proofs.Tables.{Each, present, unknown}
use Rattle.layout.proofs.Numbers.{number_at-one}
use Rattle.layout.proofs.Shapes.{shape-whole}
use Rattle.layout.proofs.Heading.{filed_at}
use Rattle.layout.proofs.Reading.{short_row, elsewhere-row, taken-row, shape-short, row_at, shape-elsewhere, shape-taken}
use Rattle.message.specs.declared.Heading.{Heading}
use Rattle.message.specs.Bytes.{messages, message_by, heading_from}
use Rattle.message.specs.Answers.{message_reader, read_of, read_kind}
use Rattle.message.specs.declared.kinds.Kind.{Kind}
use Rattle.message.specs.Kinds.{number_in, kind_numbered}
use Rattle.message.proofs.KindNumbers.{number-known, number_unknown, kind-long}
use Rattle.message.proofs.Shapes.{rows-hold}

-- the heading that the bytes hold
abbrev pub heading_at : List ℕ → Heading
heading_at bytes = record { transaction = number_at bytes 1 4; account = number_at bytes 5 2; filed = filed_at bytes }

pub read-empty : (bytes : List ℕ) → length bytes ≡ 0 → read_of bytes ≡ Err Torn
unfolding read_of
read-empty bytes h = rw (eq-eqb (length bytes) 0 h)

-- a kind that has no amount does not look at what stands in its place
amount-read : (kind : ℕ) (h : Heading) (bytes : List ℕ) → 0 < whole_of (row_of_kind messages kind)
    → message_by kind h (get_or (numbers_at (then_of (row_of_kind messages kind)) bytes 11) 0 0) ≡ message_by kind h (number_at bytes 11 4)
unfolding row_of_kind messages message_by event_of numbers_at
amount-read kind h bytes p =
    present
    (λ (k : ℕ). message_by k h (get_or (numbers_at (then_of (row_of_kind messages k)) bytes 11) 0 0) ≡ message_by k h (number_at bytes 11 4))
    messages kind (refl, (refl, (refl, (refl, (refl, (refl, tt)))))) p

-- what is left to read where the bytes are not empty
pub rest : (bytes : List ℕ) (kind : ℕ) → (length bytes ≡ 0 → ⊥) → kind ≡ number_at bytes 0 1 → read_of bytes ≡ read_kind (row_of_kind messages kind) bytes
unfolding read_of
rest bytes kind nonempty k = rw (ne_eqb (length bytes) 0 nonempty, k)

pub every-length : Each (λ (r : KindRow). 0 < r.whole) messages
unfolding messages
every-length = omega arith

-- by the row of the kind
module _ (bytes : List ℕ) (kind whole : ℕ) (nonempty : length bytes ≡ 0 → ⊥) (k : kind ≡ number_at bytes 0 1) (w : whole ≡ whole_of (row_of_kind messages kind)) where
  pub read-unknown : whole ≡ 0 → read_of bytes ≡ Err UnknownKind
  read-unknown z = rest bytes kind nonempty k ∙ rw (unknown messages kind every-length (sym w ∙ z))

  module _ (p : whole ≡ 0 → ⊥) where
    positive : 0 < whole_of (row_of_kind messages kind)
    positive = rw (← w) (omega arith)

    pub read_short : length bytes < whole → read_of bytes ≡ Err Torn
    read_short h = rest bytes kind nonempty k ∙ short_row message_reader (row_of_kind messages kind) bytes (rw w at h)

    pub read-account : whole ≤ length bytes → last_account < number_at bytes 5 2 → read_of bytes ≡ Err UnknownAccount
    read-account h a = rest bytes kind nonempty k ∙ elsewhere-row message_reader (row_of_kind messages kind) bytes positive (rw w at h) a

    pub read_taken : whole ≤ length bytes → number_at bytes 5 2 ≤ last_account
        → read_of bytes ≡ Ok (message_by kind (heading_at bytes) (number_at bytes 11 4), whole)
    unfolding numbers_at
    read_taken h a =
        let found = row_of_kind messages kind in
        rest bytes kind nonempty k
        ∙ taken-row message_reader found bytes (numbers_at (widths_of found) bytes 0) positive (rw w at h) refl a
        ∙ rw (← k, amount-read kind (heading_at bytes) bytes positive, w)

-- the byte that there is
first-there : (bytes : List ℕ) {first : ℕ} → Some first ≡ slice_get bytes 0 → (length bytes ≡ 0 → ⊥) × (first ≡ number_at bytes 0 1)
first-there [] e = cc
first-there (byte ∷ bytes) {first = first} e = let same : first ≡ byte = cc in ((λ z. omega arith), same ∙ sym (number_at-one 0 (byte ∷ bytes)))

-- by the first byte, the kind, the shape and the numbers that the code reads
module _ (bytes : List ℕ) {first : ℕ} (f : Some first ≡ slice_get bytes 0) where
  pub code-unknown : {r : Refusal} → Err r ≡ kind_numbered first → read_of bytes ≡ Err r
  code-unknown {r = r} e = let u = number_unknown first r (sym e) in rest bytes first (first-there bytes f).0 (first-there bytes f).1 ∙ rw (u.1, u.0)

  module _ {kind : Kind} (k : Ok kind ≡ kind_numbered first) {shape : Shape} (s : shape ≡ shape_of (row_of_kind messages (number_in kind))) where
    kind-read : number_in kind ≡ number_at bytes 0 1
    kind-read = sym (number-known first kind (sym k)) ∙ (first-there bytes f).1

    long : shape.whole ≡ 0 → ⊥
    long z = let p = kind-long kind in omega (arith, sym (rw s at z), shape-whole (row_of_kind messages (number_in kind)))

    pub code-short : length bytes < shape.whole → read_of bytes ≡ Err Torn
    code-short h = rest bytes (number_in kind) (first-there bytes f).0 kind-read ∙ shape-short messages (number_in kind) bytes s message_reader h

    module _ (h : shape.whole ≤ length bytes) {numbers : List ℕ} (n : numbers ≡ numbers_at (map bytes_in shape.widths) bytes 0) where
      pub code-elsewhere : last_account < get_or numbers 2 0 → read_of bytes ≡ Err UnknownAccount
      code-elsewhere a = rest bytes (number_in kind) (first-there bytes f).0 kind-read ∙ shape-elsewhere messages (number_in kind) bytes s long rows-hold n message_reader h a

      pub code-taken : get_or numbers 2 0 ≤ last_account → read_of bytes ≡ Ok (message_by (number_in kind) (heading_from numbers) (get_or numbers 4 0), shape.whole)
      unfolding numbers_at
      code-taken a =
          let at = row_at messages (number_in kind) bytes s long rows-hold n in
          rest bytes (number_in kind) (first-there bytes f).0 kind-read
          ∙ shape-taken messages (number_in kind) bytes s long rows-hold n message_reader h a
          ∙ rw (at 1, at 2, at 3, at 4, ← kind-read)
