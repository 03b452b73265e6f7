-- The plain sayings of messages: bytes by the plain sayings of numbers, the reader by its way out where a message is taken, the writer by its
-- way out where it writes and the law that what was written is read.
-- Assumes nothing.
use Prim.Native.Nat.{ℕ, ◌<◌}
use native.Mathlib.Omega.{arith}
use mathlib.Core.Path.{◌≡◌, refl, ap, sym, ◌∙◌}
use mathlib.Core.List.{List, []}
use lib.ListN.{length, drop, get_or}
use Rattle.events.specs.declared.Event.TheVariants.{Open, Withdraw, Deposit, Close}
use Rattle.std.specs.Prelude.{Ok}
use Rattle.layout.specs.Number.{number_at}
use Rattle.layout.specs.Fields.{written, row_of_kind, whole_of, numbers_at}
use Rattle.events.specs.Kinds.{event_of}
use Rattle.layout.specs.Plain.{four_at}
use Rattle.layout.proofs.Tables.{present}
use Rattle.layout.proofs.Plain.{numbers-plain}
use Rattle.layout.proofs.Heading.{filed-plain}
use Rattle.message.specs.declared.Message.{Message}
use Rattle.message.specs.declared.Message.TheVariants.{Request, Commit, Abort}
use Rattle.message.specs.Bytes.{messages, kind_of, heading_of, message_by, bytes_of_message, length_of_message}
use Rattle.message.specs.Answers.{said_of_reading, read_of}
use Rattle.message.specs.Plain.{MessagesPlain, length_in, heading_in, Stands, Begins, ReaderTakes, WriterReadBack}
use Rattle.message.proofs.Shapes.{shaped}
use Rattle.message.proofs.Reader.{heading_at, read_taken}
use Rattle.message.proofs.Writer.{length-message, write-taken}
use Rattle.message.proofs.Inverse.{ok_same, taken_of, reads-written}
use Rattle.message.proofs.Refusals.{readings-apart}

pub messages-plain : MessagesPlain
unfolding bytes_of_message length_of_message row_of_kind messages written
messages-plain h a =
    let n = numbers-plain [] 0 in
    record {
      bytes =
          rw (
            (n 1).bytes1,
            (n 2).bytes1,
            (n 3).bytes1,
            (n 4).bytes1,
            (n 5).bytes1,
            (n 6).bytes1,
            (n h.transaction).bytes4,
            (n h.account).bytes2,
            (n h.filed.second).bytes4,
            (n a).bytes4,
          );
      lengths = refl;
      headings = refl;
      amounts = refl;
    }

heading-plain : (bytes : List ℕ) → heading_in bytes ≡ heading_at bytes
heading-plain bytes = rw ((numbers-plain bytes 1 0).read4, (numbers-plain bytes 5 0).read2, filed-plain bytes)

-- the message of the bytes' kind stands in them, and is as long as the kind says
module _ (bytes : List ℕ) (kind : ℕ) (p : 0 < whole_of (row_of_kind messages kind)) where
  stands_by : kind ≡ number_at bytes 0 1 → Stands bytes (message_by kind (heading_at bytes) (number_at bytes 11 4))
  unfolding row_of_kind messages message_by event_of
  stands_by e =
      let first : (k : ℕ) → k ≡ number_at bytes 0 1 → get_or bytes 0 0 ≡ k = λ k e. sym (numbers-plain bytes 0 0).read1 ∙ sym e in
      let h = heading-plain bytes in
      let a = sym (numbers-plain bytes 11 0).read4 in
      present
      (λ (k : ℕ). k ≡ number_at bytes 0 1 → Stands bytes (message_by k (heading_at bytes) (number_at bytes 11 4)))
      messages kind (
        (λ e. (first 1 e, h, a)),
        ((λ e. (first 2 e, h, a)), ((λ e. (first 3 e, h, a)), ((λ e. (first 4 e, h)), ((λ e. (first 5 e, h)), ((λ e. (first 6 e, h)), tt))))),
      )
      p e

  length-by : whole_of (row_of_kind messages kind) ≡ length_in (message_by kind (heading_at bytes) (number_at bytes 11 4))
  unfolding row_of_kind messages message_by event_of
  length-by =
      present
      (λ (k : ℕ). whole_of (row_of_kind messages k) ≡ length_in (message_by k (heading_at bytes) (number_at bytes 11 4)))
      messages kind (refl, (refl, (refl, (refl, (refl, (refl, tt)))))) p

-- what was taken stands at the beginning
taken-begins : (bytes : List ℕ) (m : Message) (whole : ℕ) → read_of bytes ≡ Ok (m, whole) → Begins bytes m whole
unfolding numbers_at
taken-begins bytes m whole e =
    let kind = number_at bytes 0 1 in
    let t = taken_of bytes m whole e in
    let z : length bytes ≡ 0 → ⊥ = λ n. omega (arith, t.positive, t.enough) in
    let r = read_taken bytes kind (whole_of (row_of_kind messages kind)) z refl refl (λ n. omega (arith, t.positive)) t.enough t.account in
    let m' : message_by kind (heading_at bytes) (number_at bytes 11 4) ≡ m =
    (ok_same (message_by kind (heading_at bytes) (number_at bytes 11 4)) m (whole_of (row_of_kind messages kind)) whole (sym r ∙ e)).0 in
    record {
      stands = rw m' at (stands_by bytes kind t.positive refl);
      account = rw (numbers-plain bytes 5 0).read2 at t.account;
      length' = sym t.length' ∙ length-by bytes kind t.positive ∙ ap length_in m';
      enough = rw t.length' at t.enough;
    }

-- a message that stands in the bytes is the one of its kind, heading and amount
record Parts (bytes : List ℕ) (m : Message) : Type 0 where
  kind : get_or bytes 0 0 ≡ kind_of m
  heading : heading_in bytes ≡ heading_of m
  message : message_by (kind_of m) (heading_of m) (four_at bytes 11) ≡ m

parts : (bytes : List ℕ) (m : Message) → Stands bytes m → Parts bytes m
unfolding message_by event_of
parts bytes (Request h (Open a)) s = record { kind = s.0; heading = s.1; message = rw s.2 }
parts bytes (Request h (Withdraw a)) s = record { kind = s.0; heading = s.1; message = rw s.2 }
parts bytes (Request h (Deposit a)) s = record { kind = s.0; heading = s.1; message = rw s.2 }
parts bytes (Request h Close) s = record { kind = s.0; heading = s.1; message = refl }
parts bytes (Commit h) s = record { kind = s.0; heading = s.1; message = refl }
parts bytes (Abort h) s = record { kind = s.0; heading = s.1; message = refl }

begins-taken : (bytes : List ℕ) (m : Message) (whole : ℕ) → Begins bytes m whole → read_of bytes ≡ Ok (m, whole)
unfolding length_of_message
begins-taken bytes m whole b =
    let q = parts bytes m b.stands in
    let w : whole ≡ length_of_message m = b.length' ∙ sym (shaped m).length' in
    let z : 0 < whole = rw (w, ← (shaped m).whole) (omega arith) in
    let e : message_by (kind_of m) (heading_at bytes) (number_at bytes 11 4) ≡ m =
    rw (← heading-plain bytes, q.heading, (numbers-plain bytes 11 0).read4) q.message in
    read_taken bytes (kind_of m) whole (λ n. omega (arith, b.enough)) (sym q.kind ∙ sym (numbers-plain bytes 0 0).read1) w (λ n. omega arith) b.enough
    (rw (numbers-plain bytes 5 0).read2 b.account)
    ∙ rw e

pub reader-takes : ReaderTakes
reader-takes bytes m whole = (
  (λ e. taken-begins bytes m whole (readings-apart (read_of bytes) (Ok (m, whole)) e)),
  (λ b. ap said_of_reading (begins-taken bytes m whole b)),
)

pub writer-read-back : WriterReadBack
writer-read-back m buffer p h =
    let l = (shaped m).length' in
    let n : length (bytes_of_message m) ≡ length_in m = length-message m ∙ l in
    let t = write-taken m buffer p.account (rw l h) in
    record {
      answer = rw (t, n);
      back = rw (t, reads-written m (drop (length (bytes_of_message m)) buffer) p, l);
    }
