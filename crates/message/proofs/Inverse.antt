-- Reader and writer are inverse. The numbers of a message are read back by the law on fields, and a message is its numbers; what was read was
-- read by a row of the table, whose widths make up its length, so the law on fields gives its bytes.
-- Assumes nothing.
use Prim.Native.Nat.{ℕ, ◌+◌, ◌≤◌, ◌<◌, ◌^◌}
use native.Mathlib.Omega.{arith}
use mathlib.Core.Path.{◌≡◌, refl, ap, sym, subst, ◌∙◌}
use mathlib.Core.List.{List, [], ◌++◌}
use mathlib.Core.Option.{Option}
use lib.Dec.{eqb, lit<}
use lib.ListN.{length, get_or, length-append}
use Rattle.std.specs.Prelude.{Result, Ok, Err}
use Rattle.refusal.specs.declared.Refusal.{Refusal}
use Rattle.refusal.specs.declared.Refusal.TheVariants.{Torn, UnknownKind, UnknownAccount}
use Rattle.layout.specs.Number.{number_at, AreBytes}
use Rattle.layout.specs.Fields.{KindRow, row_of_kind, whole_of, then_of, widths_of, numbers_at, last_account}
use Rattle.events.specs.Kinds.{event_of}
use Rattle.layout.specs.Heading.{filed_from, FiledFits}
use Rattle.layout.specs.Inverse.{Fit}
use Rattle.layout.proofs.Numbers.{number_at-fits}
use Rattle.layout.proofs.Fields.{numbers_at-written}
use Rattle.layout.proofs.Heading.{fit-heading, filed-fits}
use Rattle.layout.proofs.Tables.{present}
use Rattle.layout.proofs.Reading.{past, taken-row, taken-by, read_written}
use Rattle.message.specs.declared.Message.{Message}
use Rattle.message.specs.Bytes.{messages, kind_of, heading_of, numbers_of, message_by, message_of, bytes_of_message, length_of_message}
use Rattle.message.specs.Answers.{message_reader, read_of, read_kind}
use Rattle.message.specs.Inverse.{ReadsWritten, WritesRead}
use Rattle.message.proofs.Shapes.{rows-hold, shaped}
use Rattle.message.proofs.Reader.{rest, every-length}
use Rattle.message.proofs.Writer.{length-message}

pub reads-written : ReadsWritten
unfolding numbers_at bytes_of_message length_of_message
reads-written m after p =
    let found = row_of_kind messages (kind_of m) in
    let bytes = bytes_of_message m ++ after in
    let h = heading_of m in
    let n : length bytes ≡ length_of_message m + length after = rw (length-append, length-message m) in
    let z : 0 < length_of_message m = rw (← (shaped m).whole) (omega arith) in
    let fit : Fit (widths_of found) (numbers_of m) =
    fit-heading (kind_of m) h.transaction h.account h.filed (shaped m).kind p.transaction p.account p.filed ((shaped m).amount p.amount) in
    let e : numbers_at (widths_of found) bytes 0 ≡ numbers_of m = numbers_at-written [] after fit in
    let k : kind_of m ≡ number_at bytes 0 1 = sym (ap (λ (ns : List ℕ). get_or ns 0 0) e) in
    rest bytes (kind_of m) (λ h. absurd (omega arith)) k
    ∙ taken-row message_reader found bytes (numbers_of m) z (omega arith) e p.account
    ∙ rw (shaped m).numbers

-- what a message that was read says of the row by which it was read
pub record Taken (found : Option KindRow) (bytes : List ℕ) (m : Message) (whole : ℕ) : Type 0 where
  pub positive : 0 < whole_of found
  pub enough : whole_of found ≤ length bytes
  pub account : get_or (numbers_at (widths_of found) bytes 0) 2 0 ≤ last_account
  pub message : message_of (numbers_at (widths_of found) bytes 0) ≡ m
  pub length' : whole_of found ≡ whole

refused-is-none : (r : Refusal) (x : Message × ℕ) → ◌≡◌ {A = Result (Message × ℕ) Refusal} (Err r) (Ok x) → ⊥
refused-is-none r x e = cc

pub ok_same : (m n : Message) (k l : ℕ) → ◌≡◌ {A = Result (Message × ℕ) Refusal} (Ok (m, k)) (Ok (n, l)) → (m ≡ n) × (k ≡ l)
ok_same m n k l e =
    let f : ◌≡◌ {A = Message × ℕ} (m, k) (n, l) = cc in
    (ap (λ (p : Message × ℕ). p.0) f, ap (λ (p : Message × ℕ). p.1) f)

pub taken_of : (bytes : List ℕ) (m : Message) (whole : ℕ) → read_of bytes ≡ Ok (m, whole) → Taken (row_of_kind messages (number_at bytes 0 1)) bytes m whole
unfolding read_of
taken_of bytes m whole e =
    let kind = number_at bytes 0 1 in
    let s = past (eqb (length bytes) 0) (Err Torn) (read_kind (row_of_kind messages kind) bytes) (Ok (m, whole)) (refused-is-none Torn (m, whole)) e in
    let t = taken-by message_reader (Ok (m, whole)) (refused-is-none UnknownKind (m, whole)) (refused-is-none Torn (m, whole)) (refused-is-none UnknownAccount (m, whole)) messages kind bytes every-length s.1 in
    let same = ok_same (message_of (numbers_at (widths_of (row_of_kind messages kind)) bytes 0)) m (whole_of (row_of_kind messages kind)) whole t.answered in
    record { positive = t.positive; enough = t.enough; account = t.account; message = same.0; length' = same.1 }

-- the numbers that were read are those of the message
numbers-row : (bytes : List ℕ) (kind : ℕ) → kind ≡ number_at bytes 0 1 → 0 < whole_of (row_of_kind messages kind)
    → numbers_of (message_of (numbers_at (widths_of (row_of_kind messages kind)) bytes 0)) ≡ numbers_at (widths_of (row_of_kind messages kind)) bytes 0
unfolding row_of_kind messages numbers_at message_by event_of
numbers-row bytes kind k p =
    present
    (λ (k : ℕ). k ≡ number_at bytes 0 1
    → numbers_of (message_of (numbers_at (widths_of (row_of_kind messages k)) bytes 0)) ≡ numbers_at (widths_of (row_of_kind messages k)) bytes 0)
    messages kind
    ((λ e. rw (← e)), ((λ e. rw (← e)), ((λ e. rw (← e)), ((λ e. rw (← e)), ((λ e. rw (← e)), ((λ e. rw (← e)), tt))))))
    p k

amount-row : (bytes : List ℕ) (kind : ℕ) → AreBytes bytes → 0 < whole_of (row_of_kind messages kind)
    → get_or (numbers_at (then_of (row_of_kind messages kind)) bytes 11) 0 0 < 256 ^ 4
unfolding row_of_kind messages numbers_at
amount-row bytes kind b p =
    let n = number_at-fits 4 11 bytes b in
    present
    (λ (k : ℕ). get_or (numbers_at (then_of (row_of_kind messages k)) bytes 11) 0 0 < 256 ^ 4)
    messages kind (n, (n, (n, (lit< tt, (lit< tt, (lit< tt, tt)))))) p

pub writes-read : WritesRead
unfolding numbers_at bytes_of_message length_of_message
writes-read bytes m whole b e =
    let kind = number_at bytes 0 1 in
    let found = row_of_kind messages kind in
    let t = taken_of bytes m whole e in
    let numbers : numbers_of m ≡ numbers_at (widths_of found) bytes 0 = rw t.message at (numbers-row bytes kind refl t.positive) in
    let number : (i : ℕ) → get_or (numbers_of m) i 0 ≡ get_or (numbers_at (widths_of found) bytes 0) i 0 = λ i. ap (λ (ns : List ℕ). get_or ns i 0) numbers in
    let k : kind_of m ≡ kind = number 0 in
    record {
      bytes' = rw (numbers, k) (read_written messages kind rows-hold t.positive bytes whole b t.enough t.length');
      length' = rw k (sym t.length');
      writable =
          record {
            transaction = rw (number 1) (number_at-fits 4 1 bytes b);
            account = rw (number 2) t.account;
            filed = subst FiledFits (sym (ap filed_from numbers)) (filed-fits bytes b);
            amount = rw ((shaped m).amounts, number 4) (amount-row bytes kind b t.positive);
          };
    }
