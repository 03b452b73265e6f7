-- The ways out of the writer, one law each. Numbers stored by the row of the message's kind are its bytes, laid over the buffer.
-- Assumes nothing.
use Prim.Native.Nat.{ℕ, ◌≤◌, ◌<◌}
use native.Mathlib.Omega.{arith}
use mathlib.Core.Path.{◌≡◌, ◌∙◌}
use mathlib.Core.List.{List, map}
use borrow.Author.Tests.{lt-ltb, le-ltb}
use lib.ListN.{length}
use lib.Seq.{sets}
use Rattle.std.specs.Prelude.{Ok}
use Rattle.refusal.specs.declared.Refusal.TheVariants.{UnknownAccount, NoRoom}
use Rattle.layout.specs.Fields.{row_of_kind, widths_of, written, last_account}
use Rattle.layout.specs.Shapes.{bytes_in, padded, shape_of}
use Rattle.layout.specs.Writes.{wrote_over, refused_with}
use Rattle.layout.proofs.Stores.{laid-over}
use Rattle.layout.proofs.Fields.{length-written}
use Rattle.layout.proofs.Reading.{shape-written}
use Rattle.message.specs.declared.Message.{Message}
use Rattle.message.specs.Bytes.{messages, kind_of, heading_of, numbers_of, bytes_of_message, length_of_message}
use Rattle.message.specs.Answers.{write_of}
use Rattle.message.proofs.Shapes.{rows-hold, shaped}

pub length-message : (m : Message) → length (bytes_of_message m) ≡ length_of_message m
unfolding bytes_of_message
length-message m = length-written (widths_of (row_of_kind messages (kind_of m))) (numbers_of m) (shaped m).paired ∙ (shaped m).whole

-- stored by the row of its kind, places behind it and all, it is its bytes
row-bytes : (m : Message) → written (map bytes_in (shape_of (row_of_kind messages (kind_of m))).widths) (padded (numbers_of m)) ≡ bytes_of_message m
unfolding bytes_of_message length_of_message
row-bytes m =
    let whole : 0 < length_of_message m = rw (← (shaped m).whole) (omega arith) in
    shape-written messages (kind_of m) rows-hold whole (numbers_of m) (shaped m).paired

pub write-account : (m : Message) (l : List ℕ) → last_account < (heading_of m).account → write_of m l ≡ refused_with UnknownAccount l
unfolding write_of
write-account m l a = rw (lt-ltb last_account (heading_of m).account a)

pub write-short : (m : Message) (l : List ℕ) → (heading_of m).account ≤ last_account → length l < length_of_message m → write_of m l ≡ refused_with NoRoom l
unfolding write_of
write-short m l a h = rw (le-ltb last_account (heading_of m).account a, lt-ltb (length l) (length_of_message m) h)

pub write-taken : (m : Message) (l : List ℕ) → (heading_of m).account ≤ last_account → length_of_message m ≤ length l → write_of m l ≡ wrote_over (bytes_of_message m) l
unfolding write_of
write-taken m l a h = rw (le-ltb last_account (heading_of m).account a, le-ltb (length l) (length_of_message m) h)

pub write-stored : (m : Message) (l l' : List ℕ) → (heading_of m).account ≤ last_account → length_of_message m ≤ length l
    → l' ≡ sets l 0 (written (map bytes_in (shape_of (row_of_kind messages (kind_of m))).widths) (padded (numbers_of m)))
    → (Ok (length_of_message m) ≡ (write_of m l).answer) × (l' ≡ (write_of m l).buffer)
write-stored m l l' a h e =
    let t : write_of m l ≡ wrote_over (bytes_of_message m) l = write-taken m l a h in
    let n : length (bytes_of_message m) ≡ length_of_message m = length-message m in
    (rw (t, n), rw t (e ∙ rw (row-bytes m) (laid-over (bytes_of_message m) l (rw n h))))
