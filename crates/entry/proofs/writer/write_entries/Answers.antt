-- Each way out is a law of the writer's definition; one entry more is stored where the others end.
-- Assumes nothing.
use Rattle.std.proofs.Common.{◌+◌, ◌≡◌, take, refl, ap₂, arith}
use Rattle.std.proofs.lemmas.Bool.{false≢true}
use Rattle.std.proofs.lemmas.List.{take_all}
use Rattle.entry.specs.Bytes.{bytes_of_entries, wholes_of}
use Rattle.entry.proofs.Stored.{wholes-more, wholes-next, stored_more}
use Rattle.entry.proofs.Writing.{write-small, write-short, write-stored}
use Rattle.entry.proofs.writer.write_entries.Goals as goal
use Rattle.entry.proofs.writer.write_entries.Goals.{then-buffer-lt-LONGEST_CALL-via-then-buffer-lt-LONGEST_CALL, then-buffer-lt-LONGEST_CALL-via-else-buffer-lt-LONGEST_CALL+then-not-has_room}

pub returns-then-buffer-lt-LONGEST_CALL : goal.returns-then-buffer-lt-LONGEST_CALL
returns-then-buffer-lt-LONGEST_CALL c =
    let a = c.args in
    let n = a.buffer.now in
    elim c.then-buffer-lt-LONGEST_CALL.branch [
      | then-buffer-lt-LONGEST_CALL-via-then-buffer-lt-LONGEST_CALL w ↦
          rw (write-small a.entries.now a.account n w.if-buffer-lt-LONGEST_CALL.true) (record { answer = refl; buffer = refl })
      | then-buffer-lt-LONGEST_CALL-via-else-buffer-lt-LONGEST_CALL+then-not-has_room w ↦
          rw (write-short a.entries.now a.account n w.if-buffer-lt-LONGEST_CALL.false (λ h. false≢true (w.if-not-has_room.ensures.1 h))) (record { answer = refl; buffer = refl })
    ]

pub loop-entry-init : goal.loop-entry-init
unfolding wholes_of bytes_of_entries
loop-entry-init c = record { place = refl; bytes = refl }

pub slice_bounds-put_entry-count : goal.slice_bounds-put_entry-count
slice_bounds-put_entry-count c = omega (arith, wholes-next c.args.entries.now c.loop-entry.entry-index c.loop-entry-test.true)

pub slice_bounds-put_entry-start : goal.slice_bounds-put_entry-start
slice_bounds-put_entry-start c = omega (arith, wholes-next c.args.entries.now c.loop-entry.entry-index c.loop-entry-test.true)

pub overflow_add-at : goal.overflow_add-at
overflow_add-at c = omega (arith, wholes-next c.args.entries.now c.loop-entry.entry-index c.loop-entry-test.true)

pub loop-entry-preserved : goal.loop-entry-preserved
loop-entry-preserved c =
    let a = c.args in
    let v = c.loop-entry in
    let put = c.put_entry-at in
    let h = c.loop-entry-test.true in
    record {
      place = rw (wholes-more a.entries.now v.entry-index h) (ap₂ ◌+◌ v.invariant.place put.ensures.length);
      bytes = stored_more a.entries.now v.entry-index h a.account v.at a.buffer.now v.buffer put.new.buffer v.invariant.place (omega arith) v.invariant.bytes put.ensures.bytes;
    }

pub returns : goal.returns
returns c =
    let a = c.args in
    let v = c.loop-entry in
    let all : take v.entry-index a.entries.now ≡ a.entries.now = take_all v.entry-index a.entries.now c.loop-entry-test.false in
    let place : v.at ≡ wholes_of a.entries.now = rw all at v.invariant.place in
    let w = write-stored a.entries.now a.account a.buffer.now c.if-buffer-lt-LONGEST_CALL.false v.buffer (omega arith) (rw all at v.invariant.bytes) in
    rw place (record { answer = w.0; buffer = w.1 })
