-- The refusals of the writer are those of its definition, and what it writes fits where it does not refuse.
-- Assumes nothing.
use Prim.Native.Nat.{ℕ}
use mathlib.Core.Path.{◌≡◌, refl, ap}
use mathlib.Core.Bool.{Bool, true, false, cond}
use mathlib.Core.List.{List}
use mathlib.Core.Option.{none, some}
use borrow.Author.Tests.{ltb-false}
use Rattle.std.specs.Prelude.{Some, None}
use lib.Dec.{ltb}
use lib.ListN.{length}
use Rattle.layout.specs.Writes.{said_of_writing, wrote_over, refused_with}
use Rattle.layout.proofs.Writes.{wrote-stays, cond-stays}
use Rattle.refusal.specs.declared.Refusal.TheVariants.{NoRoom}
use Rattle.entry.specs.Bytes.{bytes_of_entries}
use Rattle.entry.specs.Answers.{longest_call, write_of, SaidOfEntry, found_as}
use Rattle.entry.specs.Refusals.{WriterRefuses, WriterStays, ReadingsApart}
use Rattle.entry.proofs.Plain.{length-bytes}

-- a writer that refuses with 4 by a test
pub refuses : (b : Bool) (bytes buffer : List ℕ) → (said_of_writing (cond b (refused_with NoRoom buffer) (wrote_over bytes buffer)).answer).refusal ≡ cond b (some 4) none
refuses true bytes buffer = refl
refuses false bytes buffer = refl

pub writer-refuses : WriterRefuses
unfolding write_of
writer-refuses entries account buffer = rw (← length-bytes account entries) (go (ltb (length buffer) longest_call))
  where
    bytes : List ℕ
    bytes = bytes_of_entries account entries

    go : (b : Bool)
        → (said_of_writing (cond b (refused_with NoRoom buffer) (cond (ltb (length buffer) (length bytes)) (refused_with NoRoom buffer) (wrote_over bytes buffer))).answer).refusal
        ≡ cond b (some 4) (cond (ltb (length buffer) (length bytes)) (some 4) none)
    go true = refl
    go false = refuses (ltb (length buffer) (length bytes)) bytes buffer

pub writer-stays : WriterStays
unfolding write_of
writer-stays entries account buffer =
    let bytes = bytes_of_entries account entries in
    let next = cond (ltb (length buffer) (length bytes)) (refused_with NoRoom buffer) (wrote_over bytes buffer) in
    cond-stays (ltb (length buffer) longest_call) NoRoom buffer next
    (λ a. cond-stays (ltb (length buffer) (length bytes)) NoRoom buffer (wrote_over bytes buffer) (λ b. wrote-stays bytes buffer (ltb-false (length buffer) (length bytes) b)))

pub readings-apart : ReadingsApart
readings-apart (Some (f, n)) (Some (g, m)) q =
    let x = ap (λ (s : SaidOfEntry). s.entry) q in
    let w = ap (λ (s : SaidOfEntry). s.kind) q in
    let y = ap (λ (s : SaidOfEntry). s.account) q in
    let z = ap (λ (s : SaidOfEntry). s.length') q in
    let same : found_as f.entry f.kind f.account n ≡ found_as g.entry g.kind g.account m = cc in
    same
readings-apart (Some (f, n)) None q = let x = ap (λ (s : SaidOfEntry). s.entry) q in cc
readings-apart None (Some (f, n)) q = let x = ap (λ (s : SaidOfEntry). s.entry) q in cc
readings-apart None None q = refl
