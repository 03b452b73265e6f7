-- The ways out of the writer of entries, one law each.
-- Assumes nothing.
use Prim.Native.Nat.{ℕ, ◌≤◌, ◌<◌}
use native.Mathlib.Omega.{arith}
use mathlib.Core.Path.{◌≡◌, ◌∙◌}
use mathlib.Core.List.{List}
use borrow.Author.Tests.{lt-ltb, le-ltb}
use Rattle.std.specs.Prelude.{Ok}
use lib.ListN.{length}
use lib.Seq.{sets}
use Rattle.filing.specs.declared.Entry.{Entry}
use Rattle.refusal.specs.declared.Refusal.TheVariants.{NoRoom}
use Rattle.layout.specs.Writes.{wrote_over, refused_with}
use Rattle.layout.proofs.Stores.{laid-over}
use Rattle.entry.specs.Bytes.{bytes_of_entries, wholes_of}
use Rattle.entry.specs.Answers.{longest_call, write_of}
use Rattle.entry.proofs.Stored.{length-entries}

pub write-small : (entries : List Entry) (account : ℕ) (l : List ℕ) → length l < longest_call → write_of entries account l ≡ refused_with NoRoom l
unfolding write_of
write-small entries account l h = rw (lt-ltb (length l) longest_call h)

module _ (entries : List Entry) (account : ℕ) (l : List ℕ) (room : longest_call ≤ length l) where
  pub write-short : (wholes_of entries ≤ length l → ⊥) → write_of entries account l ≡ refused_with NoRoom l
  unfolding write_of
  write-short h = rw (le-ltb (length l) longest_call room, length-entries account entries, lt-ltb (length l) (wholes_of entries) (omega arith))

  pub write-stored : (l' : List ℕ) → wholes_of entries ≤ length l → l' ≡ sets l 0 (bytes_of_entries account entries)
      → (Ok (wholes_of entries) ≡ (write_of entries account l).answer) × (l' ≡ (write_of entries account l).buffer)
  unfolding write_of
  write-stored l' h e =
      let bytes = bytes_of_entries account entries in
      let n : length bytes ≡ wholes_of entries = length-entries account entries in
      let t : write_of entries account l ≡ wrote_over bytes l = rw (le-ltb (length l) longest_call room, le-ltb (length l) (length bytes) (rw n h)) in
      (rw (t, n), rw t (e ∙ laid-over bytes l (rw n h)))
