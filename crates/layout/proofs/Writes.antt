-- Writers: an answer is what is said of it, and bytes behind those that were written are as they were.
-- Assumes nothing.
use Prim.Native.Nat.{ℕ, ◌≤◌}
use native.Mathlib.Omega.{arith}
use mathlib.Core.Path.{◌≡◌, refl, ap}
use mathlib.Core.Bool.{Bool, true, false, cond}
use mathlib.Core.List.{List}
use lib.ListN.{length, drop, length-append, length-drop}
use lib.Seq.{drop_at}
use Rattle.std.specs.Prelude.{Result, Ok, Err}
use Rattle.refusal.specs.declared.Refusal.{Refusal}
use Rattle.refusal.specs.Numbers.{number_of}
use Rattle.refusal.proofs.Literal.{same-refusal}
use Rattle.layout.specs.Writes.{SaidOfWriting, said_of_writing, Wrote, wrote_over, refused_with, Stays}

-- what is said of an answer tells the answers apart
pub answers-apart : (r s : Result ℕ Refusal) → said_of_writing r ≡ said_of_writing s → r ≡ s
answers-apart (Ok n) (Ok k) e = ap Ok (ap (λ (g : SaidOfWriting). g.length') e)
answers-apart (Ok n) (Err k) e = let f = ap (λ (g : SaidOfWriting). g.refusal) e in cc
answers-apart (Err n) (Ok k) e = let f = ap (λ (g : SaidOfWriting). g.refusal) e in cc
answers-apart (Err n) (Err k) e =
    let f = ap (λ (g : SaidOfWriting). g.refusal) e in
    let same : number_of n ≡ number_of k = cc in
    ap Err (same-refusal n k same)

pub refused-stays : (r : Refusal) (buffer : List ℕ) → Stays buffer (refused_with r buffer)
refused-stays r buffer = record { size = refl; rest = refl }

pub wrote-stays : (bytes buffer : List ℕ) → length bytes ≤ length buffer → Stays buffer (wrote_over bytes buffer)
wrote-stays bytes buffer h =
    record {
      size = rw (length-append, length-drop) (omega arith);
      rest = drop_at bytes (drop (length bytes) buffer) (length bytes) refl;
    }

-- a writer with one refusal more
pub cond-stays : (b : Bool) (r : Refusal) (buffer : List ℕ) (next : Wrote) → (b ≡ false → Stays buffer next) → Stays buffer (cond b (refused_with r buffer) next)
cond-stays true r buffer next h = refused-stays r buffer
cond-stays false r buffer next h = h refl
