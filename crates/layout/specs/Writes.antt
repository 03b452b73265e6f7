-- What a writer gives: its answer, and the buffer that it leaves (docs/REGISTER.md, 10.1 and 11.3).
-- Assumes nothing.
use Rattle.std.specs.Prelude.{ℕ, ◌≡◌, List, ◌++◌, length, drop, Result, Ok, Err}
use Rattle.std.proofs.Math.Option.{Option, none, some}
use Rattle.refusal.specs.declared.Refusal.{Refusal}
use Rattle.refusal.specs.Numbers.{number_of}

-- what a writer's answer says: the number of its refusal, if it is one, and the length written, which is 0 for a refusal
pub record SaidOfWriting : Type 0 where
  pub refusal : Option ℕ
  pub length' : ℕ

abbrev pub said_of_writing : Result ℕ Refusal → SaidOfWriting
said_of_writing (Ok n) = record { refusal = none; length' = n }
said_of_writing (Err r) = record { refusal = some (number_of r); length' = 0 }

-- the answer and the buffer
pub record Wrote : Type 0 where
  pub answer : Result ℕ Refusal
  pub buffer : List ℕ

-- a buffer that begins with these bytes
abbrev pub laid_over : (bytes buffer : List ℕ) → List ℕ
laid_over bytes buffer = bytes ++ drop (length bytes) buffer

abbrev pub wrote_over : (bytes buffer : List ℕ) → Wrote
wrote_over bytes buffer = record { answer = Ok (length bytes); buffer = laid_over bytes buffer }

-- a refusal leaves the buffer as it was (10.1)
abbrev pub refused_with : Refusal → (buffer : List ℕ) → Wrote
refused_with r buffer = record { answer = Err r; buffer = buffer }

-- bytes behind those that were written are as they were, all of them where the writer refuses (11.3)
pub record Stays (buffer : List ℕ) (w : Wrote) : Type 0 where
  pub size : length w.buffer ≡ length buffer
  pub rest : drop (said_of_writing w.answer).length' w.buffer ≡ drop (said_of_writing w.answer).length' buffer
