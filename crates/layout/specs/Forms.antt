-- Each answer of a writer with what is said of it, literally (docs/REGISTER.md, 10.1).
-- Assumes nothing.
use Rattle.std.specs.Prelude.{ℕ, ◌≡◌, Ok, Err}
use Rattle.std.proofs.Math.Option.{none, some}
use Rattle.refusal.specs.declared.Refusal.{Refusal}
use Rattle.refusal.specs.Numbers.{number_of}
use Rattle.layout.specs.Writes.{said_of_writing}

pub record WritingForm : Type 0 where
  pub written : (n : ℕ) → said_of_writing (Ok n) ≡ record { refusal = none; length' = n }
  pub refused : (r : Refusal) → said_of_writing (Err r) ≡ record { refusal = some (number_of r); length' = 0 }
