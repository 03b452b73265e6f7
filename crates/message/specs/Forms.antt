-- Each answer of the message reader with what is said of it, literally (docs/REGISTER.md, 10.1 and 11.3).
-- Assumes nothing.
use Rattle.std.specs.Prelude.{ℕ, ◌≡◌, Ok, Err}
use Rattle.std.proofs.Math.Option.{none, some}
use Rattle.refusal.specs.declared.Refusal.{Refusal}
use Rattle.refusal.specs.Numbers.{number_of}
use Rattle.message.specs.declared.Message.{Message}
use Rattle.message.specs.Answers.{said_of_reading}

pub record ReadingForm : Type 0 where
  pub message : (m : Message) (whole : ℕ) → said_of_reading (Ok (m, whole)) ≡ record { refusal = none; consumed = whole; message = some m }
  pub refused : (r : Refusal) → said_of_reading (Err r) ≡ record { refusal = some (number_of r); consumed = 0; message = none }
