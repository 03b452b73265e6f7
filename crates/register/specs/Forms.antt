-- Each reply of a call with what is said of it, what a run makes of it, and what is exported, literally (docs/REGISTER.md, 10.1, 11.1 and 11.5).
-- Assumes nothing.
use Rattle.register.specs.declared.Taken.{Taken}
use Rattle.std.specs.Prelude.{ℕ, ◌+◌, ◌≤◌, ◌≡◌, true, false, Ok, Err, List, [], ◌∷◌, ◌++◌, take}
use Rattle.std.proofs.Math.Option.{none, some}
use Rattle.refusal.specs.declared.Refusal.{Refusal}
use Rattle.refusal.specs.Numbers.{number_of, itself, numbered}
use Rattle.register.specs.Call.{refusal_of, consumed_of, written_of}
use Rattle.register.specs.Sequence.{Exchange}
use Rattle.register.specs.Run.{number_with, reply_number, passed_with, passed_of}
use Rattle.register.specs.First.{run_of, export_of}
use Rattle.register.specs.RunCalls.{refused_among, entries_among}

pub record AnswerForm : Type 0 where
  pub refused : (refusal : Refusal) → (refusal_of (Err refusal) ≡ some (number_of refusal)) × (consumed_of (Err refusal) ≡ 0) × (written_of (Err refusal) ≡ 0)
  pub taken : (consumed written : ℕ) → let taken : Taken = record { consumed = consumed; written = written } in (refusal_of (Ok taken) ≡ none) × (consumed_of (Ok taken) ≡ consumed) × (written_of (Ok taken) ≡ written)

-- what a message comes to: taken it is passed with its entries; refused with 1 or 2 it is the last, and with any other number, whether a run can meet it or not, it is passed by its length (11.5)
pub record PassedForm (whole : ℕ) : Type 0 where
  pub taken : (consumed written : ℕ) → passed_of (Ok (record { consumed = consumed; written = written })) whole ≡ record { refused = 0; consumed = consumed; written = written; stops = false }
  pub first : passed_with itself (Err 1) whole ≡ record { refused = 1; consumed = 0; written = 0; stops = true }
  pub second : passed_with itself (Err 2) whole ≡ record { refused = 1; consumed = 0; written = 0; stops = true }
  pub others : (n : ℕ) → 3 ≤ n → passed_with itself (Err n) whole ≡ record { refused = 1; consumed = whole; written = 0; stops = false }
  pub number : (n : ℕ) → number_with itself (Err n) ≡ n
  pub no_number : (consumed written : ℕ) → reply_number (Ok (record { consumed = consumed; written = written })) ≡ 0
  -- the same where a number stands in the place of a refusal
  pub taken' : (consumed written : ℕ) → passed_with itself (Ok (record { consumed = consumed; written = written })) whole ≡ record { refused = 0; consumed = consumed; written = written; stops = false }
  pub no_number' : (consumed written : ℕ) → number_with itself (Ok (record { consumed = consumed; written = written })) ≡ 0
  -- and of the twelve refusals, each by its own number
  pub first_refusal : passed_of (Err (numbered 1)) whole ≡ record { refused = 1; consumed = 0; written = 0; stops = true }
  pub second_refusal : passed_of (Err (numbered 2)) whole ≡ record { refused = 1; consumed = 0; written = 0; stops = true }
  pub other_refusals : (refusal : Refusal) → 3 ≤ number_of refusal → passed_of (Err refusal) whole ≡ record { refused = 1; consumed = whole; written = 0; stops = false }
  pub number_of_refusal : (refusal : Refusal) → reply_number (Err refusal) ≡ number_of refusal

-- the calls of a run: each refusal, whatever its number, counts as one and brings no entry; what is taken brings its entries before those of the later calls
pub record SumsForm (message buffer : List ℕ) (seen : List Exchange) : Type 0 where
  pub none : (refused_among [] ≡ 0) × (entries_among [] ≡ [])
  pub refused : (refusal : Refusal)
      → let x : Exchange = record { message = message; reply = Err refusal; buffer = buffer } in
      (refused_among (x ∷ seen) ≡ 1 + refused_among seen) × (entries_among (x ∷ seen) ≡ entries_among seen)
  pub taken : (consumed written : ℕ)
      → let x : Exchange = record { message = message; reply = Ok (record { consumed = consumed; written = written }); buffer = buffer } in
      (refused_among (x ∷ seen) ≡ refused_among seen) × (entries_among (x ∷ seen) ≡ take written buffer ++ entries_among seen)

-- a run for a caller from outside: its answer is the last of the four numbers, its buffer the run's; of four places for counts, and of any behind them
pub record ExportForm (messages entries : List ℕ) : Type 0 where
  pub answer : (counts : List ℕ) → (export_of messages entries counts).answer ≡ (run_of messages entries).counts.written
  pub entries' : (counts : List ℕ) → (export_of messages entries counts).entries ≡ (run_of messages entries).entries
  pub counts : (a b c d : ℕ) (rest : List ℕ)
      → (export_of messages entries (a ∷ b ∷ c ∷ d ∷ rest)).counts
      ≡ (run_of messages entries).counts.met ∷ (run_of messages entries).counts.refused ∷ (run_of messages entries).counts.consumed ∷ (run_of messages entries).counts.written ∷ rest
  -- and of fewer places the first numbers
  pub three : (a b c : ℕ) → (export_of messages entries (a ∷ b ∷ c ∷ [])).counts
      ≡ (run_of messages entries).counts.met ∷ (run_of messages entries).counts.refused ∷ (run_of messages entries).counts.consumed ∷ []
  pub two : (a b : ℕ) → (export_of messages entries (a ∷ b ∷ [])).counts ≡ (run_of messages entries).counts.met ∷ (run_of messages entries).counts.refused ∷ []
  pub one : (a : ℕ) → (export_of messages entries (a ∷ [])).counts ≡ (run_of messages entries).counts.met ∷ []
  pub none' : (export_of messages entries []).counts ≡ []

pub record FormsHold : Type 0 where
  pub answers : AnswerForm
  pub passed : (whole : ℕ) → PassedForm whole
  pub sums : (message buffer : List ℕ) (seen : List Exchange) → SumsForm message buffer seen
  pub exported : (messages entries : List ℕ) → ExportForm messages entries
