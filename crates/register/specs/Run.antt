-- A run of messages through a fresh register (docs/REGISTER.md, 11.5): what is met and refused, how far the messages and the entries go, and the whole entry buffer.
-- Assumes nothing.
use Rattle.std.specs.Prelude.{ℕ, zero, suc, ◌+◌, ◌≤◌, ◌≡◌, true, false, cond, Result, Ok, Err, List, [], ◌∷◌, ◌++◌, eqb, leb, length, take, drop}
use Rattle.std.proofs.lemmas.List.Edits.{sets}
use Rattle.refusal.specs.Numbers.{number_of}
use Rattle.rule.specs.Rule.{Rule}
use Rattle.events.specs.declared.Event.{Event}
use Rattle.events.specs.declared.State.{State}
use Rattle.layout.specs.Number.{number_at}
use Rattle.layout.specs.Fields.{row_of_kind, whole_of}
use Rattle.message.specs.Bytes.{messages}
use Rattle.register.specs.declared.Register.{Register}
use Rattle.register.specs.declared.Taken.{Taken}
use Rattle.register.specs.declared.runs.Ran.{Ran}
use Rattle.register.specs.declared.runs.Passed.{Passed}
use Rattle.register.specs.Register.{fresh_by}
use Rattle.register.specs.Call.{Reply, called_by}

-- what a run gives: the four numbers, and the entry buffer, every byte of it
pub record Run : Type 0 where
  pub counts : Ran
  pub entries : List ℕ

-- no message is left
abbrev pub nothing : Ran
nothing = record { met = 0; refused = 0; consumed = 0; written = 0 }

abbrev pub ended : (entries : List ℕ) → Run
ended entries = record { counts = nothing; entries = entries }

-- the whole length of the message that the bytes begin with, which its kind fixes
abbrev pub length_at : (bytes : List ℕ) → ℕ
length_at bytes = whole_of (row_of_kind messages (number_at bytes 0 1))

-- the number of a refusal, by what it is told as; 0 says that there is none
abbrev pub number_with : {N : Type 0} → (number_is : N → ℕ) → Result Taken N → ℕ
number_with number_is (Err refusal) = number_is refusal
number_with number_is (Ok taken) = 0

abbrev pub reply_number : Reply → ℕ
reply_number reply = number_with number_of reply

-- what a refused message comes to, by its number, whichever it is, and its whole length: the run stops at refusals 1 and 2, and passes over a message that got another
abbrev pub passed_over : (number whole : ℕ) → Passed
passed_over number whole =
    cond (leb number 2) (record { refused = 1; consumed = 0; written = 0; stops = true }) (record { refused = 1; consumed = whole; written = 0; stops = false })

-- what a message comes to, by its reply
abbrev pub passed_with : {N : Type 0} → (number_is : N → ℕ) → Result Taken N → (whole : ℕ) → Passed
passed_with number_is (Ok taken) whole = record { refused = 0; consumed = taken.consumed; written = taken.written; stops = false }
passed_with number_is (Err refusal) whole = passed_over (number_is refusal) whole

abbrev pub passed_of : Reply → (whole : ℕ) → Passed
passed_of reply whole = passed_with number_of reply whole

-- the counts of one message: it was met, whether it is refused or not
abbrev pub one : Passed → Ran
one passed = record { met = 1; refused = passed.refused; consumed = passed.consumed; written = passed.written }

-- the counts of two parts of a run
abbrev pub added : Ran → Ran → Ran
added a b =
    record {
      met = a.met + b.met;
      refused = a.refused + b.refused;
      consumed = a.consumed + b.consumed;
      written = a.written + b.written;
    }

-- one part of a run and then another, whose entries stand after those of the first
abbrev pub joined : Run → Run → Run
joined a b = record { counts = added a.counts b.counts; entries = a.entries ++ b.entries }

-- a message's own part of the run: its counts and its entries
abbrev pub first : Passed → (buffer : List ℕ) → Run
first passed buffer = record { counts = one passed; entries = take passed.written buffer }

module _ (R : Rule State Event ℕ) where
  -- one turn: the register gets the message that the bytes begin with; behind it the next message starts, and behind its entries those of the next
  abbrev pub turn_of : (rest : Register → (bytes buffer : List ℕ) → Run) → Register → (bytes buffer : List ℕ) → Run
  turn_of rest r bytes buffer =
      let called = called_by R r bytes buffer in
      let passed = passed_of called.reply (length_at bytes) in
      let left = drop passed.written called.buffer in
      cond (eqb (length bytes) 0) (ended buffer)
      (joined (first passed called.buffer) (cond passed.stops (ended left) (rest called.register (drop passed.consumed bytes) left)))

  -- the run from a register on, of at most so many messages
  unfoldable pub run_from : (most : ℕ) → Register → (bytes buffer : List ℕ) → Run
  run_from zero r bytes buffer = ended buffer
  run_from (suc most) r bytes buffer = turn_of (λ (next : Register) (bytes' buffer' : List ℕ). run_from most next bytes' buffer') r bytes buffer

  -- from a fresh register on; there are no more messages than bytes
  unfoldable pub run_by : (bytes buffer : List ℕ) → Run
  run_by bytes buffer = run_from (length bytes) (fresh_by R) bytes buffer

  -- no message: nothing is counted, and the entry buffer stays
  abbrev pub EmptyRun : Type 0
  EmptyRun = (buffer : List ℕ) → run_by [] buffer ≡ record { counts = record { met = 0; refused = 0; consumed = 0; written = 0 }; entries = buffer }

  -- every message that the run goes on from has a byte at least, so that the bound is no part of the meaning: any that is not below the number of bytes gives the same
  abbrev pub BoundNeverMatters : Type 0
  BoundNeverMatters = (most : ℕ) (r : Register) (bytes buffer : List ℕ) → length bytes ≤ most → run_from most r bytes buffer ≡ run_from (length bytes) r bytes buffer

-- what a run keeps to: the buffer is as it was behind the entries, no more is passed than there is, and no more is refused than met
pub record Kept (bytes buffer : List ℕ) (run : Run) : Type 0 where
  pub size : length run.entries ≡ length buffer
  pub room : run.counts.written ≤ length buffer
  pub stays : drop run.counts.written run.entries ≡ drop run.counts.written buffer
  pub within : run.counts.consumed ≤ length bytes
  pub both : run.counts.refused ≤ run.counts.met

abbrev pub EachRunKept : Rule State Event ℕ → Type 0
EachRunKept R = (bytes buffer : List ℕ) → Kept bytes buffer (run_by R bytes buffer)

-- what the entry buffer held before never shows: the same numbers and the same entries
pub record Alike (x y : Run) : Type 0 where
  pub counts : x.counts ≡ y.counts
  pub entries : take x.counts.written x.entries ≡ take y.counts.written y.entries

abbrev pub BufferNeverShows : Rule State Event ℕ → Type 0
BufferNeverShows R = (bytes buffer other : List ℕ) → length buffer ≡ length other → Alike (run_by R bytes buffer) (run_by R bytes other)

-- the four numbers as a caller from outside gets them
abbrev pub numbers_of : Ran → List ℕ
numbers_of ran = ran.met ∷ ran.refused ∷ ran.consumed ∷ ran.written ∷ []

-- what is exported: the length of the entries written, the entry buffer, and the four numbers over the first places for counts, as many as there are
pub record Exported : Type 0 where
  pub answer : ℕ
  pub entries : List ℕ
  pub counts : List ℕ

abbrev pub exported : Run → (counts : List ℕ) → Exported
exported run counts = record { answer = run.counts.written; entries = run.entries; counts = sets counts 0 (numbers_of run.counts) }
