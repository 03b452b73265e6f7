-- A run is its calls (docs/REGISTER.md, 11.5): which calls of a fresh register it makes, where it stops, and what its numbers and its buffer are by what is seen of those
-- calls. Nothing here goes by how a run is defined.
-- Assumes nothing.
use Rattle.std.specs.Prelude.{ℕ, ◌+◌, ◌≤◌, ◌<◌, ◌≡◌, ◌⊎◌, Ok, Err, List, [], ◌∷◌, ◌++◌, length, take, drop}
use Rattle.refusal.specs.declared.Refusal.{Refusal}
use Rattle.refusal.specs.Numbers.{number_of}
use Rattle.rule.specs.Rule.{Rule}
use Rattle.events.specs.declared.Event.{Event}
use Rattle.events.specs.declared.State.{State}
use Rattle.layout.specs.Number.{AreBytes}
use Rattle.register.specs.declared.Register.{Register}
use Rattle.register.specs.Register.{fresh_by}
use Rattle.register.specs.Call.{Reply}
use Rattle.register.specs.Sequence.{Input, Exchange, exchanges, SerialPast}
use Rattle.register.specs.Whole.{Whole}
use Rattle.register.specs.Run.{Run, run_by, numbers_of}

-- The calls of a run: the bytes and the buffer that are left, what is handed to the calls from there on, what is seen of them, and how many bytes they pass.
pub data Calls : (bytes buffer : List ℕ) → List Input → List Exchange → (passed : ℕ) → Type 0 where
  -- no byte is left
  ended : {buffer : List ℕ} → Calls [] buffer [] [] 0
  -- a message that is refused with 1 or 2 is the last
  stopped : {bytes buffer : List ℕ} {x : Exchange} (refusal : Refusal) → 0 < length bytes → x.reply ≡ Err refusal → (number_of refusal ≡ 1) ⊎ (number_of refusal ≡ 2)
      → Calls bytes buffer (record { message = bytes; buffer = buffer } ∷ []) (x ∷ []) 0
  -- after any other refusal the message is skipped by its length, and the buffer is the same
  skipped : {bytes buffer : List ℕ} {x : Exchange} {inputs : List Input} {seen : List Exchange} {passed : ℕ} (refusal : Refusal) (whole : ℕ)
      → x.reply ≡ Err refusal → 3 ≤ number_of refusal → Whole bytes whole → Calls (drop whole bytes) buffer inputs seen passed
      → Calls bytes buffer (record { message = bytes; buffer = buffer } ∷ inputs) (x ∷ seen) (whole + passed)
  -- the next message starts behind this one, and its entries behind these, in the buffer that the call left
  taken : {bytes buffer : List ℕ} {x : Exchange} {inputs : List Input} {seen : List Exchange} {passed : ℕ} (whole written : ℕ)
      → x.reply ≡ Ok (record { consumed = whole; written = written }) → Whole bytes whole → Calls (drop whole bytes) (drop written x.buffer) inputs seen passed
      → Calls bytes buffer (record { message = bytes; buffer = buffer } ∷ inputs) (x ∷ seen) (whole + passed)

-- how many of the calls seen were refused
abbrev pub refusals : Reply → ℕ
refusals (Err refusal) = 1
refusals (Ok done) = 0

abbrev pub refused_among : List Exchange → ℕ
refused_among [] = 0
refused_among (x ∷ xs) = refusals x.reply + refused_among xs

-- the entries of the calls seen, one after the other
abbrev pub written_part : Reply → (buffer : List ℕ) → List ℕ
written_part (Err refusal) buffer = []
written_part (Ok done) buffer = take done.written buffer

abbrev pub entries_among : List Exchange → List ℕ
entries_among [] = []
entries_among (x ∷ xs) = written_part x.reply x.buffer ++ entries_among xs

-- a run's numbers, in the order in which a caller from outside gets them, and every byte of its buffer, by the calls seen
pub record Sums (buffer : List ℕ) (seen : List Exchange) (passed : ℕ) (run : Run) : Type 0 where
  -- messages met, refused ones among them; messages refused; bytes passed; bytes written
  pub counts : run.counts ≡ record { met = length seen; refused = refused_among seen; consumed = passed; written = length (entries_among seen) }
  pub exported : numbers_of run.counts ≡ length seen ∷ refused_among seen ∷ passed ∷ length (entries_among seen) ∷ []
  -- the entries, and the rest of the buffer as it was
  pub entries : run.entries ≡ entries_among seen ++ drop (length (entries_among seen)) buffer

module _ (R : Rule State Event ℕ) where
  pub record IsCalls (r : Register) (bytes buffer : List ℕ) (run : Run) : Type 0 where
    pub inputs : List Input
    pub passed : ℕ
    pub calls : Calls bytes buffer inputs (exchanges R r inputs) passed
    pub sums : Sums buffer (exchanges R r inputs) passed run

  -- every run is its calls of a fresh register
  abbrev pub RunIsItsCalls : Type 0
  RunIsItsCalls = (bytes buffer : List ℕ) → IsCalls (fresh_by R) bytes buffer (run_by R bytes buffer)

  -- Demand 3 (13.3) of a run, which is what is exported: of each of the sixteen accounts after its calls, by what was seen of them.
  abbrev pub RunDemand3 : Type 0
  RunDemand3 =
      (bytes buffer : List ℕ) → AreBytes bytes → (i : ℕ) → i < 16 → (inputs : List Input) (passed : ℕ)
      → Calls bytes buffer inputs (exchanges R (fresh_by R) inputs) passed
      → SerialPast R inputs i
