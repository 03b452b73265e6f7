-- The register of the first panel: the definitions, which are over any rule of the events, applied to it once.
-- Assumes nothing.
use Rattle.std.specs.Prelude.{ℕ, Result, List}
use Rattle.refusal.specs.declared.Refusal.{Refusal}
use Rattle.account.specs.declared.Outlook.{Outlook}
use Rattle.account.specs.First.{panel}
use Rattle.message.specs.declared.Message.{Message}
use Rattle.register.specs.declared.Register.{Register}
use Rattle.register.specs.Register.{Sent, fresh_by, sent_by, asked_by}
use Rattle.register.specs.Call.{Called, called_by}
use Rattle.register.specs.Sequence as sequence
use Rattle.register.specs.Sequence.{Input, Exchange}
use Rattle.register.specs.Run.{Run, run_by, Exported, exported}
use Rattle.register.specs.RunCalls.{IsCalls}

-- the fresh register, a message sent to a register, the outcome question, and the call
abbrev pub fresh_register : Register
fresh_register = fresh_by panel

abbrev pub sent_of : Register → Message → Sent
sent_of r m = sent_by panel r m

abbrev pub outlook_in : Register → (account number : ℕ) → Result Outlook Refusal
outlook_in r i n = asked_by panel r i n

abbrev pub call_of : Register → (bytes buffer : List ℕ) → Called
call_of r bytes buffer = called_by panel r bytes buffer

-- the register after a sequence of calls, and what is seen of them
abbrev pub after : Register → List Input → Register
after r inputs = sequence.after panel r inputs

abbrev pub exchanges : Register → List Input → List Exchange
exchanges r inputs = sequence.exchanges panel r inputs

-- a run of messages, the calls that it is, and what is exported of it
abbrev pub run_of : (bytes buffer : List ℕ) → Run
run_of bytes buffer = run_by panel bytes buffer

abbrev pub CallsOfRun : (bytes buffer : List ℕ) → Type 0
CallsOfRun bytes buffer = IsCalls panel fresh_register bytes buffer (run_of bytes buffer)

abbrev pub export_of : (messages entries counts : List ℕ) → Exported
export_of messages entries counts = exported (run_of messages entries) counts
