-- The text of an input, said a second time by its run (clauses 11.5 and 12.2 to 12.5 of docs/REGISTER.md): the words in full, a line for each entry that the
-- calls of the run write, read from the bytes, and the run's own numbers; and the text of one message on any register, by its call on bytes. Nothing here
-- goes by how the text is defined.
-- Assumes nothing.
use Rattle.std.specs.Prelude.{ℕ, ◌*◌, ◌≤◌, ◌<◌, ◌≡◌, Ok, Err, List, [], ◌∷◌, ◌++◌, length, take}
use Rattle.refusal.specs.declared.Refusal.{Refusal}
use Rattle.refusal.specs.Numbers.{number_of}
use Rattle.filing.specs.declared.Entry.{Entry}
use Rattle.layout.specs.Number.{AreBytes}
use Rattle.entry.specs.Bytes.{bytes_of_entry, bytes_of_entries}
use Rattle.entry.specs.Answers.{read_of, found_as}
use Rattle.register.specs.declared.Register.{Register}
use Rattle.register.specs.Call.{Called, refusal_of, consumed_of}
use Rattle.register.specs.Refusals.{account_in}
use Rattle.register.specs.Sequence.{Exchange}
use Rattle.register.specs.First.{fresh_register, call_of, exchanges, run_of, CallsOfRun}
use Rattle.text.specs.Text.{decimal, line_of, lines_of}
use Rattle.text.specs.Quoted.{quoted}
use Rattle.text.specs.Output.{refused_line, last_line, Turn, turn_at, output_of}

-- the lines that are no entry's: of any refusal, whether an input can meet it or not, and of the end
pub record OtherLines (number met refused : ℕ) : Type 0 where
  pub refusal : refused_line number ≡ quoted "refused " ++ (decimal number ++ quoted "\n")
  pub end : last_line met refused ≡ quoted "end " ++ (decimal met ++ (quoted " " ++ (decimal refused ++ quoted "\n")))

abbrev pub OtherLinesPlain : Type 0
OtherLinesPlain = (number met refused : ℕ) → OtherLines number met refused

-- a message on any register, whether an input can lead to it or not: the register that follows its call on bytes, the call's own refusal or the length of
-- the message, and the line of that refusal or of each entry whose bytes the call wrote
pub record IsCall (bytes : List ℕ) (turn : Turn) (called : Called) : Type 0 where
  pub register : turn.register ≡ called.register
  pub refusal : refusal_of turn.reply ≡ refusal_of called.reply
  pub consumed : consumed_of turn.reply ≡ consumed_of called.reply
  pub refused : (refusal : Refusal) → called.reply ≡ Err refusal → turn.text ≡ refused_line (number_of refusal)
  pub entries : List Entry
  pub taken : (consumed written : ℕ) → called.reply ≡ Ok (record { consumed = consumed; written = written })
      → (take written called.buffer ≡ bytes_of_entries (account_in bytes) entries) × (turn.text ≡ lines_of (account_in bytes) entries)

-- with any buffer that is not too short
abbrev pub TurnIsCall : Type 0
TurnIsCall = (r : Register) (bytes buffer : List ℕ) → 323 ≤ length buffer → IsCall bytes (turn_at r bytes) (call_of r bytes buffer)

-- bytes that are entries, one after the other and nothing else, each the one that is read there, and their lines
pub data EntryLines : (bytes text : List ℕ) → Type 0 where
  none : EntryLines [] []
  more : {bytes text : List ℕ} (account : ℕ) (e : Entry) (kind whole : ℕ) → read_of (bytes_of_entry account e ++ bytes) ≡ found_as e kind account whole
      → EntryLines bytes text → EntryLines (bytes_of_entry account e ++ bytes) (line_of account e ++ text)

-- the text of a call that is seen
pub data Says (x : Exchange) : (text : List ℕ) → Type 0 where
  refused : (refusal : Refusal) → x.reply ≡ Err refusal → Says x (quoted "refused " ++ (decimal (number_of refusal) ++ quoted "\n"))
  taken : {text : List ℕ} (consumed written : ℕ) → x.reply ≡ Ok (record { consumed = consumed; written = written }) → EntryLines (take written x.buffer) text → Says x text

-- of all of them, one after the other
pub data Said : List Exchange → (text : List ℕ) → Type 0 where
  none : Said [] []
  more : {x : Exchange} {xs : List Exchange} {text rest : List ℕ} → Says x text → Said xs rest → Said (x ∷ xs) (text ++ rest)

-- the text of bytes that make the run with these calls, which met and refused so many messages
pub record Prints (bytes : List ℕ) (seen : List Exchange) (met refused : ℕ) : Type 0 where
  pub answers : List ℕ
  pub each : Said seen answers
  pub whole :
      output_of bytes
      ≡ quoted "register 1\n" ++ (answers ++ (quoted "end " ++ (decimal met ++ (quoted " " ++ (decimal refused ++ quoted "\n")))))

-- every input that is not too long, by its run with any buffer that is never too short
abbrev pub OutputIsItsRun : Type 0
OutputIsItsRun =
    (bytes buffer : List ℕ) → AreBytes bytes → length bytes ≤ 65_536 → 323 * length bytes ≤ length buffer
    → (calls : CallsOfRun bytes buffer)
    → Prints bytes (exchanges fresh_register calls.inputs) (run_of bytes buffer).counts.met (run_of bytes buffer).counts.refused

-- and every longer one
abbrev pub LongerIsTooLong : Type 0
LongerIsTooLong = (bytes : List ℕ) → 65_536 < length bytes → output_of bytes ≡ quoted "register 1\ntoo long\n"
