-- The whole text of an input (section 12 of docs/REGISTER.md): the first line, the text of each message that is met, the last line. It goes by values: a
-- message is read and sent, and its entries are printed; no buffer plays a part.
-- Assumes nothing.
use Rattle.std.specs.Prelude.{ℕ, zero, suc, ◌+◌, cond, List, [], ◌∷◌, ◌++◌, eqb, ltb, length, drop, Result, Ok, Err}
use Rattle.refusal.specs.declared.Refusal.{Refusal}
use Rattle.refusal.specs.Numbers.{number_of}
use Rattle.filing.specs.declared.Entries.{Entries}
use Rattle.message.specs.declared.Message.{Message}
use Rattle.message.specs.Bytes.{heading_of}
use Rattle.message.specs.Answers.{read_of}
use Rattle.entry.specs.Bytes.{list_of}
use Rattle.register.specs.declared.Register.{Register}
use Rattle.register.specs.declared.runs.Passed.{Passed}
use Rattle.register.specs.Register.{Sent}
use Rattle.register.specs.Call.{Reply}
use Rattle.register.specs.First.{fresh_register, sent_of}
use Rattle.register.specs.Run.{length_at, passed_of}
use Rattle.register.specs.RunCalls.{refusals}
use Rattle.text.specs.Text.{decimal, spaced, lines_of}
use Rattle.text.specs.Quoted.{quoted}

-- 12.1: so many bytes are taken
abbrev pub longest_input : ℕ
longest_input = 65_536

-- 12.2
unfoldable pub first_line : List ℕ
first_line = quoted "register 1\n"

unfoldable pub too_long : List ℕ
too_long = quoted "too long\n"

-- 12.3: a message refused,
unfoldable pub refused_line : (number : ℕ) → List ℕ
refused_line number = quoted "refused" ++ (spaced (decimal number ∷ []) ++ quoted "\n")

-- and the end
unfoldable pub last_line : (met refused : ℕ) → List ℕ
last_line met refused = quoted "end" ++ (spaced (decimal met ∷ decimal refused ∷ []) ++ quoted "\n")

-- what a message that is met comes to: the register that follows, the reply, in which nothing is written, and the text
pub record Turn : Type 0 where
  pub register : Register
  pub reply : Reply
  pub text : List ℕ

-- a refusal: its line
abbrev pub refused_turn : Register → Refusal → Turn
refused_turn r refusal = record { register = r; reply = Err refusal; text = refused_line (number_of refusal) }

-- what sending it to an account gave: the refusal, or the lines of the entries
abbrev pub sent_as : (account consumed : ℕ) → Result Entries Refusal → Register → Turn
sent_as i consumed (Err refusal) next = refused_turn next refusal
sent_as i consumed (Ok entries) next = record { register = next; reply = Ok (record { consumed = consumed; written = 0 }); text = lines_of i (list_of entries) }

abbrev pub sent_turn : (account consumed : ℕ) → Sent → Turn
sent_turn i consumed sent = sent_as i consumed sent.answer sent.register

-- what was read: the reader's refusal, or a message, which is sent
abbrev pub read_turn : Register → Result (Message × ℕ) Refusal → Turn
read_turn r (Err refusal) = refused_turn r refusal
read_turn r (Ok (m, consumed)) = sent_turn (heading_of m).account consumed (sent_of r m)

unfoldable pub turn_at : Register → (bytes : List ℕ) → Turn
turn_at r bytes = read_turn r (read_of bytes)

-- where the messages stop and how they go on is the rule of a run (11.5)
abbrev pub passed_at : Register → (bytes : List ℕ) → Passed
passed_at r bytes = passed_of (turn_at r bytes).reply (length_at bytes)

-- the messages that bytes hold, sent to a register one after the other, at most so many
unfoldable pub turns_from : (most : ℕ) → Register → (bytes : List ℕ) → List Turn
turns_from zero r bytes = []
turns_from (suc most) r bytes =
    let turn = turn_at r bytes in
    let passed = passed_at r bytes in
    let more = turns_from most turn.register (drop passed.consumed bytes) in
    let turns : List Turn = turn ∷ cond passed.stops [] more in
    cond (eqb (length bytes) 0) [] turns

-- their texts, one after the other, and how many of them are refused
abbrev pub texts_of : List Turn → List ℕ
texts_of [] = []
texts_of (turn ∷ turns) = turn.text ++ texts_of turns

abbrev pub refused_of : List Turn → ℕ
refused_of [] = 0
refused_of (turn ∷ turns) = refusals turn.reply + refused_of turns

-- the text after the first line: a refused message counts in both numbers
abbrev pub turns_text : List Turn → List ℕ
turns_text turns = texts_of turns ++ last_line (length turns) (refused_of turns)

-- the messages of an input; there are no more of them than bytes
abbrev pub turns_of : (bytes : List ℕ) → List Turn
turns_of bytes = turns_from (length bytes) fresh_register bytes

unfoldable pub output_of : (bytes : List ℕ) → List ℕ
output_of bytes = first_line ++ cond (ltb longest_input (length bytes)) too_long (turns_text (turns_of bytes))
