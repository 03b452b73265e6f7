-- The program, step by step: what it begins with, what each message comes to, and how it ends (section 12 of docs/REGISTER.md). What it prints so is
-- the whole text of its input.
-- Assumes nothing.
use Rattle.std.specs.Prelude.{ℕ, zero, suc, ◌+◌, ◌<◌, ◌≤◌, ◌≡◌, cond, List, [], ◌++◌, ltb, length, take, drop}
use Rattle.register.specs.declared.runs.Passed.{Passed}
use Rattle.register.specs.First.{fresh_register}
use Rattle.text.specs.declared.program.Served.{Served}
use Rattle.text.specs.Text.{Put}
use Rattle.text.specs.Output.{longest_input, first_line, too_long, last_line, Turn, turn_at, passed_at, output_of}

-- the room that the text of any step needs: 17 lines of 72 bytes
abbrev pub longest_text : ℕ
longest_text = 1_224

-- the beginning: an input that is too long is passed over whole
abbrev pub begin_text : (input : List ℕ) → List ℕ
begin_text input = first_line ++ cond (ltb longest_input (length input)) too_long []

abbrev pub begin_of : (input : List ℕ) → Served
begin_of input =
    record {
      register = fresh_register;
      from = cond (ltb longest_input (length input)) (length input) 0;
      met = 0;
      refused = 0;
      written = length (begin_text input);
    }

-- the next message, and how the program goes on from it
abbrev pub next_turn : Served → (input : List ℕ) → Turn
next_turn s input = turn_at s.register (drop s.from input)

abbrev pub next_passed : Served → (input : List ℕ) → Passed
next_passed s input = passed_at s.register (drop s.from input)

-- where the next message starts; at the end of the input there is none, and so it is after a message at which a run stops
abbrev pub start_after : (from : ℕ) → Passed → (end : ℕ) → ℕ
start_after from passed end = cond passed.stops end (from + passed.consumed)

-- a count that goes no further than there are bytes in any input
abbrev pub counted : (count by : ℕ) → ℕ
counted count by = cond (ltb count longest_input) (count + by) count

-- one message: its text, and what has been served then. Where there is no message there is no text, and nothing changes.
unfoldable pub serve_text : Served → (input : List ℕ) → List ℕ
serve_text s input = cond (ltb s.from (length input)) (next_turn s input).text []

unfoldable pub serve_of : Served → (input : List ℕ) → Served
serve_of s input =
    cond (ltb s.from (length input))
    (record {
      register = (next_turn s input).register;
      from = start_after s.from (next_passed s input) (length input);
      met = counted s.met 1;
      refused = counted s.refused (next_passed s input).refused;
      written = length (serve_text s input);
    })
    (record { register = s.register; from = s.from; met = s.met; refused = s.refused; written = 0 })

-- the end
abbrev pub finish_text : Served → (input : List ℕ) → List ℕ
finish_text s input = cond (ltb longest_input (length input)) [] (last_line s.met s.refused)

-- where there is room for a text, the buffer begins with it, and is as it was behind it
abbrev pub TextAtTheBeginning : Type 0
TextAtTheBeginning =
    (text : List ℕ) (most : ℕ) (before : List ℕ) (next : ℕ) (after : List ℕ) → Put text 0 most before next after → most ≤ length before
    → (next ≤ most) × (take next after ≡ text) × (drop next after ≡ drop next before)

-- what a step's contract says: what has been served, the text in the buffer, and that the program gets further
pub record Serves (s : Served) (input before : List ℕ) (r : Served) (after : List ℕ) : Type 0 where
  pub state : r ≡ serve_of s input
  pub text : Put (serve_text s input) 0 longest_text before r.written after
  pub further : s.from < length input → s.from < r.from

-- what the program prints from there on, of at most so many messages, and from the beginning
unfoldable pub printed_from : (most : ℕ) → Served → (input : List ℕ) → List ℕ
printed_from zero s input = finish_text s input
printed_from (suc most) s input =
    let more = serve_text s input ++ printed_from most (serve_of s input) input in
    cond (ltb s.from (length input)) more (finish_text s input)

unfoldable pub printed_of : (input : List ℕ) → List ℕ
printed_of input = begin_text input ++ printed_from (length input) (begin_of input) input

-- it is the whole text
abbrev pub PrintsTheOutput : Type 0
PrintsTheOutput = (input : List ℕ) → printed_of input ≡ output_of input

-- no input has more messages than bytes, so that the bound is no part of the meaning
abbrev pub PrintingEnds : Type 0
PrintingEnds = (most : ℕ) (s : Served) (input : List ℕ) → length input ≤ most → printed_from most s input ≡ printed_from (length input) s input

-- one byte more than 65,536 is enough to see of an input
abbrev pub OneByteMore : Type 0
OneByteMore = (input : List ℕ) → output_of (take 65_537 input) ≡ output_of input
