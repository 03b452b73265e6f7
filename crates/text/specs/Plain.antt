-- Digits, a line in a buffer, and the program's steps on any input, said a second time (clauses 12.1 to 12.5 of docs/REGISTER.md): a decimal digit by digit from its end, what the
-- writer of a line gives with each length of buffer, what is printed at the beginning, for a message and at the end, and what the contracts of the steps say of buffers.
-- Assumes nothing.
use Rattle.std.specs.Prelude.{ℕ, ◌+◌, ◌*◌, ◌-◌, ◌/◌, ◌%◌, ◌^◌, ◌≤◌, ◌<◌, ◌≡◌, true, cond, List, [], ◌∷◌, ◌++◌, length, drop, Ok, Err}
use Rattle.std.proofs.lemmas.List.Edits.{sets}
use Rattle.filing.specs.declared.Entry.{Entry}
use Rattle.refusal.specs.declared.Refusal.TheVariants.{NoRoom}
use Rattle.register.specs.Run.{length_at, passed_of}
use Rattle.register.specs.First.{fresh_register}
use Rattle.text.specs.declared.program.Served.{Served}
use Rattle.text.specs.Text.{decimal, line_as, line_of, longest_line, write_line_of, Put}
use Rattle.text.specs.Decimal.{value_from}
use Rattle.text.specs.Quoted.{quoted}
use Rattle.text.specs.Output.{longest_input, turn_at}
use Rattle.text.specs.Program.{longest_text, begin_text, begin_of, serve_text, serve_of, finish_text, Serves}

-- a number below 10 is its digit; any other has the digits of its tenth, and behind them the digit that is left: of every number of 4 bytes, and of any of ten digits
pub record DecimalPlain (number : ℕ) : Type 0 where
  pub one : number < 10 → decimal number ≡ (48 + number) ∷ []
  pub more : 10 ≤ number → number < 10 ^ 10 → decimal number ≡ decimal (number / 10) ++ ((48 + number % 10) ∷ [])

-- and back: each digit counts one, what stands before it ten times as much
pub record ValuePlain (sofar digit : ℕ) (digits : List ℕ) : Type 0 where
  pub none : value_from sofar [] ≡ sofar
  pub more : value_from sofar (digits ++ (digit ∷ [])) ≡ value_from sofar digits * 10 + (digit - 48)

-- the writer of a line: 4 with fewer than 72 bytes; else the line, of kind 18 without a reason, its length, and the rest of the buffer as it was
pub record LineWritten (e : Entry) (kind account : ℕ) (buffer : List ℕ) : Type 0 where
  pub short : length buffer < 72 → write_line_of e kind account buffer ≡ record { answer = Err NoRoom; buffer = buffer }
  pub enough : 72 ≤ length buffer → (kind ≡ 18 → ⊥)
      → write_line_of e kind account buffer ≡ record { answer = Ok (length (line_of account e)); buffer = line_of account e ++ drop (length (line_of account e)) buffer }
  pub older : 72 ≤ length buffer → kind ≡ 18
      → write_line_of e kind account buffer ≡ record { answer = Ok (length (line_as true account e)); buffer = line_as true account e ++ drop (length (line_as true account e)) buffer }

-- the beginning, one message, and the end
pub record StepsPlain (s : Served) (input : List ℕ) : Type 0 where
  pub begins : length input ≤ 65_536 → begin_text input ≡ quoted "register 1\n"
  pub too_long : 65_536 < length input → begin_text input ≡ quoted "register 1\ntoo long\n"
  pub begun : length input ≤ 65_536 → begin_of input ≡ record { register = fresh_register; from = 0; met = 0; refused = 0; written = 11 }
  pub begun_too_long : 65_536 < length input → begin_of input ≡ record { register = fresh_register; from = length input; met = 0; refused = 0; written = 20 }
  pub serves : s.from < length input → serve_text s input ≡ (turn_at s.register (drop s.from input)).text
  -- what has been served then: after a refusal with 1 or 2 nothing is left, else the next message starts behind this one; it is met, and counts as refused where it is
  pub served : s.from < length input → s.met < 65_536 → s.refused < 65_536
      → let rest = drop s.from input in
      let turn = turn_at s.register rest in
      let passed = passed_of turn.reply (length_at rest) in
      serve_of s input
      ≡ record {
        register = turn.register;
        from = cond passed.stops (length input) (s.from + passed.consumed);
        met = s.met + 1;
        refused = s.refused + passed.refused;
        written = length turn.text;
      }
  pub nothing : length input ≤ s.from → serve_text s input ≡ []
  pub still : length input ≤ s.from → serve_of s input ≡ record { register = s.register; from = s.from; met = s.met; refused = s.refused; written = 0 }
  pub ends : length input ≤ 65_536 → finish_text s input ≡ quoted "end " ++ (decimal s.met ++ (quoted " " ++ (decimal s.refused ++ quoted "\n")))
  pub ends_not : 65_536 < length input → finish_text s input ≡ []

-- what the contracts of the steps say, whatever buffer is lent: all of what has been served, where the text ends, and every byte of the buffer
pub record ContractsPlain (s r : Served) (input text before after : List ℕ) (at most next : ℕ) : Type 0 where
  pub served : Serves s input before r after → r ≡ serve_of s input
  pub buffer : Serves s input before r after → after ≡ sets before 0 (serve_text s input)
  pub ends : Put text at most before next after → next ≡ at + length text
  pub within : Put text at most before next after → next ≤ at + most
  pub stored : Put text at most before next after → after ≡ sets before at text

-- the longest line, the longest text of a step, the longest input
pub record Longest : Type 0 where
  pub line : longest_line ≡ 72
  pub text : longest_text ≡ 1_224
  pub input : longest_input ≡ 65_536

pub record PlainHolds : Type 0 where
  pub decimals : (number : ℕ) → DecimalPlain number
  pub values : (sofar digit : ℕ) (digits : List ℕ) → ValuePlain sofar digit digits
  pub lines : (e : Entry) (kind account : ℕ) (buffer : List ℕ) → LineWritten e kind account buffer
  pub steps : (s : Served) (input : List ℕ) → StepsPlain s input
  pub contracts : (s r : Served) (input text before after : List ℕ) (at most next : ℕ) → ContractsPlain s r input text before after at most next
  pub longest : Longest
