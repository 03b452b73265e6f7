-- Lines of text as they are printed (docs/REGISTER.md, 12.4 and 12.5): the definition of a line said a second time, from outside, for every entry; and
-- what the writer of lines leaves in the buffer.
-- Assumes nothing.
use Rattle.std.specs.Prelude.{ℕ, ◌-◌, ◌≤◌, ◌<◌, ◌≡◌, Bool, true, List, [], ◌∷◌, ◌++◌, map, eqb, leb, ltb, length, take, drop}
use Rattle.std.proofs.Math.Option.{none}
use Rattle.rule.specs.Lists.{every}
use Rattle.rule.specs.Tests.{test, first_of}
use Rattle.events.specs.declared.Event.{Event}
use Rattle.events.specs.declared.Event.TheVariants.{Open, Withdraw, Deposit, Close}
use Rattle.filing.specs.declared.Told.{Told}
use Rattle.filing.specs.declared.Entry.{Entry}
use Rattle.layout.specs.Writes.{said_of_writing, Wrote, Stays}
use Rattle.entry.specs.Inverse.{reason_in}
use Rattle.entry.specs.Plain.{of_each_kind}
use Rattle.entry.specs.Forms.{together}
use Rattle.text.specs.Text.{decimal, line_as, line_of, lines_of, write_line_of}
use Rattle.text.specs.Quoted.{quoted}

-- a space and a number, in decimal
abbrev pub field : (number : ℕ) → List ℕ
field number = quoted " " ++ decimal number

-- a space, an event's name and its amount
abbrev pub event_text : Event → List ℕ
event_text (Open a) = quoted " open" ++ field a
event_text (Withdraw a) = quoted " withdraw" ++ field a
event_text (Deposit a) = quoted " deposit" ++ field a
event_text Close = quoted " close" ++ field 0

-- transaction, account and second
abbrev pub heading_text : (transaction account second : ℕ) → List ℕ
heading_text t a s = field t ++ (field a ++ field s)

-- these words in full: an amount is printed whatever it is, of a Close 0
pub record WordsPlain (t a s : ℕ) : Type 0 where
  pub opens : event_text (Open a) ≡ quoted " open " ++ decimal a
  pub withdraws : event_text (Withdraw a) ≡ quoted " withdraw " ++ decimal a
  pub deposits : event_text (Deposit a) ≡ quoted " deposit " ++ decimal a
  pub closes : event_text Close ≡ quoted " close 0"
  pub heading : heading_text t a s ≡ quoted " " ++ (decimal t ++ (quoted " " ++ (decimal a ++ (quoted " " ++ decimal s))))
  pub number : field a ≡ quoted " " ++ decimal a

-- the line of an entry of each kind
abbrev pub LinesPlain : Type 0
LinesPlain =
    (t a s : ℕ) (e : Event) (n k : ℕ)
    → map (λ (told : Told). line_of a (record { transaction = t; filed = record { second = s }; told = told })) (of_each_kind e n k)
    ≡ (quoted "accepted" ++ (heading_text t a s ++ (event_text e ++ (field n ++ quoted "\n")))) ∷
    (quoted "rejected" ++ (heading_text t a s ++ (event_text e ++ (field n ++ (field k ++ quoted "\n"))))) ∷
    (quoted "held" ++ (heading_text t a s ++ (event_text e ++ (field n ++ quoted "\n")))) ∷
    (quoted "noted" ++ (heading_text t a s ++ quoted "\n")) ∷
    (quoted "applied" ++ (heading_text t a s ++ (event_text e ++ (field n ++ quoted "\n")))) ∷
    (quoted "dropped" ++ (heading_text t a s ++ (event_text e ++ quoted "\n"))) ∷
    []

-- the same in kind 18, and so of a rejection without its reason: no other line changes
abbrev pub OlderPlain : Type 0
OlderPlain =
    (t a s : ℕ) (e : Event) (n k : ℕ)
    → map (λ (told : Told). line_as true a (record { transaction = t; filed = record { second = s }; told = told })) (of_each_kind e n k)
    ≡ (quoted "accepted" ++ (heading_text t a s ++ (event_text e ++ (field n ++ quoted "\n")))) ∷
    (quoted "rejected" ++ (heading_text t a s ++ (event_text e ++ (field n ++ quoted "\n")))) ∷
    (quoted "held" ++ (heading_text t a s ++ (event_text e ++ (field n ++ quoted "\n")))) ∷
    (quoted "noted" ++ (heading_text t a s ++ quoted "\n")) ∷
    (quoted "applied" ++ (heading_text t a s ++ (event_text e ++ (field n ++ quoted "\n")))) ∷
    (quoted "dropped" ++ (heading_text t a s ++ (event_text e ++ quoted "\n"))) ∷
    []

-- the lines of entries: each under that account, in their order, and nothing else
abbrev pub LinesTogether : Type 0
LinesTogether = (account : ℕ) (entries : List Entry) → lines_of account entries ≡ together (map (line_of account) entries)

-- the last byte is a newline, and none before it is below a space
pub record Ended (text : List ℕ) : Type 0 where
  pub last : drop (length text - 1) text ≡ 10 ∷ []
  pub before : every (leb 32) (take (length text - 1) text) ≡ true

abbrev pub LinesEnd : Type 0
LinesEnd = (older : Bool) (account : ℕ) (e : Entry) → Ended (line_as older account e)

-- an account's number has 2 bytes, a reason 1
abbrev pub LinesFit : Type 0
LinesFit = (older : Bool) (account : ℕ) (e : Entry) → account < 65_536 → reason_in e.told < 256 → length (line_as older account e) ≤ 72

-- the answer is the line's length, and the buffer begins with the line
pub record Leaves (line : List ℕ) (w : Wrote) : Type 0 where
  pub answer : said_of_writing w.answer ≡ record { refusal = none; length' = length line }
  pub text : take (length line) w.buffer ≡ line

abbrev pub LineReadBack : Type 0
LineReadBack = (e : Entry) (kind account : ℕ) (buffer : List ℕ) → 72 ≤ length buffer → Leaves (line_as (eqb kind 18) account e) (write_line_of e kind account buffer)

-- a line is refused exactly if the buffer is too short for the longest
abbrev pub LineRefuses : Type 0
LineRefuses =
    (e : Entry) (kind account : ℕ) (buffer : List ℕ) → (said_of_writing (write_line_of e kind account buffer).answer).refusal ≡ first_of (test (ltb (length buffer) 72) 4 ∷ [])

-- an account's number has 2 bytes, a reason 1
abbrev pub LineStays : Type 0
LineStays = (e : Entry) (kind account : ℕ) (buffer : List ℕ) → account < 65_536 → reason_in e.told < 256 → Stays buffer (write_line_of e kind account buffer)
