-- Messages in bytes (docs/REGISTER.md, 8.1).
-- Assumes nothing.
use Rattle.std.specs.Prelude.{ℕ, cond, List, [], ◌∷◌, ◌++◌, eqb, get_or}
use Rattle.layout.specs.Fields.{KindRow, kind_row, row_of_kind, whole_of, widths_of, written}
use Rattle.layout.specs.Heading.{heading_numbers, filed_from}
use Rattle.events.specs.Kinds.{event_kind, amount_of, event_of}
use Rattle.message.specs.declared.Heading.{Heading}
use Rattle.message.specs.declared.Message.{Message}
use Rattle.message.specs.declared.Message.TheVariants.{Request, Commit, Abort}

-- the table: kind, whole length, and the amount's 4 bytes where there is one
unfoldable pub messages : List KindRow
messages =
    kind_row 1 15 (4 ∷ []) ∷
    kind_row 2 15 (4 ∷ []) ∷
    kind_row 3 15 (4 ∷ []) ∷
    kind_row 4 11 [] ∷
    kind_row 5 11 [] ∷
    kind_row 6 11 [] ∷
    []

-- a request has the kind of its event (9.2)
abbrev pub kind_of : Message → ℕ
kind_of (Request h e) = event_kind e
kind_of (Commit h) = 5
kind_of (Abort h) = 6

abbrev pub heading_of : Message → Heading
heading_of (Request h e) = h
heading_of (Commit h) = h
heading_of (Abort h) = h

-- the amount, where there is one
abbrev pub amounts_of : Message → List ℕ
amounts_of (Request h e) = cond (eqb (event_kind e) 4) [] (amount_of e ∷ [])
amounts_of (Commit h) = []
amounts_of (Abort h) = []

-- the amount, and 0 where there is none
abbrev pub amount_in : Message → ℕ
amount_in (Request h e) = amount_of e
amount_in (Commit h) = 0
amount_in (Abort h) = 0

-- the fields in their order
abbrev pub numbers_of : Message → List ℕ
numbers_of m = heading_numbers (kind_of m) (heading_of m).transaction (heading_of m).account (heading_of m).filed ++ amounts_of m

unfoldable pub bytes_of_message : Message → List ℕ
bytes_of_message m = written (widths_of (row_of_kind messages (kind_of m))) (numbers_of m)

-- the whole length, by the kind alone
unfoldable pub length_of_message : Message → ℕ
length_of_message m = whole_of (row_of_kind messages (kind_of m))

-- the message of a kind 1 to 6
unfoldable pub message_by : (kind : ℕ) → Heading → (amount : ℕ) → Message
message_by kind h amount = cond (eqb kind 5) (Commit h) (cond (eqb kind 6) (Abort h) (Request h (event_of kind amount)))

-- the heading of these numbers,
abbrev pub heading_from : (numbers : List ℕ) → Heading
heading_from numbers = record { transaction = get_or numbers 1 0; account = get_or numbers 2 0; filed = filed_from numbers }

-- and the message that they are
abbrev pub message_of : (numbers : List ℕ) → Message
message_of numbers = message_by (get_or numbers 0 0) (heading_from numbers) (get_or numbers 4 0)
