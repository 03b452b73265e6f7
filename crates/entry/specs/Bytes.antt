-- Entries in bytes (docs/REGISTER.md, 9.1). Each entry carries the number of its account, which the entry as a value does not know.
-- Assumes nothing.
use Rattle.std.specs.Prelude.{ℕ, ◌+◌, cond, List, [], ◌∷◌, ◌++◌, eqb, get_or, take}
use Rattle.events.specs.declared.Event.{Event}
use Rattle.filing.specs.declared.Verdict.{Verdict}
use Rattle.filing.specs.declared.Verdict.TheVariants.{Accepted, Rejected, Held}
use Rattle.filing.specs.declared.Told.{Told}
use Rattle.filing.specs.declared.Told.TheVariants.{Voted, Noted, Applied, Dropped}
use Rattle.filing.specs.declared.Entry.{Entry}
use Rattle.filing.specs.declared.Entries.{Entries}
use Rattle.layout.specs.Fields.{KindRow, kind_row, row_of_kind, whole_of, widths_of, written}
use Rattle.layout.specs.Heading.{heading_numbers, filed_from}
use Rattle.events.specs.Kinds.{event_kind, amount_of, event_of}

-- the table: kind, whole length, and the widths of what follows the heading
unfoldable pub entry_rows : List KindRow
entry_rows =
    kind_row 17 18 (1 ∷ 4 ∷ 2 ∷ []) ∷
    kind_row 18 18 (1 ∷ 4 ∷ 2 ∷ []) ∷
    kind_row 19 18 (1 ∷ 4 ∷ 2 ∷ []) ∷
    kind_row 20 11 [] ∷
    kind_row 21 20 (1 ∷ 4 ∷ 4 ∷ []) ∷
    kind_row 22 16 (1 ∷ 4 ∷ []) ∷
    kind_row 23 19 (1 ∷ 4 ∷ 2 ∷ 1 ∷ []) ∷
    []

-- a vote has the kind of its verdict; kind 18, a rejection without its reason, is read and not written
abbrev pub vote_kind : Verdict → ℕ
vote_kind Accepted = 17
vote_kind Rejected = 23
vote_kind Held = 19

abbrev pub kind_of : Told → ℕ
kind_of (Voted e weighing) = vote_kind weighing.verdict
kind_of Noted = 20
kind_of (Applied e balance) = 21
kind_of (Dropped e) = 22

-- the reason of a rejection stands last, and no other vote has one
abbrev pub reason_numbers : Verdict → (reason : ℕ) → List ℕ
reason_numbers Accepted reason = []
reason_numbers Rejected reason = reason ∷ []
reason_numbers Held reason = []

-- what follows the heading: the event, and the outcomes weighed with the reason of a rejection, or the balance; nothing after a commit noted
abbrev pub then_numbers : Told → List ℕ
then_numbers (Voted e weighing) = event_kind e ∷ amount_of e ∷ weighing.weighed ∷ reason_numbers weighing.verdict weighing.reason
then_numbers Noted = []
then_numbers (Applied e balance) = event_kind e ∷ amount_of e ∷ balance ∷ []
then_numbers (Dropped e) = event_kind e ∷ amount_of e ∷ []

-- the heading with that kind, and what follows it
abbrev pub numbers_as : (kind account : ℕ) → Entry → List ℕ
numbers_as kind account e = heading_numbers kind e.transaction account e.filed ++ then_numbers e.told

-- an entry's bytes in that kind: as many of its numbers as the kind has; of a number of outcomes above 65,535, which no call gives, the lowest two bytes
unfoldable pub bytes_as : (kind account : ℕ) → Entry → List ℕ
bytes_as kind account e = written (widths_of (row_of_kind entry_rows kind)) (numbers_as kind account e)

-- an entry as it is written: in its own kind
abbrev pub numbers_of : (account : ℕ) → Entry → List ℕ
numbers_of account e = numbers_as (kind_of e.told) account e

unfoldable pub bytes_of_entry : (account : ℕ) → Entry → List ℕ
bytes_of_entry account e = bytes_as (kind_of e.told) account e

unfoldable pub length_of_told : Told → ℕ
length_of_told told = whole_of (row_of_kind entry_rows (kind_of told))

-- the entries of a call, one after the other
unfoldable pub bytes_of_entries : (account : ℕ) → List Entry → List ℕ
bytes_of_entries account [] = []
bytes_of_entries account (e ∷ es) = bytes_of_entry account e ++ bytes_of_entries account es

-- how many bytes they take
unfoldable pub wholes_of : List Entry → ℕ
wholes_of [] = 0
wholes_of (e ∷ es) = length_of_told e.told + wholes_of es

-- the entries that there are: the first places, as many as the count says, and all where it says more
abbrev pub list_of : Entries → List Entry
list_of entries = take entries.count entries.at

-- the verdict of a vote of a kind 17 to 19 or 23,
unfoldable pub verdict_by : (kind : ℕ) → Verdict
verdict_by kind = cond (eqb kind 17) Accepted (cond (eqb kind 19) Held Rejected)

-- and what an entry of a kind 17 to 23 tells
unfoldable pub told_by : (kind : ℕ) → Event → (number reason : ℕ) → Told
told_by kind e number reason =
    cond (eqb kind 20) Noted
    (cond (eqb kind 21) (Applied e number)
    (cond (eqb kind 22) (Dropped e) (Voted e (record { verdict = verdict_by kind; weighed = number; reason = reason }))))

-- the entry of a kind 17 to 23 whose numbers these are; a number that the kind does not have is 0
abbrev pub entry_by : (kind : ℕ) (numbers : List ℕ) → Entry
entry_by kind numbers =
    record {
      transaction = get_or numbers 1 0;
      filed = filed_from numbers;
      told = told_by kind (event_of (get_or numbers 4 0) (get_or numbers 5 0)) (get_or numbers 6 0) (get_or numbers 7 0);
    }

-- the entry that these numbers are
abbrev pub entry_from : (numbers : List ℕ) → Entry
entry_from numbers = entry_by (get_or numbers 0 0) numbers
