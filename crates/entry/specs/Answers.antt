-- What the writer of a call's entries and the reader of one entry answer (docs/REGISTER.md, 9.6, 10.1 and 11.4).
-- Assumes nothing.
use Rattle.std.specs.Prelude.{ℕ, Bool, true, cond, not, ◌&&◌, ◌||◌, List, [], ◌∷◌, eqb, leb, ltb, length, get_or, drop, Option, Some, None}
use Rattle.std.proofs.Math.Option as math
use Rattle.events.specs.declared.Event.{Event}
use Rattle.events.specs.Kinds.{event_of}
use Rattle.filing.specs.declared.Told.{Told}
use Rattle.filing.specs.declared.Entry.{Entry}
use Rattle.layout.specs.Number.{number_at}
use Rattle.layout.specs.Fields.{row_of_kind}
use Rattle.layout.specs.Reading.{Reader, read_row}
use Rattle.layout.specs.Writes.{Wrote, wrote_over, refused_with}
use Rattle.refusal.specs.declared.Refusal.TheVariants.{NoRoom}
use Rattle.entry.specs.declared.Found.{Found}
use Rattle.entry.specs.Bytes.{entry_rows, bytes_of_entries, told_by, entry_from}

-- no call writes more: 11 for the commit, 20 for each of eight applied, 19 for each of eight rejections (9.5)
abbrev pub longest_call : ℕ
longest_call = 323

-- the writer of entries, as many as there are. No room where the buffer is too short for some call, and also where entries that no call gives would not fit
unfoldable pub write_of : List Entry → (account : ℕ) (buffer : List ℕ) → Wrote
write_of entries account buffer =
    let bytes = bytes_of_entries account entries in
    cond (ltb (length buffer) longest_call) (refused_with NoRoom buffer)
    (cond (ltb (length buffer) (length bytes)) (refused_with NoRoom buffer) (wrote_over bytes buffer))

-- what the reader of an entry gives, by the cases of its answer: the entry, the kind that it was read in, its account and its length, each 0 where there is no entry
pub record SaidOfEntry : Type 0 where
  pub entry : math.Option Entry
  pub kind : ℕ
  pub account : ℕ
  pub length' : ℕ

abbrev pub said_of_entry : Option (Found × ℕ) → SaidOfEntry
said_of_entry (Some (f, whole)) = record { entry = math.some f.entry; kind = f.kind; account = f.account; length' = whole }
said_of_entry None = record { entry = math.none; kind = 0; account = 0; length' = 0 }

-- the answer that an entry was found, with the kind that it was read in, its account and its length
abbrev pub found_as : Entry → (kind account whole : ℕ) → Option (Found × ℕ)
found_as e kind account whole = Some (record { entry = e; kind = kind; account = account }, whole)

-- an event kind 1 to 4, and with a Close no amount but 0 (9.2)
abbrev pub event_fits : (kind amount : ℕ) → Bool
event_fits kind amount = leb 1 kind && leb kind 4 && (not (eqb kind 4) || eqb amount 0)

-- the event of that kind and amount, if there is one
abbrev pub event_in : (kind amount : ℕ) → Option Event
event_in kind amount = cond (event_fits kind amount) (Some (event_of kind amount)) None

-- what an entry of a kind 17 to 23 tells by these numbers, if its event is one: a commit noted has none
abbrev pub told_in : (kind : ℕ) (numbers : List ℕ) → Option Told
told_in kind numbers =
    cond (eqb kind 20 || event_fits (get_or numbers 4 0) (get_or numbers 5 0))
    (Some (told_by kind (event_of (get_or numbers 4 0) (get_or numbers 5 0)) (get_or numbers 6 0) (get_or numbers 7 0)))
    None

-- what follows the heading fits if it has no event, or one that fits
abbrev pub then_fits : List ℕ → Bool
then_fits [] = true
then_fits (kind ∷ numbers) = event_fits kind (get_or numbers 0 0)

-- an entry that fits is found, with its kind, its account and its length
abbrev pub found_if : (fits : Bool) → Entry → (kind account whole : ℕ) → Option (Found × ℕ)
found_if fits e kind account whole = cond fits (found_as e kind account whole) None

-- by the numbers; a kind that is not 17 to 23, an entry that is not whole and one of an account above 15 are none
abbrev pub entry_reader : Reader (Option (Found × ℕ))
entry_reader =
    record {
      unknown = None;
      short = None;
      elsewhere = None;
      taken = λ (whole : ℕ) (numbers : List ℕ). found_if (then_fits (drop 4 numbers)) (entry_from numbers) (get_or numbers 0 0) (get_or numbers 2 0) whole;
    }

-- the reader of one entry; bytes behind it play no part (9.6)
unfoldable pub read_of : (bytes : List ℕ) → Option (Found × ℕ)
read_of bytes = read_row entry_reader (row_of_kind entry_rows (number_at bytes 0 1)) bytes
