-- What a caller from outside gets, literally, by what was replied and by how many places it lends; and the line of an entry (docs/REGISTER.md, 15.8 and 15.9).
-- Assumes nothing.
use Rattle.std.specs.Prelude.{ℕ, Some, None, Ok, Err, ◌≤◌, ◌<◌, ◌≡◌, true, List, [], ◌∷◌, ◌++◌, length, drop}
use Rattle.events.specs.declared.Life.TheVariants.{New, Opened, Closed}
use Rattle.filing.specs.declared.Entry.{Entry}
use Rattle.refusal.specs.declared.Refusal.{Refusal}
use Rattle.refusal.specs.Numbers.{number_of}
use Rattle.entry.specs.Bytes.{bytes_as, bytes_of_entry}
use Rattle.entry.specs.Answers.{read_of}
use Rattle.entry.specs.Inverse.{reason_in, IsRejection, Writable}
use Rattle.text.specs.Text.{line_as, line_of}
use Rattle.live.specs.Lines.{line_of_entry}
use Rattle.live.specs.Exports.{exported_call, exported_look, exported_line}

pub record CallForm (image buffer : List ℕ) (r : Refusal) (a b c n m : ℕ) : Type 0 where
  pub refused : exported_call (record { reply = Err r; image = image; buffer = buffer }) (a ∷ b ∷ c ∷ [])
      ≡ record { answer = number_of r; image = image; entries = buffer; counts = 0 ∷ 0 ∷ c ∷ [] }
  pub taken : exported_call (record { reply = Ok (record { consumed = n; written = m }); image = image; buffer = buffer }) (a ∷ b ∷ c ∷ [])
      ≡ record { answer = 0; image = image; entries = buffer; counts = n ∷ m ∷ c ∷ [] }
  pub one : (exported_call (record { reply = Ok (record { consumed = n; written = m }); image = image; buffer = buffer }) (a ∷ [])).counts ≡ n ∷ []
  pub none : (exported_call (record { reply = Ok (record { consumed = n; written = m }); image = image; buffer = buffer }) []).counts ≡ []

pub record LookForm (r : Refusal) (a b c d n m : ℕ) : Type 0 where
  pub refused : exported_look (Err r) (a ∷ b ∷ c ∷ d ∷ []) ≡ record { answer = number_of r; state = a ∷ b ∷ c ∷ d ∷ [] }
  pub new : exported_look (Ok (record { state = record { life = New; balance = n }; applied = m })) (a ∷ b ∷ c ∷ d ∷ []) ≡ record { answer = 0; state = 0 ∷ n ∷ m ∷ d ∷ [] }
  pub opened : exported_look (Ok (record { state = record { life = Opened; balance = n }; applied = m })) (a ∷ b ∷ c ∷ d ∷ []) ≡ record { answer = 0; state = 1 ∷ n ∷ m ∷ d ∷ [] }
  pub closed : exported_look (Ok (record { state = record { life = Closed; balance = n }; applied = m })) (a ∷ b ∷ c ∷ d ∷ []) ≡ record { answer = 0; state = 2 ∷ n ∷ m ∷ d ∷ [] }
  pub two : (exported_look (Ok (record { state = record { life = Opened; balance = n }; applied = m })) (a ∷ b ∷ [])).state ≡ 1 ∷ n ∷ []

pub record LineForm (buffer : List ℕ) (a b c n m : ℕ) : Type 0 where
  pub stored : exported_line (record { lined = Some (record { entry = n; line = m }); buffer = buffer }) (a ∷ b ∷ c ∷ []) ≡ record { answer = m; line = buffer; counts = n ∷ m ∷ c ∷ [] }
  pub none : exported_line (record { lined = None; buffer = buffer }) (a ∷ b ∷ c ∷ []) ≡ record { answer = 0; line = buffer; counts = 0 ∷ 0 ∷ c ∷ [] }
  pub one : (exported_line (record { lined = Some (record { entry = n; line = m }); buffer = buffer }) (a ∷ [])).counts ≡ n ∷ []

-- an entry's own bytes, whatever stands behind them, give its line at the beginning of a buffer that has 72 bytes or more, which is as it was behind it;
-- bytes that begin with no entry, and a shorter buffer, give none and change nothing
pub record LineHolds : Type 0 where
  pub line : (account : ℕ) (e : Entry) (rest buffer : List ℕ) → Writable account e → 72 ≤ length buffer
      → line_of_entry (bytes_of_entry account e ++ rest) buffer
      ≡ record {
        lined = Some (record { entry = length (bytes_of_entry account e); line = length (line_of account e) });
        buffer = line_of account e ++ drop (length (line_of account e)) buffer;
      }
  -- a rejection in kind 18 has the line of a rejection without its reason
  pub older : (account : ℕ) (e : Entry) (rest buffer : List ℕ) → Writable account e → IsRejection e.told → reason_in e.told ≡ 0 → 72 ≤ length buffer
      → line_of_entry (bytes_as 18 account e ++ rest) buffer
      ≡ record {
        lined = Some (record { entry = 18; line = length (line_as true account e) });
        buffer = line_as true account e ++ drop (length (line_as true account e)) buffer;
      }
  pub none : (bytes buffer : List ℕ) → read_of bytes ≡ None → line_of_entry bytes buffer ≡ record { lined = None; buffer = buffer }
  pub short : (bytes buffer : List ℕ) → length buffer < 72 → line_of_entry bytes buffer ≡ record { lined = None; buffer = buffer }

pub record FormsHold : Type 0 where
  pub call : (image buffer : List ℕ) (r : Refusal) (a b c n m : ℕ) → CallForm image buffer r a b c n m
  pub look : (r : Refusal) (a b c d n m : ℕ) → LookForm r a b c d n m
  pub stored : (buffer : List ℕ) (a b c n m : ℕ) → LineForm buffer a b c n m
  pub line : LineHolds
