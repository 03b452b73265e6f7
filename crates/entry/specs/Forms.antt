-- Each answer of the entry reader with what is said of it, and what the writer of a call's entries leaves for any account and any numbers, literally (docs/REGISTER.md, 9 and 11.4).
-- Assumes nothing.
use Rattle.std.specs.Prelude.{ℕ, ◌≡◌, List, [], ◌∷◌, ◌++◌, map, length, take, Some, None}
use Rattle.std.proofs.Math.Option.{none, some}
use Rattle.filing.specs.declared.Entry.{Entry}
use Rattle.layout.specs.Writes as Writing'
use Rattle.entry.specs.Bytes.{bytes_of_entry, bytes_of_entries}
use Rattle.entry.specs.Answers.{said_of_entry, write_of}

pub record EntryReadingForm : Type 0 where
  pub found : (e : Entry) (kind account whole : ℕ) → said_of_entry (Some (record { entry = e; kind = kind; account = account }, whole)) ≡ record { entry = some e; kind = kind; account = account; length' = whole }
  pub nothing : said_of_entry None ≡ record { entry = none; kind = 0; account = 0; length' = 0 }

-- strings of bytes, one after the other
abbrev pub together : List (List ℕ) → List ℕ
together [] = []
together (x ∷ xs) = x ++ together xs

-- the entries of a call have the bytes of each, one after the other, all under the account that was named (9.1)
abbrev pub EntriesTogether : Type 0
EntriesTogether = (account : ℕ) (entries : List Entry) → bytes_of_entries account entries ≡ together (map (bytes_of_entry account) entries)

-- a buffer that is written begins with these bytes, and the answer is how many they are
abbrev pub WriterLeaves : Type 0
WriterLeaves =
    (entries : List Entry) (account : ℕ) (buffer : List ℕ)
    → (Writing'.said_of_writing (write_of entries account buffer).answer).refusal ≡ none
    → let bytes = together (map (bytes_of_entry account) entries) in
    ((Writing'.said_of_writing (write_of entries account buffer).answer).length' ≡ length bytes)
    × (take (length bytes) (write_of entries account buffer).buffer ≡ bytes)
