-- Entries as literal bytes: only a literal fixes kinds, lengths, the order of the fields and of the bytes in them (clauses 9.1 and 9.2 of
-- docs/REGISTER.md). One table with a row for each kind of entry, each event and each vote, no two bytes of a row alike but zeros, and one of rejections in
-- the kind that is read and no longer written; one statement for each, which antt computes.
-- Assumes nothing.
use Rattle.std.specs.Prelude.{ℕ, ◌≡◌, List, [], ◌∷◌, ◌++◌, map, replicate}
use Rattle.std.proofs.Math.Option.{none, some}
use Rattle.events.specs.declared.Event.TheVariants.{Open, Withdraw, Deposit, Close}
use Rattle.filing.specs.declared.Verdict.TheVariants.{Accepted, Rejected, Held}
use Rattle.filing.specs.declared.Told.{Told}
use Rattle.filing.specs.declared.Told.TheVariants.{Noted, Applied, Dropped}
use Rattle.filing.specs.declared.Entry.{Entry}
use Rattle.filing.specs.declared.Entries.{Entries}
use Rattle.layout.specs.Writes as Writing'
use Rattle.entry.specs.Bytes.{bytes_as, bytes_of_entry, list_of}
use Rattle.entry.specs.Answers.{SaidOfEntry, said_of_entry, read_of, write_of}
use Rattle.entry.specs.Plain.{vote}

abbrev pub entry : (transaction second : ℕ) → Told → Entry
entry transaction second told = record { transaction = transaction; filed = record { second = second }; told = told }

-- a row: an entry, its account, its kind, its length and its bytes
pub record Vector : Type 0 where
  pub entry : Entry
  pub account : ℕ
  pub kind : ℕ
  pub length' : ℕ
  pub bytes : List ℕ

abbrev pub vector : (account transaction second : ℕ) → Told → (kind length' : ℕ) (bytes : List ℕ) → Vector
vector account transaction second told kind length' bytes =
    record {
      entry = entry transaction second told;
      account = account;
      kind = kind;
      length' = length';
      bytes = bytes;
    }

-- what is written
unfoldable pub table : List Vector
table =
    vector 15 0x1a2b3c4d 0x5e6f7081 (vote Accepted (Open 0x92a3b4c5) 0xd6e7 0) 17 18
    (0x11 ∷ 0x1a ∷ 0x2b ∷ 0x3c ∷ 0x4d ∷ 0x00 ∷ 0x0f ∷ 0x5e ∷ 0x6f ∷ 0x70 ∷ 0x81 ∷ 0x01 ∷ 0x92 ∷ 0xa3 ∷ 0xb4 ∷ 0xc5 ∷ 0xd6 ∷ 0xe7 ∷ [])
    ∷
    vector 14 0x1b2c3d4e 0x5f607182 (vote Rejected (Withdraw 0x93a4b5c6) 0xd7e8 0xf9) 23 19
    (0x17 ∷ 0x1b ∷ 0x2c ∷ 0x3d ∷ 0x4e ∷ 0x00 ∷ 0x0e ∷ 0x5f ∷ 0x60 ∷ 0x71 ∷ 0x82 ∷ 0x02 ∷ 0x93 ∷ 0xa4 ∷ 0xb5 ∷ 0xc6 ∷ 0xd7 ∷ 0xe8 ∷ 0xf9 ∷ [])
    ∷
    vector 13 0x1c2d3e4f 0x50617283 (vote Held (Deposit 0x94a5b6c7) 0xd8e9 0) 19 18
    (0x13 ∷ 0x1c ∷ 0x2d ∷ 0x3e ∷ 0x4f ∷ 0x00 ∷ 0x0d ∷ 0x50 ∷ 0x61 ∷ 0x72 ∷ 0x83 ∷ 0x03 ∷ 0x94 ∷ 0xa5 ∷ 0xb6 ∷ 0xc7 ∷ 0xd8 ∷ 0xe9 ∷ [])
    ∷
    vector 12 0x1d2e3f40 0x51627384 Noted 20 11
    (0x14 ∷ 0x1d ∷ 0x2e ∷ 0x3f ∷ 0x40 ∷ 0x00 ∷ 0x0c ∷ 0x51 ∷ 0x62 ∷ 0x73 ∷ 0x84 ∷ [])
    ∷
    vector 11 0x1e2f3041 0x52637485 (Applied (Withdraw 0x95a6b7c8) 0xd9eafb0c) 21 20
    (0x15 ∷ 0x1e ∷ 0x2f ∷ 0x30 ∷ 0x41 ∷ 0x00 ∷ 0x0b ∷ 0x52 ∷ 0x63 ∷ 0x74 ∷ 0x85 ∷ 0x02 ∷ 0x95 ∷ 0xa6 ∷ 0xb7 ∷ 0xc8 ∷ 0xd9 ∷ 0xea ∷ 0xfb ∷ 0x0c ∷ [])
    ∷
    vector 10 0x1f203142 0x53647586 (Dropped (Deposit 0x96a7b8c9)) 22 16
    (0x16 ∷ 0x1f ∷ 0x20 ∷ 0x31 ∷ 0x42 ∷ 0x00 ∷ 0x0a ∷ 0x53 ∷ 0x64 ∷ 0x75 ∷ 0x86 ∷ 0x03 ∷ 0x96 ∷ 0xa7 ∷ 0xb8 ∷ 0xc9 ∷ [])
    ∷
    vector 0 0 0 (vote Held Close 0 0) 19 18
    (0x13 ∷ 0x00 ∷ 0x00 ∷ 0x00 ∷ 0x00 ∷ 0x00 ∷ 0x00 ∷ 0x00 ∷ 0x00 ∷ 0x00 ∷ 0x00 ∷ 0x04 ∷ 0x00 ∷ 0x00 ∷ 0x00 ∷ 0x00 ∷ 0x00 ∷ 0x00 ∷ [])
    ∷
    vector 9 10 200 (Applied Close 0) 21 20
    (0x15 ∷ 0x00 ∷ 0x00 ∷ 0x00 ∷ 0x0a ∷ 0x00 ∷ 0x09 ∷ 0x00 ∷ 0x00 ∷ 0x00 ∷ 0xc8 ∷ 0x04 ∷ 0x00 ∷ 0x00 ∷ 0x00 ∷ 0x00 ∷ 0x00 ∷ 0x00 ∷ 0x00 ∷ 0x00 ∷ [])
    ∷
    vector 8 11 201 (vote Rejected Close 1 1) 23 19
    (0x17 ∷ 0x00 ∷ 0x00 ∷ 0x00 ∷ 0x0b ∷ 0x00 ∷ 0x08 ∷ 0x00 ∷ 0x00 ∷ 0x00 ∷ 0xc9 ∷ 0x04 ∷ 0x00 ∷ 0x00 ∷ 0x00 ∷ 0x00 ∷ 0x00 ∷ 0x01 ∷ 0x01 ∷ [])
    ∷
    vector 7 12 202 (vote Rejected (Withdraw 0) 2 2) 23 19
    (0x17 ∷ 0x00 ∷ 0x00 ∷ 0x00 ∷ 0x0c ∷ 0x00 ∷ 0x07 ∷ 0x00 ∷ 0x00 ∷ 0x00 ∷ 0xca ∷ 0x02 ∷ 0x00 ∷ 0x00 ∷ 0x00 ∷ 0x00 ∷ 0x00 ∷ 0x02 ∷ 0x02 ∷ [])
    ∷
    vector 6 13 203 (vote Rejected (Deposit 1_000_001) 4 4) 23 19
    (0x17 ∷ 0x00 ∷ 0x00 ∷ 0x00 ∷ 0x0d ∷ 0x00 ∷ 0x06 ∷ 0x00 ∷ 0x00 ∷ 0x00 ∷ 0xcb ∷ 0x03 ∷ 0x00 ∷ 0x0f ∷ 0x42 ∷ 0x41 ∷ 0x00 ∷ 0x04 ∷ 0x04 ∷ [])
    ∷
    vector 5 14 204 (vote Rejected (Open 5) 3 0) 23 19
    (0x17 ∷ 0x00 ∷ 0x00 ∷ 0x00 ∷ 0x0e ∷ 0x00 ∷ 0x05 ∷ 0x00 ∷ 0x00 ∷ 0x00 ∷ 0xcc ∷ 0x01 ∷ 0x00 ∷ 0x00 ∷ 0x00 ∷ 0x05 ∷ 0x00 ∷ 0x03 ∷ 0x00 ∷ [])
    ∷
    []

-- what is read and no longer written: rejections without their reason, which count as having reason 0
unfoldable pub older_table : List Vector
older_table =
    vector 14 0x1b2c3d4e 0x5f607182 (vote Rejected (Withdraw 0x93a4b5c6) 0xd7e8 0) 18 18
    (0x12 ∷ 0x1b ∷ 0x2c ∷ 0x3d ∷ 0x4e ∷ 0x00 ∷ 0x0e ∷ 0x5f ∷ 0x60 ∷ 0x71 ∷ 0x82 ∷ 0x02 ∷ 0x93 ∷ 0xa4 ∷ 0xb5 ∷ 0xc6 ∷ 0xd7 ∷ 0xe8 ∷ [])
    ∷
    vector 8 11 201 (vote Rejected Close 1 0) 18 18
    (0x12 ∷ 0x00 ∷ 0x00 ∷ 0x00 ∷ 0x0b ∷ 0x00 ∷ 0x08 ∷ 0x00 ∷ 0x00 ∷ 0x00 ∷ 0xc9 ∷ 0x04 ∷ 0x00 ∷ 0x00 ∷ 0x00 ∷ 0x00 ∷ 0x00 ∷ 0x01 ∷ [])
    ∷
    []

-- what a row comes to: the entry's bytes, and what the reader answers to them with one byte behind
pub record Found : Type 0 where
  pub bytes : List ℕ
  pub reading : SaidOfEntry

abbrev pub found : Vector → Found
found v =
    record {
      bytes = bytes_of_entry v.account v.entry;
      reading = said_of_entry (read_of (v.bytes ++ (0xaa ∷ [])));
    }

-- the same of a row that is not written: the entry's bytes in the row's kind
abbrev pub found_older : Vector → Found
found_older v =
    record {
      bytes = bytes_as v.kind v.account v.entry;
      reading = said_of_entry (read_of (v.bytes ++ (0xaa ∷ [])));
    }

abbrev pub said : Vector → Found
said v =
    record {
      bytes = v.bytes;
      reading = record { entry = some v.entry; kind = v.kind; account = v.account; length' = v.length' };
    }

-- bytes that do not begin with an entry: none at all; kinds below and above; one byte short, of each length; accounts 16 and 256; event kinds 0 and 5; a close of 1
unfoldable pub unreads : List (List ℕ)
unreads =
    [] ∷
    (16 ∷ 0 ∷ 0 ∷ 0 ∷ 1 ∷ 0 ∷ 2 ∷ 0 ∷ 0 ∷ 0 ∷ 3 ∷ 1 ∷ 0 ∷ 0 ∷ 0 ∷ 4 ∷ 0 ∷ 0 ∷ 0 ∷ 5 ∷ []) ∷
    (24 ∷ 0 ∷ 0 ∷ 0 ∷ 1 ∷ 0 ∷ 2 ∷ 0 ∷ 0 ∷ 0 ∷ 3 ∷ 1 ∷ 0 ∷ 0 ∷ 0 ∷ 4 ∷ 0 ∷ 0 ∷ 0 ∷ 5 ∷ []) ∷
    (17 ∷ 0 ∷ 0 ∷ 0 ∷ 1 ∷ 0 ∷ 2 ∷ 0 ∷ 0 ∷ 0 ∷ 3 ∷ 1 ∷ 0 ∷ 0 ∷ 0 ∷ 4 ∷ 0 ∷ []) ∷
    (18 ∷ 0 ∷ 0 ∷ 0 ∷ 1 ∷ 0 ∷ 2 ∷ 0 ∷ 0 ∷ 0 ∷ 3 ∷ 1 ∷ 0 ∷ 0 ∷ 0 ∷ 4 ∷ 0 ∷ []) ∷
    (19 ∷ 0 ∷ 0 ∷ 0 ∷ 1 ∷ 0 ∷ 2 ∷ 0 ∷ 0 ∷ 0 ∷ 3 ∷ 1 ∷ 0 ∷ 0 ∷ 0 ∷ 4 ∷ 0 ∷ []) ∷
    (20 ∷ 0 ∷ 0 ∷ 0 ∷ 1 ∷ 0 ∷ 2 ∷ 0 ∷ 0 ∷ 0 ∷ []) ∷
    (21 ∷ 0 ∷ 0 ∷ 0 ∷ 1 ∷ 0 ∷ 2 ∷ 0 ∷ 0 ∷ 0 ∷ 3 ∷ 1 ∷ 0 ∷ 0 ∷ 0 ∷ 4 ∷ 0 ∷ 0 ∷ 0 ∷ []) ∷
    (22 ∷ 0 ∷ 0 ∷ 0 ∷ 1 ∷ 0 ∷ 2 ∷ 0 ∷ 0 ∷ 0 ∷ 3 ∷ 1 ∷ 0 ∷ 0 ∷ 0 ∷ []) ∷
    (23 ∷ 0 ∷ 0 ∷ 0 ∷ 1 ∷ 0 ∷ 2 ∷ 0 ∷ 0 ∷ 0 ∷ 3 ∷ 1 ∷ 0 ∷ 0 ∷ 0 ∷ 4 ∷ 0 ∷ 5 ∷ []) ∷
    (20 ∷ 0 ∷ 0 ∷ 0 ∷ 1 ∷ 0 ∷ 16 ∷ 0 ∷ 0 ∷ 0 ∷ 3 ∷ []) ∷
    (20 ∷ 0 ∷ 0 ∷ 0 ∷ 1 ∷ 1 ∷ 0 ∷ 0 ∷ 0 ∷ 0 ∷ 3 ∷ []) ∷
    (23 ∷ 0 ∷ 0 ∷ 0 ∷ 1 ∷ 0 ∷ 16 ∷ 0 ∷ 0 ∷ 0 ∷ 3 ∷ 1 ∷ 0 ∷ 0 ∷ 0 ∷ 4 ∷ 0 ∷ 5 ∷ 4 ∷ []) ∷
    (22 ∷ 0 ∷ 0 ∷ 0 ∷ 1 ∷ 0 ∷ 2 ∷ 0 ∷ 0 ∷ 0 ∷ 3 ∷ 0 ∷ 0 ∷ 0 ∷ 0 ∷ 0 ∷ []) ∷
    (22 ∷ 0 ∷ 0 ∷ 0 ∷ 1 ∷ 0 ∷ 2 ∷ 0 ∷ 0 ∷ 0 ∷ 3 ∷ 5 ∷ 0 ∷ 0 ∷ 0 ∷ 0 ∷ []) ∷
    (22 ∷ 0 ∷ 0 ∷ 0 ∷ 1 ∷ 0 ∷ 2 ∷ 0 ∷ 0 ∷ 0 ∷ 3 ∷ 4 ∷ 0 ∷ 0 ∷ 0 ∷ 1 ∷ []) ∷
    (18 ∷ 0 ∷ 0 ∷ 0 ∷ 1 ∷ 0 ∷ 2 ∷ 0 ∷ 0 ∷ 0 ∷ 3 ∷ 4 ∷ 0 ∷ 0 ∷ 0 ∷ 1 ∷ 0 ∷ 5 ∷ []) ∷
    (23 ∷ 0 ∷ 0 ∷ 0 ∷ 1 ∷ 0 ∷ 2 ∷ 0 ∷ 0 ∷ 0 ∷ 3 ∷ 0 ∷ 0 ∷ 0 ∷ 0 ∷ 4 ∷ 0 ∷ 5 ∷ 1 ∷ []) ∷
    (23 ∷ 0 ∷ 0 ∷ 0 ∷ 1 ∷ 0 ∷ 2 ∷ 0 ∷ 0 ∷ 0 ∷ 3 ∷ 5 ∷ 0 ∷ 0 ∷ 0 ∷ 4 ∷ 0 ∷ 5 ∷ 1 ∷ []) ∷
    (23 ∷ 0 ∷ 0 ∷ 0 ∷ 1 ∷ 0 ∷ 2 ∷ 0 ∷ 0 ∷ 0 ∷ 3 ∷ 4 ∷ 0 ∷ 0 ∷ 0 ∷ 1 ∷ 0 ∷ 5 ∷ 1 ∷ []) ∷
    []

-- the entries of a call: three of seventeen places used
unfoldable pub call : Entries
call =
    record {
      at =
          entry 1 2 Noted ∷
          entry 3 4 (Applied (Deposit 5) 6) ∷
          entry 7 8 (vote Rejected (Withdraw 9) 10 11) ∷
          replicate 14 (entry 12 13 (Dropped Close));
      count = 3;
    }

unfoldable pub call_bytes : List ℕ
call_bytes =
    20 ∷ 0 ∷ 0 ∷ 0 ∷ 1 ∷ 0 ∷ 8 ∷ 0 ∷ 0 ∷ 0 ∷ 2 ∷
    21 ∷ 0 ∷ 0 ∷ 0 ∷ 3 ∷ 0 ∷ 8 ∷ 0 ∷ 0 ∷ 0 ∷ 4 ∷ 3 ∷ 0 ∷ 0 ∷ 0 ∷ 5 ∷ 0 ∷ 0 ∷ 0 ∷ 6 ∷
    23 ∷ 0 ∷ 0 ∷ 0 ∷ 7 ∷ 0 ∷ 8 ∷ 0 ∷ 0 ∷ 0 ∷ 8 ∷ 2 ∷ 0 ∷ 0 ∷ 0 ∷ 9 ∷ 0 ∷ 10 ∷ 11 ∷
    []

pub record VectorsHold : Type 0 where
  pub entries : map found table ≡ map said table
  pub older : map found_older older_table ≡ map said older_table
  pub nothing : map (λ (bytes : List ℕ). said_of_entry (read_of bytes)) unreads ≡ replicate 20 (record { entry = none; kind = 0; account = 0; length' = 0 })
  -- written into 323 bytes, of which 11 + 20 + 19 are used, and refused by 322
  pub answer : Writing'.said_of_writing (write_of (list_of call) 8 (replicate 323 0xaa)).answer ≡ record { refusal = none; length' = 50 }
  pub left : (write_of (list_of call) 8 (replicate 323 0xaa)).buffer ≡ call_bytes ++ replicate 273 0xaa
  pub short : Writing'.said_of_writing (write_of (list_of call) 8 (replicate 322 0xaa)).answer ≡ record { refusal = some 4; length' = 0 }
  pub short_left : (write_of (list_of call) 8 (replicate 322 0xaa)).buffer ≡ replicate 322 0xaa
