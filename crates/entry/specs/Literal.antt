-- The words in which entries are told, each said a second time in numbers and lists (docs/REGISTER.md, 9), and what the writer of a call's entries gives with each length of buffer: a word
-- that stands in a statement cannot be changed with it.
-- Assumes nothing.
use Rattle.std.specs.Prelude.{ℕ, ◌+◌, ◌*◌, ◌/◌, ◌%◌, ◌≤◌, ◌<◌, ◌≡◌, ◌↔◌, ◌⊎◌, true, false, cond, List, [], ◌∷◌, ◌++◌, map, length, get_or, take, drop, Some, Ok, Err}
use Rattle.std.proofs.Math.Option.{none, some}
use Rattle.events.specs.declared.Event.{Event}
use Rattle.events.specs.declared.Event.TheVariants.{Open, Withdraw, Deposit, Close}
use Rattle.filing.specs.declared.Entry.{Entry}
use Rattle.filing.specs.declared.Entries.{Entries}
use Rattle.filing.specs.declared.Verdict.TheVariants.{Accepted, Rejected, Held}
use Rattle.filing.specs.declared.Told.TheVariants.{Voted, Noted, Applied, Dropped}
use Rattle.refusal.specs.declared.Refusal.TheVariants.{NoRoom}
use Rattle.entry.specs.Bytes.{kind_of, then_numbers, bytes_of_entry, bytes_of_entries, wholes_of, length_of_told, list_of}
use Rattle.entry.specs.Answers.{longest_call, said_of_entry, found_as, read_of, write_of}
use Rattle.entry.specs.Inverse.{StandsAs, Writable}
use Rattle.entry.specs.Longest.{is_applied, is_vote, is_rejection, rejections}
use Rattle.entry.specs.Plain.{of_each_kind, event_bytes, kind_length, length_in, length_as, found, nothing, EventStands, Stands, AllWritable, lengths_in, AllRead}
use Rattle.entry.specs.Forms.{together}

-- what an entry of each kind that is written tells, in the order of the kinds 17, 23, 19, 20, 21, 22
pub record KindsLiteral (e : Event) (n k : ℕ) : Type 0 where
  pub kinds : map kind_of
      (Voted e (record { verdict = Accepted; weighed = n; reason = k }) ∷ Voted e (record { verdict = Rejected; weighed = n; reason = k }) ∷ Voted e (record { verdict = Held; weighed = n; reason = k }) ∷ Noted ∷ Applied e n ∷ Dropped e ∷ [])
      ≡ 17 ∷ 23 ∷ 19 ∷ 20 ∷ 21 ∷ 22 ∷ []
  pub each : of_each_kind e n k
      ≡ Voted e (record { verdict = Accepted; weighed = n; reason = k }) ∷ Voted e (record { verdict = Rejected; weighed = n; reason = k }) ∷ Voted e (record { verdict = Held; weighed = n; reason = k }) ∷ Noted ∷ Applied e n ∷ Dropped e ∷ []
  pub lengths : map length_in
      (Voted e (record { verdict = Accepted; weighed = n; reason = k }) ∷ Voted e (record { verdict = Rejected; weighed = n; reason = k }) ∷ Voted e (record { verdict = Held; weighed = n; reason = k }) ∷ Noted ∷ Applied e n ∷ Dropped e ∷ [])
      ≡ 18 ∷ 19 ∷ 18 ∷ 11 ∷ 20 ∷ 16 ∷ []
  pub by_kind : map kind_length (17 ∷ 18 ∷ 19 ∷ 20 ∷ 21 ∷ 22 ∷ 23 ∷ []) ≡ 18 ∷ 18 ∷ 18 ∷ 11 ∷ 20 ∷ 16 ∷ 19 ∷ []
  pub older : length_as 18 (Voted e (record { verdict = Rejected; weighed = n; reason = k })) ≡ 18
  pub own : map (λ (kind : ℕ). length_as kind (Voted e (record { verdict = Rejected; weighed = n; reason = k }))) (17 ∷ 19 ∷ 20 ∷ 21 ∷ 22 ∷ 23 ∷ []) ≡ 19 ∷ 19 ∷ 19 ∷ 19 ∷ 19 ∷ 19 ∷ []
  pub are_applied : map is_applied
      (Voted e (record { verdict = Accepted; weighed = n; reason = k }) ∷ Voted e (record { verdict = Rejected; weighed = n; reason = k }) ∷ Voted e (record { verdict = Held; weighed = n; reason = k }) ∷ Noted ∷ Applied e n ∷ Dropped e ∷ [])
      ≡ false ∷ false ∷ false ∷ false ∷ true ∷ false ∷ []
  pub are_votes : map is_vote
      (Voted e (record { verdict = Accepted; weighed = n; reason = k }) ∷ Voted e (record { verdict = Rejected; weighed = n; reason = k }) ∷ Voted e (record { verdict = Held; weighed = n; reason = k }) ∷ Noted ∷ Applied e n ∷ Dropped e ∷ [])
      ≡ true ∷ true ∷ true ∷ false ∷ false ∷ false ∷ []
  pub are_rejections : map is_rejection
      (Voted e (record { verdict = Accepted; weighed = n; reason = k }) ∷ Voted e (record { verdict = Rejected; weighed = n; reason = k }) ∷ Voted e (record { verdict = Held; weighed = n; reason = k }) ∷ Noted ∷ Applied e n ∷ Dropped e ∷ [])
      ≡ false ∷ true ∷ false ∷ false ∷ false ∷ false ∷ []

-- the kinds in which an entry can stand
pub record StandingLiteral (kind : ℕ) (e : Event) (n k : ℕ) : Type 0 where
  pub accepted : StandsAs kind (Voted e (record { verdict = Accepted; weighed = n; reason = k })) ↔ (kind ≡ 17)
  pub rejected : StandsAs kind (Voted e (record { verdict = Rejected; weighed = n; reason = k })) ↔ ((kind ≡ 23) ⊎ ((kind ≡ 18) × (k ≡ 0)))
  pub held : StandsAs kind (Voted e (record { verdict = Held; weighed = n; reason = k })) ↔ (kind ≡ 19)
  pub noted : StandsAs kind Noted ↔ (kind ≡ 20)
  pub applied : StandsAs kind (Applied e n) ↔ (kind ≡ 21)
  pub dropped : StandsAs kind (Dropped e) ↔ (kind ≡ 22)

-- an event's bytes, and an event among the bytes of an entry: its kind at 11, its amount from 12 on
pub record EventLiteral (a : ℕ) (bytes : List ℕ) : Type 0 where
  pub opens : event_bytes (Open a) ≡ 1 ∷ a / 16_777_216 % 256 ∷ a / 65_536 % 256 ∷ a / 256 % 256 ∷ a % 256 ∷ []
  pub withdraws : event_bytes (Withdraw a) ≡ 2 ∷ a / 16_777_216 % 256 ∷ a / 65_536 % 256 ∷ a / 256 % 256 ∷ a % 256 ∷ []
  pub deposits : event_bytes (Deposit a) ≡ 3 ∷ a / 16_777_216 % 256 ∷ a / 65_536 % 256 ∷ a / 256 % 256 ∷ a % 256 ∷ []
  pub closes : event_bytes Close ≡ 4 ∷ 0 ∷ 0 ∷ 0 ∷ 0 ∷ []
  pub open_stands : EventStands bytes (Open a) ↔ ((get_or bytes 11 0 ≡ 1) × (get_or bytes 12 0 * 16_777_216 + get_or bytes 13 0 * 65_536 + get_or bytes 14 0 * 256 + get_or bytes 15 0 ≡ a))
  pub withdraw_stands : EventStands bytes (Withdraw a) ↔ ((get_or bytes 11 0 ≡ 2) × (get_or bytes 12 0 * 16_777_216 + get_or bytes 13 0 * 65_536 + get_or bytes 14 0 * 256 + get_or bytes 15 0 ≡ a))
  pub deposit_stands : EventStands bytes (Deposit a) ↔ ((get_or bytes 11 0 ≡ 3) × (get_or bytes 12 0 * 16_777_216 + get_or bytes 13 0 * 65_536 + get_or bytes 14 0 * 256 + get_or bytes 15 0 ≡ a))
  pub close_stands : EventStands bytes Close ↔ ((get_or bytes 11 0 ≡ 4) × (get_or bytes 12 0 * 16_777_216 + get_or bytes 13 0 * 65_536 + get_or bytes 14 0 * 256 + get_or bytes 15 0 ≡ 0))

-- what an entry tells that stands in bytes: its kind, its event, the number from 16 on, and the reason at 18
pub record StandsLiteral (bytes : List ℕ) (e : Event) (n k : ℕ) : Type 0 where
  pub accepted : Stands bytes (Voted e (record { verdict = Accepted; weighed = n; reason = k })) ↔ (((get_or bytes 0 0 ≡ 17) × (k ≡ 0)) × EventStands bytes e × (get_or bytes 16 0 * 256 + get_or bytes 17 0 ≡ n))
  pub rejected : Stands bytes (Voted e (record { verdict = Rejected; weighed = n; reason = k }))
      ↔ ((((get_or bytes 0 0 ≡ 18) × (k ≡ 0)) ⊎ ((get_or bytes 0 0 ≡ 23) × (get_or bytes 18 0 ≡ k))) × EventStands bytes e × (get_or bytes 16 0 * 256 + get_or bytes 17 0 ≡ n))
  pub held : Stands bytes (Voted e (record { verdict = Held; weighed = n; reason = k })) ↔ (((get_or bytes 0 0 ≡ 19) × (k ≡ 0)) × EventStands bytes e × (get_or bytes 16 0 * 256 + get_or bytes 17 0 ≡ n))
  pub noted : Stands bytes Noted ↔ (get_or bytes 0 0 ≡ 20)
  pub applied : Stands bytes (Applied e n)
      ↔ ((get_or bytes 0 0 ≡ 21) × EventStands bytes e × (get_or bytes 16 0 * 16_777_216 + get_or bytes 17 0 * 65_536 + get_or bytes 18 0 * 256 + get_or bytes 19 0 ≡ n))
  pub dropped : Stands bytes (Dropped e) ↔ ((get_or bytes 0 0 ≡ 22) × EventStands bytes e)

-- what follows the heading, as numbers: the reason of a rejection, and of no other vote
pub record ThenLiteral (a n k : ℕ) : Type 0 where
  pub accepted : then_numbers (Voted (Open a) (record { verdict = Accepted; weighed = n; reason = k })) ≡ 1 ∷ a ∷ n ∷ []
  pub rejected : then_numbers (Voted (Withdraw a) (record { verdict = Rejected; weighed = n; reason = k })) ≡ 2 ∷ a ∷ n ∷ k ∷ []
  pub held : then_numbers (Voted (Withdraw a) (record { verdict = Held; weighed = n; reason = k })) ≡ 2 ∷ a ∷ n ∷ []
  pub noted : then_numbers Noted ≡ []
  pub applied : then_numbers (Applied (Deposit a) n) ≡ 3 ∷ a ∷ n ∷ []
  pub dropped : then_numbers (Dropped (Open a)) ≡ 1 ∷ a ∷ []
  pub closed : then_numbers (Dropped Close) ≡ 4 ∷ 0 ∷ []

-- entries one after the other, however many
pub record RowLiteral (account : ℕ) (e : Entry) (es : List Entry) (x : List ℕ) (xs : List (List ℕ)) (bytes : List ℕ) : Type 0 where
  pub none_together : together [] ≡ []
  pub more_together : together (x ∷ xs) ≡ x ++ together xs
  pub no_bytes : bytes_of_entries account [] ≡ []
  pub more_bytes : bytes_of_entries account (e ∷ es) ≡ bytes_of_entry account e ++ bytes_of_entries account es
  pub no_length : (wholes_of [] ≡ 0) × (lengths_in [] ≡ 0)
  pub more_length : (wholes_of (e ∷ es) ≡ length_of_told e.told + wholes_of es) × (lengths_in (e ∷ es) ≡ length_in e.told + lengths_in es)
  pub no_rejection : rejections [] ≡ 0
  pub more_rejections : rejections (e ∷ es) ≡ cond (is_rejection e.told) (1 + rejections es) (rejections es)
  pub none_writable : AllWritable account []
  pub more_writable : AllWritable account (e ∷ es) ↔ (Writable account e × AllWritable account es)
  pub more_read : AllRead account (e ∷ es) bytes ↔ ((said_of_entry (read_of bytes) ≡ record { entry = some e; kind = kind_of e.told; account = account; length' = length_in e.told }) × AllRead account es (drop (length_in e.told) bytes))

-- the answers of the reader, and the places that are used
pub record AnswersLiteral (e : Entry) (kind account whole : ℕ) (entries : Entries) : Type 0 where
  pub found' : found e kind account whole ≡ record { entry = some e; kind = kind; account = account; length' = whole }
  pub as' : found_as e kind account whole ≡ Some (record { entry = e; kind = kind; account = account }, whole)
  pub nothing' : nothing ≡ record { entry = none; kind = 0; account = 0; length' = 0 }
  pub used : list_of entries ≡ take entries.count entries.at
  pub longest : longest_call ≡ 323

-- the writer of entries, of however many: no room with fewer than 323 bytes, whatever the entries and the account are, and where the entries do not fit; else their bytes, how many they are, and the rest
-- of the buffer as it was
pub record WriterLiteral (entries : List Entry) (account : ℕ) (buffer : List ℕ) : Type 0 where
  pub short : length buffer < 323 → write_of entries account buffer ≡ record { answer = Err NoRoom; buffer = buffer }
  pub roomless :
      let bytes = bytes_of_entries account entries in
      323 ≤ length buffer → length buffer < length bytes → write_of entries account buffer ≡ record { answer = Err NoRoom; buffer = buffer }
  pub written :
      let bytes = bytes_of_entries account entries in
      323 ≤ length buffer → length bytes ≤ length buffer → write_of entries account buffer ≡ record { answer = Ok (length bytes); buffer = bytes ++ drop (length bytes) buffer }

pub record LiteralHolds : Type 0 where
  pub kinds : (e : Event) (n k : ℕ) → KindsLiteral e n k
  pub standing : (kind : ℕ) (e : Event) (n k : ℕ) → StandingLiteral kind e n k
  pub event : (a : ℕ) (bytes : List ℕ) → EventLiteral a bytes
  pub stands : (bytes : List ℕ) (e : Event) (n k : ℕ) → StandsLiteral bytes e n k
  pub then' : (a n k : ℕ) → ThenLiteral a n k
  pub row : (account : ℕ) (e : Entry) (es : List Entry) (x : List ℕ) (xs : List (List ℕ)) (bytes : List ℕ) → RowLiteral account e es x xs bytes
  pub answers : (e : Entry) (kind account whole : ℕ) (entries : Entries) → AnswersLiteral e kind account whole entries
  pub writer : (entries : List Entry) (account : ℕ) (buffer : List ℕ) → WriterLiteral entries account buffer
