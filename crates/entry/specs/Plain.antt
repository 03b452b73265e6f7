-- Entries (docs/REGISTER.md, 9.1 and 9.6) field by field in plain numbers: what the reader finds in the bytes and what the writer of a call leaves in
-- the buffer. The definitions of entries said a second time, from outside, for every byte string and every entry.
-- Assumes nothing.
use Rattle.std.specs.Prelude.{ℕ, ◌+◌, ◌%◌, ◌≤◌, ◌≡◌, ◌↔◌, ◌⊎◌, Bool, true, cond, not, ◌&&◌, ◌||◌, List, [], ◌∷◌, ◌++◌, map, eqb, leb, ltb, length, get_or, drop}
use Rattle.std.proofs.Math.Option.{none, some}
use Rattle.events.specs.declared.Event.{Event}
use Rattle.events.specs.declared.Event.TheVariants.{Open, Withdraw, Deposit, Close}
use Rattle.filing.specs.declared.Filed.{Filed}
use Rattle.filing.specs.declared.Verdict.{Verdict}
use Rattle.filing.specs.declared.Verdict.TheVariants.{Accepted, Rejected, Held}
use Rattle.filing.specs.declared.Told.{Told}
use Rattle.filing.specs.declared.Told.TheVariants.{Voted, Noted, Applied, Dropped}
use Rattle.filing.specs.declared.Entry.{Entry}
use Rattle.layout.specs.Fields.{row_of_kind, whole_of}
use Rattle.events.specs.Kinds.{amount_of}
use Rattle.layout.specs.Plain.{two_at, four_at, two_of, four_of, filed_in, heading_bytes}
use Rattle.layout.specs.Writes as Writing'
use Rattle.entry.specs.Bytes.{entry_rows, kind_of, bytes_as, bytes_of_entry, length_of_told}
use Rattle.entry.specs.Answers.{SaidOfEntry, said_of_entry, read_of, write_of}
use Rattle.entry.specs.Inverse.{amount_in, weighed_in, balance_in, reason_in, Writable}

-- a vote of that verdict, with the outcomes weighed and the reason, which only a rejection writes
abbrev pub vote : Verdict → Event → (weighed reason : ℕ) → Told
vote verdict e weighed reason = Voted e (record { verdict = verdict; weighed = weighed; reason = reason })

-- what an entry of each kind that is written tells, in the order of the kinds 17, 23, 19, 20, 21, 22
abbrev pub of_each_kind : Event → (number reason : ℕ) → List Told
of_each_kind e n k = vote Accepted e n k ∷ vote Rejected e n k ∷ vote Held e n k ∷ Noted ∷ Applied e n ∷ Dropped e ∷ []

-- an event's kind and amount
abbrev pub event_bytes : Event → List ℕ
event_bytes (Open a) = 1 ∷ four_of a
event_bytes (Withdraw a) = 2 ∷ four_of a
event_bytes (Deposit a) = 3 ∷ four_of a
event_bytes Close = 4 ∷ 0 ∷ 0 ∷ 0 ∷ 0 ∷ []

-- whatever the numbers are: the bytes of each entry, and of a rejection in the older kind; its length, and the numbers that have to fit
pub record Plain (t a : ℕ) (g : Filed) (e : Event) (n k : ℕ) : Type 0 where
  pub bytes : map (λ (told : Told). bytes_of_entry a (record { transaction = t; filed = g; told = told })) (of_each_kind e n k)
      ≡ (17 ∷ (heading_bytes t a g ++ (event_bytes e ++ two_of n))) ∷
      (23 ∷ (heading_bytes t a g ++ (event_bytes e ++ (two_of n ++ (k % 256 ∷ []))))) ∷
      (19 ∷ (heading_bytes t a g ++ (event_bytes e ++ two_of n))) ∷
      (20 ∷ heading_bytes t a g) ∷
      (21 ∷ (heading_bytes t a g ++ (event_bytes e ++ four_of n))) ∷
      (22 ∷ (heading_bytes t a g ++ event_bytes e)) ∷
      []
  pub older : bytes_as 18 a (record { transaction = t; filed = g; told = vote Rejected e n k }) ≡ 18 ∷ (heading_bytes t a g ++ (event_bytes e ++ two_of n))
  pub lengths : map length_of_told (of_each_kind e n k) ≡ 18 ∷ 19 ∷ 18 ∷ 11 ∷ 20 ∷ 16 ∷ []
  pub amounts : map amount_in (of_each_kind e n k) ≡ amount_of e ∷ amount_of e ∷ amount_of e ∷ 0 ∷ amount_of e ∷ amount_of e ∷ []
  pub weighed : map weighed_in (of_each_kind e n k) ≡ n ∷ n ∷ n ∷ 0 ∷ 0 ∷ 0 ∷ []
  pub balances : map balance_in (of_each_kind e n k) ≡ 0 ∷ 0 ∷ 0 ∷ 0 ∷ n ∷ 0 ∷ []
  pub reasons : map reason_in (of_each_kind e n k) ≡ k ∷ k ∷ k ∷ 0 ∷ 0 ∷ 0 ∷ []

abbrev pub EntriesPlain : Type 0
EntriesPlain = (t a : ℕ) (g : Filed) (e : Event) (n k : ℕ) → Plain t a g e n k

-- kinds 17 to 19 have 18 bytes, 20 has 11, 21 has 20, 22 has 16, 23 has 19, and there are no others
abbrev pub kind_length : (kind : ℕ) → ℕ
kind_length kind = cond (leb kind 19) 18 (cond (eqb kind 20) 11 (cond (eqb kind 21) 20 (cond (eqb kind 22) 16 19)))

abbrev pub LengthsPlain : Type 0
LengthsPlain = (kind : ℕ) → whole_of (row_of_kind entry_rows kind) ≡ cond (leb 17 kind && leb kind 23) (kind_length kind) 0

-- how long an entry is as it is written: a rejection has one byte more than another vote,
abbrev pub vote_length : Verdict → ℕ
vote_length Accepted = 18
vote_length Rejected = 19
vote_length Held = 18

abbrev pub length_in : Told → ℕ
length_in (Voted e weighing) = vote_length weighing.verdict
length_in Noted = 11
length_in (Applied e n) = 20
length_in (Dropped e) = 16

-- and how long as it was read in that kind: a rejection of kind 18 is one byte shorter than as it is written
abbrev pub length_as : (kind : ℕ) → Told → ℕ
length_as kind told = cond (eqb kind 18) 18 (length_in told)

-- the answers of a reader that found an entry, and that found none
abbrev pub found : Entry → (kind account whole : ℕ) → SaidOfEntry
found e kind account whole = record { entry = some e; kind = kind; account = account; length' = whole }

abbrev pub nothing : SaidOfEntry
nothing = record { entry = none; kind = 0; account = 0; length' = 0 }

-- kind and amount of the event in the bytes are those of the event
abbrev pub EventStands : (bytes : List ℕ) → Event → Type 0
EventStands bytes (Open a) = (get_or bytes 11 0 ≡ 1) × (four_at bytes 12 ≡ a)
EventStands bytes (Withdraw a) = (get_or bytes 11 0 ≡ 2) × (four_at bytes 12 ≡ a)
EventStands bytes (Deposit a) = (get_or bytes 11 0 ≡ 3) × (four_at bytes 12 ≡ a)
EventStands bytes Close = (get_or bytes 11 0 ≡ 4) × (four_at bytes 12 ≡ 0)

-- the kind in the bytes is one of the verdict: a rejection of kind 18 has reason 0, one of kind 23 the reason in the last byte, and no other vote has one
abbrev pub VoteStands : (bytes : List ℕ) → Verdict → (reason : ℕ) → Type 0
VoteStands bytes Accepted reason = (get_or bytes 0 0 ≡ 17) × (reason ≡ 0)
VoteStands bytes Rejected reason = ((get_or bytes 0 0 ≡ 18) × (reason ≡ 0)) ⊎ ((get_or bytes 0 0 ≡ 23) × (get_or bytes 18 0 ≡ reason))
VoteStands bytes Held reason = (get_or bytes 0 0 ≡ 19) × (reason ≡ 0)

-- kind, event and numbers in the bytes are those that the entry tells
abbrev pub Stands : (bytes : List ℕ) → Told → Type 0
Stands bytes (Voted e weighing) = VoteStands bytes weighing.verdict weighing.reason × EventStands bytes e × (two_at bytes 16 ≡ weighing.weighed)
Stands bytes Noted = get_or bytes 0 0 ≡ 20
Stands bytes (Applied e n) = (get_or bytes 0 0 ≡ 21) × EventStands bytes e × (four_at bytes 16 ≡ n)
Stands bytes (Dropped e) = (get_or bytes 0 0 ≡ 22) × EventStands bytes e

-- the kind is the first byte, and the length is that of the entry in this kind
pub record Begins (bytes : List ℕ) (e : Entry) (kind account whole : ℕ) : Type 0 where
  pub kind' : get_or bytes 0 0 ≡ kind
  pub stands : Stands bytes e.told
  pub transaction : four_at bytes 1 ≡ e.transaction
  pub account' : two_at bytes 5 ≡ account
  pub known : two_at bytes 5 ≤ 15
  pub filed : filed_in bytes ≡ e.filed
  pub length' : whole ≡ length_as kind e.told
  pub enough : whole ≤ length bytes

-- an entry is found exactly if the bytes begin with it,
abbrev pub ReaderFinds : Type 0
ReaderFinds = (bytes : List ℕ) (e : Entry) (kind account whole : ℕ) → (said_of_entry (read_of bytes) ≡ found e kind account whole) ↔ Begins bytes e kind account whole

-- and none exactly if the kind is none of the seven, bytes are missing, the account is above 15, the event kind is none of the four, or a close has
-- an amount
abbrev pub no_entry : (bytes : List ℕ) → Bool
no_entry bytes =
    not (leb 17 (get_or bytes 0 0) && leb (get_or bytes 0 0) 23)
    || (ltb (length bytes) (kind_length (get_or bytes 0 0))
    || (ltb 15 (two_at bytes 5)
    || (not (eqb (get_or bytes 0 0) 20)
    && (not (leb 1 (get_or bytes 11 0) && leb (get_or bytes 11 0) 4) || (eqb (get_or bytes 11 0) 4 && not (eqb (four_at bytes 12) 0))))))

abbrev pub ReaderFindsNone : Type 0
ReaderFindsNone = (bytes : List ℕ) → (said_of_entry (read_of bytes) ≡ nothing) ↔ (no_entry bytes ≡ true)

-- every entry can be written for that account
abbrev pub AllWritable : (account : ℕ) → List Entry → Type 0
AllWritable account [] = Unit {0}
AllWritable account (e ∷ es) = Writable account e × AllWritable account es

-- how many bytes entries take together
abbrev pub lengths_in : List Entry → ℕ
lengths_in [] = 0
lengths_in (e ∷ es) = length_in e.told + lengths_in es

-- these entries are read from the bytes, one after the other, each in the kind that is written
abbrev pub AllRead : (account : ℕ) → List Entry → (bytes : List ℕ) → Type 0
AllRead account [] bytes = Unit {0}
AllRead account (e ∷ es) bytes = (said_of_entry (read_of bytes) ≡ found e (kind_of e.told) account (length_in e.told)) × AllRead account es (drop (length_in e.told) bytes)

-- what was written is there to be read: the answer is the length of the entries, and the buffer begins with them
pub record Leaves (entries : List Entry) (account : ℕ) (w : Writing'.Wrote) : Type 0 where
  pub answer : Writing'.said_of_writing w.answer ≡ record { refusal = none; length' = lengths_in entries }
  pub back : AllRead account entries w.buffer

abbrev pub WriterReadBack : Type 0
WriterReadBack =
    (entries : List Entry) (account : ℕ) (buffer : List ℕ) → AllWritable account entries → 323 ≤ length buffer
    → lengths_in entries ≤ length buffer
    → Leaves entries account (write_of entries account buffer)
