-- Reader and writer of entries are inverse (docs/REGISTER.md, 9), as those of messages are; and so are they of an entry in an older kind.
-- Assumes nothing.
use Rattle.std.specs.Prelude.{ℕ, ◌≤◌, ◌<◌, ◌^◌, ◌≡◌, ◌⊎◌, List, ◌++◌, take}
use Rattle.filing.specs.declared.Verdict.TheVariants.{Rejected}
use Rattle.filing.specs.declared.Told.{Told}
use Rattle.filing.specs.declared.Told.TheVariants.{Voted, Noted, Applied, Dropped}
use Rattle.filing.specs.declared.Entry.{Entry}
use Rattle.layout.specs.Number.{AreBytes}
use Rattle.layout.specs.Fields.{row_of_kind, whole_of, last_account}
use Rattle.layout.specs.Heading.{FiledFits}
use Rattle.events.specs.Kinds.{amount_of}
use Rattle.entry.specs.Bytes.{entry_rows, kind_of, bytes_as, bytes_of_entry, length_of_told}
use Rattle.entry.specs.Answers.{found_as, read_of}

-- the amount, the outcomes weighed, the balance and the reason of an entry, each 0 where it has none
abbrev pub amount_in : Told → ℕ
amount_in (Voted e weighing) = amount_of e
amount_in Noted = 0
amount_in (Applied e balance) = amount_of e
amount_in (Dropped e) = amount_of e

abbrev pub weighed_in : Told → ℕ
weighed_in (Voted e weighing) = weighing.weighed
weighed_in Noted = 0
weighed_in (Applied e balance) = 0
weighed_in (Dropped e) = 0

abbrev pub balance_in : Told → ℕ
balance_in (Voted e weighing) = 0
balance_in Noted = 0
balance_in (Applied e balance) = balance
balance_in (Dropped e) = 0

abbrev pub reason_in : Told → ℕ
reason_in (Voted e weighing) = weighing.reason
reason_in Noted = 0
reason_in (Applied e balance) = 0
reason_in (Dropped e) = 0

-- a rejection
abbrev pub IsRejection : Told → Type 0
IsRejection (Voted e weighing) = weighing.verdict ≡ Rejected
IsRejection Noted = ⊥
IsRejection (Applied e balance) = ⊥
IsRejection (Dropped e) = ⊥

-- the kinds in which an entry can stand: its own, and 18 if it is a rejection whose reason is 0
abbrev pub StandsAs : (kind : ℕ) → Told → Type 0
StandsAs kind told = (kind ≡ kind_of told) ⊎ ((kind ≡ 18) × IsRejection told × (reason_in told ≡ 0))

-- the account is one of the register's, the entry's numbers fit their bytes, and no vote but a rejection has a reason
pub record Writable (account : ℕ) (e : Entry) : Type 0 where
  pub transaction : e.transaction < 256 ^ 4
  pub account' : account ≤ last_account
  pub filed : FiledFits e.filed
  pub amount : amount_in e.told < 256 ^ 4
  pub weighed : weighed_in e.told < 256 ^ 2
  pub balance : balance_in e.told < 256 ^ 4
  pub reason : reason_in e.told < 256 ^ 1
  pub alone : (IsRejection e.told → ⊥) → reason_in e.told ≡ 0

-- reading what was written gives the entry, its kind, its account and its length, whatever bytes follow
abbrev pub ReadsWritten : Type 0
ReadsWritten =
    (account : ℕ) (e : Entry) (rest : List ℕ) → Writable account e
    → read_of (bytes_of_entry account e ++ rest) ≡ found_as e (kind_of e.told) account (length_of_told e.told)

-- and so it does in any kind in which the entry can stand
abbrev pub ReadsStanding : Type 0
ReadsStanding =
    (kind account : ℕ) (e : Entry) (rest : List ℕ) → Writable account e → StandsAs kind e.told
    → read_of (bytes_as kind account e ++ rest) ≡ found_as e kind account (whole_of (row_of_kind entry_rows kind))

-- what was read: its bytes in the kind that was read are those that were read, its length is that kind's, it can be written, and it can stand in that kind
pub record Read (bytes : List ℕ) (kind account : ℕ) (e : Entry) (whole : ℕ) : Type 0 where
  pub bytes' : take whole bytes ≡ bytes_as kind account e
  pub length' : whole ≡ whole_of (row_of_kind entry_rows kind)
  pub writable : Writable account e
  pub standing : StandsAs kind e.told

-- writing what was read gives the bytes back, for every byte string
abbrev pub WritesRead : Type 0
WritesRead =
    (bytes : List ℕ) (kind account : ℕ) (e : Entry) (whole : ℕ) → AreBytes bytes → read_of bytes ≡ found_as e kind account whole → Read bytes kind account e whole

-- what was read in the kind that is written is written as it stood
abbrev pub WritesOwn : Type 0
WritesOwn =
    (bytes : List ℕ) (kind account : ℕ) (e : Entry) (whole : ℕ) → AreBytes bytes → read_of bytes ≡ found_as e kind account whole → (kind ≡ 18 → ⊥)
    → (take whole bytes ≡ bytes_of_entry account e) × (whole ≡ length_of_told e.told)
