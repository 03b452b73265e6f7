-- An entry's line of text, byte by byte (docs/REGISTER.md, 12.4 and 12.5).
-- Assumes nothing.
use Rattle.std.specs.Prelude.{ℕ, zero, suc, ◌+◌, ◌/◌, ◌%◌, ◌≤◌, ◌≡◌, Bool, false, cond, List, [], ◌∷◌, ◌++◌, ltb, eqb, length, take}
use Rattle.std.proofs.lemmas.List.Edits.{sets}
use Rattle.events.specs.declared.Event.{Event}
use Rattle.events.specs.Kinds.{event_kind, amount_of}
use Rattle.filing.specs.declared.Filed.{Filed}
use Rattle.filing.specs.declared.Verdict.{Verdict}
use Rattle.filing.specs.declared.Verdict.TheVariants.{Accepted, Rejected, Held}
use Rattle.filing.specs.declared.Told.{Told}
use Rattle.filing.specs.declared.Told.TheVariants.{Voted, Noted, Applied, Dropped}
use Rattle.filing.specs.declared.Entry.{Entry}
use Rattle.refusal.specs.declared.Refusal.TheVariants.{NoRoom}
use Rattle.layout.specs.Writes.{Wrote, wrote_over, refused_with}

-- the digits of a number, highest first, at most as many as `places` says
unfoldable pub decimal_in : (places number : ℕ) → List ℕ
decimal_in zero number = []
decimal_in (suc places) number = cond (ltb number 10) ((48 + number) ∷ []) (decimal_in places (number / 10) ++ ((48 + number % 10) ∷ []))

-- ten places hold every number of 4 bytes
abbrev pub decimal : (number : ℕ) → List ℕ
decimal number = decimal_in 10 number

-- a vote's name, letter by letter, by its verdict
abbrev pub vote_name : Verdict → List ℕ
vote_name Accepted = 97 ∷ 99 ∷ 99 ∷ 101 ∷ 112 ∷ 116 ∷ 101 ∷ 100 ∷ []
vote_name Rejected = 114 ∷ 101 ∷ 106 ∷ 101 ∷ 99 ∷ 116 ∷ 101 ∷ 100 ∷ []
vote_name Held = 104 ∷ 101 ∷ 108 ∷ 100 ∷ []

-- the entry's name
abbrev pub name_of : Told → List ℕ
name_of (Voted e weighing) = vote_name weighing.verdict
name_of Noted = 110 ∷ 111 ∷ 116 ∷ 101 ∷ 100 ∷ []
name_of (Applied e balance) = 97 ∷ 112 ∷ 112 ∷ 108 ∷ 105 ∷ 101 ∷ 100 ∷ []
name_of (Dropped e) = 100 ∷ 114 ∷ 111 ∷ 112 ∷ 112 ∷ 101 ∷ 100 ∷ []

-- the event's name, letter by letter
abbrev pub event_name : Event → List ℕ
event_name e =
    cond (eqb (event_kind e) 1) (111 ∷ 112 ∷ 101 ∷ 110 ∷ [])
    (cond (eqb (event_kind e) 2) (119 ∷ 105 ∷ 116 ∷ 104 ∷ 100 ∷ 114 ∷ 97 ∷ 119 ∷ [])
    (cond (eqb (event_kind e) 3) (100 ∷ 101 ∷ 112 ∷ 111 ∷ 115 ∷ 105 ∷ 116 ∷ []) (99 ∷ 108 ∷ 111 ∷ 115 ∷ 101 ∷ [])))

-- the fields behind the name: transaction, account, and the second that was filed
abbrev pub heading_fields : (transaction account : ℕ) → Filed → List (List ℕ)
heading_fields t account g = decimal t ∷ decimal account ∷ decimal g.second ∷ []

-- the reason of a rejection is the last field of its line, but of an older one, which has none; no other vote has one
abbrev pub reason_fields : (older : Bool) → Verdict → (reason : ℕ) → List (List ℕ)
reason_fields older Accepted reason = []
reason_fields older Rejected reason = cond older [] (decimal reason ∷ [])
reason_fields older Held reason = []

-- the fields behind the second: the event and its amount, and the outcomes weighed with the reason of a rejection, or the balance; none after a commit noted
abbrev pub then_fields : (older : Bool) → Told → List (List ℕ)
then_fields older (Voted e weighing) = event_name e ∷ decimal (amount_of e) ∷ decimal weighing.weighed ∷ reason_fields older weighing.verdict weighing.reason
then_fields older Noted = []
then_fields older (Applied e balance) = event_name e ∷ decimal (amount_of e) ∷ decimal balance ∷ []
then_fields older (Dropped e) = event_name e ∷ decimal (amount_of e) ∷ []

-- fields that follow another, a space before each
abbrev pub spaced : List (List ℕ) → List ℕ
spaced [] = []
spaced (field ∷ fields) = 32 ∷ (field ++ spaced fields)

-- the fields in their order, and a newline
unfoldable pub line_as : (older : Bool) (account : ℕ) → Entry → List ℕ
line_as older account e =
    name_of e.told ++ (spaced (heading_fields e.transaction account e.filed) ++ (spaced (then_fields older e.told) ++ (10 ∷ [])))

-- the line of an entry as it is written
abbrev pub line_of : (account : ℕ) → Entry → List ℕ
line_of account e = line_as false account e

-- the lines of entries, one after the other
unfoldable pub lines_of : (account : ℕ) → List Entry → List ℕ
lines_of account [] = []
lines_of account (e ∷ es) = line_of account e ++ lines_of account es

-- the longest line: the rejection of a withdrawal, ten digits for each number of 4 bytes, five for the account's 2, three for the reason
abbrev pub longest_line : ℕ
longest_line = 72

-- what a line keeps of text that grows: no more than the longest has
abbrev pub kept : (text : List ℕ) → List ℕ
kept text = take longest_line text

-- a rejection in kind 18 has no reason to show (9.1)
abbrev pub is_older : (kind : ℕ) → Bool
is_older kind = eqb kind 18

-- the writer of the line of an entry that stands in that kind: 4 where the buffer is too short for the longest
unfoldable pub write_line_of : Entry → (kind account : ℕ) (buffer : List ℕ) → Wrote
write_line_of e kind account buffer = cond (ltb (length buffer) longest_line) (refused_with NoRoom buffer) (wrote_over (line_as (is_older kind) account e) buffer)

-- text that was stored from `at` on, of at most so many bytes, and the place after it
pub record Put (text : List ℕ) (at most : ℕ) (before : List ℕ) (next : ℕ) (after : List ℕ) : Type 0 where
  pub place : next ≡ at + length text
  pub within : next ≤ at + most
  pub stored : after ≡ sets before at text
