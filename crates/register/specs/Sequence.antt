-- Sequences of calls, and what can be seen of them in bytes: the messages sent, the answers, and the entries in the buffers (docs/REGISTER.md, 13.3).
-- Assumes nothing.
use Rattle.std.specs.Prelude.{ℕ, zero, suc, ◌≡◌, cond, Option, Some, None, Result, Ok, Err, List, [], ◌∷◌, ◌++◌, map, eqb, length, take, drop}
use Rattle.std.proofs.Math.Option.{none, some}
use Rattle.refusal.specs.declared.Refusal.{Refusal}
use Rattle.refusal.specs.Numbers.{number_of}
use Rattle.rule.specs.Rule as rule
use Rattle.rule.specs.Call as Rule-Call
use Rattle.rule.specs.History as rule-history
use Rattle.rule.specs.Demand as rule-demand
use Rattle.events.specs.declared.Event.{Event}
use Rattle.events.specs.declared.State.{State}
use Rattle.filing.specs.declared.Told.{Told}
use Rattle.filing.specs.declared.Told.TheVariants.{Voted, Noted, Applied, Dropped}
use Rattle.filing.specs.declared.Entry.{Entry}
use Rattle.filing.specs.declared.Filed.{Filed}
use Rattle.filing.specs.Entries.{RuleEntry, weighing_of, entry_of}
use Rattle.account.specs.Places.{lists_of}
use Rattle.layout.specs.Number.{AreBytes}
use Rattle.message.specs.declared.Message.{Message}
use Rattle.message.specs.Bytes.{heading_of}
use Rattle.message.specs.Answers as message
use Rattle.entry.specs.declared.Found.{Found}
use Rattle.entry.specs.Bytes.{bytes_of_entries}
use Rattle.entry.specs.Answers as entry
use Rattle.register.specs.declared.Register.{Register}
use Rattle.register.specs.Register.{rule_message, fresh_by}
use Rattle.register.specs.Call.{Reply, refusal_of, written_of, called_by}
use Rattle.register.specs.Refusals.{account_in, standing_at}

-- what is handed to a call: the message bytes and the entry buffer
pub record Input : Type 0 where
  pub message : List ℕ
  pub buffer : List ℕ

-- a call as it can be seen: the message bytes, the reply, and the buffer that it left
pub record Exchange : Type 0 where
  pub message : List ℕ
  pub reply : Reply
  pub buffer : List ℕ

-- every message of these is a string of bytes
abbrev pub ByteStrings : List Input → Type 0
ByteStrings [] = Unit {0}
ByteStrings (x ∷ xs) = AreBytes x.message × ByteStrings xs

module _ (R : rule.Rule State Event ℕ) where
  -- the register after a sequence of calls, refused ones included
  abbrev pub after : Register → List Input → Register
  after r [] = r
  after r (x ∷ xs) = after (called_by R r x.message x.buffer).register xs

  -- and what is seen of them
  abbrev pub exchanges : Register → List Input → List Exchange
  exchanges r [] = []
  exchanges r (x ∷ xs) =
      record { message = x.message; reply = (called_by R r x.message x.buffer).reply; buffer = (called_by R r x.message x.buffer).buffer }
      ∷ exchanges (called_by R r x.message x.buffer).register xs

-- an entry as the rule has it
abbrev pub told_as : ℕ → Filed → Told → RuleEntry
told_as t g (Voted e w) = rule.voted t g e (weighing_of w)
told_as t g Noted = rule.noted t g
told_as t g (Applied e b) = rule.applied t g e b
told_as t g (Dropped e) = rule.dropped t g e

abbrev pub rule_entry : Entry → RuleEntry
rule_entry e = told_as e.transaction e.filed e.told

-- an entry that was read, and those of the bytes behind it; where there is none, the entries have ended
abbrev pub read_on : (bytes : List ℕ) → (List ℕ → List RuleEntry) → Option (Found × ℕ) → List RuleEntry
read_on bytes rest (Some (found, whole)) = rule_entry found.entry ∷ rest (drop whole bytes)
read_on bytes rest None = []

-- the entries that bytes hold, one after the other, at most so many
unfoldable pub entries_from : ℕ → List ℕ → List RuleEntry
entries_from zero bytes = []
entries_from (suc most) bytes = read_on bytes (λ (rest : List ℕ). entries_from most rest) (entry.read_of bytes)

-- the entries that these bytes hold
abbrev pub entries_in : List ℕ → List RuleEntry
entries_in bytes = entries_from (length bytes) bytes

-- the answer to an account: the number of a refusal, or the entries that the buffer begins with
abbrev pub answer_in : Reply → (buffer : List ℕ) → Rule-Call.Answer Filed Event ℕ
answer_in (Err refusal) buffer = Rule-Call.refused (number_of refusal)
answer_in (Ok taken) buffer = Rule-Call.taken (entries_in (take taken.written buffer))

-- an exchange as an account sees it: one whose message names it, and no other
abbrev pub seen_of : ℕ → Reply → (buffer : List ℕ) → Result (Message × ℕ) Refusal → List (rule-history.Seen Filed Event ℕ)
seen_of i reply buffer (Err refusal) = []
seen_of i reply buffer (Ok (m, consumed)) =
    cond (eqb (heading_of m).account i) (record { message = rule_message m; answer = answer_in reply buffer } ∷ []) []

-- all exchanges as an account sees them
abbrev pub seen_by : ℕ → List Exchange → List (rule-history.Seen Filed Event ℕ)
seen_by i [] = []
seen_by i (x ∷ xs) = seen_of i x.reply x.buffer (message.read_of x.message) ++ seen_by i xs

-- the bytes that an exchange wrote
abbrev pub written_in : Exchange → List ℕ
written_in x = take (written_of x.reply) x.buffer

-- they are all of the entries' bytes and nothing else: the entries read back from them, each under the account that the message names, have just these bytes
abbrev pub OnlyEntries : Exchange → Type 0
OnlyEntries x = refusal_of x.reply ≡ none → written_in x ≡ bytes_of_entries (account_in x.message) (map entry_of (entries_in (written_in x)))

abbrev pub EachOnlyEntries : List Exchange → Type 0
EachOnlyEntries [] = Unit {0}
EachOnlyEntries (x ∷ xs) = OnlyEntries x × EachOnlyEntries xs

module _ (R : rule.Rule State Event ℕ) where
  -- a sequence is its calls, one after the other, each on the register that the one before left
  pub record OneMoreCall (r : Register) (x : Input) (xs : List Input) : Type 0 where
    pub none_after : after R r [] ≡ r
    pub last_after : after R r (xs ++ (x ∷ [])) ≡ (called_by R (after R r xs) x.message x.buffer).register
    pub none_seen : exchanges R r [] ≡ []
    pub last_seen :
        let called = called_by R (after R r xs) x.message x.buffer in
        exchanges R r (xs ++ (x ∷ [])) ≡ exchanges R r xs ++ (record { message = x.message; reply = called.reply; buffer = called.buffer } ∷ [])

  -- what demand 3 says of the account of a number after these calls of a fresh register, by what it has seen of them
  abbrev pub SerialPast : List Input → (account : ℕ) → Type 0
  SerialPast inputs i = rule-demand.Demand3 R (lists_of (standing_at (after R (fresh_by R) inputs) i)) (seen_by i (exchanges R (fresh_by R) inputs))

-- an account sees the exchanges whose messages name it, in their order, and no other
pub record Sight (i : ℕ) (xs : List Exchange) (x : Exchange) : Type 0 where
  pub nothing : seen_by i [] ≡ []
  pub unread : (refusal : Refusal) → message.read_of x.message ≡ Err refusal → seen_by i (xs ++ (x ∷ [])) ≡ seen_by i xs
  pub another : (account_in x.message ≡ i → ⊥) → seen_by i (xs ++ (x ∷ [])) ≡ seen_by i xs
  pub refused :
      (m : Message) (consumed n : ℕ) → message.read_of x.message ≡ Ok (m, consumed) → account_in x.message ≡ i → refusal_of x.reply ≡ some n
      → seen_by i (xs ++ (x ∷ [])) ≡ seen_by i xs ++ (record { message = rule_message m; answer = Rule-Call.refused n } ∷ [])
  pub taken :
      (m : Message) (consumed : ℕ) → message.read_of x.message ≡ Ok (m, consumed) → account_in x.message ≡ i → refusal_of x.reply ≡ none
      → seen_by i (xs ++ (x ∷ [])) ≡ seen_by i xs ++ (record { message = rule_message m; answer = Rule-Call.taken (entries_in (written_in x)) } ∷ [])
