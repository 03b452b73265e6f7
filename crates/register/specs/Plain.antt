-- Each way that a call, a message sent and the outcome question can take, with all that it gives, on any register and any buffer; and the words in which refusals, sequences and runs
-- are told, said a second time (docs/REGISTER.md, 7, 10.1 and 11).
-- Assumes nothing.
use Rattle.std.specs.Prelude.{ℕ, suc, ◌+◌, ◌*◌, ◌≤◌, ◌<◌, ◌≡◌, ◌↔◌, true, false, not, ◌&&◌, Some, None, Ok, Err, List, [], ◌∷◌, ◌++◌, map, eqb, length, take, drop, set, get_or, replicate}
use Rattle.std.proofs.Math.Option.{none, some}
use Rattle.refusal.specs.declared.Refusal.{Refusal}
use Rattle.refusal.specs.Numbers.{number_of, numbered}
use Rattle.rule.specs.Rule as rule
use Rattle.rule.specs.Call as Rule-Call
use Rattle.rule.specs.Lists.{some_of, keep}
use Rattle.events.specs.declared.Event.{Event}
use Rattle.events.specs.declared.Event.TheVariants.{Open}
use Rattle.events.specs.declared.Life.TheVariants.{New}
use Rattle.events.specs.declared.State.{State}
use Rattle.filing.specs.declared.Decision.TheVariants.{Undecided}
use Rattle.filing.specs.declared.Filed.{Filed}
use Rattle.filing.specs.declared.Slot.{Slot}
use Rattle.filing.specs.declared.Verdict.TheVariants.{Accepted, Rejected, Held}
use Rattle.filing.specs.declared.Told.TheVariants.{Voted, Noted, Applied, Dropped}
use Rattle.filing.specs.Slots.{is_undecided}
use Rattle.filing.specs.Entries.{RuleEntry, entry_of, entries_of}
use Rattle.account.specs.declared.Account.{Account}
use Rattle.account.specs.Places.{lists_of, account_of}
use Rattle.account.specs.InOrder.{in_order_by}
use Rattle.account.specs.Steps.{refusal_in, outlook_by}
use Rattle.message.specs.declared.Message.{Message}
use Rattle.message.specs.Bytes.{heading_of}
use Rattle.message.specs.Answers.{read_of}
use Rattle.entry.specs.declared.Found.{Found}
use Rattle.entry.specs.Answers as entry
use Rattle.entry.specs.Bytes.{bytes_of_entries}
use Rattle.register.specs.declared.Register.{Register}
use Rattle.register.specs.Register.{nowhere, account_at, with_account, rule_message, sent_by, asked_by}
use Rattle.register.specs.Call.{refusal_of, called_by}
use Rattle.register.specs.Refusals.{transaction_in, account_in, length_by, standing_at, progress_in, held_in, is_in_progress, is_held, is_committed, undecided_in, answered_as}
use Rattle.register.specs.Sequence.{Input, Exchange, ByteStrings, rule_entry, entries_from, entries_in, answer_in, written_in, OnlyEntries, EachOnlyEntries}
use Rattle.register.specs.Run.{length_at, numbers_of}
use Rattle.register.specs.First.{fresh_register}

module _ (R : rule.Rule State Event ℕ) where
  -- a call: the reader's refusal, whatever register and buffer are; 4 with fewer than 323 bytes, whatever the register is; 5; and then the rule's answer, whose number it tells
  pub record CallPlain (r : Register) (bytes buffer : List ℕ) : Type 0 where
    pub unread : (refusal : Refusal) → read_of bytes ≡ Err refusal → called_by R r bytes buffer ≡ record { reply = Err refusal; register = r; buffer = buffer }
    pub roomless : (m : Message) (consumed : ℕ) → read_of bytes ≡ Ok (m, consumed) → length buffer < 323
        → called_by R r bytes buffer ≡ record { reply = Err (numbered 4); register = r; buffer = buffer }
    pub out_of_order : (m : Message) (consumed : ℕ) → read_of bytes ≡ Ok (m, consumed) → 323 ≤ length buffer
        → in_order_by R (get_or r.accounts (heading_of m).account nowhere) ≡ false
        → called_by R r bytes buffer ≡ record { reply = Err (numbered 5); register = r; buffer = buffer }
    pub refused : (m : Message) (consumed n : ℕ) → read_of bytes ≡ Ok (m, consumed) → 323 ≤ length buffer
        → in_order_by R (get_or r.accounts (heading_of m).account nowhere) ≡ true
        → (Rule-Call.call R (lists_of (get_or r.accounts (heading_of m).account nowhere)) (rule_message m)).answer ≡ Rule-Call.refused n
        → (called_by R r bytes buffer ≡ record { reply = Err (numbered n); register = r; buffer = buffer }) × (refusal_of (called_by R r bytes buffer).reply ≡ some n)
    pub taken : (m : Message) (consumed : ℕ) (xs : List RuleEntry) → read_of bytes ≡ Ok (m, consumed) → 323 ≤ length buffer
        → let i = (heading_of m).account in
        let called = Rule-Call.call R (lists_of (get_or r.accounts i nowhere)) (rule_message m) in
        let entries = bytes_of_entries i (map entry_of xs) in
        in_order_by R (get_or r.accounts i nowhere) ≡ true → called.answer ≡ Rule-Call.taken xs
        → called_by R r bytes buffer
        ≡ record {
          reply = Ok (record { consumed = consumed; written = length entries });
          register = record { accounts = set r.accounts i (account_of called.account) };
          buffer = entries ++ drop (length entries) buffer;
        }

  -- a message sent: 3, 5, and then the rule's answer, whose number it tells
  pub record SendPlain (r : Register) (m : Message) : Type 0 where
    pub elsewhere : 15 < (heading_of m).account → sent_by R r m ≡ record { register = r; answer = Err (numbered 3) }
    pub out_of_order : (heading_of m).account ≤ 15 → in_order_by R (get_or r.accounts (heading_of m).account nowhere) ≡ false
        → sent_by R r m ≡ record { register = r; answer = Err (numbered 5) }
    pub refused : (n : ℕ) → (heading_of m).account ≤ 15 → in_order_by R (get_or r.accounts (heading_of m).account nowhere) ≡ true
        → (Rule-Call.call R (lists_of (get_or r.accounts (heading_of m).account nowhere)) (rule_message m)).answer ≡ Rule-Call.refused n
        → (sent_by R r m ≡ record { register = r; answer = Err (numbered n) }) × (refusal_in (sent_by R r m).answer ≡ some n)
    pub taken : (xs : List RuleEntry) → (heading_of m).account ≤ 15 → in_order_by R (get_or r.accounts (heading_of m).account nowhere) ≡ true
        → let called = Rule-Call.call R (lists_of (get_or r.accounts (heading_of m).account nowhere)) (rule_message m) in
        called.answer ≡ Rule-Call.taken xs
        → sent_by R r m
        ≡ record {
          register = record { accounts = set r.accounts (heading_of m).account (account_of called.account) };
          answer = Ok (entries_of xs);
        }

  -- the outcome question: 3, or what the account of that number answers
  pub record AskedPlain (r : Register) (i n : ℕ) : Type 0 where
    pub elsewhere : 15 < i → asked_by R r i n ≡ Err (numbered 3)
    pub asked : i ≤ 15 → asked_by R r i n ≡ outlook_by R (get_or r.accounts i nowhere) n

-- the account of a number is the one behind that many others, and another takes its place alone
pub record AccountsPlain (before behind : List Account) (a b : Account) : Type 0 where
  pub at : account_at (record { accounts = before ++ (a ∷ behind) }) (length before) ≡ a
  pub standing : standing_at (record { accounts = before ++ (a ∷ behind) }) (length before) ≡ a
  pub other : with_account (record { accounts = before ++ (a ∷ behind) }) (length before) b ≡ record { accounts = before ++ (b ∷ behind) }
  pub fresh :
      let blank : Slot = record { transaction = 0; filed = record { second = 0 }; event = Open 0; decision = Undecided } in
      fresh_register
      ≡ record {
        accounts =
            replicate 16
            (record { state = record { life = New; balance = 0 }; progress = replicate 8 blank; progressing = 0; held = replicate 8 blank; holding = 0 });
      }

-- transaction and account in a message's bytes, and the length of the message that bytes begin with
pub record NumbersPlain (rest : List ℕ) (kind t₁ t₂ t₃ t₄ a₁ a₂ : ℕ) : Type 0 where
  pub transaction : transaction_in (kind ∷ t₁ ∷ t₂ ∷ t₃ ∷ t₄ ∷ rest) ≡ 16_777_216 * t₁ + 65_536 * t₂ + 256 * t₃ + t₄
  pub account : account_in (kind ∷ t₁ ∷ t₂ ∷ t₃ ∷ t₄ ∷ a₁ ∷ a₂ ∷ rest) ≡ 256 * a₁ + a₂
  pub by : map length_by (1 ∷ 2 ∷ 3 ∷ 4 ∷ 5 ∷ 6 ∷ []) ≡ 15 ∷ 15 ∷ 15 ∷ 11 ∷ 11 ∷ 11 ∷ []
  pub at : map (λ (k : ℕ). length_at (k ∷ rest)) (0 ∷ 1 ∷ 2 ∷ 3 ∷ 4 ∷ 5 ∷ 6 ∷ 7 ∷ []) ≡ 0 ∷ 15 ∷ 15 ∷ 15 ∷ 11 ∷ 11 ∷ 11 ∷ 0 ∷ []

-- the used places of an account, and which of them have a transaction, or are undecided
pub record UsedPlain (a : Account) (t : ℕ) : Type 0 where
  pub progress : progress_in a ≡ take a.progressing a.progress
  pub held : held_in a ≡ take a.holding a.held
  pub is_in_progress' : is_in_progress a t ≡ some_of (λ (x : Slot). eqb t x.transaction) (take a.progressing a.progress)
  pub is_held' : is_held a t ≡ some_of (λ (x : Slot). eqb t x.transaction) (take a.holding a.held)
  pub is_committed' : is_committed a t ≡ some_of (λ (x : Slot). eqb t x.transaction && not (is_undecided x.decision)) (take a.progressing a.progress)
  pub undecided : undecided_in a ≡ length (keep (λ (x : Slot). is_undecided x.decision) (take a.progressing a.progress))

-- what the question is said to tell, and what is exported of a run
pub record ToldPlain (s : State) (n m k j : ℕ) : Type 0 where
  pub refused : answered_as (some n) s m ≡ record { refusal = some n; state = none; applied = 0 }
  pub answered : answered_as none s m ≡ record { refusal = none; state = some s; applied = m }
  pub exported : numbers_of (record { met = n; refused = m; consumed = k; written = j }) ≡ n ∷ m ∷ k ∷ j ∷ []

-- a vote's reason is not 0, which stands for none
abbrev pub Reasoned : RuleEntry → Type 0
Reasoned (rule.voted t g e w) = w.reason ≡ some 0 → ⊥
Reasoned (rule.noted t g) = Unit {0}
Reasoned (rule.applied t g e b) = Unit {0}
Reasoned (rule.dropped t g e) = Unit {0}

-- an entry as the rule has it, by its kind; and nothing is lost
pub record EntryPlain (t n k : ℕ) (g : Filed) (e : Event) : Type 0 where
  pub accepted : rule_entry (record { transaction = t; filed = g; told = Voted e (record { verdict = Accepted; weighed = n; reason = 0 }) }) ≡ rule.voted t g e (record { verdict = rule.accept; weighed = n; reason = none })
  pub rejected : (k ≡ 0 → ⊥) → rule_entry (record { transaction = t; filed = g; told = Voted e (record { verdict = Rejected; weighed = n; reason = k }) }) ≡ rule.voted t g e (record { verdict = rule.reject; weighed = n; reason = some k })
  pub held : rule_entry (record { transaction = t; filed = g; told = Voted e (record { verdict = Held; weighed = n; reason = 0 }) }) ≡ rule.voted t g e (record { verdict = rule.hold; weighed = n; reason = none })
  pub noted : rule_entry (record { transaction = t; filed = g; told = Noted }) ≡ rule.noted t g
  pub applied : rule_entry (record { transaction = t; filed = g; told = Applied e n }) ≡ rule.applied t g e n
  pub dropped : rule_entry (record { transaction = t; filed = g; told = Dropped e }) ≡ rule.dropped t g e
  pub back : (x : RuleEntry) → Reasoned x → rule_entry (entry_of x) ≡ x

-- the entries that bytes hold: the one that is read, and those behind it; and what is seen of a reply
pub record EntriesPlain (most : ℕ) (bytes : List ℕ) (x : Exchange) : Type 0 where
  pub none' : entries_in [] ≡ []
  pub whole : entries_in bytes ≡ entries_from (length bytes) bytes
  pub found : (read : Found) (whole : ℕ) → entry.read_of bytes ≡ Some (read, whole) → entries_from (suc most) bytes ≡ rule_entry read.entry ∷ entries_from most (drop whole bytes)
  pub ended : entry.read_of bytes ≡ None → entries_from (suc most) bytes ≡ []
  pub refused : (refusal : Refusal) → answer_in (Err refusal) bytes ≡ Rule-Call.refused (number_of refusal)
  pub taken : (consumed written : ℕ) → answer_in (Ok (record { consumed = consumed; written = written })) bytes ≡ Rule-Call.taken (entries_in (take written bytes))
  pub written_of_taken : (consumed written : ℕ) → x.reply ≡ Ok (record { consumed = consumed; written = written }) → written_in x ≡ take written x.buffer
  pub written_of_refused : (refusal : Refusal) → x.reply ≡ Err refusal → written_in x ≡ []

-- byte strings and the entries of exchanges, one after the other; and of each exchange that is taken every byte that was written is an entry's
pub record StringsPlain (x : Input) (xs : List Input) (y : Exchange) (ys : List Exchange) : Type 0 where
  pub strings : ByteStrings (x ∷ xs) ↔ (((i : ℕ) → get_or x.message i 0 < 256) × ByteStrings xs)
  pub no_strings : ByteStrings []
  pub each : EachOnlyEntries (y ∷ ys) ↔ (OnlyEntries y × EachOnlyEntries ys)
  pub only : (consumed written : ℕ) → y.reply ≡ Ok (record { consumed = consumed; written = written })
      → OnlyEntries y → take written y.buffer ≡ bytes_of_entries (account_in y.message) (map entry_of (entries_in (take written y.buffer)))

pub record PlainHolds : Type 0 where
  pub byte_strings : (x : Input) (xs : List Input) (y : Exchange) (ys : List Exchange) → StringsPlain x xs y ys
  pub call : (R : rule.Rule State Event ℕ) (r : Register) (bytes buffer : List ℕ) → CallPlain R r bytes buffer
  pub send : (R : rule.Rule State Event ℕ) (r : Register) (m : Message) → SendPlain R r m
  pub asked : (R : rule.Rule State Event ℕ) (r : Register) (i n : ℕ) → AskedPlain R r i n
  pub accounts : (before behind : List Account) (a b : Account) → AccountsPlain before behind a b
  pub numbers : (rest : List ℕ) (kind t₁ t₂ t₃ t₄ a₁ a₂ : ℕ) → NumbersPlain rest kind t₁ t₂ t₃ t₄ a₁ a₂
  pub used : (a : Account) (t : ℕ) → UsedPlain a t
  pub told : (s : State) (n m k j : ℕ) → ToldPlain s n m k j
  pub entry' : (t n k : ℕ) (g : Filed) (e : Event) → EntryPlain t n k g e
  pub entries : (most : ℕ) (bytes : List ℕ) (x : Exchange) → EntriesPlain most bytes x
