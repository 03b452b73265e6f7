-- The three demands (docs/REGISTER.md, 13), over byte strings, buffers and the answers of the public calls, from the register that `fresh` returns; and what is promised of a run,
-- which is what is exported. All of it of the first panel.
-- Assumes nothing.
use Rattle.std.specs.Prelude.{ℕ, ◌<◌, ◌≤◌, ◌≡◌, true, Ok, Err, List, ◌++◌, map, length, drop, set, replicate}
use Rattle.std.proofs.Math.Option.{Option, none, some}
use Rattle.refusal.specs.Numbers.{numbered}
use Rattle.rule.specs.Call.{Answer, refused, taken, call}
use Rattle.rule.specs.Call as Rule-Call
use Rattle.rule.specs.Rule.{Weighing}
use Rattle.rule.specs.Exact.{Numbered, Choices, Exact, Decided}
use Rattle.rule.specs.Vote.{VoteExactly}
use Rattle.events.specs.declared.Event.{Event}
use Rattle.events.specs.declared.Event.TheVariants.{Open}
use Rattle.events.specs.declared.Life.TheVariants.{New}
use Rattle.events.specs.declared.State.{State}
use Rattle.filing.specs.declared.Filed.{Filed}
use Rattle.filing.specs.declared.Decision.TheVariants.{Undecided}
use Rattle.filing.specs.declared.Slot.{Slot}
use Rattle.filing.specs.Slots.{RuleSlot}
use Rattle.filing.specs.Entries.{entry_of, entries_of}
use Rattle.account.specs.declared.Account.{Account}
use Rattle.account.specs.Places.{RuleAccount, lists_of, account_of}
use Rattle.account.specs.Steps.{refusal_in, shown_by}
use Rattle.account.specs.First.{panel, in_order_of, TableHolds, OutcomesOfTheTable}
use Rattle.message.specs.declared.Message.{Message}
use Rattle.message.specs.Bytes.{heading_of}
use Rattle.message.specs.Answers.{read_of}
use Rattle.message.specs.Inverse.{ReadsWritten, WritesRead}
use Rattle.message.specs.Refusals.{ReaderRefuses, WriterRefuses}
use Rattle.entry.specs.Bytes.{bytes_of_entries}
use Rattle.entry.specs.Longest.{LongestBy}
use Rattle.register.specs.declared.Register.{Register}
use Rattle.register.specs.Register.{Sent, rule_message}
use Rattle.register.specs.Call.{Called, refusal_of, consumed_of, written_of}
use Rattle.register.specs.First.{fresh_register, sent_of, outlook_in, call_of, after, exchanges}
use Rattle.register.specs.Sequence.{Input, Exchange, ByteStrings, EachOnlyEntries, OneMoreCall, Sight, SerialPast}
use Rattle.register.specs.Sends.{CallIsSend, SentReadsBack}
use Rattle.register.specs.Filed.{FiledNeverMatters}
use Rattle.register.specs.Seconds.{SecondsNeverMatter}
use Rattle.register.specs.Refusals.{account_in, standing_at, SendRefuses, CallRefuses, OutlookTells}
use Rattle.register.specs.Own.{EachOwnEntry, Brings}
use Rattle.register.specs.Unchanged.{SendLeaves, Refusal, Taking}
use Rattle.register.specs.Run.{EmptyRun, BoundNeverMatters, EachRunKept, BufferNeverShows}
use Rattle.register.specs.RunCalls.{RunIsItsCalls, RunDemand3}
use Rattle.register.specs.RunSeconds.{RunSecondsNeverMatter}

-- what a call gives, by what its reply says
pub record Gives (result : Called) (refusal : Option ℕ) (consumed written : ℕ) (register : Register) (buffer : List ℕ) : Type 0 where
  pub refusal' : refusal_of result.reply ≡ refusal
  pub consumed' : consumed_of result.reply ≡ consumed
  pub written' : written_of result.reply ≡ written
  pub register' : result.register ≡ register
  pub buffer' : result.buffer ≡ buffer

-- the rule's answer in bytes: a refusal changes nothing; else the account that follows stands in its place, and its entries at the beginning of the buffer
abbrev pub RuledBy : Register → (buffer : List ℕ) (account consumed : ℕ) → RuleAccount → Answer Filed Event ℕ → Called → Type 0
RuledBy r buffer i consumed next (refused n) result = Gives result (some n) 0 0 r buffer
RuledBy r buffer i consumed next (taken xs) result =
    let bytes = bytes_of_entries i (map entry_of xs) in
    Gives result none consumed (length bytes) (record { accounts = set r.accounts i (account_of next) }) (bytes ++ drop (length bytes) buffer)

abbrev pub Ruled : Register → (buffer : List ℕ) (account consumed : ℕ) → Rule-Call.Called Filed State Event ℕ → Called → Type 0
Ruled r buffer i consumed called result = RuledBy r buffer i consumed called.account called.answer result

-- and as values: a message that is refused changes nothing and brings no entry; else the account that follows stands in its place, and these are the entries
abbrev pub sent_as_ruled : Register → (account : ℕ) → RuleAccount → Answer Filed Event ℕ → Sent
sent_as_ruled r i next (refused n) = record { register = r; answer = Err (numbered n) }
sent_as_ruled r i next (taken xs) = record { register = record { accounts = set r.accounts i (account_of next) }; answer = Ok (entries_of xs) }

-- a new account, and its places
abbrev pub blank_places : List Slot
blank_places = replicate 8 (record { transaction = 0; filed = record { second = 0 }; event = Open 0; decision = Undecided })

abbrev pub fresh_account : Account
fresh_account = record { state = record { life = New; balance = 0 }; progress = blank_places; progressing = 0; held = blank_places; holding = 0 }

-- Demand 1 (13.1): every register, message and buffer.
pub record Demand1 : Type 0 where
  -- the register to begin with: sixteen new accounts, every place of each blank;
  pub fresh : fresh_register ≡ record { accounts = replicate 16 fresh_account }
  -- which messages and which calls are refused, and with which number, where 8 events may be in progress and 8 requests held;
  pub limits : (panel.progress_limit ≡ 8) × (panel.held_limit ≡ 8)
  pub sends : SendRefuses panel
  pub exactly : CallRefuses panel
  -- what a refusal leaves, and what a message that is taken does;
  pub leaves : (r : Register) (m : Message) → SendLeaves panel r m
  pub refused : (r : Register) (bytes buffer : List ℕ) (n : ℕ) → refusal_of (call_of r bytes buffer).reply ≡ some n → Refusal panel r bytes buffer n
  pub taken : (r : Register) (bytes buffer : List ℕ) → refusal_of (call_of r bytes buffer).reply ≡ none → Taking panel r bytes buffer
  -- no smaller buffer would do for every call: there is one that writes 323 bytes;
  pub longest : LongestBy panel
  -- what the outcome question answers;
  pub asked : OutlookTells panel
  -- and when the message reader and the message writer refuse by themselves
  pub read : ReaderRefuses
  pub written : WriterRefuses

-- Demand 2 (13.2). Each request is decided as the rule says: of a message that was read, with room for its entries, to an account in order, the account that follows and the answer
-- are those of the rule's call on the account's lists.
abbrev pub AsTheRule : Type 0
AsTheRule =
    (r : Register) (bytes buffer : List ℕ) (m : Message) (consumed : ℕ) → read_of bytes ≡ Ok (m, consumed) → 323 ≤ length buffer
    → in_order_of (standing_at r (account_in bytes)) ≡ true
    → Ruled r buffer (account_in bytes) consumed (call panel (lists_of (standing_at r (account_in bytes))) (rule_message m)) (call_of r bytes buffer)

-- and of a message as a value; a refusal has the rule's own number
abbrev pub SentAsTheRule : Type 0
SentAsTheRule =
    (r : Register) (m : Message) → (heading_of m).account ≤ 15 → in_order_of (standing_at r (heading_of m).account) ≡ true
    → let called = call panel (lists_of (standing_at r (heading_of m).account)) (rule_message m) in
    (sent_of r m ≡ sent_as_ruled r (heading_of m).account called.account called.answer)
    × ((n : ℕ) → called.answer ≡ refused n → refusal_in (sent_of r m).answer ≡ some n)

pub record Demand2 : Type 0 where
  pub decided : AsTheRule
  pub decided_sent : SentAsTheRule
  -- a call is read, send, write;
  pub sent : CallIsSend panel
  pub back : SentReadsBack panel
  -- the rule gets the message's own numbers, what is filed among them, and the call's own entry shows them
  pub brought : (t i : ℕ) (g : Filed) → Brings t i g
  pub own : EachOwnEntry panel
  -- each vote exactly if the guard, looked at in all outcomes by their numbers, says so (4.5);
  pub weighed : (e : Event) (progress : List RuleSlot) (s : State) → Exact panel e progress s
  -- what is held unweighed, the count of those that are weighed, and the reason of those that are rejected, which is outcome 0's (4.4, 4.5 and 4.7);
  pub counted : (e : Event) (s : State) (progress held : List RuleSlot) → Decided panel e s progress held
  -- and all of it in one: verdict, count and reason of a vote by the outcomes' numbers alone;
  pub voted : (ahead progress : List RuleSlot) (s : State) (e : Event) (w : Weighing) → VoteExactly panel ahead progress s e w
  -- what the numbers of outcomes say (4.2 and 4.3), and that each choice among the undecided events has one;
  pub numbers : (progress : List RuleSlot) (s : State) → Numbered panel progress s
  pub choices : (u : ℕ) → Choices u
  -- the table of guards, reasons and effects row by row, and that the outcomes of an account in order are the table's (3)
  pub table : TableHolds
  pub outcomes : OutcomesOfTheTable
  -- reading and writing of messages undo each other (8.3)
  pub written_read : ReadsWritten
  pub read_written : WritesRead
  -- what is filed is never looked at: on values, and so the seconds on bytes
  pub filed : FiledNeverMatters panel
  pub seconds : SecondsNeverMatter panel

-- Demand 3 (13.3): a fresh register after any sequence of calls, some of which may be refused.
pub record Demand3 : Type 0 where
  -- each of the sixteen accounts, by what it has seen;
  pub history :
      (inputs : List Input) → ByteStrings inputs → (i : ℕ) → i < 16 → SerialPast panel inputs i
  -- what is seen: each call on the register that the one before left, by the account that it names; and of what it wrote every byte
  pub calls : (r : Register) (x : Input) (xs : List Input) → OneMoreCall panel r x xs
  pub sight : (i : ℕ) (xs : List Exchange) (x : Exchange) → Sight i xs x
  pub whole : (inputs : List Input) → ByteStrings inputs → EachOnlyEntries (exchanges fresh_register inputs)
  -- every account is in order, so that 5 is given neither by a call nor by the outcome question
  pub in_order : (inputs : List Input) (i : ℕ) → i < 16 → in_order_of (standing_at (after fresh_register inputs) i) ≡ true
  pub never_five : (inputs : List Input) (bytes buffer : List ℕ) → refusal_of (call_of (after fresh_register inputs) bytes buffer).reply ≡ some 5 → ⊥
  pub never_asked_five : (inputs : List Input) (i n : ℕ) → (shown_by (outlook_in (after fresh_register inputs) i n)).refusal ≡ some 5 → ⊥

-- A run of messages (11.5), which is what is exported.
pub record RunHolds : Type 0 where
  -- it is its calls of a fresh register, of which demand 3 holds;
  pub calls : RunIsItsCalls panel
  pub demand3 : RunDemand3 panel
  -- no message, no bound on their number;
  pub empty : EmptyRun panel
  pub bound : BoundNeverMatters panel
  -- what it keeps to, and that neither what the buffer held before nor the seconds show
  pub kept : EachRunKept panel
  pub buffer : BufferNeverShows panel
  pub seconds : RunSecondsNeverMatter panel
