-- How long the entries of one call are: its own, those of the events applied, the votes on held requests (docs/REGISTER.md, 9.4 and 9.5). Said of
-- every rule that has no more places than an account, and of what its calls write.
-- Assumes nothing.
use Rattle.std.specs.Prelude.{ℕ, ◌+◌, ◌*◌, ◌≤◌, ◌≡◌, Bool, true, false, List, [], ◌∷◌, ◌++◌, map, ltb, length}
use Rattle.rule.specs.Lists.{every, keep, numbers}
use Rattle.rule.specs.Rule as rule
use Rattle.rule.specs.Tests.{test, first_of}
use Rattle.rule.specs.Call as call
use Rattle.rule.specs.InOrder.{is_in_order}
use Rattle.rule.specs.Written.{Writes}
use Rattle.events.specs.declared.Event.{Event}
use Rattle.events.specs.declared.Event.TheVariants.{Open, Withdraw, Deposit}
use Rattle.events.specs.declared.Life.TheVariants.{Opened}
use Rattle.events.specs.declared.State.{State}
use Rattle.filing.specs.declared.Filed.{Filed}
use Rattle.filing.specs.declared.Verdict.{Verdict}
use Rattle.filing.specs.declared.Verdict.TheVariants.{Accepted, Rejected, Held}
use Rattle.filing.specs.declared.Told.{Told}
use Rattle.filing.specs.declared.Told.TheVariants.{Voted, Noted, Applied, Dropped}
use Rattle.filing.specs.declared.Entry.{Entry}
use Rattle.filing.specs.Slots.{RuleSlot, places, blank_filed}
use Rattle.filing.specs.Entries.{RuleEntry, entries_of}
use Rattle.layout.specs.Writes.{said_of_writing}
use Rattle.entry.specs.Bytes.{bytes_of_entries, wholes_of, list_of}
use Rattle.entry.specs.Answers.{write_of}

abbrev pub is_rejected : Verdict → Bool
is_rejected Accepted = false
is_rejected Rejected = true
is_rejected Held = false

abbrev pub is_applied : Told → Bool
is_applied (Voted e weighing) = false
is_applied Noted = false
is_applied (Applied e balance) = true
is_applied (Dropped e) = false

abbrev pub is_vote : Told → Bool
is_vote (Voted e weighing) = true
is_vote Noted = false
is_vote (Applied e balance) = false
is_vote (Dropped e) = false

abbrev pub is_rejection : Told → Bool
is_rejection (Voted e weighing) = is_rejected weighing.verdict
is_rejection Noted = false
is_rejection (Applied e balance) = false
is_rejection (Dropped e) = false

-- how many of these are rejections
abbrev pub rejections : List Entry → ℕ
rejections es = length (keep (λ (x : Entry). is_rejection x.told) es)

-- the length of a commit's entries and of an abort's, with these applied and these votes after its own entry: a vote has 18 bytes, and a rejection one more
pub record Sized (applied votes : List Entry) : Type 0 where
  pub commit : (t : ℕ) (g : Filed)
      → wholes_of (record { transaction = t; filed = g; told = Noted } ∷ (applied ++ votes)) ≡ 11 + (20 * length applied + (18 * length votes + rejections votes))
  pub abort : (t : ℕ) (g : Filed) (e : Event)
      → wholes_of (record { transaction = t; filed = g; told = Dropped e } ∷ (applied ++ votes)) ≡ 16 + (20 * length applied + (18 * length votes + rejections votes))

abbrev pub CallsSized : Type 0
CallsSized =
    (applied votes : List Entry) → every (λ (x : Entry). is_applied x.told) applied ≡ true → every (λ (x : Entry). is_vote x.told) votes ≡ true
    → Sized applied votes

-- these are no more than 17 entries and 323 bytes
pub record CallFits (xs : List RuleEntry) : Type 0 where
  pub count : (entries_of xs).count ≤ 17
  pub bytes : (account : ℕ) → length (bytes_of_entries account (list_of (entries_of xs))) ≤ 323

-- no call writes more
pub record CallsFit : Type 0 where
  -- nothing, as a refused one writes
  pub nothing : CallFits []
  -- the entries of a message that is taken, where no more events are in progress and no more requests held than there are places
  pub taken : (progressing holding : ℕ) (m : rule.Message Filed Event) (xs : List RuleEntry) → progressing ≤ places → holding ≤ places
      → Writes progressing holding m xs → CallFits xs
  -- those of any call on an account in order, by any rule that allows no more than there are places
  pub called : (R : rule.Rule State Event ℕ) (a : rule.Account Filed State Event) (m : rule.Message Filed Event)
      → R.progress_limit ≤ places → R.held_limit ≤ places → is_in_order R a ≡ true → CallFits (call.written (call.call R a m).answer)

-- so a call's entries are refused exactly if the buffer has less than 323 bytes
abbrev pub CallsRefused : Type 0
CallsRefused =
    (xs : List RuleEntry) → CallFits xs → (account : ℕ) (buffer : List ℕ)
    → (said_of_writing (write_of (list_of (entries_of xs)) account buffer).answer).refusal ≡ first_of (test (ltb (length buffer) 323) 4 ∷ [])

-- a deposit of 1 in a place; a withdrawal that is held, of more than there will be
abbrev pub deposit : (transaction : ℕ) → rule.Decision → RuleSlot
deposit t d = rule.slot t blank_filed (Deposit 1) d

abbrev pub withdrawal : (transaction : ℕ) → RuleSlot
withdrawal t = rule.slot t blank_filed (Withdraw 109) rule.undecided

-- an account with eight deposits in progress, of which only the oldest is undecided, and eight withdrawals held, each of one step more than there is once the deposits are applied
abbrev pub full_account : rule.Account Filed State Event
full_account =
    record {
      state = record { life = Opened; balance = 100 };
      progress =
          deposit 1 rule.undecided ∷ deposit 2 rule.committed ∷ deposit 3 rule.committed ∷ deposit 4 rule.committed ∷
          deposit 5 rule.committed ∷ deposit 6 rule.committed ∷ deposit 7 rule.committed ∷ deposit 8 rule.committed ∷ [];
      held =
          withdrawal 9 ∷ withdrawal 10 ∷ withdrawal 11 ∷ withdrawal 12 ∷ withdrawal 13 ∷ withdrawal 14 ∷ withdrawal 15 ∷ withdrawal 16 ∷ [];
    }

-- the messages that lead there from a new account: an open of 100 and its commit, the deposits, the commits of all but the oldest, the withdrawals
abbrev pub filling : List (rule.Message Filed Event)
filling =
    rule.request 17 blank_filed (Open 100) ∷ rule.commit 17 blank_filed ∷
    (map (λ (t : ℕ). rule.request t blank_filed (Deposit 1)) (numbers 1 8)
    ++ (map (λ (t : ℕ). rule.commit t blank_filed) (numbers 2 7) ++ map (λ (t : ℕ). rule.request t blank_filed (Withdraw 109)) (numbers 9 8)))

-- by this rule it is in order, these messages lead there, and the commit of its oldest event writes as much as any call can
pub record LongestBy (R : rule.Rule State Event ℕ) : Type 0 where
  pub ordered : is_in_order R full_account ≡ true
  pub reached : call.reached R (rule.new_account R Filed) filling ≡ full_account
  pub bytes : (account : ℕ)
      → length (bytes_of_entries account (list_of (entries_of (call.written (call.call R full_account (rule.commit 1 blank_filed)).answer)))) ≡ 323
