-- When sending a message, a call and the outcome question are refused (docs/REGISTER.md, 10.1): each as ONE list of tests, on the message's own numbers or bytes,
-- the buffer's length and the places of the account that is named; and what the outcome question tells where no test holds.
-- Assumes nothing.
use Rattle.std.specs.Prelude.{ℕ, ◌+◌, ◌*◌, ◌^◌, ◌≡◌, Bool, cond, ◌&&◌, ◌||◌, not, List, [], ◌∷◌, map, eqb, leb, ltb, length, get_or, take}
use Rattle.std.proofs.Math.Option.{Option, none, some}
use Rattle.std.specs.Int.Count.{ones}
use Rattle.rule.specs.Lists.{some_of, keep}
use Rattle.rule.specs.Rule.{Rule}
use Rattle.rule.specs.Tests.{Test, test, first_of}
use Rattle.rule.specs.Outcome.{bit}
use Rattle.rule.specs.Exact.{chosen_state}
use Rattle.events.specs.declared.Event.{Event}
use Rattle.events.specs.declared.State.{State}
use Rattle.filing.specs.declared.Slot.{Slot}
use Rattle.filing.specs.Slots.{is_undecided, slot_of}
use Rattle.account.specs.declared.Account.{Account}
use Rattle.account.specs.InOrder.{in_order_by}
use Rattle.account.specs.Steps.{refusal_in, Shown, shown_by}
use Rattle.message.specs.declared.Message.{Message}
use Rattle.message.specs.Bytes.{kind_of, heading_of}
use Rattle.register.specs.declared.Register.{Register}
use Rattle.register.specs.Register.{nowhere, sent_by, asked_by}
use Rattle.register.specs.Call.{refusal_of, called_by}

-- a message's numbers by its bytes, highest byte first: transaction, account
abbrev pub transaction_in : (bytes : List ℕ) → ℕ
transaction_in bytes = ((get_or bytes 1 0 * 256 + get_or bytes 2 0) * 256 + get_or bytes 3 0) * 256 + get_or bytes 4 0

abbrev pub account_in : (bytes : List ℕ) → ℕ
account_in bytes = get_or bytes 5 0 * 256 + get_or bytes 6 0

-- the whole length of a kind 1 to 6
abbrev pub length_by : (kind : ℕ) → ℕ
length_by kind = cond (leb kind 3) 15 11

-- the account of a number, as it stands among the register's accounts
abbrev pub standing_at : Register → ℕ → Account
standing_at r i = get_or r.accounts i nowhere

-- the used places of an account,
abbrev pub progress_in : Account → List Slot
progress_in a = take a.progressing a.progress

abbrev pub held_in : Account → List Slot
held_in a = take a.holding a.held

-- and whether a transaction is among them: in progress, held, committed
abbrev pub is_in_progress : Account → (transaction : ℕ) → Bool
is_in_progress a t = some_of (λ (x : Slot). eqb t x.transaction) (progress_in a)

abbrev pub is_held : Account → (transaction : ℕ) → Bool
is_held a t = some_of (λ (x : Slot). eqb t x.transaction) (held_in a)

abbrev pub is_committed : Account → (transaction : ℕ) → Bool
is_committed a t = some_of (λ (x : Slot). eqb t x.transaction && not (is_undecided x.decision)) (progress_in a)

-- u: how many events in progress are undecided
abbrev pub undecided_in : Account → ℕ
undecided_in a = length (keep (λ (x : Slot). is_undecided x.decision) (progress_in a))

-- what the outcome question tells: the number of a refusal alone; else the state and how many undecided events are applied
abbrev pub answered_as : (refusal : Option ℕ) → State → (applied : ℕ) → Shown
answered_as (some number) s n = record { refusal = some number; state = none; applied = 0 }
answered_as none s n = record { refusal = none; state = some s; applied = n }

module _ (R : Rule State Event ℕ) where
  -- the account that is named: kinds 1 to 4 are requests, 5 is commit, 6 is abort
  abbrev pub account_tests : (kind : ℕ) → Account → (transaction : ℕ) → List Test
  account_tests kind a t =
      test (not (in_order_by R a)) 5 ∷
      test (leb kind 4 && (is_in_progress a t || is_held a t)) 6 ∷
      test (leb kind 4 && leb R.held_limit (length (held_in a))) 7 ∷
      test (leb 5 kind && not (is_in_progress a t || is_held a t)) 8 ∷
      test (eqb kind 5 && is_held a t) 9 ∷
      test (eqb kind 5 && is_committed a t) 10 ∷
      test (eqb kind 6 && is_committed a t) 11 ∷
      []

  -- a message as a value
  abbrev pub send_tests : Register → Message → List Test
  send_tests r m =
      let i = (heading_of m).account in
      test (ltb 15 i) 3 ∷ account_tests (kind_of m) (standing_at r i) (heading_of m).transaction

  -- the call
  abbrev pub call_tests : Register → (bytes buffer : List ℕ) → List Test
  call_tests r bytes buffer =
      let kind = get_or bytes 0 0 in
      test (eqb (length bytes) 0) 1 ∷
      test (not (leb 1 kind && leb kind 6)) 2 ∷
      test (ltb (length bytes) (length_by kind)) 1 ∷
      test (ltb 15 (account_in bytes)) 3 ∷
      test (ltb (length buffer) 323) 4 ∷
      account_tests kind (standing_at r (account_in bytes)) (transaction_in bytes)

  -- each is refused with the number of the first test that holds, and not at all if none does
  abbrev pub SendRefuses : Type 0
  SendRefuses = (r : Register) (m : Message) → refusal_in (sent_by R r m).answer ≡ first_of (send_tests r m)

  abbrev pub CallRefuses : Type 0
  CallRefuses = (r : Register) (bytes buffer : List ℕ) → refusal_of (called_by R r bytes buffer).reply ≡ first_of (call_tests r bytes buffer)

  -- the outcome question
  abbrev pub outlook_tests : Register → (account number : ℕ) → List Test
  outlook_tests r i n =
      let a = standing_at r i in
      test (ltb 15 i) 3 ∷
      test (not (in_order_by R a)) 5 ∷
      test (leb (2 ^ undecided_in a) n) 12 ∷
      []

  -- the state by the bits of the outcome's number, the oldest undecided event by the lowest; and as many are applied as the number has ones
  abbrev pub OutlookTells : Type 0
  OutlookTells =
      (r : Register) (i n : ℕ)
      → shown_by (asked_by R r i n)
      ≡ answered_as (first_of (outlook_tests r i n)) (chosen_state R (map slot_of (progress_in (standing_at r i))) (bit n) (standing_at r i).state) (ones n)
