-- Each refusal is the first test that holds: of a message as a value by its kind and the rule's refusal; of a call by cases on the reader's tests and on the buffer. What the rule
-- asks of its lists is asked of the used places by a law each.
-- Assumes nothing.
use Prim.Native.Nat.{ℕ, suc, ◌≤◌, ◌^◌}
use mathlib.Core.Path.{◌≡◌, refl, ◌∙◌, ap, ap₂}
use mathlib.Core.Bool.{Bool, true, false, cond, ◌&&◌, ◌||◌, not}
use mathlib.Core.List.{List, [], ◌∷◌, map}
use mathlib.Core.Option.{none, some}
use lib.Count.{ones}
use lib.Dec.{eqb, leb, ltb}
use lib.ListN.{length, length-map}
use borrow.Author.Tests.{leb-true, leb-false, lt-ltb, le-ltb, ltb-false}
use Rattle.account.proofs.Refused.{step-answer}
use Rattle.filing.specs.declared.Entries.{Entries}
use Rattle.refusal.specs.declared.Refusal.{Refusal}
use Rattle.std.specs.Prelude.{Ok, Err, Result}
use Rattle.refusal.specs.declared.Refusal.TheVariants.{NoSuchOutcome, NotInOrder, Torn, UnknownAccount, UnknownKind, NoRoom}
use Rattle.rule.specs.Lists.{some_of, keep}
use Rattle.rule.specs.Rule as rule
use Rattle.rule.specs.Tests.{Test, test, first_of}
use Rattle.rule.specs.Outcome.{undecided_of, applied_in, bit}
use Rattle.rule.specs.Exact.{chosen_state}
use Rattle.rule.specs.Step as rule-step
use Rattle.rule.specs.Call as Rule-Call
use Rattle.rule.proofs.Lists.{some-map}
use Rattle.rule.proofs.Exact.{numbered}
use Rattle.events.specs.declared.Event.{Event}
use Rattle.events.specs.declared.Event.TheVariants.{Open, Withdraw, Deposit, Close}
use Rattle.events.specs.declared.State.{State}
use Rattle.filing.specs.declared.Filed.{Filed}
use Rattle.filing.specs.declared.Decision.{Decision}
use Rattle.filing.specs.declared.Decision.TheVariants.{Undecided, Committed}
use Rattle.filing.specs.declared.Slot.{Slot}
use Rattle.filing.specs.Slots.{is_undecided, decision_of, slot_of}
use Rattle.account.specs.declared.Account.{Account}
use Rattle.account.specs.Places.{lists_of}
use Rattle.account.specs.InOrder.{in_order_by}
use Rattle.account.specs.Steps.{refusal_in, step_by, shown_by, outlook_by}
use Rattle.message.specs.declared.Message.{Message}
use Rattle.message.specs.declared.Message.TheVariants.{Request, Commit, Abort}
use Rattle.message.specs.Bytes.{kind_of, heading_of}
use Rattle.message.proofs.Reader.{heading_at}
use Rattle.layout.specs.Fields.{last_account}
use Rattle.layout.specs.Number.{number_at}
use Rattle.register.specs.declared.Register.{Register}
use Rattle.register.specs.Register.{account_at, rule_message, not_sent, sent_in, sent_by, asked_by, Sent}
use Rattle.register.specs.Call.{refusal_of, refused_with, wrote_of, after_message, after_reading, called_by}
use Rattle.register.specs.Refusals.{transaction_in, account_in, length_by, progress_in, held_in, is_in_progress, is_held, is_committed, undecided_in, answered_as, account_tests, SendRefuses, CallRefuses, OutlookTells}
use Rattle.register.proofs.ReadAs.{transaction-at, kind_in, message_in, named-account, reading, heading-by, kind-by}

-- The rule's tests on its lists are tests on the used places.
module _ (t : ℕ) where
  named-used : (xs : List Slot) → some_of (rule-step.named t) (map slot_of xs) ≡ some_of (λ (x : Slot). eqb t x.transaction) xs
  named-used xs = some-map (rule-step.named t) slot_of xs

  and-true : (b : Bool) → b ≡ b && true
  and-true true = refl
  and-true false = refl

  and-false : (b : Bool) → false ≡ b && false
  and-false true = refl
  and-false false = refl

  committed-place : (x : Slot) → Rule-Call.named_committed t (slot_of x) ≡ eqb t x.transaction && not (is_undecided x.decision)
  committed-place x = go x.decision
    where
      go : (d : Decision)
          → Rule-Call.named_committed t (rule.slot x.transaction x.filed x.event (decision_of d)) ≡ eqb t x.transaction && not (is_undecided d)
      go Undecided = and-false (eqb t x.transaction)
      go Committed = and-true (eqb t x.transaction)

  committed-used : (xs : List Slot)
      → some_of (Rule-Call.named_committed t) (map slot_of xs) ≡ some_of (λ (x : Slot). eqb t x.transaction && not (is_undecided x.decision)) xs
  committed-used [] = refl
  committed-used (x ∷ xs) = ap₂ ◌||◌ (committed-place x) (committed-used xs)

-- The rule's refusal of each message, by its kind.
module _ (R : rule.Rule State Event ℕ) (a : Account) where
  -- what follows the test of the account's order
  abbrev rule_tests : (kind t : ℕ) → List Test
  rule_tests kind t =
      test (leb kind 4 && (is_in_progress a t || is_held a t)) 6 ∷
      test (leb kind 4 && leb R.held_limit (length (held_in a))) 7 ∷
      test (leb 5 kind && not (is_in_progress a t || is_held a t)) 8 ∷
      test (eqb kind 5 && is_held a t) 9 ∷
      test (eqb kind 5 && is_committed a t) 10 ∷
      test (eqb kind 6 && is_committed a t) 11 ∷
      []

  request-refusal : (t : ℕ) (g : Filed) (e : Event) → Rule-Call.refusal R (lists_of a) (rule.request t g e)
      ≡ first_of (test (is_in_progress a t || is_held a t) 6 ∷ test (leb R.held_limit (length (held_in a))) 7 ∷ [])
  unfolding lists_of
  request-refusal t g e = rw (named-used t (progress_in a), named-used t (held_in a), length-map (held_in a) slot_of)

  rule-refusal : (m : Message) → Rule-Call.refusal R (lists_of a) (rule_message m) ≡ first_of (rule_tests (kind_of m) (heading_of m).transaction)
  unfolding lists_of
  rule-refusal (Request h (Open x)) = request-refusal h.transaction h.filed (Open x)
  rule-refusal (Request h (Withdraw x)) = request-refusal h.transaction h.filed (Withdraw x)
  rule-refusal (Request h (Deposit x)) = request-refusal h.transaction h.filed (Deposit x)
  rule-refusal (Request h Close) = request-refusal h.transaction h.filed Close
  rule-refusal (Commit h) = let t = h.transaction in rw (named-used t (progress_in a), named-used t (held_in a), committed-used t (progress_in a))
  rule-refusal (Abort h) = let t = h.transaction in rw (named-used t (progress_in a), named-used t (held_in a), committed-used t (progress_in a))

  account-refusal : (m : Message) → refusal_in (step_by R a (rule_message m)).answer ≡ first_of (account_tests R (kind_of m) a (heading_of m).transaction)
  account-refusal m = step-answer R a (rule_message m) ∙ ap (cond (not (in_order_by R a)) (some 5)) (rule-refusal m)

module _ (R : rule.Rule State Event ℕ) where
  -- a message as a value
  pub send-refuses : SendRefuses R
  unfolding sent_by
  send-refuses r m = go (ltb 15 (heading_of m).account) ∙ ap (cond (ltb 15 (heading_of m).account) (some 3)) (account-refusal R (account_at r (heading_of m).account) m)
    where
      sent-answer : (i : ℕ) (answer : Result Entries Refusal) (next : Account) → refusal_in (sent_in r i (record { account = next; answer = answer })).answer ≡ refusal_in answer
      sent-answer i (Err n) next = refl
      sent-answer i (Ok entries) next = refl

      go : (b : Bool) → refusal_in (cond b (not_sent r (UnknownAccount)) (sent_in r (heading_of m).account (step_by R (account_at r (heading_of m).account) (rule_message m)))).answer
          ≡ cond b (some 3) (refusal_in (step_by R (account_at r (heading_of m).account) (rule_message m)).answer)
      go true = refl
      go false =
          let i = (heading_of m).account in
          let s = step_by R (account_at r i) (rule_message m) in
          sent-answer i s.answer s.account

  -- what is written of what was sent has its refusal
  pub wrote-refusal : (r : Register) (buffer : List ℕ) (i consumed : ℕ) (sent : Sent) → refusal_of (wrote_of r buffer i consumed sent).reply ≡ refusal_in sent.answer
  wrote-refusal r buffer i consumed sent = go sent.answer
    where
      go : (answer : Result Entries Refusal) → refusal_of (wrote_of r buffer i consumed (record { register = sent.register; answer = answer })).reply ≡ refusal_in answer
      go (Err n) = refl
      go (Ok entries) = refl

  module _ (r : Register) (bytes buffer : List ℕ) where
    after-message : 1 ≤ kind_in bytes → kind_in bytes ≤ 6 → account_in bytes ≤ last_account
        → refusal_of (after_message R r buffer (message_in bytes) (length_by (kind_in bytes))).reply
        ≡ first_of (test (ltb (length buffer) 323) 4 ∷ account_tests R (kind_in bytes) (account_at r (account_in bytes)) (transaction_in bytes))
    unfolding after_message
    after-message low high known = go (ltb (length buffer) 323)
      where
        m : Message
        m = message_in bytes

        i : ℕ
        i = (heading_of m).account

        sent-refusal : refusal_in (sent_by R r m).answer ≡ first_of (account_tests R (kind_in bytes) (account_at r (account_in bytes)) (transaction_in bytes))
        sent-refusal =
            send-refuses r m
            ∙ rw (
              named-account bytes,
              le-ltb 15 (account_in bytes) known,
              kind-by (kind_in bytes) (heading_at bytes) (number_at bytes 11 4) low high,
              heading-by (kind_in bytes) (heading_at bytes) (number_at bytes 11 4),
              transaction-at bytes,
            )

        go : (b : Bool) → refusal_of (cond b (refused_with r buffer NoRoom) (wrote_of r buffer i (length_by (kind_in bytes)) (sent_by R r m))).reply
            ≡ cond b (some 4) (first_of (account_tests R (kind_in bytes) (account_at r (account_in bytes)) (transaction_in bytes)))
        go true = refl
        go false = wrote-refusal r buffer i (length_by (kind_in bytes)) (sent_by R r m) ∙ sent-refusal

  pub call-refuses : CallRefuses R
  unfolding called_by
  call-refuses r bytes buffer =
      rw (reading bytes)
      (go (eqb (length bytes) 0) (leb 1 kind) (leb kind 6) (ltb (length bytes) (length_by kind)) (ltb 15 (account_in bytes)) refl refl refl)
    where
      kind : ℕ
      kind = kind_in bytes

      rest : List Test
      rest = test (ltb (length buffer) 323) 4 ∷ account_tests R kind (account_at r (account_in bytes)) (transaction_in bytes)

      go : (a b b' c d : Bool) → leb 1 kind ≡ b → leb kind 6 ≡ b' → ltb 15 (account_in bytes) ≡ d
          → refusal_of
          (after_reading R r buffer
          (cond a (Err Torn)
          (cond (not (b && b')) (Err UnknownKind)
          (cond c (Err Torn) (cond d (Err UnknownAccount) (Ok (message_in bytes, length_by kind))))))
          ).reply
          ≡ first_of (test a 1 ∷ test (not (b && b')) 2 ∷ test c 1 ∷ test d 3 ∷ rest)
      go true b b' c d p q s = refl
      go false false b' c d p q s = refl
      go false true false c d p q s = refl
      go false true true true d p q s = refl
      go false true true false true p q s = refl
      go false true true false false p q s = after-message r bytes buffer (leb-true 1 kind p) (leb-true kind 6 q) (ltb-false 15 (account_in bytes) s)

-- The outcome question.
undecided-used : (xs : List Slot) → undecided_of (map slot_of xs) ≡ length (keep (λ (x : Slot). is_undecided x.decision) xs)
undecided-used [] = refl
undecided-used (x ∷ xs) = go x.decision (undecided-used xs)
  where
    go : (d : Decision) → undecided_of (map slot_of xs) ≡ length (keep (λ (y : Slot). is_undecided y.decision) xs)
        → undecided_of (rule.slot x.transaction x.filed x.event (decision_of d) ∷ map slot_of xs)
        ≡ length (cond (is_undecided d) (x ∷ keep (λ (y : Slot). is_undecided y.decision) xs) (keep (λ (y : Slot). is_undecided y.decision) xs))
    go Undecided h = ap suc h
    go Committed h = h

-- not below is at least
not-below : (n k : ℕ) → ltb n k ≡ not (leb k n)
not-below n k = go (leb k n) refl
  where
    go : (b : Bool) → leb k n ≡ b → ltb n k ≡ not b
    go true p = le-ltb n k (leb-true k n p)
    go false p = lt-ltb n k (leb-false k n p)

module _ (R : rule.Rule State Event ℕ) where
  pub outlook-tells : OutlookTells R
  unfolding asked_by outlook_by lists_of
  outlook-tells r i n = rw ((numbered R xs s).bits n, undecided-used (progress_in a), not-below n (2 ^ undecided_in a)) (go (ltb 15 i) (in_order_by R a) (leb (2 ^ undecided_in a) n) refl)
    where
      a : Account
      a = account_at r i

      xs : List (rule.Slot Filed Event)
      xs = map slot_of (progress_in a)

      s : State
      s = a.state

      go : (b c d : Bool) → leb (2 ^ undecided_in a) n ≡ d
          → shown_by (cond b (Err UnknownAccount) (cond c (cond (not d) (Ok (record { state = chosen_state R xs (bit n) s; applied = applied_in xs n })) (Err NoSuchOutcome)) (Err NotInOrder)))
          ≡ answered_as (first_of (test b 3 ∷ test (not c) 5 ∷ test d 12 ∷ [])) (chosen_state R xs (bit n) s) (ones n)
      go true c d p = refl
      go false false d p = refl
      go false true true p = refl
      go false true false p =
          ap (answered_as none (chosen_state R xs (bit n) s)) ((numbered R xs s).applied n (rw (undecided-used (progress_in a)) (leb-false (2 ^ undecided_in a) n p)))
