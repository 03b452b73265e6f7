-- Demand 2 on one call: of a message that was read, with room for its entries, to an account in order, each test of the call has one outcome, and what is left is the rule's call,
-- by cases on its answer.
-- Assumes nothing.
use Prim.Native.Nat.{ℕ, ◌≤◌}
use mathlib.Core.Path.{◌≡◌, refl, ap}
use mathlib.Core.Bool.{true}
use mathlib.Core.List.{List}
use borrow.Author.Tests.{le-ltb}
use lib.ListN.{length}
use mathlib.Core.Option.{some}
use Rattle.register.proofs.Sending.{answer-number}
use Rattle.refusal.specs.Numbers.{number_of, numbered}
use Rattle.std.specs.Prelude.{Ok}
use Rattle.rule.specs.Rule.{Rule}
use Rattle.rule.specs.Call as Rule-Call
use Rattle.events.specs.declared.Event.{Event}
use Rattle.events.specs.declared.State.{State}
use Rattle.filing.specs.declared.Filed.{Filed}
use Rattle.account.specs.declared.Account.{Account}
use Rattle.account.specs.Places.{RuleAccount, lists_of}
use Rattle.account.specs.InOrder.{in_order_by}
use Rattle.account.specs.Steps.{refusal_in, stepped_by, step_by}
use Rattle.entry.proofs.CallFits.{listed}
use Rattle.message.specs.declared.Message.{Message}
use Rattle.message.specs.Bytes.{heading_of}
use Rattle.message.specs.Answers.{read_of}
use Rattle.register.specs.declared.Register.{Register}
use Rattle.register.specs.Register.{account_at, rule_message, sent_in, sent_by}
use Rattle.register.specs.Call.{wrote_of, after_message, called_by}
use Rattle.register.specs.Refusals.{account_in}
use Rattle.register.specs.Demands.{RuledBy, Ruled, sent_as_ruled}
use Rattle.register.proofs.ReadAs.{read_as, account-read}

-- the rule's answer, in places and from them in bytes
answer-ruled : (r : Register) (buffer : List ℕ) (i consumed : ℕ) (a : Account) (next : RuleAccount) (answer : Rule-Call.Answer Filed Event ℕ)
    → ((n : ℕ) → answer ≡ Rule-Call.refused n → number_of (numbered n) ≡ n)
    → RuledBy r buffer i consumed next answer (wrote_of r buffer i consumed (sent_in r i (stepped_by a next answer)))
answer-ruled r buffer i consumed a next (Rule-Call.refused n) own = record { refusal' = ap some (own n refl); consumed' = refl; written' = refl; register' = refl; buffer' = refl }
answer-ruled r buffer i consumed a next (Rule-Call.taken xs) own =
    rw (listed xs) (record { refusal' = refl; consumed' = refl; written' = refl; register' = refl; buffer' = refl })

module _ (R : Rule State Event ℕ) where
  pub as-the-rule : (r : Register) (bytes buffer : List ℕ) (m : Message) (consumed : ℕ) → read_of bytes ≡ Ok (m, consumed) → 323 ≤ length buffer
      → in_order_by R (account_at r (account_in bytes)) ≡ true
      → Ruled r buffer (account_in bytes) consumed (Rule-Call.call R (lists_of (account_at r (account_in bytes))) (rule_message m)) (called_by R r bytes buffer)
  unfolding called_by after_message sent_by step_by
  as-the-rule r bytes buffer m consumed read room order =
      let i = account_in bytes in
      let called = Rule-Call.call R (lists_of (account_at r i)) (rule_message m) in
      rw (read, account-read bytes m consumed read, le-ltb (length buffer) 323 room, le-ltb 15 i (read_as bytes m consumed read).account, order)
      (answer-ruled r buffer i consumed (account_at r i) called.account called.answer (answer-number R (lists_of (account_at r i)) (rule_message m)))

  pub sent-as-the-rule : (r : Register) (m : Message) → (heading_of m).account ≤ 15 → in_order_by R (account_at r (heading_of m).account) ≡ true
      → let called = Rule-Call.call R (lists_of (account_at r (heading_of m).account)) (rule_message m) in
      (sent_by R r m ≡ sent_as_ruled r (heading_of m).account called.account called.answer)
      × ((n : ℕ) → called.answer ≡ Rule-Call.refused n → refusal_in (sent_by R r m).answer ≡ some n)
  unfolding sent_by step_by
  sent-as-the-rule r m known order =
      let i = (heading_of m).account in
      let called = Rule-Call.call R (lists_of (account_at r i)) (rule_message m) in
      rw (le-ltb 15 i known, order)
      (by called.answer, λ n e. rw e (ap some (answer-number R (lists_of (account_at r i)) (rule_message m) n e)))
    where
      by : (answer : Rule-Call.Answer Filed Event ℕ)
          → let i = (heading_of m).account in
          let next = (Rule-Call.call R (lists_of (account_at r i)) (rule_message m)).account in
          sent_in r i (stepped_by (account_at r i) next answer) ≡ sent_as_ruled r i next answer
      by (Rule-Call.refused n) = refl
      by (Rule-Call.taken xs) = refl
