-- What sending a message comes to: a refusal, which is 3 at least, or the rule's step, where the account is one of the sixteen, it is in order and the rule refuses nothing.
-- Assumes nothing.
use Prim.Native.Nat.{ℕ, ◌≤◌}
use mathlib.Core.Path.{◌≡◌, refl}
use mathlib.Core.Logic.{⊎_elim}
use mathlib.Core.Bool.{Bool, true, false, cond}
use mathlib.Core.List.{map}
use mathlib.Core.Option.{Option, none, some}
use native.Mathlib.Omega.{arith}
use lib.Dec.{ltb}
use lib.ListN.{length}
use borrow.Author.Tests.{ltb-false}
use Rattle.std.specs.Prelude.{Ok}
use Rattle.refusal.specs.declared.Refusal.TheVariants.{NotInOrder, UnknownAccount}
use Rattle.refusal.specs.Numbers.{number_of, numbered}
use Rattle.refusal.specs.declared.Refusal.{Refusal}
use Rattle.rule.specs.Rule as rule
use Rattle.rule.specs.Step.{Step, step}
use Rattle.rule.specs.Call as Rule-Call
use Rattle.rule.proofs.Refusals.{gives, request-refused, commit-refused, abort_refused}
use Rattle.events.specs.declared.Event.{Event}
use Rattle.events.specs.declared.State.{State}
use Rattle.filing.specs.declared.Filed.{Filed}
use Rattle.filing.specs.Entries.{entry_of, entries_of}
use Rattle.account.specs.declared.Account.{Account}
use Rattle.account.specs.Places.{RuleAccount, lists_of, account_of}
use Rattle.account.specs.InOrder.{in_order_by}
use Rattle.account.specs.Steps.{entries_in, refused_by, stepped_by, step_by}
use Rattle.account.proofs.Kept.{order-lists}
use Rattle.layout.specs.Fields.{last_account}
use Rattle.message.specs.declared.Message.{Message}
use Rattle.message.specs.Bytes.{heading_of}
use Rattle.entry.specs.Bytes.{bytes_of_entries, list_of}
use Rattle.entry.specs.Answers.{longest_call}
use Rattle.entry.specs.Longest.{CallFits}
use Rattle.entry.proofs.CallFits.{listed, calls-fit}
use Rattle.register.specs.declared.Register.{Register}
use Rattle.register.specs.Register.{account_at, with_account, rule_message, not_sent, sent_in, sent_by, Sent}
use Rattle.register.proofs.Suits.{Suits}

-- the rule's refusals have their own numbers, which are 3 at least
abbrev Numbered : ℕ → Type 0
Numbered n = (number_of (numbered n) ≡ n) × (3 ≤ n)

rule-numbers : (R : rule.Rule State Event ℕ) (a : RuleAccount) (m : rule.Message Filed Event) (n : ℕ) → Rule-Call.refusal R a m ≡ some n → Numbered n
rule-numbers R a (rule.request t g e) n h = ⊎_elim (λ z. rw z (refl, omega arith)) (λ z. rw z (refl, omega arith)) ((request-refused R a t g e).only n ((gives R a (rule.request t g e) n).1 h))
rule-numbers R a (rule.commit t g) n h =
    ⊎_elim (λ z. rw z (refl, omega arith)) (λ z. ⊎_elim (λ y. rw y (refl, omega arith)) (λ y. rw y (refl, omega arith)) z) ((commit-refused R a t g).only n ((gives R a (rule.commit t g) n).1 h))
rule-numbers R a (rule.abort t g) n h = ⊎_elim (λ z. rw z (refl, omega arith)) (λ z. rw z (refl, omega arith)) ((abort_refused R a t g).only n ((gives R a (rule.abort t g) n).1 h))

pub answer-number : (R : rule.Rule State Event ℕ) (a : RuleAccount) (m : rule.Message Filed Event) (n : ℕ) → (Rule-Call.call R a m).answer ≡ Rule-Call.refused n → number_of (numbered n) ≡ n
unfolding Rule-Call.call
answer-number R a m n h = go (Rule-Call.refusal R a m) refl h
  where
    go : (o : Option ℕ) → Rule-Call.refusal R a m ≡ o → (Rule-Call.call_by o a (step R a m)).answer ≡ Rule-Call.refused n → number_of (numbered n) ≡ n
    go none e h = cc
    go (some k) e h = let z : k ≡ n = cc in rw (← z) (rule-numbers R a m k e).0

module _ (R : rule.Rule State Event ℕ) (r : Register) (m : Message) where
  -- the account that is named, its lists, and the rule's step of the message
  abbrev pub place : ℕ
  place = (heading_of m).account

  abbrev pub lists : RuleAccount
  lists = lists_of (account_at r place)

  abbrev pub taking : Step Filed State Event ℕ
  taking = step R lists (rule_message m)

  -- nothing refuses the message
  pub record Free : Type 0 where
    pub known : place ≤ last_account
    pub in_order : in_order_by R (account_at r place) ≡ true
    pub unrefused : Rule-Call.refusal R lists (rule_message m) ≡ none

  abbrev pub taken_sent : Sent
  taken_sent = record { register = with_account r place (account_of taking.account); answer = Ok (entries_of taking.entries) }

  pub data Sending : Sent → Type 0 where
    refused : (n : Refusal) → 3 ≤ number_of n → Sending (not_sent r n)
    taken : Free → Sending taken_sent

  pub sending : Sending (sent_by R r m)
  unfolding sent_by step_by Rule-Call.call
  sending = by_place (ltb last_account place) refl
    where
      a : Account
      a = account_at r place

      by-rule : (o : Option ℕ) → Rule-Call.refusal R lists (rule_message m) ≡ o → in_order_by R a ≡ true → place ≤ last_account
          → Sending (sent_in r place (stepped_by a (Rule-Call.call_by o lists taking).account (Rule-Call.call_by o lists taking).answer))
      by-rule (some n) e o l = let z = rule-numbers R lists (rule_message m) n e in refused (numbered n) (omega arith)
      by-rule none e o l = taken (record { known = l; in_order = o; unrefused = e })

      by_order : (b : Bool) → in_order_by R a ≡ b → place ≤ last_account
          → Sending (sent_in r place (cond b (stepped_by a (Rule-Call.call R lists (rule_message m)).account (Rule-Call.call R lists (rule_message m)).answer) (refused_by a 5)))
      by_order true o l = by-rule (Rule-Call.refusal R lists (rule_message m)) refl o l
      by_order false o l = refused NotInOrder (omega arith)

      by_place : (b : Bool) → ltb last_account place ≡ b → Sending (cond b (not_sent r UnknownAccount) (sent_in r place (step_by R a (rule_message m))))
      by_place true q = refused UnknownAccount (omega arith)
      by_place false q = by_order (in_order_by R a) refl (ltb-false last_account place q)

  -- the entries of a message that is taken have room in the longest call
  pub taken-fits : Suits R → Free → CallFits taking.entries
  unfolding Rule-Call.call
  taken-fits k free = rw free.unrefused at (calls-fit.called R lists (rule_message m) k.few k.few_held (order-lists R (account_at r place) free.in_order))

  pub taken-bytes : Suits R → Free → (i : ℕ) → length (bytes_of_entries i (map entry_of taking.entries)) ≤ longest_call
  taken-bytes k free i = rw (listed taking.entries) at ((taken-fits k free).bytes i)

-- and so have those of any step of an account
pub step-bytes : (R : rule.Rule State Event ℕ) → Suits R → (a : Account) (m : rule.Message Filed Event) (i : ℕ) → length (bytes_of_entries i (list_of (entries_in (step_by R a m).answer))) ≤ longest_call
unfolding step_by
step-bytes R k a m i = by_order (in_order_by R a) refl
  where
    called : Rule-Call.Called Filed State Event ℕ
    called = Rule-Call.call R (lists_of a) m

    by_answer : (answer : Rule-Call.Answer Filed Event ℕ) → CallFits (Rule-Call.written answer) → length (bytes_of_entries i (list_of (entries_in (stepped_by a called.account answer).answer))) ≤ longest_call
    by_answer (Rule-Call.refused n) h = h.bytes i
    by_answer (Rule-Call.taken xs) h = h.bytes i

    by_order : (b : Bool) → in_order_by R a ≡ b → length (bytes_of_entries i (list_of (entries_in (cond b (stepped_by a called.account called.answer) (refused_by a 5)).answer))) ≤ longest_call
    by_order true o = by_answer called.answer (calls-fit.called R (lists_of a) m k.few k.few_held (order-lists R a o))
    by_order false o = calls-fit.nothing.bytes i
