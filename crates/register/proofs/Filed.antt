-- What is filed never matters, on values. The rule never looks at what is filed, so its two answers are the same where what is filed is put through a function, and so are the
-- accounts that follow.
-- Assumes nothing.
use Prim.Native.Nat.{ℕ, ◌≤◌}
use native.Mathlib.Omega.{arith}
use mathlib.Core.Path.{◌≡◌, refl, sym, ◌∙◌, ap, ap₂}
use mathlib.Core.Bool.{Bool, true, false, cond}
use mathlib.Core.List.{List, [], ◌∷◌, map}
use borrow.Author.Tests.{eqb-true, eqb-false, ltb-false}
use lib.Dec.{eqb, ltb}
use lib.ListN.{length-set, get_or-replicate}
use lib.Seq.{get_or-set_same, get_or-set_other}
use Rattle.refusal.specs.Numbers.{numbered}
use Rattle.refusal.specs.declared.Refusal.{Refusal}
use Rattle.refusal.specs.declared.Refusal.TheVariants.{UnknownAccount}
use Rattle.rule.specs.Rule as rule
use Rattle.rule.specs.Call as Rule-Call
use Rattle.rule.specs.InOrder as rule-order
use Rattle.rule.specs.Filed.{message_through, entry_through, answer_through, account_through}
use Rattle.rule.proofs.InOrder.{call-order}
use Rattle.rule.proofs.Filed.{never-looked}
use Rattle.events.specs.declared.Event.{Event}
use Rattle.events.specs.declared.State.{State}
use Rattle.filing.specs.declared.Filed.{Filed}
use Rattle.filing.specs.declared.Entry.{Entry}
use Rattle.filing.specs.Entries.{RuleEntry, entries_of, entry_of}
use Rattle.account.specs.declared.Account.{Account}
use Rattle.account.specs.Places.{RuleAccount, lists_of, account_of}
use Rattle.account.specs.Steps.{stepped_by, step_by}
use Rattle.account.proofs.Padded.{lists-account}
use Rattle.account.proofs.Kept.{order-account, order-lists}
use Rattle.layout.specs.Fields.{last_account}
use Rattle.message.specs.declared.Message.{Message}
use Rattle.message.specs.Bytes.{heading_of}
use Rattle.entry.specs.Bytes.{list_of}
use Rattle.entry.proofs.CallFits.{listed}
use Rattle.register.specs.declared.Register.{Register}
use Rattle.register.specs.Register.{nowhere, account_at, with_account, rule_message, not_sent, sent_in, fresh_by, sent_by}
use Rattle.register.specs.Sequence.{rule_entry}
use Rattle.register.specs.Filed.{SameAccount, SameRegister, SameSent, FiledNeverMatters}
use Rattle.register.proofs.Suits.{Suits}
use Rattle.register.proofs.InOrder.{new-order}

-- an entry as a value, and as the rule has it again
abbrev as_value : RuleEntry → RuleEntry
as_value x = rule_entry (entry_of x)

module _ (R : rule.Rule State Event ℕ) (k : Suits R) (f : Filed → Filed) where
  -- the rule's calls on such lists
  module _ (a a' : RuleAccount) (m m' : rule.Message Filed Event) (accounts : account_through f a ≡ account_through f a') (messages : message_through f m ≡ message_through f m') where
    called_same : Rule-Call.call R (account_through f a) (message_through f m) ≡ Rule-Call.call R (account_through f a') (message_through f m')
    called_same = ap₂ (Rule-Call.call R) accounts messages

    answer-same : answer_through f (Rule-Call.call R a m).answer ≡ answer_through f (Rule-Call.call R a' m').answer
    answer-same =
        sym (never-looked R f a m).answer ∙ ap (λ (c : Rule-Call.Called Filed State Event ℕ). c.answer) called_same ∙ (never-looked R f a' m').answer

    account-same : account_through f (Rule-Call.call R a m).account ≡ account_through f (Rule-Call.call R a' m').account
    account-same =
        sym (never-looked R f a m).account ∙ ap (λ (c : Rule-Call.Called Filed State Event ℕ). c.account) called_same ∙ (never-looked R f a' m').account

  -- accounts of lists in order that agree so
  lists-same : (a a' : RuleAccount) → rule-order.is_in_order R a ≡ true → rule-order.is_in_order R a' ≡ true → account_through f a ≡ account_through f a'
      → SameAccount R f (account_of a) (account_of a')
  lists-same a a' o o' h =
      record {
        in_order = order-account R a o;
        in_order' = order-account R a' o';
        lists = ap (account_through f) (lists-account a) ∙ h ∙ sym (ap (account_through f) (lists-account a'));
      }

  -- entries in their places: what is filed is put through in the value as in the rule's entry
  value-through : (x : RuleEntry) → entry_through f (as_value x) ≡ as_value (entry_through f x)
  value-through (rule.voted t g e w) = refl
  value-through (rule.noted t g) = refl
  value-through (rule.applied t g e b) = refl
  value-through (rule.dropped t g e) = refl

  entries-through : (xs : List RuleEntry) → map (λ (e : Entry). entry_through f (rule_entry e)) (list_of (entries_of xs)) ≡ map as_value (map (entry_through f) xs)
  entries-through xs = ap (map (λ (e : Entry). entry_through f (rule_entry e))) (listed xs) ∙ by xs
    where
      by : (ys : List RuleEntry) → map (λ (e : Entry). entry_through f (rule_entry e)) (map entry_of ys) ≡ map as_value (map (entry_through f) ys)
      by [] = refl
      by (y ∷ ys) = λ j. value-through y j ∷ by ys j

  -- Two registers, and the account that is named.
  module _ (r r' : Register) (same : SameRegister R f r r') where
    refused-same : (n : Refusal) → SameSent R f (not_sent r n) (not_sent r' n)
    refused-same n = record { answers = refl; entries = refl; registers = same }

    -- another account in the same place
    register-same : (i : ℕ) → i ≤ last_account → (a a' : Account) → SameAccount R f a a' → SameRegister R f (with_account r i a) (with_account r' i a')
    register-same i l a a' h =
        record {
          sixteen = length-set r.accounts i a ∙ same.sixteen;
          sixteen' = length-set r'.accounts i a' ∙ same.sixteen';
          accounts = λ j low. by j low (eqb j i) refl;
        }
      where
        by : (j : ℕ) → j ≤ last_account → (b : Bool) → eqb j i ≡ b → SameAccount R f (account_at (with_account r i a) j) (account_at (with_account r' i a') j)
        by j low true q =
            rw (eqb-true j i q, get_or-set_same r.accounts i a nowhere (omega (arith, same.sixteen)), get_or-set_same r'.accounts i a' nowhere (omega (arith, same.sixteen'))) h
        by j low false q =
            rw (get_or-set_other r.accounts i j a nowhere (eqb-false j i q), get_or-set_other r'.accounts i j a' nowhere (eqb-false j i q)) (same.accounts j low)

    -- what is sent, by the rule's answer
    module _ (i : ℕ) (l : i ≤ last_account) (a a' : Account) (next next' : RuleAccount) (h : SameAccount R f (account_of next) (account_of next')) where
      stepped_same : (answer answer' : Rule-Call.Answer Filed Event ℕ) → answer_through f answer ≡ answer_through f answer'
          → SameSent R f (sent_in r i (stepped_by a next answer)) (sent_in r' i (stepped_by a' next' answer'))
      stepped_same (Rule-Call.refused n) (Rule-Call.refused n') e = let z : n ≡ n' = cc in rw z (refused-same (numbered n'))
      stepped_same (Rule-Call.refused n) (Rule-Call.taken xs') e = cc
      stepped_same (Rule-Call.taken xs) (Rule-Call.refused n') e = cc
      stepped_same (Rule-Call.taken xs) (Rule-Call.taken xs') e =
          let z : map (entry_through f) xs ≡ map (entry_through f) xs' = cc in
          record {
            answers = refl;
            entries = entries-through xs ∙ ap (map as_value) z ∙ sym (entries-through xs');
            registers = register-same i l (account_of next) (account_of next') h;
          }

    module _ (m m' : Message) (i : ℕ) (l : i ≤ last_account) (e : message_through f (rule_message m) ≡ message_through f (rule_message m')) where
      step_same : SameSent R f (sent_in r i (step_by R (account_at r i) (rule_message m))) (sent_in r' i (step_by R (account_at r' i) (rule_message m')))
      unfolding step_by
      step_same =
          let named = same.accounts i l in
          let a : RuleAccount = lists_of (account_at r i) in
          let a' : RuleAccount = lists_of (account_at r' i) in
          let called = Rule-Call.call R a (rule_message m) in
          let called' = Rule-Call.call R a' (rule_message m') in
          let next =
          lists-same called.account called'.account
          (call-order R k.ordered a (rule_message m) (order-lists R (account_at r i) named.in_order))
          (call-order R k.ordered a' (rule_message m') (order-lists R (account_at r' i) named.in_order'))
          (account-same a a' (rule_message m) (rule_message m') named.lists e) in
          rw (named.in_order, named.in_order')
          (stepped_same i l (account_at r i) (account_at r' i) called.account called'.account next called.answer called'.answer
          (answer-same a a' (rule_message m) (rule_message m') named.lists e))

    sent-same : (m m' : Message) → (heading_of m).account ≡ (heading_of m').account → message_through f (rule_message m) ≡ message_through f (rule_message m')
        → SameSent R f (sent_by R r m) (sent_by R r' m')
    unfolding sent_by
    sent-same m m' q e = rw q (go (ltb last_account i) refl)
      where
        i : ℕ
        i = (heading_of m').account

        go : (b : Bool) → ltb last_account i ≡ b
            → SameSent R f (cond b (not_sent r UnknownAccount) (sent_in r i (step_by R (account_at r i) (rule_message m))))
            (cond b (not_sent r' UnknownAccount) (sent_in r' i (step_by R (account_at r' i) (rule_message m'))))
        go true z = refused-same UnknownAccount
        go false z = step_same m m' i (ltb-false last_account i z) e

  -- a fresh register
  pub fresh-same : SameRegister R f (fresh_by R) (fresh_by R)
  unfolding fresh_by
  fresh-same =
      record {
        sixteen = refl;
        sixteen' = refl;
        accounts =
            λ i l.
            rw (get_or-replicate 16 i (account_of (rule.new_account R Filed)) nowhere (omega arith))
            (lists-same (rule.new_account R Filed) (rule.new_account R Filed) (new-order R k) (new-order R k) refl);
      }

pub filed-never-matters : (R : rule.Rule State Event ℕ) → Suits R → FiledNeverMatters R
filed-never-matters R k f r r' m m' same q e = sent-same R k f r r' same m m' q e
