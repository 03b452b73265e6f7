-- What is filed never matters (docs/REGISTER.md, 13.2), on values: two registers that are the same but for what is filed stay so when they are sent messages that are the
-- same but for it, with the same answer and the same entries but for it. `f` says what is looked at of what is filed.
-- Assumes nothing.
use Rattle.std.specs.Prelude.{ℕ, ◌≤◌, ◌≡◌, true, map, length}
use Rattle.rule.specs.Rule.{Rule}
use Rattle.rule.specs.Filed.{message_through, entry_through, account_through}
use Rattle.events.specs.declared.Event.{Event}
use Rattle.events.specs.declared.State.{State}
use Rattle.filing.specs.declared.Filed.{Filed}
use Rattle.account.specs.declared.Account.{Account}
use Rattle.account.specs.Places.{lists_of}
use Rattle.account.specs.InOrder.{in_order_by}
use Rattle.account.specs.Steps as steps
use Rattle.account.specs.Steps.{refusal_in}
use Rattle.message.specs.declared.Message.{Message}
use Rattle.message.specs.Bytes.{heading_of}
use Rattle.entry.specs.Bytes.{list_of}
use Rattle.register.specs.declared.Register.{Register}
use Rattle.register.specs.Register.{Sent, rule_message, sent_by}
use Rattle.register.specs.Refusals.{standing_at}
use Rattle.register.specs.Sequence.{rule_entry}

module _ (R : Rule State Event ℕ) (f : Filed → Filed) where
  -- two accounts in order whose lists differ only in what is filed
  pub record SameAccount (a a' : Account) : Type 0 where
    pub in_order : in_order_by R a ≡ true
    pub in_order' : in_order_by R a' ≡ true
    pub lists : account_through f (lists_of a) ≡ account_through f (lists_of a')

  pub record SameRegister (r r' : Register) : Type 0 where
    pub sixteen : length r.accounts ≡ 16
    pub sixteen' : length r'.accounts ≡ 16
    pub accounts : (i : ℕ) → i ≤ 15 → SameAccount (standing_at r i) (standing_at r' i)

  -- what two messages give
  pub record SameSent (x y : Sent) : Type 0 where
    pub answers : refusal_in x.answer ≡ refusal_in y.answer
    pub entries : map (λ e. entry_through f (rule_entry e)) (list_of (steps.entries_in x.answer)) ≡ map (λ e. entry_through f (rule_entry e)) (list_of (steps.entries_in y.answer))
    pub registers : SameRegister x.register y.register

abbrev pub FiledNeverMatters : Rule State Event ℕ → Type 0
FiledNeverMatters R =
    (f : Filed → Filed) (r r' : Register) (m m' : Message) → SameRegister R f r r' → (heading_of m).account ≡ (heading_of m').account
    → message_through f (rule_message m) ≡ message_through f (rule_message m')
    → SameSent R f (sent_by R r m) (sent_by R r' m')
