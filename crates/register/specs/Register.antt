-- The register: its accounts, which a message names by their numbers; a message sent to it as a value; and the outcome question (docs/REGISTER.md, 7, 10.1 and 11.2).
-- All of it by any rule of the events.
-- Assumes nothing.
use Rattle.std.specs.Prelude.{ℕ, suc, cond, Result, Ok, Err, [], ltb, get_or, set, replicate}
use Rattle.refusal.specs.declared.Refusal.{Refusal}
use Rattle.refusal.specs.declared.Refusal.TheVariants.{UnknownAccount}
use Rattle.rule.specs.Rule as rule
use Rattle.events.specs.declared.Event.{Event}
use Rattle.events.specs.declared.Life.TheVariants.{New}
use Rattle.events.specs.declared.State.{State}
use Rattle.filing.specs.declared.Filed.{Filed}
use Rattle.filing.specs.declared.Entries.{Entries}
use Rattle.account.specs.declared.Account.{Account}
use Rattle.account.specs.declared.Outlook.{Outlook}
use Rattle.account.specs.Places.{account_of}
use Rattle.account.specs.Steps.{Stepped, step_by, outlook_by}
use Rattle.layout.specs.Fields.{last_account}
use Rattle.message.specs.declared.Message.{Message}
use Rattle.message.specs.declared.Message.TheVariants.{Request, Commit, Abort}
use Rattle.message.specs.Bytes.{heading_of}
use Rattle.register.specs.declared.Register.{Register}

-- as many accounts as there are numbers up to the last
abbrev pub accounts_of_register : ℕ
accounts_of_register = suc last_account

-- what stands past the sixteenth account: no call looks there
abbrev pub nowhere : Account
nowhere = record { state = record { life = New; balance = 0 }; progress = []; progressing = 0; held = []; holding = 0 }

-- the account of a number
abbrev pub account_at : Register → ℕ → Account
account_at r i = get_or r.accounts i nowhere

-- the register with another account at that number
abbrev pub with_account : Register → ℕ → Account → Register
with_account r i a = record { accounts = set r.accounts i a }

-- a message as the rule has it
abbrev pub rule_message : Message → rule.Message Filed Event
rule_message (Request h e) = rule.request h.transaction h.filed e
rule_message (Commit h) = rule.commit h.transaction h.filed
rule_message (Abort h) = rule.abort h.transaction h.filed

-- what sending a message gives: the register that follows, and its refusal or its entries
pub record Sent : Type 0 where
  pub register : Register
  pub answer : Result Entries Refusal

-- a message that is not taken: the same register
abbrev pub not_sent : Register → Refusal → Sent
not_sent r refusal = record { register = r; answer = Err refusal }

-- what the account of that number answers: its refusal, or the account that follows in its place and the entries
abbrev pub sent_as : Register → (account : ℕ) → Result Entries Refusal → Account → Sent
sent_as r i (Err refusal) next = not_sent r refusal
sent_as r i (Ok entries) next = record { register = with_account r i next; answer = Ok entries }

abbrev pub sent_in : Register → (account : ℕ) → Stepped → Sent
sent_in r i stepped = sent_as r i stepped.answer stepped.account

module _ (R : rule.Rule State Event ℕ) where
  -- every account is fresh (7.1 and 2.7)
  unfoldable pub fresh_by : Register
  fresh_by = record { accounts = replicate accounts_of_register (account_of (rule.new_account R Filed)) }

  -- a message sent to the account that it names: 3 where there is none of that number, then what the account answers
  unfoldable pub sent_by : Register → Message → Sent
  sent_by r m =
      let i = (heading_of m).account in
      cond (ltb last_account i) (not_sent r UnknownAccount) (sent_in r i (step_by R (account_at r i) (rule_message m)))

  -- the outcome question: 3, then the account's own answer, which may be 5 or 12
  unfoldable pub asked_by : Register → (account number : ℕ) → Result Outlook Refusal
  asked_by r i n = cond (ltb last_account i) (Err UnknownAccount) (outlook_by R (account_at r i) n)
