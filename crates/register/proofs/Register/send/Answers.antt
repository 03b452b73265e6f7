-- The account that is named steps in its place; a refusal keeps it.
-- Assumes nothing.
use Rattle.std.proofs.Common.{◌≡◌, ◌≤◌, ◌<◌, sym, ap, ◌∙◌, set}
use Rattle.refusal.specs.declared.Refusal.TheVariants.{UnknownAccount}
use Rattle.account.specs.declared.Account.{Account}
use Rattle.account.specs.First.{step_of}
use Rattle.layout.specs.Fields.{last_account}
use Rattle.message.specs.declared.Message.{Message}
use Rattle.message.specs.Bytes.{heading_of}
use Rattle.register.specs.declared.Register.{Register}
use Rattle.register.specs.Register.{account_at, rule_message, not_sent, sent_in}
use Rattle.register.specs.First.{sent_of}
use Rattle.register.proofs.Writes.{sent-nowhere, sent_is, in_place, same_answer}
use Rattle.register.proofs.Register.send.Goals as goal

pub returns-then-number-gt-LAST_ACCOUNT : goal.returns-then-number-gt-LAST_ACCOUNT
returns-then-number-gt-LAST_ACCOUNT c =
    let far : last_account < (heading_of c.args.message).account = rw (← c.account_of-number.ensures) c.if-number-gt-LAST_ACCOUNT.true in
    let sent : sent_of c.args.self.now c.args.message ≡ not_sent c.args.self.now UnknownAccount = sent-nowhere _ c.args.self.now c.args.message far in
    record { answer = rw sent; register = rw sent }

-- sent to an account that there is
stepped : (r : Register) (m : Message) → (heading_of m).account ≤ last_account
    → sent_of r m ≡ sent_in r (heading_of m).account (step_of (account_at r (heading_of m).account) (rule_message m))
stepped r m near = sent_is _ r m near

pub returns-clause-answer : goal.returns-clause-answer
returns-clause-answer c =
    let near : (heading_of c.args.message).account ≤ last_account = rw (← c.account_of-number.ensures) c.if-number-gt-LAST_ACCOUNT.false in
    rw (stepped c.args.self.now c.args.message near, ← c.account_of-number.ensures)
    (c.step.ensures.answer ∙ sym (same_answer c.args.self.now c.account_of-number.result _ _))

pub returns-clause-register : goal.returns-clause-register
returns-clause-register c =
    let near : (heading_of c.args.message).account ≤ last_account = rw (← c.account_of-number.ensures) c.if-number-gt-LAST_ACCOUNT.false in
    rw (stepped c.args.self.now c.args.message near, ← c.account_of-number.ensures)
    (ap (λ (a : Account). record { accounts = set c.args.self.now.accounts c.account_of-number.result a }) c.step.ensures.account
    ∙ in_place _ c.args.self.now c.args.message c.account_of-number.result)
