-- A step that is refused leaves its account, so that a message is sent in the account's place whatever it answers. And the ways out of a call: what each gives, and that the entries of
-- what was sent have room.
-- Assumes nothing.
use Prim.Native.Nat.{ℕ, ◌<◌, ◌≤◌}
use mathlib.Core.Path.{◌≡◌, refl, ap}
use mathlib.Core.List.{List}
use native.Mathlib.Omega.{arith}
use lib.ListN.{length}
use lib.Seq.{set-get_or}
use borrow.Author.Tests.{lt-ltb, le-ltb}
use Rattle.filing.specs.Entries.{entries_of}
use Rattle.std.specs.Prelude.{Result, Ok, Err}
use Rattle.refusal.specs.declared.Refusal.{Refusal}
use Rattle.refusal.specs.declared.Refusal.TheVariants.{UnknownAccount, NoRoom}
use Rattle.refusal.specs.Numbers.{number_of}
use Rattle.rule.specs.Rule as rule
use Rattle.events.specs.declared.Event.{Event}
use Rattle.events.specs.declared.State.{State}
use Rattle.filing.specs.declared.Filed.{Filed}
use Rattle.filing.specs.declared.Entries.{Entries}
use Rattle.account.specs.declared.Account.{Account}
use Rattle.account.specs.Steps.{Stepped, refusal_in, step_by}
use Rattle.account.proofs.Refused.{refusal-same}
use Rattle.layout.specs.Fields.{last_account}
use Rattle.layout.specs.Writes.{wrote_over}
use Rattle.message.specs.declared.Message.{Message}
use Rattle.message.specs.Bytes.{heading_of}
use Rattle.message.specs.Answers.{read_of}
use Rattle.entry.specs.Bytes.{bytes_of_entries, list_of}
use Rattle.entry.specs.Answers.{longest_call, write_of}
use Rattle.entry.proofs.CallFits.{listed}
use Rattle.register.specs.declared.Register.{Register}
use Rattle.register.specs.Register.{Sent, nowhere, account_at, with_account, rule_message, not_sent, sent_as, sent_in, sent_by}
use Rattle.register.specs.Call.{refused_with, wrote_as, wrote_of, after_message, called_by}
use Rattle.register.proofs.Suits.{Suits}
use Rattle.register.proofs.Sending.{taking, Sending, refused, taken, sending, taken-bytes}

-- a refusal keeps the account
step-keeps : (R : rule.Rule State Event ℕ) (a : Account) (m : rule.Message Filed Event) (x : Refusal) → (step_by R a m).answer ≡ Err x → (step_by R a m).account ≡ a
step-keeps R a m x e = ap (λ (s : Stepped). s.account) (refusal-same R a m (number_of x) (ap refusal_in e))

-- what is answered is the account's answer
pub same_answer : (r : Register) (i : ℕ) (answer : Result Entries Refusal) (next : Account) → (sent_as r i answer next).answer ≡ answer
same_answer r i (Ok entries) next = refl
same_answer r i (Err x) next = refl

module _ (R : rule.Rule State Event ℕ) (r : Register) (m : Message) where
  -- sent to an account that there is not
  pub sent-nowhere : last_account < (heading_of m).account → sent_by R r m ≡ not_sent r UnknownAccount
  unfolding sent_by
  sent-nowhere l = rw (lt-ltb last_account (heading_of m).account l)

  -- sent to an account that there is: its step, in its place
  pub sent_is : (heading_of m).account ≤ last_account → sent_by R r m ≡ sent_in r (heading_of m).account (step_by R (account_at r (heading_of m).account) (rule_message m))
  unfolding sent_by
  sent_is l = rw (le-ltb last_account (heading_of m).account l)

  pub in_place : (i : ℕ) → with_account r i (step_by R (account_at r i) (rule_message m)).account ≡ (sent_in r i (step_by R (account_at r i) (rule_message m))).register
  in_place i = go (step_by R (account_at r i) (rule_message m)).answer (λ x. step-keeps R (account_at r i) (rule_message m) x)
    where
      next : Account
      next = (step_by R (account_at r i) (rule_message m)).account

      go : (answer : Result Entries Refusal) → ((x : Refusal) → answer ≡ Err x → next ≡ account_at r i) → with_account r i next ≡ (sent_as r i answer next).register
      go (Ok entries) h = refl
      go (Err x) h = rw (h x refl, set-get_or r.accounts i nowhere)

  -- a message that is refused keeps the register
  pub sent-keeps : (x : Refusal) → (sent_by R r m).answer ≡ Err x → (sent_by R r m).register ≡ r
  sent-keeps x e = go (sending R r m) e
    where
      go : {sent : Sent} → Sending R r m sent → sent.answer ≡ Err x → sent.register ≡ r
      go (refused n high) e = refl
      go (taken free) e = cc

-- The ways out of a call.
module _ (R : rule.Rule State Event ℕ) (k : Suits R) (r : Register) (bytes buffer : List ℕ) where
  -- the reader's refusal
  pub reading-refused : (x : Refusal) → read_of bytes ≡ Err x → called_by R r bytes buffer ≡ refused_with r buffer x
  unfolding called_by
  reading-refused x e = rw e

  -- a message that was read
  module _ (m : Message) (consumed : ℕ) (q : read_of bytes ≡ Ok (m, consumed)) where
    abbrev i : ℕ
    i = (heading_of m).account

    -- 4
    pub room-refused : length buffer < longest_call → called_by R r bytes buffer ≡ refused_with r buffer NoRoom
    unfolding called_by after_message
    room-refused l = rw (q, lt-ltb (length buffer) longest_call l)

    -- with room what was sent is refused, or it is taken, and its entries are written
    pub record WithRoom : Type 0 where
      pub refused' : (x : Refusal) → (sent_by R r m).answer ≡ Err x → called_by R r bytes buffer ≡ refused_with r buffer x
      pub taken' : (entries : Entries) → (sent_by R r m).answer ≡ Ok entries → called_by R r bytes buffer ≡ wrote_as r buffer i consumed (Ok entries) (sent_by R r m).register
      pub written : (entries : Entries) → (sent_by R r m).answer ≡ Ok entries → write_of (list_of entries) i buffer ≡ wrote_over (bytes_of_entries i (list_of entries)) buffer

    pub with_room : longest_call ≤ length buffer → WithRoom
    unfolding called_by after_message write_of
    with_room l =
        record {
          refused' = λ x e. rw (wrote, e);
          taken' = λ entries e. rw (wrote, e);
          written = λ entries e. rw (le-ltb (length buffer) longest_call l, le-ltb (length buffer) (length (bytes_of_entries i (list_of entries))) (go entries (sending R r m) e));
        }
      where
        wrote : called_by R r bytes buffer ≡ wrote_of r buffer i consumed (sent_by R r m)
        wrote = rw (q, le-ltb (length buffer) longest_call l)

        go : (entries : Entries) {sent : Sent} → Sending R r m sent → sent.answer ≡ Ok entries → length (bytes_of_entries i (list_of entries)) ≤ length buffer
        go entries (refused n high) e = cc
        go entries (taken free) e =
            let same : entries ≡ entries_of (taking R r m).entries = cc in
            rw (same, listed (taking R r m).entries) (omega (arith, l, taken-bytes R r m k free i))
