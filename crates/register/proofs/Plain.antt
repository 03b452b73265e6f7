-- By the tests of the call, one after the other, and by computing.
-- Assumes nothing.
use Prim.Native.Nat.{ℕ, ◌≤◌}
use native.Mathlib.Omega.{arith}
use mathlib.Core.Path.{◌≡◌, refl, ap}
use mathlib.Core.List.{List}
use mathlib.Core.Option.{some}
use borrow.Author.Tests.{lt-ltb, le-ltb, ne_eqb}
use lib.ListN.{length}
use lib.Seq.{get_or_at, set_at}
use Rattle.std.specs.Prelude.{Ok}
use Rattle.refusal.specs.Numbers.{number_of, numbered}
use Rattle.rule.specs.Rule as rule
use Rattle.rule.specs.Call as Rule-Call
use Rattle.events.specs.declared.Event.{Event}
use Rattle.events.specs.declared.State.{State}
use Rattle.account.specs.declared.Account.{Account}
use Rattle.account.specs.Places.{lists_of, account_of}
use Rattle.account.specs.Steps.{step_by}
use Rattle.layout.specs.Fields.{row_of_kind}
use Rattle.layout.specs.Number.{number_at}
use Rattle.message.specs.declared.Message.{Message}
use Rattle.message.specs.Bytes.{messages, heading_of}
use Rattle.message.specs.Answers.{read_of}
use Rattle.entry.proofs.CallFits.{listed}
use Rattle.register.specs.declared.Register.{Register}
use Rattle.register.specs.Register.{nowhere, account_at, rule_message, fresh_by, sent_by, asked_by}
use Rattle.register.specs.Call.{after_message, called_by}
use Rattle.register.specs.Sequence.{Input, Exchange, entries_from}
use Rattle.register.specs.Plain.{CallPlain, SendPlain, AskedPlain, AccountsPlain, NumbersPlain, EntriesPlain, StringsPlain, PlainHolds}
use Rattle.register.proofs.ReadAs.{read_as, account-read}
use Rattle.register.proofs.ReadBack.{value-back}
use Rattle.register.proofs.Sending.{answer-number}

module _ (R : rule.Rule State Event ℕ) where
  -- the account that a message which was read names is one of sixteen
  known : (bytes : List ℕ) (m : Message) (consumed : ℕ) → read_of bytes ≡ Ok (m, consumed) → (heading_of m).account ≤ 15
  known bytes m consumed read = omega (arith, account-read bytes m consumed read, (read_as bytes m consumed read).account)

  -- the number of the rule's refusal is one of the list
  own : (r : Register) (m : Message) (n : ℕ) → (Rule-Call.call R (lists_of (account_at r (heading_of m).account)) (rule_message m)).answer ≡ Rule-Call.refused n → number_of (numbered n) ≡ n
  own r m = answer-number R (lists_of (account_at r (heading_of m).account)) (rule_message m)

  call-plain : (r : Register) (bytes buffer : List ℕ) → CallPlain R r bytes buffer
  unfolding called_by after_message sent_by step_by
  call-plain r bytes buffer =
      record {
        unread = λ n read. rw read refl;
        roomless = λ m consumed read room. rw (read, lt-ltb (length buffer) 323 room) refl;
        out_of_order = λ m consumed read room order. rw (read, le-ltb (length buffer) 323 room, le-ltb 15 (heading_of m).account (known bytes m consumed read), order) refl;
        refused =
            λ m consumed n read room order answer.
            rw (read, le-ltb (length buffer) 323 room, le-ltb 15 (heading_of m).account (known bytes m consumed read), order, answer)
            (refl, ap some (own r m n answer));
        taken =
            λ m consumed xs read room order answer.
            rw (read, le-ltb (length buffer) 323 room, le-ltb 15 (heading_of m).account (known bytes m consumed read), order, answer, listed xs) refl;
      }

  send-plain : (r : Register) (m : Message) → SendPlain R r m
  unfolding sent_by step_by
  send-plain r m =
      record {
        elsewhere = λ far. rw (lt-ltb 15 (heading_of m).account far) refl;
        out_of_order = λ near order. rw (le-ltb 15 (heading_of m).account near, order) refl;
        refused = λ n near order answer. rw (le-ltb 15 (heading_of m).account near, order, answer) (refl, ap some (own r m n answer));
        taken = λ xs near order answer. rw (le-ltb 15 (heading_of m).account near, order, answer) refl;
      }

  asked-plain : (r : Register) (i n : ℕ) → AskedPlain R r i n
  unfolding asked_by
  asked-plain r i n = record { elsewhere = λ far. rw (lt-ltb 15 i far) refl; asked = λ near. rw (le-ltb 15 i near) refl }

accounts-plain : (before behind : List Account) (a b : Account) → AccountsPlain before behind a b
unfolding fresh_by account_of
accounts-plain before behind a b =
    record {
      at = get_or_at before a behind nowhere (length before) refl;
      standing = get_or_at before a behind nowhere (length before) refl;
      other = rw (set_at before a behind b (length before) refl) refl;
      fresh = refl;
    }

numbers-plain : (rest : List ℕ) (kind t₁ t₂ t₃ t₄ a₁ a₂ : ℕ) → NumbersPlain rest kind t₁ t₂ t₃ t₄ a₁ a₂
unfolding number_at row_of_kind messages
numbers-plain rest kind t₁ t₂ t₃ t₄ a₁ a₂ = record { transaction = omega arith; account = omega arith; by = refl; at = refl }

entries-plain : (most : ℕ) (bytes : List ℕ) (x : Exchange) → EntriesPlain most bytes x
unfolding entries_from
entries-plain most bytes x =
    record {
      none' = refl;
      whole = refl;
      found = λ x whole read. rw read refl;
      ended = λ read. rw read refl;
      refused = λ n. refl;
      taken = λ consumed written. refl;
      written_of_taken = λ consumed written e. rw e refl;
      written_of_refused = λ n e. rw e refl;
    }

strings-plain : (x : Input) (xs : List Input) (y : Exchange) (ys : List Exchange) → StringsPlain x xs y ys
strings-plain x xs y ys =
    record {
      strings = (λ s. s, λ s. s);
      no_strings = tt;
      each = (λ s. s, λ s. s);
      only = λ consumed written e h. rw e at (h (rw e refl));
    }

pub plain-holds : PlainHolds
plain-holds =
    record {
      byte_strings = strings-plain;
      call = call-plain;
      send = send-plain;
      asked = asked-plain;
      accounts = accounts-plain;
      numbers = numbers-plain;
      used = λ a t. record { progress = refl; held = refl; is_in_progress' = refl; is_held' = refl; is_committed' = refl; undecided = refl };
      told = λ s n m k j. record { refused = refl; answered = refl; exported = refl };
      entry' = λ t n k g e. record { accepted = refl; rejected = λ h. rw (ne_eqb k 0 h) refl; held = refl; noted = refl; applied = refl; dropped = refl; back = value-back };
      entries = entries-plain;
    }
