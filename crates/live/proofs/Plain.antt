-- By the ways out of a call on an image, and by computing.
-- Assumes nothing.
use Prim.Native.Nat.{ℕ, ◌*◌, ◌≤◌}
use native.Mathlib.Omega.{arith}
use mathlib.Core.Path.{◌≡◌, refl, ◌∙◌}
use mathlib.Core.List.{List, ◌++◌}
use borrow.Author.Tests.{lt-ltb, le-ltb}
use lib.ListN.{length}
use lib.Seq.{take_at, drop_at}
use Rattle.rule.specs.Rule.{Rule}
use Rattle.events.specs.declared.Event.{Event}
use Rattle.events.specs.declared.State.{State}
use Rattle.std.specs.Prelude.{Ok, Err}
use Rattle.refusal.specs.declared.Refusal.{Refusal}
use Rattle.account.specs.Steps.{step_by}
use Rattle.layout.specs.Fields.{last_account}
use Rattle.message.specs.declared.Message.{Message}
use Rattle.message.specs.Bytes.{heading_of}
use Rattle.message.specs.Answers.{read_of}
use Rattle.image.specs.Reading.{account_from}
use Rattle.register.specs.Register.{accounts_of_register, rule_message, asked_by}
use Rattle.live.specs.Registers.{word_at, words_of_accounts}
use Rattle.live.specs.Live.{live_by, look_by}
use Rattle.live.specs.Keeping.{own_words}
use Rattle.live.specs.Plain.{RegisterPlain, CallPlain, LookPlain, PlainHolds}
use Rattle.live.proofs.Standing.{length-accounts_from, account-of-image}
use Rattle.live.proofs.Finished.{live-unread, live-roomless, live-finished}

own-words : (i : ℕ) (before words behind : List ℕ) → length before ≡ i * 84 → length words ≡ 84 → own_words (before ++ (words ++ behind)) i ≡ words
own-words i before words behind e f = rw (drop_at before (words ++ behind) (i * 84) e) (take_at words behind 84 f)

registers-plain : RegisterPlain
unfolding words_of_accounts
registers-plain =
    record {
      sixteen = λ words. length-accounts_from accounts_of_register words 0;
      account = account-of-image;
      begins = λ i. refl;
      words = refl;
      none = refl;
      more = λ a accounts. refl;
      kept = λ a accounts. (λ k. k, λ k. k);
      none_kept = tt;
      kept_whole = λ r. (λ k. (k.sixteen, k.each), λ k. record { sixteen = k.0; each = k.1 });
      own = own-words;
    }

module _ (R : Rule State Event ℕ) (image bytes buffer : List ℕ) where
  call-refused : (m : Message) (consumed : ℕ) (r : Refusal) → read_of bytes ≡ Ok (m, consumed) → 323 ≤ length buffer
      → (step_by R (account_from image (word_at (heading_of m).account)) (rule_message m)).answer ≡ Err r
      → live_by R image bytes buffer ≡ record { reply = Err r; image = image; buffer = buffer }
  call-refused m consumed r read room answer =
      let a = account_from image (word_at (heading_of m).account) in
      live-finished R image bytes buffer m consumed a (record { read = read; room = room; account = refl }) (step_by R a (rule_message m)) refl ∙ rw answer refl

  call-plain : CallPlain R image bytes buffer
  unfolding live_by
  call-plain =
      record {
        unread = live-unread R image bytes buffer;
        roomless = live-roomless R image bytes buffer;
        refused = call-refused;
        taken =
            λ m consumed written read room answer.
            let a = account_from image (word_at (heading_of m).account) in
            live-finished R image bytes buffer m consumed a (record { read = read; room = room; account = refl }) (step_by R a (rule_message m)) refl ∙ rw answer refl;
        reply = refl;
        buffer' = refl;
      }

look-plain : (R : Rule State Event ℕ) (image : List ℕ) (i n : ℕ) → LookPlain R image i n
unfolding look_by asked_by
look-plain R image i n =
    record {
      elsewhere = λ l. rw (lt-ltb last_account i l) refl;
      asked = λ l. rw (le-ltb last_account i l, account-of-image image i (omega arith)) refl;
    }

pub plain-holds : PlainHolds
plain-holds =
    record {
      registers = registers-plain;
      call = call-plain;
      look = look-plain;
      calls = λ R image x xs. record { none = refl; none_seen = refl; more = refl; more_seen = refl };
      stored =
          λ image buffer rest r a b c n m.
          record {
            refused = refl;
            refused_one = refl;
            refused_none = refl;
            taken = refl;
            taken_one = refl;
            taken_none = refl;
            unlooked = refl;
            new = refl;
            opened = refl;
            closed = refl;
            opened_two = refl;
            opened_one = refl;
            new_two = refl;
            closed_two = refl;
            new_one = refl;
            closed_one = refl;
            new_none = refl;
            closed_none = refl;
            opened_none = refl;
            line = refl;
            line_one = refl;
            line_none = refl;
            no_line = refl;
            no_line_one = refl;
            no_line_none = refl;
          };
    }
