-- A call on an image, and the outcome question (docs/REGISTER.md, 15.6 and 15.7): those of the register that the image is, by any rule of the events.
-- Assumes nothing.
use Rattle.std.specs.Prelude.{ℕ, List, Result, Ok, Err}
use Rattle.rule.specs.Rule.{Rule}
use Rattle.events.specs.declared.Event.{Event}
use Rattle.events.specs.declared.State.{State}
use Rattle.account.specs.declared.Outlook.{Outlook}
use Rattle.refusal.specs.declared.Refusal.{Refusal}
use Rattle.image.specs.Words.{stored_in}
use Rattle.message.specs.declared.Message.{Message}
use Rattle.message.specs.Bytes.{heading_of}
use Rattle.message.specs.Answers.{read_of}
use Rattle.register.specs.declared.Register.{Register}
use Rattle.register.specs.Register.{account_at, asked_by}
use Rattle.register.specs.Call.{Reply, called_by}
use Rattle.live.specs.Registers.{word_at, register_of}

-- what a call gives: the reply, every word of the image, every byte of the buffer
pub record Live : Type 0 where
  pub reply : Reply
  pub image : List ℕ
  pub buffer : List ℕ

-- the account that a message names
abbrev pub named_in : Result (Message × ℕ) Refusal → ℕ
named_in (Err refusal) = 0
named_in (Ok (m, consumed)) = (heading_of m).account

-- the image afterwards: where the message is taken, with the words of the account that follows in the place of the named one's; else as it was
abbrev pub image_after : (image : List ℕ) (account : ℕ) → Reply → Register → List ℕ
image_after image i (Err refusal) next = image
image_after image i (Ok taken) next = stored_in image (word_at i) (account_at next i)

module _ (R : Rule State Event ℕ) where
  unfoldable pub live_by : (image bytes buffer : List ℕ) → Live
  live_by image bytes buffer =
      let called = called_by R (register_of image) bytes buffer in
      record {
        reply = called.reply;
        image = image_after image (named_in (read_of bytes)) called.reply called.register;
        buffer = called.buffer;
      }

  unfoldable pub look_by : (image : List ℕ) (account number : ℕ) → Result Outlook Refusal
  look_by image i n = asked_by R (register_of image) i n
