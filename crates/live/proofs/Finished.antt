-- The ways out of a call on an image: a refusal of the reader or of the room changes nothing; else what the account that is named makes of the message.
-- Assumes nothing.
use Prim.Native.Nat.{ℕ, ◌≤◌, ◌<◌}
use native.Mathlib.Omega.{arith}
use mathlib.Core.Path.{◌≡◌, refl, ap, sym, ◌∙◌}
use mathlib.Core.List.{List}
use borrow.Author.Tests.{lt-ltb, le-ltb}
use lib.ListN.{length, get_or}
use lib.Seq.{get_or-set_same}
use Rattle.std.specs.Prelude.{Result, Ok, Err}
use Rattle.rule.specs.Rule.{Rule, request}
use Rattle.events.specs.declared.Event.{Event}
use Rattle.events.specs.declared.State.{State}
use Rattle.filing.specs.declared.Filed.{Filed}
use Rattle.filing.specs.declared.Entry.{Entry}
use Rattle.filing.specs.declared.Entries.{Entries}
use Rattle.filing.specs.Entries.{only_entry}
use Rattle.refusal.specs.declared.Refusal.{Refusal}
use Rattle.refusal.specs.declared.Refusal.TheVariants.{NoRoom}
use Rattle.account.specs.declared.Account.{Account}
use Rattle.account.specs.Steps.{Stepped, step_by}
use Rattle.account.proofs.Asked.{vote-alone}
use Rattle.layout.specs.Fields.{last_account}
use Rattle.layout.specs.Writes.{wrote_over}
use Rattle.message.specs.declared.Message.{Message}
use Rattle.message.specs.Bytes.{heading_of}
use Rattle.message.specs.Answers.{read_of}
use Rattle.entry.specs.Bytes.{bytes_of_entries, list_of}
use Rattle.entry.specs.Answers.{longest_call, write_of}
use Rattle.image.specs.Reading.{account_from}
use Rattle.register.specs.Register.{accounts_of_register, nowhere, rule_message, sent_as, sent_by}
use Rattle.register.specs.Call.{Reply, Called, refused_with, wrote_of, after_message, called_by}
use Rattle.register.proofs.ReadAs.{read_as, account-read}
use Rattle.register.proofs.Suits.{Suits}
use Rattle.register.proofs.Sending.{step-bytes}
use Rattle.live.specs.Registers.{word_at, register_of}
use Rattle.live.specs.Live.{Live, image_after, live_by}
use Rattle.live.specs.Helpers.{finished_by, finished_of}
use Rattle.live.proofs.Standing.{length-accounts_from, account-of-image}

-- a refusal
abbrev pub refused_live : (image buffer : List ℕ) → Refusal → Live
refused_live image buffer refusal = record { reply = Err refusal; image = image; buffer = buffer }

-- what was sent, on the image: the account that follows is the one whose words are stored
module _ (image buffer : List ℕ) (i consumed : ℕ) (low : i < accounts_of_register) (next : Account) where
  abbrev wrote : Result Entries Refusal → Called
  wrote answer = wrote_of (register_of image) buffer i consumed (sent_as (register_of image) i answer next)

  finished-is : (answer : Result Entries Refusal)
      → ◌≡◌ {A = Live} (record { reply = (wrote answer).reply; image = image_after image i (wrote answer).reply (wrote answer).register; buffer = (wrote answer).buffer })
      (finished_by image buffer i consumed answer next)
  finished-is (Err refusal) = refl
  finished-is (Ok entries) =
      let there : i < length (register_of image).accounts = rw (length-accounts_from accounts_of_register image 0) low in
      rw (get_or-set_same (register_of image).accounts i next nowhere there) refl

-- what is at hand at a way out: the reply, the image and the buffer
abbrev pub Gives : Live → Reply → (image buffer : List ℕ) → Type 0
Gives live reply image buffer = (reply ≡ live.reply) × (image ≡ live.image) × (buffer ≡ live.buffer)

pub gives : {x y : Live} → x ≡ y → (reply : Reply) (image buffer : List ℕ) → Gives y reply image buffer → Gives x reply image buffer
gives e reply image buffer g = rw e g

-- of a request that is taken the vote alone: what comes of it is what comes of its entries
pub vote-finished : (R : Rule State Event ℕ) (a : Account) (t : ℕ) (g : Filed) (e : Event) (past : Entry) (image buffer : List ℕ) (i consumed : ℕ) (stepped : Stepped) (entries : Entries)
    → stepped ≡ step_by R a (request t g e) → stepped.answer ≡ Ok entries
    → finished_of image buffer i consumed stepped ≡ finished_by image buffer i consumed (Ok (only_entry (get_or entries.at 0 past))) stepped.account
vote-finished R a t g e past image buffer i consumed stepped entries s k =
    let one = vote-alone R a t g e past entries (ap (λ (x : Stepped). x.answer) (sym s) ∙ k) in
    ap (λ (answer : Result Entries Refusal). finished_by image buffer i consumed answer stepped.account) (k ∙ ap (λ (es : Entries). Ok es) one)

module _ (R : Rule State Event ℕ) (image bytes buffer : List ℕ) where
  pub live-refused : (refusal : Refusal) → called_by R (register_of image) bytes buffer ≡ refused_with (register_of image) buffer refusal → live_by R image bytes buffer ≡ refused_live image buffer refusal
  unfolding live_by
  live-refused refusal e = rw e refl

  -- the reader's refusal
  pub live-unread : (refusal : Refusal) → read_of bytes ≡ Err refusal → live_by R image bytes buffer ≡ refused_live image buffer refusal
  unfolding called_by
  live-unread refusal e = live-refused refusal (rw e refl)

  -- a message that was read: 4,
  pub live-roomless : (m : Message) (consumed : ℕ) → read_of bytes ≡ Ok (m, consumed) → length buffer < longest_call → live_by R image bytes buffer ≡ refused_live image buffer NoRoom
  unfolding called_by after_message
  live-roomless m consumed e l = live-refused NoRoom (rw (e, lt-ltb (length buffer) longest_call l) refl)

-- or the account that it names is read, and steps
pub record Named (image bytes buffer : List ℕ) (m : Message) (consumed : ℕ) (a : Account) : Type 0 where
  pub read : read_of bytes ≡ Ok (m, consumed)
  pub room : longest_call ≤ length buffer
  pub account : a ≡ account_from image (word_at (heading_of m).account)

module _ (R : Rule State Event ℕ) (image bytes buffer : List ℕ) (m : Message) (consumed : ℕ) (a : Account) (n : Named image bytes buffer m consumed a) where
  abbrev i : ℕ
  i = (heading_of m).account

  named-low : i < accounts_of_register
  named-low = omega (arith, account-read bytes m consumed n.read, (read_as bytes m consumed n.read).account)

  pub live-finished : (stepped : Stepped) → stepped ≡ step_by R a (rule_message m) → live_by R image bytes buffer ≡ finished_of image buffer i consumed stepped
  unfolding live_by called_by after_message sent_by
  live-finished stepped t =
      let known : i ≤ last_account = omega (arith, named-low) in
      rw (n.read, le-ltb (length buffer) longest_call n.room, le-ltb last_account i known, account-of-image image i named-low, ← n.account, ← t)
      (finished-is image buffer i consumed named-low stepped.account stepped.answer)

  -- its entries have room
  pub entries-written : Suits R → (entries : Entries) → (step_by R a (rule_message m)).answer ≡ Ok entries → write_of (list_of entries) i buffer ≡ wrote_over (bytes_of_entries i (list_of entries)) buffer
  unfolding write_of
  entries-written k entries e =
      let fits : length (bytes_of_entries i (list_of entries)) ≤ longest_call = rw e at (step-bytes R k a (rule_message m) i) in
      rw (le-ltb (length buffer) longest_call n.room, le-ltb (length buffer) (length (bytes_of_entries i (list_of entries))) (omega (arith, n.room))) refl
