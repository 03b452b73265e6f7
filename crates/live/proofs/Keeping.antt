-- A register kept as an image: what a call comes to (`Calling`) is stored where it is read, so that the image stays the register's; and a call goes by the words of its account.
-- Assumes nothing.
use Prim.Native.Nat.{ℕ, ◌+◌, ◌*◌, ◌≤◌, ◌<◌}
use native.Mathlib.Nat.{zero-add}
use native.Mathlib.Omega.{arith}
use mathlib.Core.Path.{◌≡◌, refl, ap, sym}
use mathlib.Core.Bool.{true, false}
use mathlib.Core.List.{List, map}
use lib.ListN.{length, take, drop}
use lib.Seq.{get_or-set_same}
use Rattle.rule.specs.Rule as rule
use Rattle.rule.specs.InOrder.{is_in_order}
use Rattle.events.specs.declared.Event.{Event}
use Rattle.events.specs.declared.State.{State}
use Rattle.filing.specs.Entries.{entry_of}
use Rattle.account.specs.declared.Account.{Account}
use Rattle.account.specs.Places.{RuleAccount, account_of}
use Rattle.account.specs.InOrder.{in_order_by}
use Rattle.account.specs.Steps.{refused_step, step_by}
use Rattle.account.proofs.Clauses.{clauses}
use Rattle.account.proofs.Forms as account-forms
use Rattle.account.proofs.Kept.{order-account}
use Rattle.layout.specs.Writes.{laid_over}
use Rattle.std.specs.Prelude.{Ok, Err}
use Rattle.refusal.specs.declared.Refusal.TheVariants.{NotInOrder}
use Rattle.message.specs.declared.Message.{Message}
use Rattle.message.specs.Bytes.{heading_of}
use Rattle.message.specs.Answers.{read_of}
use Rattle.entry.specs.Bytes.{bytes_of_entries}
use Rattle.image.specs.Words.{account_words, stored_in}
use Rattle.image.specs.Reading.{account_from}
use Rattle.image.specs.Images.{Kept}
use Rattle.image.proofs.WrittenBack.{ordered-room, too_short}
use Rattle.register.specs.declared.Register.{Register}
use Rattle.register.specs.Register.{accounts_of_register, nowhere, with_account, rule_message}
use Rattle.register.specs.Call.{Called, called_by}
use Rattle.register.specs.Refusals.{account_in}
use Rattle.register.proofs.ReadAs.{account-read}
use Rattle.register.proofs.Suits.{Suits}
use Rattle.register.proofs.InOrder.{taken-order}
use Rattle.register.proofs.Sending.{taking}
use Rattle.register.proofs.Calling.{taken_as, Takes, Calling, refused, taken, calling}
use Rattle.live.specs.Registers.{word_at, register_of}
use Rattle.live.specs.Live.{Live, live_by}
use Rattle.live.specs.Keeping.{Keeps}
use Rattle.live.proofs.Standing.{length-accounts_from, account-of-image}
use Rattle.live.proofs.Finished.{live-refused, live-finished}
use Rattle.live.proofs.Stored.{stored-before, stored-behind, stored-size, stored_at}

module _ (R : rule.Rule State Event ℕ) (k : Suits R) where
  -- the account of lists that are in order has eight places in each row, and counts that are words
  pub kept-lists : (x : RuleAccount) → is_in_order R x ≡ true → Kept (account_of x)
  kept-lists x h =
      let form = (account-forms.forms-hold).accounts x in
      let within = clauses R (account_of x) (order-account R x h) in
      record {
        progress = form.progress.eight (omega (arith, form.progress.number, within.progressing, k.few));
        held = form.held.eight (omega (arith, form.held.number, within.holding, k.few_held));
        progressing = omega (arith, within.progressing, k.few);
        holding = omega (arith, within.holding, k.few_held);
      }

  module _ (image bytes buffer : List ℕ) where
    abbrev r : Register
    r = register_of image

    -- a message that is taken
    module _ (m : Message) (consumed : ℕ) (t : Takes R r bytes buffer m consumed) where
      abbrev i : ℕ
      i = (heading_of m).account

      abbrev next : Account
      next = account_of (taking R r m).account

      abbrev written : List ℕ
      written = bytes_of_entries i (map entry_of (taking R r m).entries)

      low : i < accounts_of_register
      low = omega (arith, t.free.known)

      next-kept : Kept next
      next-kept = kept-lists (taking R r m).account (taken-order R k r m t.free)

      room : word_at i + account_words ≤ length image
      room = ordered-room R k.few image (word_at i) (rw (account-of-image image i low) at t.free.in_order)

      live-taken : called_by R r bytes buffer ≡ taken_as r buffer i consumed (taking R r m).account (taking R r m).entries
          → live_by R image bytes buffer ≡ record { reply = Ok (record { consumed = consumed; written = length written }); image = stored_in image (word_at i) next; buffer = laid_over written buffer }
      unfolding live_by
      live-taken e =
          let there : i < length r.accounts = rw (length-accounts_from accounts_of_register image 0) low in
          rw (e, t.read, get_or-set_same r.accounts i next nowhere there) refl

      stays : register_of (stored_in image (word_at i) next) ≡ with_account r i next
      stays =
          ap (λ (accounts : List Account). record { accounts = accounts })
          (rw zero-add at (stored_at accounts_of_register image 0 i next next-kept low (rw zero-add room)))

    -- an image too short for the account that is named: that account is not in order
    module _ (m : Message) (consumed : ℕ) (e : read_of bytes ≡ Ok (m, consumed)) (l : 323 ≤ length buffer) (low : length image < account_in bytes * 84 + 84) where
      abbrev named : Account
      named = account_from image (word_at (heading_of m).account)

      unordered : in_order_by R named ≡ false
      unordered = too_short R k.few image (word_at (heading_of m).account) (omega (arith, account-read bytes m consumed e))

      five : step_by R named (rule_message m) ≡ refused_step named NotInOrder
      unfolding step_by
      five = rw unordered refl

      short : (live_by R image bytes buffer).reply ≡ Err NotInOrder
      short =
          ap (λ (live : Live). live.reply)
          (live-finished R image bytes buffer m consumed named (record { read = e; room = l; account = refl }) (refused_step named NotInOrder) (sym five))

    keeps-by : {result : Called} → Calling R r bytes buffer result → called_by R r bytes buffer ≡ result → Keeps R image bytes buffer
    keeps-by (refused n why) e =
        let live = live-refused R image bytes buffer n e in
        let left : (live_by R image bytes buffer).image ≡ image = ap (λ (x : Live). x.image) live in
        record {
          register = rw (left, e) refl;
          size = ap length left;
          refused = λ number h. left;
          before = ap (take (account_in bytes * 84)) left;
          behind = ap (drop (account_in bytes * 84 + 84)) left;
          short = short;
        }
    keeps-by (taken m consumed t) e =
        let live = live-taken m consumed t e in
        let left : (live_by R image bytes buffer).image ≡ stored_in image (word_at (heading_of m).account) (next m consumed t) = ap (λ (x : Live). x.image) live in
        let kept = next-kept m consumed t in
        let there = room m consumed t in
        let number = account-read bytes m consumed t.read in
        let at = word_at (heading_of m).account in
        record {
          register = rw (left, e) (stays m consumed t);
          size = rw left (stored-size image at (next m consumed t) kept there);
          refused = λ n h. let z : ◌≡◌ {A = ℕ} 0 1 = cc in absurd (omega arith);
          before = rw (left, ← number) (stored-before image at (next m consumed t) kept there);
          behind = rw (left, ← number) (stored-behind image at (next m consumed t) kept there);
          short = short;
        }

    pub keeps : Keeps R image bytes buffer
    keeps = keeps-by (calling R r bytes buffer) refl
