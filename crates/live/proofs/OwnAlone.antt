-- A call on an image, and the outcome question of one, go by the words of the account that is named.
-- Assumes nothing.
use Prim.Native.Nat.{ℕ, ◌+◌, ◌*◌, ◌≤◌, ◌<◌}
use native.Mathlib.Omega.{arith}
use mathlib.Core.Path.{◌≡◌, refl, ap, sym, ◌∙◌}
use mathlib.Core.Bool.{Bool, true, false, cond}
use mathlib.Core.List.{List}
use borrow.Author.Tests.{ltb-true, ltb-false, lt-ltb, le-ltb}
use lib.Dec.{ltb}
use lib.ListN.{length}
use Rattle.rule.specs.Rule as rule
use Rattle.rule.specs.Call as Rule-Call
use Rattle.rule.proofs.InOrder.{call-order}
use Rattle.events.specs.declared.Event.{Event}
use Rattle.events.specs.declared.State.{State}
use Rattle.filing.specs.declared.Entries.{Entries}
use Rattle.filing.specs.declared.Filed.{Filed}
use Rattle.account.specs.declared.Account.{Account}
use Rattle.std.specs.Prelude.{Result, Ok, Err}
use Rattle.refusal.specs.declared.Refusal.{Refusal}
use Rattle.refusal.specs.declared.Refusal.TheVariants.{UnknownAccount, NotInOrder}
use Rattle.account.specs.Places.{lists_of}
use Rattle.account.specs.InOrder.{in_order_by}
use Rattle.account.specs.Steps.{refused_step, stepped_by, step_by, outlook_by}
use Rattle.account.proofs.Kept.{order-lists}
use Rattle.layout.specs.Fields.{last_account}
use Rattle.message.specs.declared.Message.{Message}
use Rattle.message.specs.Bytes.{heading_of}
use Rattle.message.specs.Answers.{read_of}
use Rattle.entry.specs.Answers.{longest_call}
use Rattle.image.specs.Reading.{account_from}
use Rattle.image.specs.Images.{Kept}
use Rattle.image.proofs.Images.{images-hold}
use Rattle.image.proofs.WrittenBack.{ordered-room, too_short}
use Rattle.register.specs.Register.{rule_message, asked_by}
use Rattle.register.specs.Refusals.{account_in}
use Rattle.register.proofs.ReadAs.{account-read}
use Rattle.register.proofs.Suits.{Suits}
use Rattle.live.specs.Registers.{word_at}
use Rattle.live.specs.Live.{Live, live_by, look_by}
use Rattle.live.specs.Helpers.{finished_by}
use Rattle.live.specs.Keeping.{own_words, OwnAlone, Looks}
use Rattle.live.proofs.Standing.{account-of-image}
use Rattle.live.proofs.Finished.{live-unread, live-roomless, live-finished}
use Rattle.live.proofs.Stored.{stored-own}
use Rattle.live.proofs.Keeping.{kept-lists}

-- what is known of two calls gives what is to be said of them
alone : (R : rule.Rule State Event ℕ) (image other bytes buffer : List ℕ) {x y : Live} → live_by R image bytes buffer ≡ x → live_by R other bytes buffer ≡ y
    → x.reply ≡ y.reply → x.buffer ≡ y.buffer → own_words x.image (account_in bytes) ≡ own_words y.image (account_in bytes) → OwnAlone R image other bytes buffer
alone R image other bytes buffer e f p q w = record { reply = rw (e, f) p; buffer' = rw (e, f) q; own = rw (e, f) w }

module _ (R : rule.Rule State Event ℕ) (k : Suits R) where
  -- a step that is taken is one of an account in order, and leaves one that is kept
  pub step-taken : (a : Account) (m : rule.Message Filed Event) (entries : Entries) → (step_by R a m).answer ≡ Ok entries → (in_order_by R a ≡ true) × Kept (step_by R a m).account
  unfolding step_by
  step-taken a m entries = by_order (in_order_by R a) refl
    where
      called : Rule-Call.Called Filed State Event ℕ
      called = Rule-Call.call R (lists_of a) m

      by_answer : in_order_by R a ≡ true → (answer : Rule-Call.Answer Filed Event ℕ) → (stepped_by a called.account answer).answer ≡ Ok entries → Kept (stepped_by a called.account answer).account
      by_answer o (Rule-Call.refused n) h = let z : ◌≡◌ {A = ℕ} 0 1 = cc in absurd (omega arith)
      by_answer o (Rule-Call.taken xs) h = kept-lists R k called.account (call-order R k.ordered (lists_of a) m (order-lists R a o))

      by_order : (b : Bool) → in_order_by R a ≡ b → (cond b (stepped_by a called.account called.answer) (refused_step a NotInOrder)).answer ≡ Ok entries
          → (b ≡ true) × Kept (cond b (stepped_by a called.account called.answer) (refused_step a NotInOrder)).account
      by_order true o h = (refl, by_answer o called.answer h)
      by_order false o h = let z : ◌≡◌ {A = ℕ} 0 1 = cc in absurd (omega arith)

  module _ (image other bytes buffer : List ℕ) (same : own_words image (account_in bytes) ≡ own_words other (account_in bytes)) where
    -- what an account's answer comes to, on the one image and on the other
    module _ (i consumed : ℕ) (number : i ≡ account_in bytes) (a : Account) (here : a ≡ account_from image (word_at i)) (there : a ≡ account_from other (word_at i)) (next : Account) where
      one-reply : (answer : Result Entries Refusal) → (finished_by image buffer i consumed answer next).reply ≡ (finished_by other buffer i consumed answer next).reply
      one-reply (Err refusal) = refl
      one-reply (Ok entries) = refl

      one-buffer : (answer : Result Entries Refusal) → (finished_by image buffer i consumed answer next).buffer ≡ (finished_by other buffer i consumed answer next).buffer
      one-buffer (Err refusal) = refl
      one-buffer (Ok entries) = refl

      one-own : (answer : Result Entries Refusal) → ((entries : Entries) → answer ≡ Ok entries → (in_order_by R a ≡ true) × Kept next)
          → own_words (finished_by image buffer i consumed answer next).image i ≡ own_words (finished_by other buffer i consumed answer next).image i
      one-own (Err refusal) h = rw number same
      one-own (Ok entries) h =
          let taken = h entries refl in
          stored-own image (word_at i) next taken.1 (ordered-room R k.few image (word_at i) (rw here at taken.0))
          ∙ sym (stored-own other (word_at i) next taken.1 (ordered-room R k.few other (word_at i) (rw there at taken.0)))

    by-room : (m : Message) (consumed : ℕ) → read_of bytes ≡ Ok (m, consumed) → (b : Bool) → ltb (length buffer) longest_call ≡ b → OwnAlone R image other bytes buffer
    by-room m consumed e true h =
        let low = ltb-true (length buffer) longest_call h in
        alone R image other bytes buffer (live-roomless R image bytes buffer m consumed e low)
        (live-roomless R other bytes buffer m consumed e low) refl refl same
    by-room m consumed e false h =
        let i = (heading_of m).account in
        let number : i ≡ account_in bytes = account-read bytes m consumed e in
        let a = account_from image (word_at i) in
        let there : a ≡ account_from other (word_at i) = images-hold.own image other (word_at i) (word_at i) (rw number same) in
        let room = ltb-false (length buffer) longest_call h in
        let stepped = step_by R a (rule_message m) in
        let by-step = step-taken a (rule_message m) in
        alone R image other bytes buffer
        (live-finished R image bytes buffer m consumed a (record { read = e; room = room; account = refl }) stepped refl)
        (live-finished R other bytes buffer m consumed a (record { read = e; room = room; account = there }) stepped refl)
        (one-reply i consumed number a refl there stepped.account stepped.answer)
        (one-buffer i consumed number a refl there stepped.account stepped.answer)
        (rw (← number) (one-own i consumed number a refl there stepped.account stepped.answer by-step))

    pub own_alone : OwnAlone R image other bytes buffer
    own_alone = by-reading (read_of bytes) refl
      where
        by-reading : (x : Result (Message × ℕ) Refusal) → read_of bytes ≡ x → OwnAlone R image other bytes buffer
        by-reading (Err refusal) e =
            alone R image other bytes buffer (live-unread R image bytes buffer refusal e) (live-unread R other bytes buffer refusal e) refl refl same
        by-reading (Ok (m, consumed)) e = by-room m consumed e (ltb (length buffer) longest_call) refl

  -- the outcome question
  module _ (i n : ℕ) where
    look_at : (image : List ℕ) → i ≤ last_account → look_by R image i n ≡ outlook_by R (account_from image (word_at i)) n
    unfolding look_by asked_by
    look_at image l = rw (le-ltb last_account i l, account-of-image image i (omega arith)) refl

    look-far : (image : List ℕ) → last_account < i → look_by R image i n ≡ Err UnknownAccount
    unfolding look_by asked_by
    look-far image l = rw (lt-ltb last_account i l) refl

    look-short : (image : List ℕ) → i ≤ 15 → length image < i * 84 + 84 → look_by R image i n ≡ Err NotInOrder
    unfolding outlook_by
    look-short image l low = look_at image l ∙ rw (too_short R k.few image (word_at i) low) refl

    look-own : (image other : List ℕ) → own_words image i ≡ own_words other i → look_by R image i n ≡ look_by R other i n
    look-own image other same = go (ltb last_account i) refl
      where
        go : (b : Bool) → ltb last_account i ≡ b → look_by R image i n ≡ look_by R other i n
        go true h =
            let far = ltb-true last_account i h in
            look-far image far ∙ sym (look-far other far)
        go false h =
            let low = ltb-false last_account i h in
            look_at image low ∙ ap (λ (a : Account). outlook_by R a n) (images-hold.own image other (word_at i) (word_at i) same) ∙ sym (look_at other low)

  pub looks : (image : List ℕ) (account number : ℕ) → Looks R image account number
  looks image i n = record { short = look-short i n image; own = look-own i n image }
