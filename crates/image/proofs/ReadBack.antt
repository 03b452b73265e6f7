-- An image reads back as its account, whatever stands behind it: place by place, and then the account.
-- Assumes nothing.
use Prim.Native.Nat.{ℕ, ◌+◌, ◌*◌, ◌≤◌}
use native.Mathlib.Nat.{min-eq_left}
use native.Mathlib.Omega.{arith}
use mathlib.Core.Path.{◌≡◌, refl, ap, sym, ◌∙◌}
use mathlib.Core.Bool.{true}
use mathlib.Core.List.{List, [], ◌∷◌, ◌++◌, append_assoc}
use borrow.Author.Tests.{eq-eqb, le-leb}
use lib.Dec.{eqb}
use lib.ListN.{length, get_or, drop, length-append}
use lib.Seq.{drop_at, drop-append_seam}
use Rattle.events.specs.Kinds.{amount_of}
use Rattle.filing.specs.declared.Slot.{Slot}
use Rattle.filing.specs.Slots.{places}
use Rattle.account.specs.declared.Account.{Account}
use Rattle.image.specs.Words.{life_word, event_word, decision_word, place_words, words_of_slot, words_of_slots, head_words, row_words, account_words, head_of, words_of}
use Rattle.image.specs.Reading.{slot_from, is_slot, slots_from, are_slots, is_account, fields_from, account_from}
use Rattle.image.specs.Images.{Kept, ReadsBack, OneAccount}
use Rattle.image.proofs.WordsOfFields.{life-back, decision-back, event-back}
use Rattle.image.proofs.Rows.{length-slot, length-slots}

-- ---- a place

module _ (x : Slot) (after : List ℕ) where
  slot-back : slot_from (words_of_slot x ++ after) ≡ x
  unfolding words_of_slot slot_from
  slot-back = rw (event-back x.event, decision-back x.decision) refl

  is-slot-back : is_slot (words_of_slot x ++ after) ≡ true
  unfolding words_of_slot is_slot
  is-slot-back =
      rw (
        event-back x.event,
        decision-back x.decision,
        eq-eqb (event_word x.event) (event_word x.event) refl,
        eq-eqb (amount_of x.event) (amount_of x.event) refl,
        eq-eqb (decision_word x.decision) (decision_word x.decision) refl,
      )
      refl

-- ---- a row

slots-back : (xs : List Slot) (after : List ℕ) → slots_from (length xs) (words_of_slots xs ++ after) ≡ xs
unfolding words_of_slots slots_from
slots-back [] after = refl
slots-back (x ∷ xs) after =
    rw (append_assoc (words_of_slot x) (words_of_slots xs) after, slot-back x (words_of_slots xs ++ after), drop_at (words_of_slot x) (words_of_slots xs ++ after) place_words (length-slot x), slots-back xs after)
    refl

are-slots-back : (xs : List Slot) (after : List ℕ) → are_slots (length xs) (words_of_slots xs ++ after) ≡ true
unfolding words_of_slots are_slots
are-slots-back [] after = refl
are-slots-back (x ∷ xs) after =
    rw (append_assoc (words_of_slot x) (words_of_slots xs) after, is-slot-back x (words_of_slots xs ++ after), drop_at (words_of_slot x) (words_of_slots xs ++ after) place_words (length-slot x), are-slots-back xs after)
    refl

-- ---- an account

pub length-of-rows : (a : Account) → length a.progress ≡ places → length a.held ≡ places → length (words_of a) ≡ account_words
unfolding words_of
length-of-rows a p h =
    omega (arith, length-append (head_of a ++ words_of_slots a.progress) (words_of_slots a.held), length-append (head_of a) (words_of_slots a.progress), length-slots a.progress, length-slots a.held, p, h)

module _ (a : Account) (k : Kept a) where
  row_words_lem : length (words_of_slots a.progress) ≡ row_words
  row_words_lem = length-slots a.progress ∙ ap (λ (n : ℕ). n * place_words) k.progress

  length-words : length (words_of a) ≡ account_words
  length-words = length-of-rows a k.progress k.held

  module _ (after : List ℕ) where
    progress-part : drop head_words (words_of a ++ after) ≡ words_of_slots a.progress ++ (words_of_slots a.held ++ after)
    unfolding words_of
    progress-part = append_assoc (words_of_slots a.progress) (words_of_slots a.held) after

    held-part : drop (head_words + row_words) (words_of a ++ after) ≡ words_of_slots a.held ++ after
    unfolding words_of
    held-part =
        rw (append_assoc (head_of a ++ words_of_slots a.progress) (words_of_slots a.held) after)
        (drop_at (head_of a ++ words_of_slots a.progress) (words_of_slots a.held ++ after) (head_words + row_words) (length-append (head_of a) (words_of_slots a.progress) ∙ ap (◌+◌ head_words) row_words_lem))

    -- the four words before the places
    life-part : get_or (words_of a ++ after) 0 0 ≡ life_word a.state.life
    unfolding words_of
    life-part = refl

    balance-part : get_or (words_of a ++ after) 1 0 ≡ a.state.balance
    unfolding words_of
    balance-part = refl

    progressing-part : get_or (words_of a ++ after) 2 0 ≡ a.progressing
    unfolding words_of
    progressing-part = min-eq_left k.progressing

    holding-part : get_or (words_of a ++ after) 3 0 ≡ a.holding
    unfolding words_of
    holding-part = min-eq_left k.holding

    -- the rows
    progress-back : slots_from places (drop head_words (words_of a ++ after)) ≡ a.progress
    progress-back = rw (progress-part, ← k.progress) (slots-back a.progress (words_of_slots a.held ++ after))

    held_back : slots_from places (drop (head_words + row_words) (words_of a ++ after)) ≡ a.held
    held_back = rw (held-part, ← k.held) (slots-back a.held after)

    is-account-back : is_account (words_of a ++ after) ≡ true
    unfolding is_account
    is-account-back =
        let life : eqb (life_word a.state.life) (life_word a.state.life) ≡ true = eq-eqb (life_word a.state.life) (life_word a.state.life) refl in
        let progress : are_slots places (words_of_slots a.progress ++ (words_of_slots a.held ++ after)) ≡ true =
        rw (← k.progress) (are-slots-back a.progress (words_of_slots a.held ++ after)) in
        let held : are_slots places (words_of_slots a.held ++ after) ≡ true = rw (← k.held) (are-slots-back a.held after) in
        rw (life-part, life-back a.state.life, life, progress-part, progress, held-part, held) refl

    fields_back : fields_from (words_of a ++ after) ≡ a
    unfolding fields_from
    fields_back =
        rw (is-account-back, life-part, life-back a.state.life, balance-part, progress-back, progressing-part, held_back, holding-part) refl

  pub account-back : (before after : List ℕ) → account_from (before ++ words_of a ++ after) (length before) ≡ a
  unfolding account_from
  account-back before after =
      let whole : before ++ words_of a ++ after ≡ before ++ (words_of a ++ after) = append_assoc before (words_of a) after in
      let room : length before + account_words ≤ length (before ++ (words_of a ++ after)) =
      omega (arith, length-append before (words_of a ++ after), length-append (words_of a) after, length-words) in
      rw (whole, le-leb (length before + account_words) (length (before ++ (words_of a ++ after))) room, drop-append_seam before (words_of a ++ after)) (fields_back after)

pub reads-back : (a : Account) → Kept a → ReadsBack a
reads-back a k = record { size = length-words a k; back = account-back a k }

pub one-account : OneAccount
one-account a b k m e =
    sym (account-back a k [] []) ∙ ap (λ (words : List ℕ). account_from ([] ++ words ++ []) 0) e ∙ account-back b m [] []
