-- Words that are an account's are the image of what they read as; so what is no image reads as an account that is not in order.
-- Assumes nothing.
use Prim.Native.Nat.{ℕ, zero, suc, ◌+◌, ◌*◌, ◌≤◌, ◌<◌}
use native.Mathlib.Nat.{min-eq_left}
use native.Mathlib.Omega.{arith}
use mathlib.Core.Path.{◌≡◌, refl, ap, ◌∙◌}
use mathlib.Core.Bool.{Bool, true, false, cond, ◌&&◌}
use mathlib.Core.List.{List, [], ◌∷◌}
use borrow.Author.Tests.{eqb-true, leb-true}
use lib.Dec.{leb}
use lib.ListN.{length, get_or, take, drop, length-drop}
use lib.Seq.{take-add, get_or-drop}
use Rattle.rule.specs.Rule.{Rule}
use Rattle.rule.proofs.Lists.{and_left, and_right}
use Rattle.events.specs.declared.Event.{Event}
use Rattle.events.specs.declared.State.{State}
use Rattle.filing.specs.declared.Slot.{Slot}
use Rattle.filing.specs.Slots.{places}
use Rattle.account.specs.declared.Account.{Account}
use Rattle.account.specs.InOrder.{in_order_by}
use Rattle.account.proofs.Clauses.{clauses}
use Rattle.image.specs.Words.{life_word, place_words, words_of_slot, words_of_slots, head_words, row_words, account_words, head_of, words_of}
use Rattle.image.specs.Reading.{life_from, is_life, slot_from, is_slot, slots_from, are_slots, too_many, is_account, fields_from, no_account, account_from}
use Rattle.image.specs.Images.{AreWords, Kept, WrittenBack}
use Rattle.image.proofs.WordsOfFields.{same}

-- ---- a place

slot-written : (words : List ℕ) → place_words ≤ length words → is_slot words ≡ true → take place_words words ≡ words_of_slot (slot_from words)
unfolding words_of_slot slot_from is_slot
slot-written [] h b = absurd (omega arith)
slot-written (t ∷ []) h b = absurd (omega arith)
slot-written (t ∷ g ∷ []) h b = absurd (omega arith)
slot-written (t ∷ g ∷ e ∷ []) h b = absurd (omega arith)
slot-written (t ∷ g ∷ e ∷ a ∷ []) h b = absurd (omega arith)
slot-written (t ∷ g ∷ e ∷ a ∷ d ∷ rest) h b =
    let known = same e a d b in
    rw (known.event, known.amount, known.decision) refl

-- ---- a row

pub slots-written : (n : ℕ) (words : List ℕ) → n * place_words ≤ length words → are_slots n words ≡ true → take (n * place_words) words ≡ words_of_slots (slots_from n words)
unfolding are_slots slots_from words_of_slots
slots-written zero words h b = refl
slots-written (suc n) words h b =
    let size : suc n * place_words ≡ place_words + n * place_words = omega arith in
    let behind : n * place_words ≤ length (drop place_words words) = omega (arith, length-drop place_words words) in
    rw (
      size,
      take-add,
      slot-written words (omega arith) (and_left (is_slot words) (are_slots n (drop place_words words)) b),
      slots-written n (drop place_words words) behind (and_right (is_slot words) (are_slots n (drop place_words words)) b),
    )
    refl

pub length-slots_from : (n : ℕ) (words : List ℕ) → length (slots_from n words) ≡ n
unfolding slots_from
length-slots_from zero words = refl
length-slots_from (suc n) words = ap suc (length-slots_from n (drop place_words words))

-- ---- an account

pub record Parts (words : List ℕ) : Type 0 where
  pub life : is_life (get_or words 0 0) ≡ true
  pub progress : are_slots places (drop head_words words) ≡ true
  pub held : are_slots places (drop (head_words + row_words) words) ≡ true

pub parts : (words : List ℕ) → is_account words ≡ true → Parts words
unfolding is_account
parts words b =
    let life = is_life (get_or words 0 0) in
    let progress = are_slots places (drop head_words words) in
    let held = are_slots places (drop (head_words + row_words) words) in
    let both = and_left (life && progress) held b in
    record { life = and_left life progress both; progress = and_right life progress both; held = and_right (life && progress) held b }

head-written : (words : List ℕ) → account_words ≤ length words → AreWords words → is_account words ≡ true → take head_words words ≡ head_of (fields_from words)
unfolding fields_from
head-written [] h w b = absurd (omega arith)
head-written (l ∷ []) h w b = absurd (omega arith)
head-written (l ∷ s ∷ []) h w b = absurd (omega arith)
head-written (l ∷ s ∷ p ∷ []) h w b = absurd (omega arith)
head-written (l ∷ s ∷ p ∷ q ∷ rest) h w b =
    rw (b, eqb-true (life_word (life_from l)) l (parts (l ∷ s ∷ p ∷ q ∷ rest) b).life, min-eq_left (w 2), min-eq_left (w 3)) refl

-- it has eight places in each row, and its counts are words
kept-fields : (words : List ℕ) → AreWords words → is_account words ≡ true → Kept (fields_from words)
unfolding fields_from
kept-fields words w b =
    record {
      progress = length-slots_from places (drop head_words words);
      held = length-slots_from places (drop (head_words + row_words) words);
      progressing = rw b (w 2);
      holding = w 3;
    }

account-written : (words : List ℕ) → account_words ≤ length words → AreWords words → is_account words ≡ true → take account_words words ≡ words_of (fields_from words)
unfolding words_of fields_from
account-written words h w b =
    let known = parts words b in
    let size : account_words ≡ head_words + row_words + row_words = refl in
    let progress : take row_words (drop head_words words) ≡ words_of_slots (slots_from places (drop head_words words)) =
    slots-written places (drop head_words words) (omega (arith, length-drop head_words words)) known.progress in
    let held : take row_words (drop (head_words + row_words) words) ≡ words_of_slots (slots_from places (drop (head_words + row_words) words)) =
    slots-written places (drop (head_words + row_words) words) (omega (arith, length-drop (head_words + row_words) words)) known.held in
    take-add (head_words + row_words) row_words words
    ∙ rw (take-add head_words row_words words, head-written words h w b, progress, held) refl

-- ---- in order

-- an account with too many in progress is not in order: so there was room, and every word was one of its field's
module _ (R : Rule State Event ℕ) (few : R.progress_limit ≤ places) where
  ordered-few : (a : Account) → in_order_by R a ≡ true → a.progressing ≤ places
  ordered-few a h = omega (arith, few, (clauses R a h).progressing)

  only_if : (room valid : Bool) (s : State) (progress held : List Slot) (progressing holding : ℕ)
      → in_order_by R (cond room (record { state = s; progress = progress; progressing = cond valid progressing too_many; held = held; holding = holding }) no_account) ≡ true
      → (room ≡ true) × (valid ≡ true)
  only_if true true s progress held progressing holding h = (refl, refl)
  only_if true false s progress held progressing holding h =
      absurd (omega (arith, ordered-few (record { state = s; progress = progress; progressing = too_many; held = held; holding = holding }) h))
  only_if false valid s progress held progressing holding h = absurd (omega (arith, ordered-few no_account h))

  module _ (words : List ℕ) (from : ℕ) (h : in_order_by R (account_from words from) ≡ true) where
    pub ordered : (leb (from + account_words) (length words) ≡ true) × (is_account (drop from words) ≡ true)
    unfolding account_from fields_from
    ordered =
        let a = fields_from (drop from words) in
        only_if (leb (from + account_words) (length words)) (is_account (drop from words)) a.state a.progress a.held (get_or (drop from words) 2 0) a.holding h

    pub ordered-room : from + account_words ≤ length words
    ordered-room = leb-true (from + account_words) (length words) ordered.0

    pub read-so : account_from words from ≡ fields_from (drop from words)
    unfolding account_from
    read-so = rw ordered.0 refl

    roomy : account_words ≤ length (drop from words)
    roomy = omega (arith, length-drop from words, ordered-room)

    module _ (w : AreWords words) where
      words-behind : AreWords (drop from words)
      words-behind i = rw get_or-drop (w (from + i))

      is-kept : Kept (account_from words from)
      is-kept = rw read-so (kept-fields (drop from words) words-behind ordered.1)

      is-image : take account_words (drop from words) ≡ words_of (account_from words from)
      is-image = rw read-so (account-written (drop from words) roomy words-behind ordered.1)

  -- an account that has too few words is not in order
  pub too_short : (words : List ℕ) (from : ℕ) → length words < from + account_words → in_order_by R (account_from words from) ≡ false
  too_short words from low = go (in_order_by R (account_from words from)) refl
    where
      go : (b : Bool) → in_order_by R (account_from words from) ≡ b → b ≡ false
      go true h = absurd (omega (arith, ordered-room words from h))
      go false h = refl

  pub written_back : (words : List ℕ) (from : ℕ) → AreWords words → WrittenBack R words from
  written_back words from w =
      record {
        room = ordered-room words from;
        kept = λ h. is-kept words from h w;
        image = λ h. is-image words from h w;
        none = λ other. go (in_order_by R (account_from words from)) refl other;
      }
    where
      go : (b : Bool) → in_order_by R (account_from words from) ≡ b → ((a : Account) → Kept a → take 84 (drop from words) ≡ words_of a → ⊥) → b ≡ false
      go true h other = absurd (other (account_from words from) (is-kept words from h w) (is-image words from h w))
      go false h other = refl
