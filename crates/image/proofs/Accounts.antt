-- An account in words: where each field stands behind the account's beginning, and its words stored one after the other.
-- Assumes nothing.
use Prim.Native.Nat.{ℕ, ◌+◌, ◌-◌, ◌*◌, ◌≤◌, min}
use native.Mathlib.Nat.{add_assoc}
use native.Mathlib.Omega.{arith}
use mathlib.Core.Path.{◌≡◌, refl, ap, ◌∙◌}
use mathlib.Core.Bool.{Bool, cond, ◌&&◌}
use mathlib.Core.List.{List, ◌++◌}
use borrow.Author.Tests.{le-leb}
use lib.Dec.{eqb}
use lib.ListN.{length, get_or, take, drop, length-append}
use Rattle.std.proofs.lemmas.List.{length-take, length-drop, take_min}
use lib.Seq.{sets, length-sets, take_all}
use Rattle.layout.proofs.Stores.{sets_more}
use Rattle.events.specs.declared.Life.{Life}
use Rattle.filing.specs.declared.Slot.{Slot}
use Rattle.filing.specs.Slots.{places}
use Rattle.account.specs.declared.Account.{Account}
use Rattle.image.specs.Words.{life_word, place_words, words_of_slots, head_words, row_words, account_words, head_of, words_of, stored_in, stored_to}
use Rattle.image.specs.Reading.{life_from, slots_from, are_slots, too_many, is_account, fields_from, account_from}
use borrow.Rule.Slice.PartMut.{put_mid, mid_of}
use Rattle.image.proofs.Rows.{length-slots, part-stored, rest-begun}

-- words from a place to the end
rest : (l : List ℕ) (k : ℕ) → take (length l - k) (drop k l) ≡ drop k l
rest l k = take_all (length l - k) (drop k l) (omega (arith, length-drop k l))

-- the fields as they are read: the life, the rows with what is known of them, and the counts
module _ (words : List ℕ) (from : ℕ) (room : from + account_words ≤ length words) where
  abbrev own : List ℕ
  own = take (length words - from) (drop from words)

  abbrev row : ℕ → List ℕ
  row at = take (length own - at) (drop at own)

  pub account-read : (life : Life) (word : ℕ) (first second : Bool) (progress held : List Slot) (progressing : ℕ)
      → life ≡ life_from (get_or own 0 0) → word ≡ life_word life
      → (progress ≡ slots_from places (row head_words)) × (first ≡ are_slots places (row head_words))
      → (held ≡ slots_from places (row (head_words + row_words))) × (second ≡ are_slots places (row (head_words + row_words)))
      → progressing ≡ cond (eqb word (get_or own 0 0) && first && second) (get_or own 2 0) too_many
      → record { state = record { life = life; balance = get_or own 1 0 }; progress = progress; progressing = progressing; held = held; holding = get_or own 3 0 } ≡ account_from words from
  unfolding account_from fields_from is_account
  account-read life word first second progress held progressing l w p h n =
      rw (le-leb (from + account_words) (length words) room, n, w, p.0, p.1, h.0, h.1, l, rest own head_words, rest own (head_words + row_words), rest words from) refl

-- the words before the places, then so many of each row, one after the other
module _ (a : Account) (n m : ℕ) (l p₁ p₂ p₃ : List ℕ) (from : ℕ) (p : length a.progress ≡ places) (q : length a.held ≡ places) (room : from + account_words ≤ length l) where
  abbrev at : ℕ
  at = from + head_words

  abbrev l₁ : List ℕ
  l₁ = put_mid from (at - from) l p₁

  abbrev l₂ : List ℕ
  l₂ = put_mid at (length l₁ - at) l₁ p₂

  abbrev l₃ : List ℕ
  l₃ = put_mid (at + row_words) (length l₂ - (at + row_words)) l₂ p₃

  part-size : (k : ℕ) (row : List Slot) → length row ≡ places → length (words_of_slots (take k row)) ≤ row_words
  part-size k row e = omega (arith, length-slots (take k row), length-take k row)

  pub account-stored : p₁ ≡ head_of a → p₂ ≡ sets (mid_of at (length l₁ - at) l₁) 0 (words_of_slots (take (min n places) a.progress))
      → p₃ ≡ sets (mid_of (at + row_words) (length l₂ - (at + row_words)) l₂) 0 (words_of_slots (take (min m places) a.held)) → l₃ ≡ stored_to l from a n m
  unfolding stored_to
  account-stored e₁ e₂ e₃ =
      let first = take (min n places) a.progress in
      let second = take (min m places) a.held in
      let head : l₁ ≡ sets l from (head_of a) = part-stored from (at - from) l p₁ (omega (arith, ap length e₁)) (omega arith) ∙ ap (sets l from) e₁ in
      let size = length-sets l from (head_of a) in
      let progress = rest-begun at l₁ (sets l from (head_of a)) (words_of_slots first) p₂ head (omega (arith, size, part-size (min n places) a.progress p)) e₂ in
      let size_more = length-sets (sets l from (head_of a)) at (words_of_slots first) in
      let held = rest-begun (at + row_words) l₂ (sets (sets l from (head_of a)) at (words_of_slots first)) (words_of_slots second) p₃ progress (omega (arith, size, size_more, part-size (min m places) a.held q)) e₃ in
      rw (le-leb (from + account_words) (length l) room, ← rw p at (take_min n a.progress), ← rw q at (take_min m a.held)) held

-- all of each row is all of the account
module _ (a : Account) (l : List ℕ) (from : ℕ) (p : length a.progress ≡ places) where
  pub rows-stored : sets (sets (sets l from (head_of a)) (from + head_words) (words_of_slots a.progress)) (from + head_words + row_words) (words_of_slots a.held) ≡ sets l from (words_of a)
  unfolding words_of
  rows-stored =
      let head = sets l from (head_of a) in
      let progress = sets head (from + head_words) (words_of_slots a.progress) in
      let row : length (words_of_slots a.progress) ≡ row_words = length-slots a.progress ∙ ap (λ (n : ℕ). n * place_words) p in
      let front : length (head_of a ++ words_of_slots a.progress) ≡ head_words + row_words = length-append (head_of a) (words_of_slots a.progress) ∙ ap (◌+◌ head_words) row in
      sets_more (head_of a ++ words_of_slots a.progress) (words_of_slots a.held) l progress _ from (head_words + row_words) front
      (sets_more (head_of a) (words_of_slots a.progress) l head progress from head_words refl refl refl)
      (rw add_assoc refl)

  pub all-stored : length a.held ≡ places → stored_to l from a places places ≡ stored_in l from a
  unfolding stored_to stored_in
  all-stored q = rw (take_all places a.progress (omega arith), take_all places a.held (omega arith), rows-stored) refl
